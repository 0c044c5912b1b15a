use Rattle.explorer_model.specs.Imports.{group_limit}
use Rattle.manifest.proofs.ReadingLemmas.{short-2, off-2, found-2}
use Rattle.manifest.proofs.decoding.count_at.Goals as goal

pub returns-then-bytes-lt2 : goal.returns-then-bytes-lt2
returns-then-bytes-lt2 c = short-2 group_limit c.args.bytes.now c.if-bytes-lt2.true

pub returns-then-not-is_allowed : goal.returns-then-not-is_allowed
returns-then-not-is_allowed c =
    off-2 group_limit c.args.bytes.now c.read_u16-count.result c.split_at.result.0.now c.if-bytes-lt2.false c.split_at.ensures.front
    c.read_u16-count.ensures c.is_allowed.result c.if-not-is_allowed.true c.is_allowed.ensures

pub returns : goal.returns
returns c =
    found-2 group_limit c.args.bytes.now c.read_u16-count.result c.split_at.result.0.now c.if-bytes-lt2.false c.split_at.ensures.front
    c.read_u16-count.ensures c.is_allowed.result c.split_at.result.1.now c.if-not-is_allowed.false c.is_allowed.ensures c.split_at.ensures.back
