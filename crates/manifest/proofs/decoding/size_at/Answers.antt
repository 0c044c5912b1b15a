use Rattle.explorer_model.specs.Cuts.{text_limit}
use Rattle.manifest.proofs.ReadingLemmas.{short-4, off-4, found-4}
use Rattle.manifest.proofs.decoding.size_at.Goals as goal

pub returns-then-bytes-lt4 : goal.returns-then-bytes-lt4
returns-then-bytes-lt4 c = short-4 text_limit c.args.bytes.now c.if-bytes-lt4.true

pub returns-then-not-is_allowed : goal.returns-then-not-is_allowed
returns-then-not-is_allowed c =
    off-4 text_limit c.args.bytes.now c.read_u32-size.result c.split_at.result.0.now c.if-bytes-lt4.false c.split_at.ensures.front
    c.read_u32-size.ensures c.is_allowed.result c.if-not-is_allowed.true c.is_allowed.ensures

pub returns : goal.returns
returns c =
    found-4 text_limit c.args.bytes.now c.read_u32-size.result c.split_at.result.0.now c.if-bytes-lt4.false c.split_at.ensures.front
    c.read_u32-size.ensures c.is_allowed.result c.split_at.result.1.now c.if-not-is_allowed.false c.is_allowed.ensures c.split_at.ensures.back
