use Rattle.std.proofs.Common.{◌≡◌, ◌≤◌, ◌+◌, arith, length, length-take}
use Rattle.explorer.specs.Book.{openings_limit}
use Rattle.explorer.proofs.BookLemmas.{longer_by, read_lacking, read_past}
use Rattle.explorer.proofs.openings.read_bytes.Goals as goal

pub returns-in_default-extend_from_slice : goal.returns-in_default-extend_from_slice
returns-in_default-extend_from_slice g c =
    read_lacking c.reading.bytes.items (g.S.Source.source c.args.source.now) (g.S.Source.source c.reading.source) (g.S.Source.source c.read.new.self)
    c.reading.invariant.reads c.reading.invariant.came c.in-Ok.count _ c.in-Ok.ensures.gives

pub returns-then-len-gt-LIMIT : goal.returns-then-len-gt-LIMIT
returns-then-len-gt-LIMIT g c =
    let few : length c.extend_from_slice.new.self.items ≤ openings_limit + 1 =
    omega (
      arith,
      longer_by c.reading.bytes.items (g.S.Source.source c.args.source.now) (g.S.Source.source c.reading.source) (g.S.Source.source c.read.new.self) c.reading.invariant.reads c.reading.invariant.came c.in-Ok.count _ _ c.in-Ok.ensures.gives c.in-Ok-extend_from_slice.ensures.items,
      c.in-Ok.ensures.gives.within,
      c.read.auto.into,
      length-take c.room_behind.result c.reading.buffer,
      c.room_behind.ensures.within,
      c.len.ensures,
      c.reading.bytes.ok.0,
    ) in
    let many : length c.extend_from_slice.new.self.items ≡ openings_limit + 1 = omega (arith, few, c.if-len-gt-LIMIT.true, c.len-in-reading.ensures, c.extend_from_slice.new.self.ok.0) in
    read_past c.reading.bytes.items (g.S.Source.source c.args.source.now) (g.S.Source.source c.reading.source) (g.S.Source.source c.read.new.self)
    c.reading.invariant.reads c.reading.invariant.came c.in-Ok.count _ _ c.in-Ok.ensures.gives c.in-Ok-extend_from_slice.ensures.items many
