use Rattle.std.proofs.Common.{◌+◌, arith, refl, sym}
use Rattle.std.proofs.lemmas.Option.{get_or_from_slice_get, slice_get_within}
use Rattle.ingest_desk.specs.IdTable.{number_at}
use Rattle.ingest_desk.proofs.IdLemmas.{numbers_more, still_absent}
use Rattle.ingest_desk.proofs.ids.Ids.add_all.Goals as goal

pub add-requires-clause-new : goal.add-requires-clause-new
add-requires-clause-new c =
    let l = c.loop-n in
    let all = c.args.segment.now.classes in
    let game = c.classes.result.now in
    still_absent (number_at c.args.self.now) (number_at l.self) all c.args.first l.n game
    (slice_get_within all l.n game c.classes.ensures)
    (sym (get_or_from_slice_get all l.n game game c.classes.ensures))
    c.requires.different c.requires.new l.invariant.added

pub loop-n-preserved : goal.loop-n-preserved
loop-n-preserved c =
    let l = c.loop-n in
    let all = c.args.segment.now.classes in
    let game = c.classes.result.now in
    record {
      room = omega (arith, l.invariant.room, c.add.ensures.room);
      added = numbers_more (number_at c.args.self.now) (number_at l.self)
          (number_at c.add.new.self) all c.args.first (c.args.first + l.n) l.n game
          (slice_get_within all l.n game c.classes.ensures)
          (sym (get_or_from_slice_get all l.n game game c.classes.ensures)) refl
          l.invariant.added c.add.ensures.added;
    }
