use Rattle.std.proofs.Common.{arith, ap, sym, ◌∙◌, None, Some, [], ◌∷◌, length-append, append-nil}
use Rattle.ingest_desk.specs.IdTable.{number_at}
use Rattle.ingest_desk.specs.declared.clashing.Clashing.{Clashing}
use Rattle.ingest_desk.proofs.IdLemmas.{clashes_more}
use Rattle.ingest_desk.proofs.ids.Ids.clashes.Goals as goal
use Rattle.ingest_desk.proofs.ids.Ids.clashes.Goals.{in-Some, in_default}

pub loop-game-preserved : goal.loop-game-preserved
loop-game-preserved c =
    let l = c.loop-game in
    let ids = number_at c.args.self.now in
    elim c.match-find.branch [
      | in-Some w ↦
          let more = ap (λ p. p.items) w.pairs-is ∙ w.push.ensures.items in
          let pair : Clashing = record { place = l.place; number = w.in-Some.number } in
          record {
            place = omega (arith, l.invariant.place);
            few = rw more (omega (arith, length-append l.pairs.items (pair ∷ []), l.invariant.few));
            found = clashes_more ids c.args.classes.now l.game-index l.place c.game-item.result l.pairs.items
                c.match-find.pairs.items (Some w.in-Some.number)
                c.loop-game-test.true c.game-item.is (sym w.in-Some.is ∙ c.find.ensures) l.invariant.place more
                l.invariant.found;
          }
      | in_default w ↦
          let same = ap (λ p. p.items) w.pairs-is in
          record {
            place = omega (arith, l.invariant.place);
            few = rw same (omega (arith, l.invariant.few));
            found = clashes_more ids c.args.classes.now l.game-index l.place c.game-item.result l.pairs.items
                c.match-find.pairs.items None
                c.loop-game-test.true c.game-item.is (sym w.in_default.is ∙ c.find.ensures) l.invariant.place
                (same ∙ sym (append-nil l.pairs.items)) l.invariant.found;
          }
    ]
