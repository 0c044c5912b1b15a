use Rattle.std.proofs.Common.{◌≡◌, ℕ, ◌+◌, ◌<◌, List, [], ◌∷◌, length, take, sym, ap, subst, arith}
use Rattle.std.specs.List.{All}
use Rattle.std.proofs.lemmas.List.{length-append}
use Rattle.tally_rows.specs.declared.single.Single.{Single}
use Rattle.tally_rows.specs.declared.sort_entry.SortEntry.{SortEntry}
use Rattle.tally_rows.specs.SortEntry.{picked, IsEntryIn}
use Rattle.tally_rows.proofs.Entries.{all_more, told_more}
use Rattle.tally_rows.proofs.rows.entries_of.Goals as goal

pub loop-single-preserved : goal.loop-single-preserved
loop-single-preserved c =
    let i : ℕ = c.loop-single.single-index in
    let singles : List Single = c.args.singles.now in
    let entries : List SortEntry = c.loop-single.entries.items in
    let s = c.single-item.result in
    let e = c.of.result in
    let so_far = c.loop-single.invariant in
    let items = c.in_ok-push.ensures.items in
    let below : i < length singles = omega (arith, c.loop-single-test.true) in
    let place : e.at ≡ i = omega (arith, c.of.ensures.place, c.len-at.ensures, so_far.long) in
    record {
      within = omega arith;
      long = omega (arith, ap length items, length-append entries (e ∷ []), so_far.long);
      all = subst (λ (l : List SortEntry). (other : Single) → picked singles l other ≡ take (i + 1) singles) (sym items)
          (all_more singles entries i s e below c.single-item.is place so_far.all);
      told = subst (λ (l : List SortEntry). (other : Single) → All (IsEntryIn singles other) l) (sym items)
          (told_more singles entries i s e below c.single-item.is place c.of.ensures.parts so_far.told);
    }
