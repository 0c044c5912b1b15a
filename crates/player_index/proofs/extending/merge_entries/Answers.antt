use Rattle.std.proofs.Common.{◌≡◌, ℕ, ◌+◌, ◌-◌, ◌<◌, ◌≤◌, List, [], ◌∷◌, ◌++◌, length, take, drop, get_or, map, true, false, sym, ap, subst, ◌∙◌, arith}
use Rattle.std.specs.Arc.{arc_value}
use Rattle.std.proofs.lemmas.List.{drop_all, get_or_default, take_rest}
use Rattle.explorer_model.specs.declared.archive.Classes.{Classes}
use Rattle.best_lists.proofs.Ranked.{InOrder, puts}
use Rattle.explorer_model.specs.declared.chess.Color.TheVariants.{White}
use Rattle.player_index.specs.declared.entry.Entry.{Entry}
use Rattle.player_index.specs.Entries.{before, is_below, place_of, seat_by}
use Rattle.row_sums.specs.Listing.{classes_in}
use Rattle.player_index.proofs.Merging.{InOrder-drop, Merging, merging-next}
use Rattle.player_index.proofs.Orders.{entry-order}
use Rattle.player_index.proofs.extending.merge_entries.Goals as goal

pub count_below-run-requires : goal.count_below-run-requires
count_below-run-requires g c =
    let classes : List Classes = classes_in (map arc_value c.args.segments.now) in
    let entries = c.args.entries.now in
    let at = c.loop-entry.at in
    subst (InOrder (before classes)) (sym (take_rest entries at)) (InOrder-drop (before classes) at entries c.requires.entries)

pub loop-entry-preserved : goal.loop-entry-preserved
loop-entry-preserved g c =
    let classes : List Classes = classes_in (map arc_value c.args.segments.now) in
    let old = c.args.entries.now in
    let more = c.args.more.now in
    let i = c.loop-entry.entry-index in
    let at = c.loop-entry.at in
    let run = c.count_below-run.result in
    let z : Entry = record { number = 0; color = White } in
    let x : Entry = get_or more i z in
    let left = drop at old in
    let rest : take (length old - at) left ≡ left = take_rest old at in
    let q : (List ℕ × ℕ) × ℕ = (seat_by c.place_of-place.result.name.now c.place_of-place.result.color, c.place_of-place.result.number) in
    let placed : q ≡ place_of classes x = (λ k. (c.place_of-place.ensures.name k, c.place_of-place.ensures.number k)) in
    let fits : run ≤ length left = omega (arith, c.count_below-run.ensures.within, ap length rest) in
    let below : (k : ℕ) (d : Entry) → k < run → before classes (get_or left k d) x ≡ true = λ k d less.
    sym (ap (λ p. is_below classes p (get_or left k d)) placed) ∙ ap (λ l. is_below classes q (get_or l k d)) (sym rest)
    ∙ c.count_below-run.ensures.below k d less in
    let above : (k : ℕ) (d : Entry) → run ≤ k → k < length left → before classes (get_or left k d) x ≡ false = λ k d le within.
    sym (ap (λ p. is_below classes p (get_or left k d)) placed) ∙ ap (λ l. is_below classes q (get_or l k d)) (sym rest)
    ∙ c.count_below-run.ensures.above k d le (omega (arith, within, ap length rest)) in
    let next = merging-next (entry-order classes) old more c.loop-entry.all.items i at run x c.loop-entry.invariant c.loop-entry-test.true
    (get_or_default more i z x c.loop-entry-test.true) c.requires.more fits below above in
    let count : at + run - at ≡ run = omega arith in
    let made : c.push.new.self.items ≡ (c.loop-entry.all.items ++ take run left) ++ x ∷ [] =
    c.in_ok-push.ensures.items ∙ ap (λ l. l ++ x ∷ []) (c.in_ok-extend_from_slice.ensures.items ∙ ap (λ n. c.loop-entry.all.items ++ take n left) count) in
    subst (λ done. Merging (entry-order classes) old more done (i + 1) (at + run)) (sym made) next

pub returns : goal.returns
unfolding puts
returns g c =
    let classes : List Classes = classes_in (map arc_value c.args.segments.now) in
    let old = c.args.entries.now in
    let more = c.args.more.now in
    let i = c.loop-entry.entry-index in
    let at = c.loop-entry.at in
    let done = c.loop-entry.all.items in
    let none : drop i more ≡ [] = drop_all i more (omega (arith, c.loop-entry-test.false)) in
    c.in_ok-extend_from_slice-2.ensures.items
    ∙ ap (λ l. done ++ l) (take_rest old at)
    ∙ sym (ap (λ l. done ++ puts (before classes) l (drop at old)) none)
    ∙ c.loop-entry.invariant.whole
