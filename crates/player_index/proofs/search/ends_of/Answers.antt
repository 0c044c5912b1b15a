use Rattle.std.proofs.Common.{◌≡◌, ℕ, ◌<◌, ◌≤◌, true, false, List, length, map, get_or, sym, ap, ◌∙◌}
use Rattle.std.specs.Arc.{arc_value}
use Rattle.explorer_model.specs.declared.archive.Classes.{Classes}
use Rattle.player_index.specs.declared.entry.Entry.{Entry}
use Rattle.player_index.specs.Entries.{is_below, seat_by}
use Rattle.row_sums.specs.Listing.{classes_in}
use Rattle.player_index.proofs.RangeLemmas.{is-range, range-in_order}
use Rattle.player_index.proofs.search.ends_of.Goals as goal

pub count_below-from-requires : goal.count_below-from-requires
count_below-from-requires g c = range-in_order (classes_in (map arc_value c.args.segments.now)) c.args.entries.now c.requires.entries

pub count_below-to-requires : goal.count_below-to-requires
count_below-to-requires g c = range-in_order (classes_in (map arc_value c.args.segments.now)) c.args.entries.now c.requires.entries

pub returns-clause-range : goal.returns-clause-range
returns-clause-range g c =
    let classes : List Classes = classes_in (map arc_value c.args.segments.now) in
    let entries = c.args.entries.now in
    let player = c.args.end.now.name.now in
    let color = c.args.end.now.color in
    let to = c.count_below-to.result in
    let number : c.args.end.now.number ≡ length classes = c.requires.end in
    let below : (k : ℕ) (d : Entry) → k < to → is_below classes (seat_by player color, length classes) (get_or entries k d) ≡ true = λ k d less.
    ap (λ n. is_below classes (seat_by player color, n) (get_or entries k d)) (sym number) ∙ c.count_below-to.ensures.below k d less in
    let above : (k : ℕ) (d : Entry) → to ≤ k → k < length entries → is_below classes (seat_by player color, length classes) (get_or entries k d) ≡ false = λ k d le within.
    ap (λ n. is_below classes (seat_by player color, n) (get_or entries k d)) (sym number) ∙ c.count_below-to.ensures.above k d le within in
    is-range classes entries c.requires.entries player color c.count_below-from.result to
    c.count_below-from.ensures.within c.count_below-to.ensures.within c.count_below-from.ensures.below c.count_below-from.ensures.above below above
