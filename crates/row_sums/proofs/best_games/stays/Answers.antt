use Rattle.std.proofs.Common.{◌≡◌, ◌<◌, ◌==◌, length, get_or, false, sym, ap, ◌∙◌, arith}
use Rattle.std.proofs.lemmas.Bool.Decides.{nat_tests}
use Rattle.std.proofs.lemmas.Bool.{not-true}
use Rattle.best_lists.specs.Entry.{moved_by}
use Rattle.best_lists.specs.declared.entry.Entry.{Entry}
use Rattle.row_sums.proofs.KeptLists.{list-stays}
use Rattle.row_sums.proofs.best_games.stays.Goals as goal

pub returns : goal.returns
returns g c = λ holds.
    let before = g.O.Ranking.before in
    let by = c.args.first in
    let z : Entry = record { rank = 0; number = 0 } in
    let own = c.args.list.now in
    let others = c.args.of_row.now in
    let is_own : c.entries-own.result.now ≡ own = c.entries-own.ensures.entries in
    let is_others : c.entries-others.result.now ≡ others = c.entries-others.ensures.entries in
    let long : length own ≡ 4 = omega (arith, c.if-own-lt4.false, c.entries-own.ensures.at_most_four, ap length is_own) in
    let empty : (length c.entries-others.result.now == 0) ≡ false = sym c.is_empty.ensures ∙ c.if-is_empty.false in
    let some_there : 0 < length c.entries-others.result.now = grind (arith, nat_tests) in
    let some : 0 < length others = omega (arith, some_there, ap length is_others) in
    list-stays g.met.O.Ranking.is_order g.met.O.Ranking.keeps_when_moved by own others z long c.entries-own.ensures.best_first c.entries-others.ensures.own_best some
    (ap (λ l. before (moved_by by (get_or l 0 z)) (get_or own 3 z)) (sym is_others)
    ∙ ap (λ l. before (moved_by by (get_or c.entries-others.result.now 0 z)) (get_or l 3 z)) (sym is_own)
    ∙ sym c.is_before.ensures ∙ not-true c.is_before.result holds)
