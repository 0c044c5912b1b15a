use Rattle.std.proofs.Common.{◌<◌, List, [], length, get_or, map, Some, sym, ap, ◌∙◌, append-nil, arith}
use Rattle.std.specs.Arc.{arc_value}
use Rattle.std.proofs.lemmas.List.{get_or_default, map-append, take_all}
use Rattle.explorer_model.specs.declared.chess.Color.TheVariants.{White}
use Rattle.player_index.specs.declared.entry.Entry.{Entry}
use Rattle.player_lookup.specs.Kept.{row_of_single, rows_of_numbers}
use Rattle.player_lookup.proofs.RowLoops.{number_of, rows-next}
use Rattle.row_sums.specs.Hits.{NumberedRow, hit_as}
use Rattle.row_sums.specs.Listing.{classes_in}
use Rattle.row_sums.proofs.LineLoops.{each-at}
use Rattle.player_lookup.proofs.games.rows_of_games.Goals as goal
use Rattle.player_lookup.proofs.games.rows_of_games.Goals.{in-Some+in_ok-push, in_default}

pub single_of_game-requires-clause-within : goal.single_of_game-requires-clause-within
single_of_game-requires-clause-within g c =
    let i = c.loop-entry.entry-index in
    let z : Entry = record { number = 0; color = White } in
    let entries = c.args.entries.now in
    let x : Entry = get_or entries i z in
    each-at (λ (entry : Entry). entry.number < length (classes_in (map arc_value c.args.segments.now))) entries i x
    c.requires.within c.loop-entry-test.true (get_or_default entries i z x c.loop-entry-test.true)

pub loop-entry-preserved : goal.loop-entry-preserved
loop-entry-preserved g c =
    let i = c.loop-entry.entry-index in
    let z : Entry = record { number = 0; color = White } in
    let q = c.args.asked.now.query.now in
    let key = c.args.asked.now.key in
    let entries = c.args.entries.now in
    let sofar : List NumberedRow = map hit_as c.loop-entry.hits.items in
    elim c.match-branch-2.branch [
      | in-Some+in_ok-push w ↦ record {
        within = omega (arith, c.loop-entry-test.true);
        rows = λ games are.
            rows-next q key games entries i z c.loop-entry-test.true sofar (row_of_single (Some w.in-Some.game)) _ (c.loop-entry.invariant.rows games are)
            (ap row_of_single (sym w.in-Some.is) ∙ c.in_ok-game.ensures.row games are)
            (ap (λ v. map hit_as v.items) w.hits-is ∙ ap (map hit_as) w.in_ok-push.ensures.items ∙ map-append hit_as c.loop-entry.hits.items _);
        cost = omega (arith, c.loop-entry.invariant.cost, c.single_of_game.ensures.cost);
      }
      | in_default w ↦ record {
        within = omega (arith, c.loop-entry-test.true);
        rows = λ games are.
            rows-next q key games entries i z c.loop-entry-test.true sofar [] _ (c.loop-entry.invariant.rows games are)
            (ap row_of_single (sym w.in_default.is) ∙ c.in_ok-game.ensures.row games are)
            (ap (λ v. map hit_as v.items) w.hits-is ∙ sym (append-nil sofar));
        cost = omega (arith, c.loop-entry.invariant.cost, c.single_of_game.ensures.cost);
      }
    ]

pub returns-clause-rows : goal.returns-clause-rows
returns-clause-rows g c = λ games are.
    c.loop-entry.invariant.rows games are
    ∙ ap (λ es. rows_of_numbers c.args.asked.now.query.now c.args.asked.now.key games (map number_of es))
    (take_all c.loop-entry.entry-index c.args.entries.now (omega (arith, c.loop-entry-test.false)))
