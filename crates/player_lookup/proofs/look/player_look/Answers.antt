use Rattle.std.proofs.Common.{List, length, map, IfOk, sym, ap, subst, ◌∙◌, arith}
use Rattle.std.specs.Arc.{arc_value}
use Rattle.std.proofs.lemmas.List.{length-map}
use Rattle.explorer_model.specs.Players.{IsPlayerFound, plays_as}
use Rattle.explorer_model.specs.Tidy.{IsTidied, IsTidyKey}
use Rattle.explorer_model.specs.declared.chess.Position.{Position}
use Rattle.player_index.specs.Index.{AreClassesOf}
use Rattle.player_index.specs.declared.entry.Entry.{Entry}
use Rattle.player_lookup.specs.Seen.{AreKept}
use Rattle.player_lookup.proofs.Finding.{Sight, sight}
use Rattle.player_lookup.proofs.Lookups.{entries-within, rows-kept, sight-classes}
use Rattle.published_index.specs.Cover.{journal_of}
use Rattle.row_sums.specs.Hits.{hit_as}
use Rattle.row_sums.specs.Listing.{classes_in}
use Rattle.segment_blocks.specs.Segment.{CountedSpan}
use Rattle.player_lookup.proofs.look.player_look.Goals as goal

pub rows_of_games-requires-clause-asked : goal.rows_of_games-requires-clause-asked
rows_of_games-requires-clause-asked g c = record {
  valid = c.requires.valid;
  tidied = subst (λ (p : Position). IsTidied p c.tidy_and_key.result.0) c.board_of-board.ensures c.tidy_and_key.ensures.tidied;
  key = subst (λ (p : Position). IsTidyKey p c.tidy_and_key.result.1) c.board_of-board.ensures c.tidy_and_key.ensures.key;
}

pub rows_of_games-requires-clause-within : goal.rows_of_games-requires-clause-within
rows_of_games-requires-clause-within g c =
    let q = c.args.query.now in
    let segments : List CountedSpan = map arc_value c.segments-segments.result.now in
    let key = subst (λ (p : Position). IsTidyKey p c.tidy_and_key.result.1) c.board_of-board.ensures c.tidy_and_key.ensures.key in
    let seen : Sight segments q.query.at =
    sight q.query.at c.tidy_and_key.result.1 (λ text game track of tracked. c.tracks_see_what_games_see.ensures q.query.at c.tidy_and_key.result.1 text game track c.requires.valid.board key of tracked)
    segments c.count_games-games.ensures.segments in
    let known = subst (λ list. AreClassesOf (journal_of list) (classes_in segments)) c.segments-segments.ensures.segments (sight-classes segments q.query.at seen) in
    entries-within segments (plays_as q.player q.color) c.range-entries.result.now (c.range-entries.ensures.numbers (classes_in segments) known)

pub found_of-requires-clause-few : goal.found_of-requires-clause-few
found_of-requires-clause-few g c = omega (arith, c.count_games-games.ensures.games, c.count_games-games.ensures.few)

pub found_of-requires-clause-kept : goal.found_of-requires-clause-kept
found_of-requires-clause-kept g c =
    let q = c.args.query.now in
    let segments : List CountedSpan = map arc_value c.segments-segments.result.now in
    let key = subst (λ (p : Position). IsTidyKey p c.tidy_and_key.result.1) c.board_of-board.ensures c.tidy_and_key.ensures.key in
    let seen : Sight segments q.query.at =
    sight q.query.at c.tidy_and_key.result.1 (λ text game track of tracked. c.tracks_see_what_games_see.ensures q.query.at c.tidy_and_key.result.1 text game track c.requires.valid.board key of tracked)
    segments c.count_games-games.ensures.segments in
    let known = subst (λ list. AreClassesOf (journal_of list) (classes_in segments)) c.segments-segments.ensures.segments (sight-classes segments q.query.at seen) in
    subst (λ hits. AreKept q segments (map hit_as hits)) (sym c.as_slice.ensures.value)
    (rows-kept q c.tidy_and_key.result.1 segments seen c.range-entries.result.now (map hit_as c.in_ok-hits.hits.items)
    (c.range-entries.ensures.numbers (classes_in segments) known) c.in_ok-hits.ensures.rows)

pub returns-clause-found : goal.returns-clause-found
returns-clause-found g c =
    subst (λ list. IfOk c.found_of.result (IsPlayerFound (journal_of list) c.args.query.now)) c.segments-segments.ensures.segments c.found_of.ensures

pub returns-in_err-hits-clause-cost : goal.returns-in_err-hits-clause-cost
returns-in_err-hits-clause-cost g c = λ digits classes few known.
    let numbers = c.range-entries.ensures.numbers classes known in
    let long = sym (length-map c.range-entries.result.now (λ (e : Entry). e.number)) ∙ ap length numbers in
    omega (arith, c.range-entries.ensures.cost digits few, c.rows_of_games.ensures.cost, long)

pub returns-clause-cost : goal.returns-clause-cost
returns-clause-cost g c = λ digits classes few known.
    let numbers = c.range-entries.ensures.numbers classes known in
    let long = sym (length-map c.range-entries.result.now (λ (e : Entry). e.number)) ∙ ap length numbers in
    omega (arith, c.range-entries.ensures.cost digits few, c.rows_of_games.ensures.cost, long)
