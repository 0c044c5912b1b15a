use Rattle.std.proofs.Common.{List, map, sym, subst}
use Rattle.std.specs.Arc.{arc_value}
use Rattle.std.specs.List.{AllByRecursion}
use Rattle.std.proofs.lemmas.Result.{IfOk-weaker}
use Rattle.explorer_model.specs.Chess.{Legal}
use Rattle.explorer_model.specs.Players.{IsPlayerFound, is_wanted}
use Rattle.explorer_model.specs.declared.chess.Move.{Move}
use Rattle.explorer_model.specs.declared.chess.Position.{Position}
use Rattle.player_lookup.specs.Made.{IsMadeOf, moves_listed}
use Rattle.player_lookup.proofs.MadeAnswers.{found-made, listed-moves, sound-rows}
use Rattle.published_index.specs.Cover.{journal_of}
use Rattle.row_sums.specs.Hits.{hit_as}
use Rattle.row_sums.specs.Listing.{classes_in}
use Rattle.segment_blocks.specs.Segment.{CountedSpan}
use Rattle.player_lookup.proofs.rows.found_of.Goals as goal

pub found_in-requires-clause-sound : goal.found_in-requires-clause-sound
found_in-requires-clause-sound c =
    sound-rows c.classes_of_games_are_sound.ensures c.args.query.now (map arc_value c.args.segments.now) (map hit_as c.args.hits.now) c.requires.kept c.requires.few

pub found_in-requires-clause-legal : goal.found_in-requires-clause-legal
found_in-requires-clause-legal c =
    let q = c.args.query.now in
    let segments : List CountedSpan = map arc_value c.args.segments.now in
    let are = c.requires.kept.are_seen in
    let L : List Move → Type 0 = λ moves. AllByRecursion (λ m. Legal q.query.at m) moves in
    let AtBoard : Position → Type 0 = λ p. AllByRecursion (λ m. Legal p m) (moves_listed q (map hit_as c.args.hits.now)) in
    subst AtBoard (sym c.requires.board)
    (subst L (sym (listed-moves q segments (map hit_as c.args.hits.now) c.requires.kept))
    (c.found_moves_are_legal.ensures.first q.query.at (journal_of segments) are.games c.requires.kept.seen q.query.moves (is_wanted q) c.requires.valid are.are_games are.are_games_at))

pub returns : goal.returns
returns c =
    let q = c.args.query.now in
    let segments : List CountedSpan = map arc_value c.args.segments.now in
    IfOk-weaker c.found_in.result (IsMadeOf q (classes_in segments) (map hit_as c.args.hits.now)) (IsPlayerFound (journal_of segments) q)
    (λ found made. found-made q segments (map hit_as c.args.hits.now) found c.requires.recent c.requires.kept made)
    c.found_in.ensures
