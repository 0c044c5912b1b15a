use Rattle.std.proofs.Common.{List, map, take, Some, None, sym, ap, subst, ◌∙◌}
use Rattle.std.specs.Arc.{arc_value}
use Rattle.explorer_model.specs.Tidy.{IsTidied}
use Rattle.explorer_model.specs.Visits.{AreLegalFrom, FirstVisit, counted_stages, stage_limit, stages}
use Rattle.explorer_model.specs.declared.chess.Position.{Position}
use Rattle.player_lookup.specs.Kept.{row_of_single}
use Rattle.player_lookup.proofs.Finding.{text-game, text-short}
use Rattle.player_lookup.proofs.Singles.{row-none, row-some, row-untaken}
use Rattle.player_lookup.proofs.games.single_of_game.Goals as goal

pub returns-then-not-is_taken-clause-row : goal.returns-then-not-is_taken-clause-row
returns-then-not-is_taken-clause-row g c = λ games are.
    row-untaken c.args.asked.now.query.now c.args.asked.now.key (map arc_value c.args.segments.now) c.args.number c.segment_of-place.result.0.now
    c.segment_of-place.result.1 c.segment_of-place.ensures c.classes-classes.result.now c.classes-classes.ensures
    (sym c.is_taken.ensures ∙ c.if-not-is_taken.true) games are

pub game_of-requires-clause-short : goal.game_of-requires-clause-short
game_of-requires-clause-short g c =
    text-short c.segment_of-place.result.0.now c.segment_of-place.ensures.known c.segment_of-place.result.1 c.text.result.now c.text.ensures.text

pub game_of-requires-clause-game : goal.game_of-requires-clause-game
game_of-requires-clause-game g c =
    text-game c.segment_of-place.result.0.now c.segment_of-place.ensures.known c.segment_of-place.result.1 c.text.result.now c.text.ensures.text

pub visit_of-requires-clause-valid : goal.visit_of-requires-clause-valid
visit_of-requires-clause-valid g c = c.games_begin_validly.ensures c.text.result.now c.in_ok-game.game c.in_ok-game.ensures

pub visit_of-requires-clause-legal : goal.visit_of-requires-clause-legal
visit_of-requires-clause-legal g c =
    let L : List _ → Type 0 = λ moves. AreLegalFrom c.in_ok-game.game.root moves in
    subst L (sym c.as_slice.ensures) (c.moves_of_games_are_legal.ensures c.text.result.now c.in_ok-game.game c.in_ok-game.ensures)

pub returns-in-Some-clause-row : goal.returns-in-Some-clause-row
returns-in-Some-clause-row g c = λ games are.
    let game = c.in_ok-game.game in
    let visits : (at : Position) → IsTidied at c.args.asked.now.tidy.now → FirstVisit at (counted_stages game) (Some c.in-Some.next) =
    (λ at tidied.
    subst (λ v. FirstVisit at (counted_stages game) v) c.in-Some.is
    (subst (λ ms. FirstVisit at (take stage_limit (stages game.root ms)) c.visit_of.result) c.as_slice.ensures (c.visit_of.ensures at tidied))) in
    ap (λ s. row_of_single (Some s)) c.single_of.ensures
    ∙ row-some c.args.asked.now.query.now c.args.asked.now.key (map arc_value c.args.segments.now) c.args.number c.segment_of-place.result.0.now
    c.segment_of-place.result.1 c.segment_of-place.ensures c.classes-classes.result.now c.classes-classes.ensures
    c.game_is_determined.ensures c.first_visit_is_determined.ensures (sym c.is_taken.ensures ∙ c.if-not-is_taken.false)
    c.text.result.now c.text.ensures.text game c.in_ok-game.ensures c.args.asked.now.tidy.now c.requires.asked.tidied c.in-Some.next visits games are

pub returns-clause-row : goal.returns-clause-row
returns-clause-row g c = λ games are.
    let game = c.in_ok-game.game in
    let visits : (at : Position) → IsTidied at c.args.asked.now.tidy.now → FirstVisit at (counted_stages game) None =
    (λ at tidied.
    subst (λ v. FirstVisit at (counted_stages game) v) c.in-None.is
    (subst (λ ms. FirstVisit at (take stage_limit (stages game.root ms)) c.visit_of.result) c.as_slice.ensures (c.visit_of.ensures at tidied))) in
    row-none c.args.asked.now.query.now c.args.asked.now.key (map arc_value c.args.segments.now) c.args.number c.segment_of-place.result.0.now
    c.segment_of-place.result.1 c.segment_of-place.ensures c.classes-classes.result.now c.classes-classes.ensures
    c.game_is_determined.ensures c.first_visit_is_determined.ensures (sym c.is_taken.ensures ∙ c.if-not-is_taken.false)
    c.text.result.now c.text.ensures.text game c.in_ok-game.ensures c.args.asked.now.tidy.now c.requires.asked.tidied visits games are
