use Rattle.std.proofs.Common.{◌∙◌, List, ap, subst, sym}
use Rattle.explorer_model.specs.declared.chess.Move.{Move}
use Rattle.explorer_model.specs.declared.chess.Position.{Position}
use Rattle.explorer_model.specs.Chess.{IsValid}
use Rattle.explorer_model.specs.Visits.{AreLegalFrom}
use Rattle.explorer_model.proofs.LegalGames.{game-legal}
use Rattle.explorer.specs.Trial.{position_behind}
use Rattle.explorer.proofs.TrialLemmas.LastGame.{answers_no_fault, tells_end, writes_end}
use Rattle.explorer.proofs.trial.last_fen.Goals as goal

pub unreachable-requires : goal.unreachable-requires
unreachable-requires c =
    answers_no_fault c.game_is_determined.ensures c.args.text.now c.requires.game c.replay.result c.in-Err-Fault.field-0 c.in-Err-Fault.field-0-0
    c.requires.is_game c.replay.ensures c.in-Err-Fault.is c.in-Err-Fault.field-0-is

pub board_behind-board-requires-clause-valid : goal.board_behind-board-requires-clause-valid
board_behind-board-requires-clause-valid c = c.games_begin_validly.ensures c.args.text.now c.in-Ok.game c.in-Ok.ensures

pub board_behind-board-requires-clause-legal : goal.board_behind-board-requires-clause-legal
board_behind-board-requires-clause-legal c =
    subst (λ (moves : List Move). AreLegalFrom c.in-Ok.game.root moves) (sym c.as_slice.ensures)
    (game-legal c.args.text.now c.in-Ok.game c.in-Ok.ensures)

pub returns-clause-reads : goal.returns-clause-reads
returns-clause-reads c = λ game is.
    tells_end c.game_is_determined.ensures c.written_fen_is_read.ensures c.args.text.now c.write_fen.result.items c.in-Ok.game game c.board_behind-board.result c.in-Ok.ensures is
    (c.board_behind-board.ensures ∙ ap (position_behind c.in-Ok.game.root) c.as_slice.ensures) (subst (λ (p : Position). IsValid p) c.position-position.ensures.same c.position-position.ensures.valid) c.write_fen.ensures

pub returns-clause-written : goal.returns-clause-written
returns-clause-written c = λ game is.
    writes_end c.game_is_determined.ensures c.args.text.now c.write_fen.result.items c.in-Ok.game game c.board_behind-board.result c.in-Ok.ensures is
    (c.board_behind-board.ensures ∙ ap (position_behind c.in-Ok.game.root) c.as_slice.ensures) c.write_fen.ensures
