use Rattle.std.proofs.Common.{List, map, ap, sym, subst, ◌∙◌}
use Rattle.std.specs.List.{AllByRecursion}
use Rattle.explorer_model.specs.declared.chess.Move.{Move}
use Rattle.explorer_model.specs.declared.player.PlayerLine.{PlayerLine}
use Rattle.explorer_model.specs.Chess.{Legal}
use Rattle.opening_names.proofs.Walking.{player-lines-legal}
use Rattle.opening_names.proofs.lent.lend_player_naming.Goals as goal

pub lend_names-requires-clause-moves : goal.lend_names-requires-clause-moves
lend_names-requires-clause-moves c =
    let at = c.args.asked.now.query.at in
    let A : List Move → Type 0 = λ ms. AllByRecursion (λ m. Legal at m) ms in
    let nexts : List PlayerLine → List Move = λ lines. map (λ line. line.next) lines in
    subst A (sym (c.as_slice-2.ensures.value ∙ (c.in_ok-played.ensures ∙ ap nexts c.as_slice.ensures)))
    (player-lines-legal at c.args.found.now.moves c.requires.moves)
