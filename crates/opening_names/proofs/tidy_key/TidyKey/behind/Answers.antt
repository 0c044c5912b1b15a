use Rattle.std.proofs.Common.{length, ap, ◌∙◌}
use Rattle.explorer_model.specs.declared.chess.Position.{Position}
use Rattle.legal_moves.proofs.Kept.{length-after}
use Rattle.opening_names.proofs.tidy_key.TidyKey.behind.Goals as goal

pub returns-clause-board : goal.returns-clause-board
returns-clause-board c = ap (λ (p : Position). length p.squares) c.requires.next ∙ length-after c.args.board.now c.args.step
