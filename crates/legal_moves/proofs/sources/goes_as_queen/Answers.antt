use Rattle.std.proofs.Common.{◌⊎◌}
use Rattle.explorer_model.specs.Board.{RookLine, BishopLine}
use Rattle.legal_moves.proofs.sources.goes_as_queen.Goals as goal

pub returns-then-contains : goal.returns-then-contains
returns-then-contains c =
    let line : RookLine c.args.from c.args.to ⊎ BishopLine c.args.from c.args.to =
    (c.queen_targets.ensures c.args.to c.requires.to_on_board).0 (c.contains.ensures.0 c.if-contains.true) in
    (λ e. (line, c.is_clear.ensures.0 e), λ h. c.is_clear.ensures.1 h.1)
