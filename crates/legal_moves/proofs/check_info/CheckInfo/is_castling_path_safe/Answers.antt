use Rattle.std.proofs.Common.{ℕ, subst}
use Rattle.explorer_model.specs.Board.{opponent, IsAttacked}
use Rattle.legal_moves.proofs.Lists.{none-false}
use Rattle.legal_moves.proofs.BitboardFacts.{not-says}
use Rattle.legal_moves.proofs.check_info.CheckInfo.is_castling_path_safe.Goals as goal

pub returns : goal.returns
returns c =
    let Calm : ℕ → Type 0 = λ s. ¬ IsAttacked c.args.position.now.squares (opponent c.args.position.now.turn) s in
    let last = not-says c.is_attacked-3.result _ c.is_attacked-3.ensures in (
      λ calm. (
        none-false c.is_attacked.result _ c.is_attacked.ensures c.if-is_attacked.false,
        subst Calm c.halfway.ensures (none-false c.is_attacked-2.result _ c.is_attacked-2.ensures c.if-is_attacked-2.false),
        last.0 calm,
      ),
      λ safe. last.1 safe.2,
    )
