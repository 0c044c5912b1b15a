use Rattle.std.proofs.Common.{inl, inr}
use Rattle.step_tables.proofs.BitboardLemmas.{Holds-or}
use Rattle.legal_moves.proofs.enemy_sets.EnemySets.fill_square.Goals as goal

pub returns : goal.returns
returns c = record {
  occupied = λ b on. (
    λ bit. elim ((Holds-or c.args.self.now.occupied c.only.result b).0 bit) [ inl old ↦ inl old | inr new ↦ inr ((c.only.ensures b on).0 new) ],
    λ h. (Holds-or c.args.self.now.occupied c.only.result b).1 (elim h [ inl old ↦ inl old | inr at ↦ inr ((c.only.ensures b on).1 at) ]),
  );
  pawns = c.clear_square.ensures.pawns;
  knights = c.clear_square.ensures.knights;
  diagonals = c.clear_square.ensures.diagonals;
  straights = c.clear_square.ensures.straights;
  king = c.clear_square.ensures.king;
}
