use Rattle.std.proofs.Common.{rules}
use Rattle.chess_reference.proofs.legal.is_same.Goals as goal

pub returns : goal.returns
returns c = (
  λ same. (
    search rules,
    search rules,
    search rules,
    λ s. (
      λ taken. (c.legal_en_passant-2.ensures s).0 (((c.is_square_equal.ensures.0 same) s).0 ((c.legal_en_passant.ensures s).1 taken)),
      λ taken. (c.legal_en_passant.ensures s).0 (((c.is_square_equal.ensures.0 same) s).1 ((c.legal_en_passant-2.ensures s).1 taken)),
    ),
  ),
  λ same. c.is_square_equal.ensures.1 (λ s. (
    λ at_s. (c.legal_en_passant-2.ensures s).1 ((same.3 s).0 ((c.legal_en_passant.ensures s).0 at_s)),
    λ at_s. (c.legal_en_passant.ensures s).1 ((same.3 s).1 ((c.legal_en_passant-2.ensures s).0 at_s)),
  )),
)
