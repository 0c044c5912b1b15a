use Rattle.std.proofs.Common.{◌↔◌, ℕ, Option, slice_index_or, sym, subst}
use Rattle.legal_moves.proofs.EvasionLemmas.{all_squares}
use Rattle.step_tables.specs.Bitboard.{Holds}
use Rattle.explorer_model.specs.Board.{rank_of}
use Rattle.explorer_model.specs.San.{IsAsNamed}
use Rattle.san_codec.proofs.Sources.{ranks, rank-says}
use Rattle.san_codec.proofs.named_squares.on_rank.Goals as goal

pub returns-in-None : goal.returns-in-None
returns-in-None c = λ s on.
    let P : Option ℕ → Type 0 = λ o. Holds 18446744073709551615 s ↔ IsAsNamed o (rank_of s) in
    subst P (sym c.in-None.is) (λ _. tt, λ _. all_squares s on)

pub returns-else-rank-ge8 : goal.returns-else-rank-ge8
returns-else-rank-ge8 c = λ s on.
    let P : Option ℕ → Type 0 = λ o. Holds (slice_index_or ranks c.in-Some.rank 0) s ↔ IsAsNamed o (rank_of s) in
    subst P (sym c.in-Some.is) (rank-says c.in-Some.rank s c.if-rank-ge8.false on)
