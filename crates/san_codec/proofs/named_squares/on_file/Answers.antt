use Rattle.std.proofs.Common.{◌↔◌, ℕ, Option, slice_index_or, sym, subst}
use Rattle.legal_moves.proofs.EvasionLemmas.{all_squares}
use Rattle.step_tables.specs.Bitboard.{Holds}
use Rattle.explorer_model.specs.Board.{file_of}
use Rattle.explorer_model.specs.San.{IsAsNamed}
use Rattle.san_codec.proofs.Sources.{files, file-says}
use Rattle.san_codec.proofs.named_squares.on_file.Goals as goal

pub returns-in-None : goal.returns-in-None
returns-in-None c = λ s on.
    let P : Option ℕ → Type 0 = λ o. Holds 18446744073709551615 s ↔ IsAsNamed o (file_of s) in
    subst P (sym c.in-None.is) (λ _. tt, λ _. all_squares s on)

pub returns-else-file-ge8 : goal.returns-else-file-ge8
returns-else-file-ge8 c = λ s on.
    let P : Option ℕ → Type 0 = λ o. Holds (slice_index_or files c.in-Some.file 0) s ↔ IsAsNamed o (file_of s) in
    subst P (sym c.in-Some.is) (file-says c.in-Some.file s c.if-file-ge8.false on)
