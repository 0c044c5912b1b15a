-- Bridge: the test that a table of bytes passes. It is computed when the program is checked.
use Rattle.std.specs.Prelude.{ℕ, zero, suc, Bool, true, ◌&&◌, ◌==◌, List, slice_index, cond}
use Rattle.pgn_lex.specs.Bytes.{is_of}
use Rattle.pgn_lex.specs.declared.bytes.Class.{Class}

-- the first so many bytes have a 1 where they are of the class, and else a 0
unfoldable pub tells_below : Class → List ℕ → ℕ → Bool
tells_below class marks zero = true
tells_below class marks (suc b) =
    slice_index marks b == cond (is_of class b) 1 0 && tells_below class marks b

abbrev pub tells : Class → List ℕ → Bool
tells class marks = tells_below class marks 256
