-- Bridge: the ranks of a text.
use Rattle.std.specs.Prelude.{ℕ, ◌==◌, Bool, List, [], Option, Some, None}
use Rattle.std.specs.List.{slice_split}
use Rattle.explorer_model.specs.Letters.{byte}

abbrev pub is_slash : ℕ → Bool
is_slash b = b == byte "/"

-- what stands between the slashes of a text, where there is a text
abbrev pub ranks_of : Option (List ℕ) → List (List ℕ)
ranks_of None = []
ranks_of (Some text) = slice_split is_slash text
