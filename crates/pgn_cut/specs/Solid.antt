-- Bridge: the first byte that is no white space.
use Rattle.std.specs.Prelude.{ℕ, ◌+◌, List, [], ◌∷◌, Option, Some, None, if◌then◌else◌}
use Rattle.explorer_model.specs.Cuts.{is_white_space}

-- its place, where the bytes stand at a place
unfoldable pub solid : ℕ → List ℕ → Option ℕ
solid place [] = None
solid place (b ∷ bytes) = if is_white_space b then solid (place + 1) bytes else Some place

-- the one that is known, else one among further bytes
abbrev pub first_of : Option ℕ → ℕ → List ℕ → Option ℕ
first_of (Some first) place bytes = Some first
first_of None place bytes = solid place bytes
