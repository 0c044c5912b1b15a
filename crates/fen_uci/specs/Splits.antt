-- Bridge: where a text is cut at a byte.
use Rattle.std.specs.Prelude.{◌≡◌, ℕ, ◌==◌, false, List, [], ◌∷◌}
use Rattle.std.specs.List.{All}
use Rattle.explorer_model.specs.Letters.{byte}

-- the byte is nowhere in the text
abbrev pub IsFreeOf : ℕ → List ℕ → Type 0
IsFreeOf mark text = All (λ b. (b == mark) ≡ false) text

-- the text ends here, or goes on with the byte
abbrev pub StopsAt : ℕ → List ℕ → Type 0
StopsAt mark [] = Unit {0}
StopsAt mark (b ∷ bytes) = b ≡ mark

-- the text doesn't begin with a space
abbrev pub IsTrimmed : List ℕ → Type 0
IsTrimmed [] = Unit {0}
IsTrimmed (b ∷ bytes) = (b == byte " ") ≡ false
