-- The limits of a store, and which texts are labels.
use Rattle.std.specs.Bool.{⊤}
use Rattle.std.proofs.Common.{◌≡◌, ◌+◌, ◌*◌, ℕ, true, false, List, [], ◌∷◌, refl, arith, lit≤}
use lib.Utf8.{encode}
use Rattle.std.specs.List.{repeat}
use Rattle.std.specs.Str.{chars, is_utf8}
use Rattle.explorer_model.specs.Journal.{AreWithin}
use Rattle.explorer_model.specs.Labels.{is_label}
use Rattle.explorer_model.specs.StoreFile.{payload_limit}

-- ---- limits

-- a label behind its length, and 512 texts behind their number, each behind its length
the-longest-payload : payload_limit ≡ (1 + 64) + (2 + 512 * (4 + 65536))
the-longest-payload = refl

a-full-store : AreWithin 262144 536870912
a-full-store = (lit≤ tt, lit≤ tt)

a-game-too-many : ¬ AreWithin 262145 0
a-game-too-many h = let games = h.0 in absurd (omega (arith, games))

a-byte-too-many : ¬ AreWithin 0 536870913
a-byte-too-many h = let bytes = h.1 in absurd (omega (arith, bytes))

-- ---- labels

letters : ℕ → List ℕ
letters count = repeat count (97 ∷ [])

sixty-four-bytes : is_label (letters 64) ≡ true
unfolding letters is_label is_utf8 chars encode
sixty-four-bytes = refl

sixty-five-bytes : is_label (letters 65) ≡ false
unfolding letters is_label
sixty-five-bytes = refl

-- the first and the last character of ASCII that prints, and a letter of two bytes
characters-that-print : is_label (32 ∷ 126 ∷ 195 ∷ 169 ∷ []) ≡ true
unfolding is_label is_utf8 chars encode
characters-that-print = refl

below-the-first : is_label (31 ∷ []) ≡ false
unfolding is_label
below-the-first = refl

behind-the-last : is_label (127 ∷ []) ≡ false
unfolding is_label
behind-the-last = refl

half-a-letter : is_label (195 ∷ []) ≡ false
unfolding is_label is_utf8 chars encode
half-a-letter = refl
