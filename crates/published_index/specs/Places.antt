-- Statement: the places of a journal are given in their order, and each is drawn by one drawer.
use Rattle.std.specs.Prelude.{◌≡◌, ◌==◌, ℕ, zero, suc, ◌+◌, List, [], ◌∷◌, ◌++◌, if◌then◌else◌}

abbrev pub hit : ℕ → ℕ → ℕ
hit x y = if y == x then 1 else 0

-- how often a place stands in a list
abbrev pub times : ℕ → List ℕ → ℕ
times x [] = 0
times x (y ∷ ys) = hit x y + times x ys

-- how often a place is below a number: once or not at all
abbrev pub once_below : ℕ → ℕ → ℕ
once_below x zero = 0
once_below x (suc n) = hit x n + once_below x n

-- into how many parts the right to know the whole is cut; whoever gives the places keeps one
abbrev pub all_parts : ℕ
all_parts = 4294967296

-- a drawer: how many parts it has, and the places that it drew, in their order
pub record Drawing : Type 0 where
  pub parts : ℕ
  pub drawn : List ℕ

-- a drawer with one part that has drawn nothing
abbrev pub new_drawing : Drawing
new_drawing = record { parts = 1; drawn = [] }

-- the drawer once it has drawn these places more
abbrev pub with_places : List ℕ → Drawing → Drawing
with_places places drawing = record { parts = drawing.parts; drawn = drawing.drawn ++ places }

abbrev pub with_place : ℕ → Drawing → Drawing
with_place place drawing = with_places (place ∷ []) drawing

-- the drawer once it has all of another
abbrev pub with_drawing : Drawing → Drawing → Drawing
with_drawing other drawing = record {
  parts = drawing.parts + other.parts;
  drawn = drawing.drawn ++ other.drawn;
}

-- the drawer has all parts but the one that stays with whoever gives the places
abbrev pub HasAllParts : Drawing → Type 0
HasAllParts drawing = drawing.parts + 1 ≡ all_parts

-- each of so many places was drawn by the drawer once, and no other
abbrev pub DrewEach : ℕ → Drawing → Type 0
DrewEach count drawing = (x : ℕ) → times x drawing.drawn ≡ once_below x count

-- the drawer has all parts, and has drawn each of so many places once
pub record HasDrawn (count : ℕ) (drawing : Drawing) : Type 0 where
  pub parts : HasAllParts drawing
  pub each : DrewEach count drawing
