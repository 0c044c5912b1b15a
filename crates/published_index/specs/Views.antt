-- Bridge: what the passes of the places know, and their steps.
use Rattle.std.specs.Prelude.{◌≡◌, ℕ, zero, suc, ◌+◌, ◌-◌, List, [], ◌∷◌, ◌++◌, true, false}
use mathlib.Core.Option.{some}
use lib.ListN.{get_elem?}
use Rattle.published_index.specs.declared.views.View.{View}
use Rattle.published_index.specs.Places.{all_parts, once_below, times}

-- ---- views

-- what the holder of some parts has drawn
abbrev pub holder : ℕ → List ℕ → View
holder parts drawn = record { keeps = false; count = 0; parts = parts; drawn = drawn }

abbrev pub nobody : View
nobody = holder 0 []

-- the one that gives the places, before the first is given
abbrev pub first_keeper : View
first_keeper = record { keeps = true; count = 0; parts = all_parts; drawn = [] }

abbrev pub where_some : ℕ → ℕ → ℕ
where_some zero n = 0
where_some (suc parts) n = n

-- how often the holder of a view has drawn a place; without a part it has drawn nothing
abbrev pub drew : ℕ → View → ℕ
drew x v = where_some v.parts (times x v.drawn)

abbrev pub parts_of : View → ℕ
parts_of v = v.parts

abbrev pub total : (View → ℕ) → List View → ℕ
total f [] = 0
total f (v ∷ vs) = f v + total f vs

-- one pass at most gives the places; each below the number that it knows was drawn once, and no other
pub record Given (words : List ℕ) (views : List View) : Type 0 where
  pub seat : ℕ
  pub count : ℕ
  pub one_keeper : (by : ℕ) (v : View) → get_elem? views by ≡ some v → v.keeps ≡ true
      → (by ≡ seat) × (v.count ≡ count)
  pub parts : total parts_of views ≡ all_parts
  pub drawn : (x : ℕ) → total (drew x) views ≡ once_below x count

-- ---- steps

-- the next place is drawn
abbrev pub with_draw : View → View
with_draw v = record {
  keeps = v.keeps;
  count = suc v.count;
  parts = v.parts;
  drawn = v.drawn ++ v.count ∷ [];
}

abbrev pub Draws : View → List ℕ → List ℕ → View → Type 0
Draws v before after w = w ≡ with_draw v

-- whoever has each part and gives the places knows the whole
abbrev pub Learns : View → List ℕ → List ℕ → View → Type 0
Learns v before after w = (w ≡ v)
    × (v.parts ≡ all_parts → (x : ℕ) → times x v.drawn ≡ once_below x v.count)

-- two views together
abbrev pub with_all : View → View → View
with_all v u = record {
  keeps = v.keeps;
  count = v.count;
  parts = v.parts + u.parts;
  drawn = v.drawn ++ u.drawn;
}

-- all that a drawer has
abbrev pub all_of : View → View
all_of v = holder v.parts v.drawn

-- one part stays with the one that gives the places
abbrev pub rest_of : View → View
rest_of v = record { keeps = v.keeps; count = v.count; parts = 1; drawn = [] }

-- and the others are handed out, with what was drawn
abbrev pub handed_of : View → View
handed_of v = holder (v.parts - 1) v.drawn

-- one part fewer
abbrev pub less_one : View → View
less_one v = holder (v.parts - 1) v.drawn
