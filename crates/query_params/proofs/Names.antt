-- Which of some names are given.
use Rattle.std.proofs.Common.{◌≡◌, ap, ℕ, List, map, true, false, Bool, None, Some, if◌then◌else◌}
use Rattle.std.specs.List.{list_all}
use Rattle.explorer_model.specs.Query.{names_given, is_among, pieces_of}

-- one piece is none of the names
pub names_refused : (names : List (List ℕ)) (text : List ℕ) → list_all (is_among names) (pieces_of text) ≡ false → names_given names text ≡ None
unfolding names_given
names_refused names text is = ap (λ (b : Bool). if b then Some (map (is_among (pieces_of text)) names) else None) is

-- each piece is one of the names
pub names_listed : (names : List (List ℕ)) (text : List ℕ) → list_all (is_among names) (pieces_of text) ≡ true → names_given names text ≡ Some (map (is_among (pieces_of text)) names)
unfolding names_given
names_listed names text is = ap (λ (b : Bool). if b then Some (map (is_among (pieces_of text)) names) else None) is
