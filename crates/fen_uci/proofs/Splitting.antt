-- The fields of a text, cut off one after another.
use Rattle.std.proofs.Common.{◌≡◌, ℕ, ◌+◌, ◌==◌, Bool, true, false, List, [], ◌∷◌, ◌++◌, length, drop, slice_index_or, filter, refl, sym, subst, ap, ◌∙◌, arith}
use Rattle.std.specs.List.{slice_split, All}
use Rattle.std.proofs.lemmas.Bool.Decides.{nat_tests}
use Rattle.std.proofs.lemmas.List.{append-nil}
use Rattle.std.proofs.lemmas.List.Elements.{filter_passes}
use Rattle.std.proofs.lemmas.List.Splits.{slice_split_none, slice_split_at}
use Rattle.explorer_model.specs.Fen.{is_filled, fields, field}
use Rattle.fen_uci.specs.Splits.{IsFreeOf, StopsAt, IsTrimmed}

pub differs : (a b : ℕ) → ¬ a ≡ b → (a == b) ≡ false
differs a b not = grind (arith, nat_tests)

abbrev pub is_space : ℕ → Bool
is_space b = b == 32

-- a word and what follows it
pub fields_word : (b : ℕ) (word rest : List ℕ) → IsFreeOf 32 (b ∷ word) → StopsAt 32 rest → fields ((b ∷ word) ++ rest) ≡ (b ∷ word) ∷ fields rest
fields_word b word [] free stops =
    ap fields (append-nil (b ∷ word)) ∙ ap (filter is_filled) (slice_split_none is_space (b ∷ word) free)
fields_word b word (c ∷ rest) free stops =
    let at_space : fields ((b ∷ word) ++ 32 ∷ rest) ≡ (b ∷ word) ∷ fields (32 ∷ rest) = ap (filter is_filled) (slice_split_at is_space (b ∷ word) 32 rest free refl) in
    subst (λ (d : ℕ). fields ((b ∷ word) ++ d ∷ rest) ≡ (b ∷ word) ∷ fields (d ∷ rest)) (sym stops) at_space

-- the word that a trimmed text begins with is its first field
first_of : (word rest : List ℕ) → IsTrimmed (word ++ rest) → IsFreeOf 32 word → StopsAt 32 rest
    → (word ≡ field 1 (word ++ rest)) × (fields rest ≡ drop 1 (fields (word ++ rest)))
first_of [] [] trimmed free stops = (refl, refl)
first_of [] (c ∷ rest) trimmed free stops = absurd (spaced c trimmed stops)
  where
    spaced : (d : ℕ) → (d == 32) ≡ false → ¬ d ≡ 32
    spaced d off on = grind (arith, nat_tests)
first_of (b ∷ word) rest trimmed free stops =
    let here = fields_word b word rest free stops in
    (ap (λ (parts : List (List ℕ)). slice_index_or parts 0 []) (sym here), ap (λ (parts : List (List ℕ)). drop 1 parts) (sym here))

pub first_field : (text trimmed word rest : List ℕ) → fields trimmed ≡ fields text → IsTrimmed trimmed → trimmed ≡ word ++ rest → IsFreeOf 32 word → StopsAt 32 rest
    → (word ≡ field 1 text) × (fields rest ≡ drop 1 (fields text))
first_field text trimmed word rest same begins joined free stops =
    let whole = ap fields (sym joined) ∙ same in
    let (first, others) = first_of word rest (subst IsTrimmed joined begins) free stops in
    (first ∙ ap (λ (parts : List (List ℕ)). slice_index_or parts 0 []) whole, others ∙ ap (λ (parts : List (List ℕ)). drop 1 parts) whole)

filled_first : (parts : List (List ℕ)) → All (λ part. is_filled part ≡ true) parts → length (slice_index_or parts 0 []) ≡ 0 → length parts ≡ 0
filled_first [] filled none = refl
filled_first ([] ∷ parts) filled none = let ill : is_filled [] ≡ true = filled 0 [] (omega arith) in cc
filled_first ((b ∷ bytes) ∷ parts) filled none = absurd (omega (arith, none))

one_less : (parts : List (List ℕ)) → ¬ length (slice_index_or parts 0 []) ≡ 0 → length parts ≡ 1 + length (drop 1 parts)
one_less [] some = absurd (some refl)
one_less (part ∷ parts) some = omega arith

-- a text without a first field has no field
pub none_left : (text word : List ℕ) → word ≡ field 1 text → length word ≡ 0 → length (fields text) ≡ 0
none_left text word first none =
    filled_first (fields text) (filter_passes is_filled (slice_split is_space text)) (ap (λ (part : List ℕ). length part) (sym first) ∙ none)

-- behind a first field stands one field less
pub some_left : (text word rest : List ℕ) → word ≡ field 1 text → ¬ length word ≡ 0 → fields rest ≡ drop 1 (fields text) → length (fields text) ≡ 1 + length (fields rest)
some_left text word rest first some behind =
    one_less (fields text) (λ none. some (ap (λ (part : List ℕ). length part) first ∙ none)) ∙ ap (λ (parts : List (List ℕ)). 1 + length parts) (sym behind)
