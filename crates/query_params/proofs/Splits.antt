-- The first of the pieces of a text.
use Rattle.std.proofs.Common.{◌≡◌, ◌∙◌, sym, ap, arith, ℕ, ◌<◌, ◌==◌, List, [], ◌∷◌, length, false, Option, None, Some, Bor, MatchOption}
use Rattle.std.proofs.lemmas.Str.Pattern.{IsSplitOnceResult, split_once_first}
use Rattle.std.proofs.lemmas.List.Splits.{slice_split_first, slice_split_none}
use Rattle.std.proofs.lemmas.List.Sums.{fails_before_first}
use Rattle.std.proofs.lemmas.List.Elements.{All-from_get_or}
use Rattle.std.specs.List.{position_or_len, before_first, after_first}
use Rattle.explorer_model.specs.Query.{pieces_of}

cut : (text : List ℕ) (r : Option (Bor (List ℕ) × Bor (List ℕ))) → IsSplitOnceResult 44 text r
    → MatchOption r (position_or_len (λ b. b == 44) text ≡ length text) (λ x. (position_or_len (λ b. b == 44) text < length text) × (x.0.now ≡ before_first (λ b. b == 44) text) × (x.1.now ≡ after_first (λ b. b == 44) text))
cut text r split = split_once_first 44 text r split (omega arith)

pub no_comma : (text : List ℕ) → IsSplitOnceResult 44 text None → pieces_of text ≡ text ∷ []
no_comma text split =
    let nowhere : position_or_len (λ b. b == 44) text ≡ length text = cut text None split in
    slice_split_none (λ b. b == 44) text
    (All-from_get_or (λ b. (b == 44) ≡ false) text 0 (λ i within. fails_before_first (λ b. b == 44) text i 0 (omega (arith, nowhere, within))))

pub comma : (text : List ℕ) (piece rest : Bor (List ℕ)) → IsSplitOnceResult 44 text (Some (piece, rest)) → pieces_of text ≡ piece.now ∷ pieces_of rest.now
comma text piece rest split =
    let parts = cut text (Some (piece, rest)) split in
    slice_split_first (λ b. b == 44) text 0 parts.0
    ∙ (ap (λ (first : List ℕ). first ∷ pieces_of (after_first (λ b. b == 44) text)) (sym parts.1)
    ∙ ap (λ (more : List ℕ). piece.now ∷ pieces_of more) (sym parts.2))
