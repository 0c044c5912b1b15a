-- Move tokens as spans of their text.
use Rattle.std.proofs.Common.{◌≡◌, ℕ, zero, suc, ◌+◌, ◌-◌, List, [], ◌∷◌, ◌++◌, length, map, take, drop, Result, Ok, refl, sym, ap, ◌∙◌, arith}
use Rattle.std.proofs.lemmas.List.{map-append}
use Rattle.explorer_model.specs.declared.archive.Parts.{Parts}
use Rattle.explorer_model.specs.declared.archive.Token.{Token}
use Rattle.explorer_model.specs.declared.fault.LexFault.{LexFault}
use Rattle.explorer_model.specs.Items.{Item}
use Rattle.pgn_lex.specs.declared.spanned.SpannedParts.{SpannedParts}
use Rattle.pgn_lex.specs.declared.span.Span.{Span}
use Rattle.pgn_lex.specs.Items.{item_at, shape_at, begins_line, IsCut}
use Rattle.pgn_lex.specs.Spanned.{spanned_as}
use Rattle.pgn_lex.specs.Reading.{token_of}
use Rattle.pgn_lex.specs.Span.{token_in}

take_own : (n : ℕ) (xs : List ℕ) → take (length (take n xs)) xs ≡ take n xs
take_own zero xs = refl
take_own (suc n) [] = refl
take_own (suc n) (x ∷ xs) = ap (λ l. x ∷ l) (take_own n xs)

-- an item is cut from the text
pub cut_item : (text : List ℕ) (at : ℕ) → IsCut text (item_at at text)
unfolding item_at
cut_item text at = take_own ((shape_at (begins_line at text) (drop at text)).more + 1) (drop at text)

-- the span of an item is its token
pub span_is : (text : List ℕ) (item : Item) (span : Span) → IsCut text item → span.start ≡ item.place → span.end ≡ item.place + length item.text
    → token_in text span ≡ token_of item
span_is text item span cut start end =
    let count : span.end - span.start ≡ length item.text = omega (arith, start, end) in
    ap (λ n. token n (take (span.end - span.start) (drop n text))) start
    ∙ ap (λ n. token item.place (take n (drop item.place text))) count
    ∙ ap (token item.place) cut
  where
    token : ℕ → List ℕ → Token
    token place bytes = record { place = place; text = bytes }

pub pushed_span : (text : List ℕ) (item : Item) (span : Span) (spans more : List Span) → IsCut text item → span.start ≡ item.place
    → span.end ≡ item.place + length item.text → more ≡ spans ++ span ∷ []
    → map (token_in text) more ≡ map (token_in text) spans ++ token_of item ∷ []
pushed_span text item span spans more cut start end pushed =
    ap (map (token_in text)) pushed ∙ map-append (token_in text) spans (span ∷ [])
    ∙ ap (λ token. map (token_in text) spans ++ token ∷ []) (span_is text item span cut start end)

-- an spanned whose tokens are copied
pub copied : (text : List ℕ) (reading : Result Parts LexFault) (spanned : SpannedParts) (spans : List Span) (tokens : List Token)
    → reading ≡ Ok (spanned_as text spanned) → spans ≡ spanned.spans.items → tokens ≡ map (token_in text) spans
    → reading ≡ Ok (record { tags = spanned.tags; tokens = tokens; termination = spanned.termination })
copied text reading spanned spans tokens is same told =
    is ∙ ap (λ (tokens : List Token). Ok (let all : Parts = record { tags = spanned.tags; tokens = tokens; termination = spanned.termination } in all))
    (sym (told ∙ ap (map (token_in text)) same))
