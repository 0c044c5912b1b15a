-- One entry more of singles, and one single more that entries pick.
use Rattle.std.proofs.Common.{◌≡◌, ℕ, ◌+◌, ◌<◌, List, [], ◌∷◌, ◌++◌, length, take, get_or, sym, ap, subst, ◌∙◌, arith}
use Rattle.std.specs.List.{All}
use Rattle.std.proofs.lemmas.List.{map-append, take_more, get_or_read}
use Rattle.std.proofs.lemmas.List.Elements.{All-push}
use Rattle.tally_rows.specs.declared.single.Single.{Single}
use Rattle.tally_rows.specs.declared.sort_entry.SortEntry.{SortEntry}
use Rattle.tally_rows.specs.SortEntry.{picked, IsEntryIn, Tells}

module _ (singles : List Single) (entries : List SortEntry) (i : ℕ) (s : Single) (e : SortEntry)
    (below : i < length singles) (is : s ≡ get_or singles i s) (place : e.at ≡ i) where
  pub all_more : ((other : Single) → picked singles entries other ≡ take i singles)
      → (other : Single) → picked singles (entries ++ e ∷ []) other ≡ take (i + 1) singles
  all_more all other =
      let chosen : SortEntry → Single = λ x. get_or singles x.at other in
      map-append chosen entries (e ∷ [])
      ∙ (λ k. all other k ++ get_or singles (place k) other ∷ [])
      ∙ sym (take_more singles i other below)

  pub told_more : Tells e s.row_key → ((other : Single) → All (IsEntryIn singles other) entries)
      → (other : Single) → All (IsEntryIn singles other) (entries ++ e ∷ [])
  told_more tells told other =
      let here : s ≡ get_or singles e.at other =
      get_or_read singles i s below is other ∙ ap (λ (k : ℕ). get_or singles k other) (sym place) in
      All-push (IsEntryIn singles other) entries e (told other)
      (omega arith, subst (λ (x : Single). Tells e x.row_key) here tells)
