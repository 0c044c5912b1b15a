-- What marks tell at a place and behind it.
use Rattle.std.proofs.Common.{◌≡◌, ℕ, List, ◌∷◌, Some, None, drop, subst}
use Rattle.explorer_model.specs.declared.archive.Outcome.{Outcome}
use Rattle.tally_rows.specs.declared.row.Row.{Row}
use Rattle.tally_rows.specs.Row.{row_of}
use Rattle.segment_blocks.specs.declared.mark.Mark.{Mark}
use Rattle.segment_blocks.specs.Encoded.{own_len, key_behind, single_of, rows_behind, IsFilled}
use Rattle.segment_blocks.specs.Prefix.{TellShared, TellSharedBehind}
use Rattle.segment_blocks.proofs.EncodedLemmas.{rows_behind-game, rows_behind-whole, key-game, IsFilled-game, IsFilled-whole}

module _ (mark : Mark) (all marks : List Mark) (is : all ≡ mark ∷ marks) (before tails : List ℕ) (whole : List Row) where
  module _ (outcome : Outcome) (e : mark.outcome ≡ Some outcome) where
    abbrev own_key : List ℕ
    own_key = key_behind before mark tails

    abbrev own_rest : List Row
    own_rest = rows_behind marks own_key (drop (own_len mark) tails) whole

    abbrev own_row : Row
    own_row = row_of (single_of own_key mark outcome)

    split : rows_behind all before tails whole ≡ own_row ∷ own_rest
    split = rows_behind-game mark all marks before tails whole is outcome e

    -- what is left behind the row, as its key and the ends behind its own are told
    module _ (new ends : List ℕ) (key_is : own_key ≡ new) (ends_are : drop (own_len mark) tails ≡ ends) where
      pub filled-game : IsFilled all tails whole → IsFilled marks ends whole
      filled-game h = subst (λ t. IsFilled marks t whole) ends_are (IsFilled-game mark marks tails whole outcome e (subst (λ m. IsFilled m tails whole) is h))

      pub told-game : TellSharedBehind all (rows_behind all before tails whole) → TellShared new marks (rows_behind marks new ends whole)
      told-game h =
          let here : TellSharedBehind (mark ∷ marks) (own_row ∷ own_rest) = subst (λ m. TellSharedBehind m (own_row ∷ own_rest)) is (subst (λ r. TellSharedBehind all r) split h) in
          let own : TellShared own_key marks own_rest = subst (λ k. TellShared k marks own_rest) (key-game own_key mark outcome) here in
          subst (λ t. TellShared new marks (rows_behind marks new t whole)) ends_are
          (subst (λ k. TellShared k marks (rows_behind marks k (drop (own_len mark) tails) whole)) key_is own)

  module _ (row : Row) (others : List Row) (e : mark.outcome ≡ None) (whole_is : whole ≡ row ∷ others) where
    pub filled-whole : IsFilled all tails whole → IsFilled marks tails others
    filled-whole h =
        IsFilled-whole mark marks tails row others e (subst (λ w. IsFilled (mark ∷ marks) tails w) whole_is (subst (λ m. IsFilled m tails whole) is h))

    pub told-whole : TellSharedBehind all (rows_behind all before tails whole) → TellShared row.key marks (rows_behind marks row.key tails others)
    told-whole h =
        let rest : List Row = rows_behind marks row.key tails others in
        let cut = rows_behind-whole mark all marks before tails whole is row others e whole_is in
        let here : TellSharedBehind (mark ∷ marks) (row ∷ rest) = subst (λ m. TellSharedBehind m (row ∷ rest)) is (subst (λ r. TellSharedBehind all r) cut h) in
        here
