-- What is read of a file of the first format is one thing.
use Rattle.std.proofs.Common.{◌≡◌, inl, inr, ℕ, ◌+◌, List, [], ◌∷◌, ◌++◌, length, sum_by, Option, Some, IfSome, refl, sym, ap, ◌∙◌, subst, arith, append_assoc, length-append}
use Rattle.std.proofs.lemmas.Grind.{flat_map-append}
use Rattle.std.proofs.lemmas.List.Sums.{sum_by-append}
use Rattle.plain_laws.specs.Options.{IfSome-at}
use Rattle.plain_laws.specs.Results.{Ok-Err, same_Err, same_Ok}
use Rattle.explorer_model.specs.declared.archive.Batch.{Batch}
use Rattle.explorer_model.specs.declared.store.LogFault.{LogFault}
use Rattle.explorer_model.specs.declared.store.LogFault.TheVariants.{NotALog, OtherFormat, Damaged}
use Rattle.explorer_model.specs.StoreFile.{first_journal_of}
use Rattle.explorer_model.specs.Visits.{texts_of}
use Rattle.manifest.specs.First.{first_store_of, HasFirstJournal, IsWithinFirst, IsWrongFirst, PassesAt, PassesFirst}

pub one-journal : (file : List ℕ) (journal other : List Batch) → HasFirstJournal journal file → HasFirstJournal other file → journal ≡ other
one-journal file journal other is also = same_Ok (first_journal_of file) journal other is also

-- ---- where the limits are passed

texts-of-both : (front back : List Batch) → texts_of (front ++ back) ≡ texts_of front ++ texts_of back
texts-of-both front back = flat_map-append (λ (b : Batch). b.texts) front back

-- a front has no more than the whole
within-front : (front back : List Batch) → IsWithinFirst (front ++ back) → IsWithinFirst front
within-front front back within =
    let both = texts-of-both front back in
    let games = ap (λ (l : List (List ℕ)). length l) both ∙ length-append (texts_of front) (texts_of back) in
    let bytes =
    ap (λ (l : List (List ℕ)). sum_by (λ (text : List ℕ). length text) l) both
    ∙ sum_by-append (λ (text : List ℕ). length text) (texts_of front) (texts_of back) in
    (omega (arith, within.0, games), omega (arith, within.1, bytes))

-- of a list one front alone is the longest that has W, where each front of what has it has it too
one-front : (W : List Batch → Type 0) → ((front back : List Batch) → W (front ++ back) → W front)
    → (before before' : List Batch) (batch batch' : Batch) (rest rest' : List Batch)
    → before ++ batch ∷ rest ≡ before' ++ batch' ∷ rest' → W before → (W (before ++ batch ∷ []) → ⊥)
    → W before' → (W (before' ++ batch' ∷ []) → ⊥) → before ≡ before'
one-front W closed [] [] batch batch' rest rest' same within over within' over' = refl
one-front W closed [] (c ∷ before') batch batch' rest rest' same within over within' over' =
    let one : c ≡ batch = cc (same) in
    absurd (over (subst (λ (b : Batch). W (b ∷ [])) one (closed (c ∷ []) before' within')))
one-front W closed (c ∷ before) [] batch batch' rest rest' same within over within' over' =
    let one : c ≡ batch' = cc (same) in
    absurd (over' (subst (λ (b : Batch). W (b ∷ [])) one (closed (c ∷ []) before within)))
one-front W closed (c ∷ before) (c' ∷ before') batch batch' rest rest' same within over within' over' =
    let one : c' ≡ c = cc (same) in
    let others : before ++ batch ∷ rest ≡ before' ++ batch' ∷ rest' = cc (same) in
    ap (λ (l : List Batch). c ∷ l)
    (one-front (λ l. W (c ∷ l)) (λ front back. closed (c ∷ front) back) before before' batch batch' rest rest' others within over
    (subst (λ (b : Batch). W (b ∷ before')) one within')
    (λ more. over' (subst (λ (b : Batch). W (b ∷ (before' ++ batch' ∷ []))) (sym one) more)))
    ∙ ap (λ (b : Batch). b ∷ before') (sym one)

passes-one : (journal : List Batch) (gate other : ℕ) → PassesFirst journal gate → PassesFirst journal other → gate ≡ other
passes-one journal gate other one two =
    let same = one-front IsWithinFirst within-front one.before two.before one.batch two.batch one.rest two.rest
    (sym one.is ∙ two.is) one.within one.over two.within two.over in
    one.place ∙ ap (λ (l : List Batch). length (first_store_of l)) same ∙ sym two.place

passes-at-one : (journal : List Batch) (fault other : LogFault) → PassesAt journal fault → PassesAt journal other → fault ≡ other
passes-at-one journal (Damaged gate) (Damaged other) one two =
    let damaged : ℕ → LogFault = λ g. Damaged g in ap damaged (passes-one journal gate other one two)
passes-at-one journal (Damaged gate) NotALog one two = absurd two
passes-at-one journal (Damaged gate) (OtherFormat number) one two = absurd two
passes-at-one journal NotALog other one two = absurd one
passes-at-one journal (OtherFormat number) other one two = absurd one

-- ---- one fault

wrong-one : (file : List ℕ) (fault other : LogFault) → IsWrongFirst fault file → IsWrongFirst other file → fault ≡ other
wrong-one file fault other (inl one) (inl two) = same_Err (first_journal_of file) fault other one two
wrong-one file fault other (inl one) (inr two) = absurd (Ok-Err (first_journal_of file) two.0 fault two.1 one)
wrong-one file fault other (inr one) (inl two) = absurd (Ok-Err (first_journal_of file) one.0 other one.1 two)
wrong-one file fault other (inr one) (inr two) =
    let same = one-journal file one.0 two.0 one.1 two.1 in
    passes-at-one two.0 fault other (subst (λ (l : List Batch). PassesAt l fault) same one.2) two.2

passes-not-within : (journal : List Batch) (fault : LogFault) → IsWithinFirst journal → PassesAt journal fault → ⊥
passes-not-within journal (Damaged gate) within passes =
    let split : journal ≡ (passes.before ++ passes.batch ∷ []) ++ passes.rest =
    passes.is ∙ sym (append_assoc passes.before (passes.batch ∷ []) passes.rest) in
    passes.over (within-front (passes.before ++ passes.batch ∷ []) passes.rest (subst IsWithinFirst split within))
passes-not-within journal NotALog within passes = passes
passes-not-within journal (OtherFormat number) within passes = passes

not-wrong : (file : List ℕ) (journal : List Batch) (fault : LogFault) → HasFirstJournal journal file → IsWithinFirst journal
    → IsWrongFirst fault file → ⊥
not-wrong file journal fault has within (inl one) = Ok-Err (first_journal_of file) journal fault has one
not-wrong file journal fault has within (inr one) =
    let same = one-journal file one.0 journal one.1 has in
    passes-not-within journal fault within (subst (λ (l : List Batch). PassesAt l fault) same one.2)

module _ (content : Option (List ℕ)) (file : List ℕ) (told : content ≡ Some file) where
  pub one-fault : (fault other : LogFault) → IfSome content (IsWrongFirst fault) → IfSome content (IsWrongFirst other) → fault ≡ other
  one-fault fault other one two =
      wrong-one file fault other (IfSome-at (IsWrongFirst fault) content file told one) (IfSome-at (IsWrongFirst other) content file told two)

  pub read-or-wrong : (journal : List Batch) (fault : LogFault) → HasFirstJournal journal file → IsWithinFirst journal
      → IfSome content (IsWrongFirst fault) → ⊥
  read-or-wrong journal fault has within wrong =
      not-wrong file journal fault has within (IfSome-at (IsWrongFirst fault) content file told wrong)
