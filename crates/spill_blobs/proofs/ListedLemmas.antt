-- The best entries of games: how many they are, what holds of each, and that no number stands twice.
use Rattle.std.proofs.Common.{◌≡◌, ◌≢◌, ℕ, zero, suc, ◌+◌, ◌<◌, min, Bool, true, false, cond, if◌then◌else◌, List, [], ◌∷◌, ◌++◌, length, Some, refl, sym, ap, ◌∙◌, subst, arith}
use Rattle.std.specs.Prelude.{slice_get}
use Rattle.std.specs.List.{AllByRecursion, count_by}
use Rattle.std.proofs.lemmas.List.Sums.{sum_by-cons}
use Rattle.best_lists.specs.declared.entry.Entry.{Entry}
use Rattle.explorer_model.specs.Best.{best, best_one, others, better}
use Rattle.tally_rows.specs.Tallied.{entries}
use Rattle.tally_rows.specs.Track.{Track}
use Rattle.tally_rows.proofs.EntryLists.{entries-nil, entries-cons, entry_of}

-- ---- lists of entries without a number twice

abbrev pub Apart : List Entry → Type 0
Apart [] = Unit {0}
Apart (x ∷ xs) = AllByRecursion (λ y. x.number ≢ y.number) xs × Apart xs

module _ (before : Entry → Entry → Bool) where
  length-others : (x : Entry) (xs : List Entry) → length (others before x xs) ≡ length xs
  unfolding others
  length-others x [] = refl
  length-others x (y ∷ ys) = ap suc (length-others (better before x y) ys)

  pub length-best : (n : ℕ) (xs : List Entry) → length (best before n xs) ≡ min n (length xs)
  unfolding best
  length-best zero xs = omega arith
  length-best (suc n) [] = omega arith
  length-best (suc n) (x ∷ xs) = omega (arith, length-best n (others before x xs), length-others x xs)

  module _ (P : Entry → Type 0) where
    pick-holds : (b : Bool) (x y : Entry) → P x → P y → P (if b then y else x) × P (if b then x else y)
    pick-holds true x y p q = (q, p)
    pick-holds false x y p q = (p, q)

    pub split-holds : (x : Entry) (xs : List Entry) → P x → AllByRecursion P xs → P (best_one before x xs) × AllByRecursion P (others before x xs)
    unfolding best_one others
    split-holds x [] p all = (p, tt)
    split-holds x (y ∷ ys) p all =
        let two = pick-holds (before y x) x y p all.0 in
        let rest = split-holds (better before x y) ys two.0 all.1 in
        (rest.0, (two.1, rest.1))

    pub best-holds : (n : ℕ) (xs : List Entry) → AllByRecursion P xs → AllByRecursion P (best before n xs)
    unfolding best
    best-holds zero xs all = tt
    best-holds (suc n) [] all = tt
    best-holds (suc n) (x ∷ xs) all =
        let split = split-holds x xs all.0 all.1 in
        (split.0, best-holds n (others before x xs) split.1)

  split-apart : (x : Entry) (xs : List Entry) → Apart (x ∷ xs) → Apart (best_one before x xs ∷ others before x xs)
  unfolding best_one others
  split-apart x [] apart = apart
  split-apart x (y ∷ ys) apart = by (λ a h. split-apart a ys h) (before y x)
    where
      step : ((a : Entry) → Apart (a ∷ ys) → Apart (best_one before a ys ∷ others before a ys)) → (a b : Entry) → a.number ≢ b.number → AllByRecursion (λ z. a.number ≢ z.number) ys → AllByRecursion (λ z. b.number ≢ z.number) ys → Apart ys
          → Apart (best_one before a ys ∷ (b ∷ others before a ys))
      step again a b differ a_all b_all rest =
          let later = again a (a_all, rest) in
          let behind = split-holds (λ z. b.number ≢ z.number) a ys (λ e. differ (sym e)) b_all in
          ((λ e. behind.0 (sym e), later.0), (behind.1, later.1))

      by : ((a : Entry) → Apart (a ∷ ys) → Apart (best_one before a ys ∷ others before a ys)) → (b : Bool)
          → Apart (best_one before (if b then y else x) ys ∷ ((if b then x else y) ∷ others before (if b then y else x) ys))
      by again true = step again y x (λ e. apart.0.0 (sym e)) apart.1.0 apart.0.1 apart.1.1
      by again false = step again x y apart.0.0 apart.0.1 apart.1.0 apart.1.1

  pub best-apart : (n : ℕ) (xs : List Entry) → Apart xs → Apart (best before n xs)
  unfolding best
  best-apart zero xs apart = tt
  best-apart (suc n) [] apart = tt
  best-apart (suc n) (x ∷ xs) apart =
      let split = split-apart x xs apart in
      (best-holds (λ y. (best_one before x xs).number ≢ y.number) n (others before x xs) split.0, best-apart n (others before x xs) split.1)

-- ---- the entries of games

module _ (rank : Track → ℕ) (test : Track → Bool) where
  abbrev pub IsGame : ℕ → List Track → Entry → Type 0
  IsGame n tracks entry = (k : ℕ) × (t : Track) × (entry.number ≡ n + k) × (slice_get tracks k ≡ Some t) × (test t ≡ true)

  later-game : (n : ℕ) (t : Track) (ts : List Track) (xs : List Entry) → AllByRecursion (IsGame (n + 1) ts) xs → AllByRecursion (IsGame n (t ∷ ts)) xs
  later-game n t ts [] all = tt
  later-game n t ts (x ∷ xs) all =
      ((suc all.0.0, all.0.1, omega (arith, all.0.2), all.0.3, all.0.4), later-game n t ts xs all.1)

  -- each is of a game that passes
  pub entries-games : (n : ℕ) (ts : List Track) → AllByRecursion (IsGame n ts) (entries rank test n ts)
  entries-games n [] = subst (AllByRecursion (IsGame n [])) (sym (entries-nil rank test n)) tt
  entries-games n (t ∷ ts) =
      subst (AllByRecursion (IsGame n (t ∷ ts))) (sym (entries-cons rank test n t ts))
      (by (later-game n t ts (entries rank test (n + 1) ts) (entries-games (n + 1) ts)) (test t) refl)
    where
      by : AllByRecursion (IsGame n (t ∷ ts)) (entries rank test (n + 1) ts) → (b : Bool) → test t ≡ b
          → AllByRecursion (IsGame n (t ∷ ts)) (cond b (entry_of rank n t ∷ []) [] ++ entries rank test (n + 1) ts)
      by rest true is = ((0, t, omega arith, refl, is), rest)
      by rest false is = rest

  -- their numbers rise
  from-least : (n m : ℕ) (ts : List Track) → m < n → AllByRecursion (λ (y : Entry). m ≢ y.number) (entries rank test n ts)
  from-least n m ts less = each (entries rank test n ts) (entries-games n ts)
    where
      each : (xs : List Entry) → AllByRecursion (IsGame n ts) xs → AllByRecursion (λ (y : Entry). m ≢ y.number) xs
      each [] all = tt
      each (x ∷ xs) all = (λ e. absurd (omega (arith, e, all.0.2)), each xs all.1)

  pub entries-apart : (n : ℕ) (ts : List Track) → Apart (entries rank test n ts)
  entries-apart n [] = subst Apart (sym (entries-nil rank test n)) tt
  entries-apart n (t ∷ ts) = subst Apart (sym (entries-cons rank test n t ts)) (by (entries-apart (n + 1) ts) (test t))
    where
      by : Apart (entries rank test (n + 1) ts) → (b : Bool) → Apart (cond b (entry_of rank n t ∷ []) [] ++ entries rank test (n + 1) ts)
      by rest true = (from-least (n + 1) n ts (omega arith), rest)
      by rest false = rest

  pub length-entries : (n : ℕ) (ts : List Track) → length (entries rank test n ts) ≡ count_by test ts
  length-entries n [] = ap length (entries-nil rank test n)
  length-entries n (t ∷ ts) =
      ap length (entries-cons rank test n t ts) ∙ by (length-entries (n + 1) ts) (test t) ∙ sym (sum_by-cons (λ s. cond (test s) 1 0) t ts)
    where
      by : length (entries rank test (n + 1) ts) ≡ count_by test ts → (b : Bool)
          → length (cond b (entry_of rank n t ∷ []) [] ++ entries rank test (n + 1) ts) ≡ cond b 1 0 + count_by test ts
      by rest true = omega (arith, rest)
      by rest false = omega (arith, rest)
