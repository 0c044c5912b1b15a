-- The entries of games: of two lists in a row, of games that stand later, and where no game passes.
use Rattle.std.proofs.Common.{◌≡◌, ℕ, ◌+◌, Bool, true, false, cond, List, [], ◌∷◌, ◌++◌, map, length, refl, sym, ap, ◌∙◌, append_assoc, arith}
use Rattle.std.specs.List.{AllByRecursion, sum_by, count_by, filter, enumerate_from}
use Rattle.best_lists.specs.Entry.{moved_by}
use Rattle.best_lists.specs.declared.entry.Entry.{Entry}
use Rattle.tally_rows.specs.Tallied.{entries}
use Rattle.tally_rows.specs.Track.{Track}
use Rattle.tally_rows.proofs.Sums.{sum_by-map, sum_by-filter}

-- a game as it is listed
abbrev pub entry_of : (Track → ℕ) → ℕ → Track → Entry
entry_of rank number track = record { rank = rank track; number = number }

module _ (rank : Track → ℕ) (test : Track → Bool) where
  pub entries-nil : (n : ℕ) → entries rank test n [] ≡ []
  unfolding entries
  entries-nil n = refl

  pub entries-cons : (n : ℕ) (t : Track) (ts : List Track)
      → entries rank test n (t ∷ ts) ≡ cond (test t) (entry_of rank n t ∷ []) [] ++ entries rank test (n + 1) ts
  unfolding entries
  entries-cons n t ts =
      elim (test t) as (λ b. map (λ p. entry_of rank p.0 p.1) (cond b ((n, t) ∷ filter (λ p. test p.1) (enumerate_from (n + 1) ts)) (filter (λ p. test p.1) (enumerate_from (n + 1) ts)))
      ≡ cond b (entry_of rank n t ∷ []) [] ++ map (λ p. entry_of rank p.0 p.1) (filter (λ p. test p.1) (enumerate_from (n + 1) ts))) [
        | true ↦ refl
        | false ↦ refl
      ]

  pub entries-append : (n : ℕ) (xs ys : List Track)
      → entries rank test n (xs ++ ys) ≡ entries rank test n xs ++ entries rank test (n + length xs) ys
  entries-append n [] ys =
      ap (λ m. entries rank test m ys) (omega arith) ∙ ap (λ l. l ++ entries rank test (n + 0) ys) (sym (entries-nil n))
  entries-append n (x ∷ xs) ys =
      let first = cond (test x) (entry_of rank n x ∷ []) [] in
      let later : n + 1 + length xs ≡ n + length (x ∷ xs) = omega arith in
      entries-cons n x (xs ++ ys) ∙ ap (λ l. first ++ l) (entries-append (n + 1) xs ys)
      ∙ sym (append_assoc first (entries rank test (n + 1) xs) (entries rank test (n + 1 + length xs) ys))
      ∙ ap (λ l. l ++ entries rank test (n + 1 + length xs) ys) (sym (entries-cons n x xs))
      ∙ ap (λ m. entries rank test n (x ∷ xs) ++ entries rank test m ys) later

  -- games that stand later have the same entries, moved
  pub entries-moved : (by n : ℕ) (ts : List Track) → entries rank test (n + by) ts ≡ map (moved_by by) (entries rank test n ts)
  entries-moved by n [] = entries-nil (n + by) ∙ ap (map (moved_by by)) (sym (entries-nil n))
  entries-moved by n (t ∷ ts) =
      let next : n + by + 1 ≡ n + 1 + by = omega arith in
      let rest = entries rank test (n + 1) ts in
      entries-cons (n + by) t ts ∙ ap (λ m. cond (test t) (entry_of rank (n + by) t ∷ []) [] ++ entries rank test m ts) next
      ∙ ap (λ l. cond (test t) (entry_of rank (n + by) t ∷ []) [] ++ l) (entries-moved by (n + 1) ts)
      ∙ elim (test t) as (λ b. cond b (entry_of rank (n + by) t ∷ []) [] ++ map (moved_by by) rest
      ≡ map (moved_by by) (cond b (entry_of rank n t ∷ []) [] ++ rest)) [ true ↦ refl | false ↦ refl ]
      ∙ ap (map (moved_by by)) (sym (entries-cons n t ts))

  pub entries-none : (n : ℕ) (ts : List Track) → AllByRecursion (λ t. test t ≡ false) ts → entries rank test n ts ≡ []
  entries-none n [] h = entries-nil n
  entries-none n (t ∷ ts) h =
      entries-cons n t ts ∙ ap (λ b. cond b (entry_of rank n t ∷ []) [] ++ entries rank test (n + 1) ts) h.0 ∙ entries-none (n + 1) ts h.1

  -- what is counted of the entries is counted of the games
  pub count-entries : (p : Entry → Bool) (n : ℕ) (ts : List Track)
      → count_by p (entries rank test n ts) ≡ sum_by (λ q. cond (test q.1) (cond (p (entry_of rank q.0 q.1)) 1 0) 0) (enumerate_from n ts)
  unfolding entries
  count-entries p n ts =
      sum_by-map (λ e. cond (p e) 1 0) (λ q. entry_of rank q.0 q.1) (filter (λ q. test q.1) (enumerate_from n ts))
      ∙ sum_by-filter (λ q. cond (p (entry_of rank q.0 q.1)) 1 0) (λ q. test q.1) (enumerate_from n ts)
