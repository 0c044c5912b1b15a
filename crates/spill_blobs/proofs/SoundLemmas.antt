-- Rows that are looked at one after another.
use Rattle.std.proofs.Common.{◌≡◌, ◌↔◌, ℕ, zero, suc, ◌+◌, ◌-◌, ◌<◌, ◌≤◌, ◌⊎◌, inl, inr, Bool, true, false, ◌||◌, ◌&&◌, ◌==◌, IsTrue, List, [], ◌∷◌, ◌++◌, length, map, take, drop, get_or, Option, Some, None, refl, sym, ap, ◌∙◌, subst, arith, true≢false}
use Rattle.std.specs.Prelude.{IfOk, IfSome, Result, Ok, Err}
use Rattle.std.specs.List.{AllByRecursion, Contains, list_any, sum_by}
use Rattle.std.specs.List.Sorted.{IsStrictlySortedBy}
use Rattle.std.specs.declared.cmp.Ordering.{Ordering}
use Rattle.std.specs.declared.cmp.Ordering.TheVariants.{Less, Equal, Greater}
use Rattle.std.specs.Ordering.{is_lt}
use Rattle.std.proofs.lemmas.Bool.{and_from, and_parts, cases_eq}
use Rattle.std.proofs.lemmas.List.{get_or_default, take_more}
use Rattle.std.proofs.lemmas.List.Sums.{sum_by-cons, sum_by-append}
use Rattle.explorer_model.specs.declared.chess.Move.{Move}
use Rattle.explorer_model.specs.declared.chess.Role.{Role}
use Rattle.explorer_model.proofs.Squares.{square_eq}
use Rattle.std.specs.Option.{option_eq}
use Rattle.std.proofs.lemmas.Bool.Decides.{Decides-eqb}
use Rattle.plain_laws.specs.Orderings.{less-is}
use Rattle.explorer_model.specs.declared.chess.Position.{Position}
use Rattle.explorer_model.specs.Chess.{Legal}
use Rattle.explorer_model.specs.Tidy.{IsTidyKey}
use Rattle.tally_rows.specs.declared.row.Row.{Row}
use Rattle.tally_rows.specs.Row.{row_key_of}
use Rattle.tally_rows.specs.RowKey.{row_order, row_order-total}
use Rattle.best_lists.specs.Ranking.{before_by_rating, before_by_month}
use Rattle.spill_blobs.specs.SoundRows.{games_of, listed_of, numbers_in, AreDifferent, AreLegalMoves, AreSound, IsCounted, IsListOf, IsSoundRow}

-- ---- what holds of each

module _ {X : Type 0} (P : X → Type 0) where
  pub all-push : (xs : List X) (x : X) → AllByRecursion P xs → P x → AllByRecursion P (xs ++ x ∷ [])
  all-push [] x all one = (one, tt)
  all-push (y ∷ xs) x all one = (all.0, all-push xs x all.1 one)

  pub all-at : (xs : List X) (i : ℕ) (d : X) → i < length xs → AllByRecursion P xs → P (get_or xs i d)
  all-at [] i d inside all = absurd (omega arith)
  all-at (x ∷ xs) zero d inside all = all.0
  all-at (x ∷ xs) (suc i) d inside all = all-at xs i d (omega arith) all.1

  pub all-item : (xs : List X) (i : ℕ) (x : X) → i < length xs → x ≡ get_or xs i x → AllByRecursion P xs → P x
  all-item xs i x inside is all = subst P (sym is) (all-at xs i x inside all)

  -- of the first ones and one more
  pub all-next : (xs : List X) (i : ℕ) (x : X) → i < length xs → x ≡ get_or xs i x → AllByRecursion P (take i xs) → P x → AllByRecursion P (take (i + 1) xs)
  all-next xs i x inside is all one =
      subst (AllByRecursion P) (sym (take_more xs i x inside ∙ ap (λ y. take i xs ++ y ∷ []) (sym is))) (all-push (take i xs) x all one)

-- ---- order

pub less-not : (o : Ordering) → is_lt o ≡ false → o ≡ Less → ⊥
less-not Less e h = cc
less-not Equal e h = cc
less-not Greater e h = cc

-- each row stands before the next one
abbrev pub Steps : List Row → ℕ → Type 0
Steps rows n = (k : ℕ) (d : Row) → suc k < n → row_order (row_key_of (get_or rows k d)) (row_key_of (get_or rows (suc k) d)) ≡ Less

pub steps-order : (rows : List Row) → Steps rows (length rows) → IsStrictlySortedBy row_order (map row_key_of rows)
unfolding IsStrictlySortedBy
steps-order [] steps = tt
steps-order (row ∷ []) steps = (tt, tt)
steps-order (row ∷ next ∷ rows) steps =
    let first : row_order (row_key_of row) (row_key_of next) ≡ Less = steps 0 row (omega arith) in
    let rest = steps-order (next ∷ rows) (λ k d inside. steps (suc k) d (omega arith)) in
    ((first, behind rows first rest.0), rest)
  where
    behind : (rs : List Row) → row_order (row_key_of row) (row_key_of next) ≡ Less → AllByRecursion (λ y. row_order (row_key_of next) y ≡ Less) (map row_key_of rs)
        → AllByRecursion (λ y. row_order (row_key_of row) y ≡ Less) (map row_key_of rs)
    behind [] first all = tt
    behind (r ∷ rs) first all = (row_order-total.trans (row_key_of row) (row_key_of next) (row_key_of r) first all.0, behind rs first all.1)

pub order-steps : (rows : List Row) → IsStrictlySortedBy row_order (map row_key_of rows) → Steps rows (length rows)
unfolding IsStrictlySortedBy
order-steps [] sorted k d inside = absurd (omega arith)
order-steps (row ∷ []) sorted k d inside = absurd (omega arith)
order-steps (row ∷ next ∷ rows) sorted zero d inside = sorted.0.0
order-steps (row ∷ next ∷ rows) sorted (suc k) d inside = order-steps (next ∷ rows) sorted.1 k d (omega arith)

-- with one step more
pub steps-more : (rows : List Row) (n : ℕ) (before row : Row) → 1 ≤ n → n < length rows → before ≡ get_or rows (n - 1) before → row ≡ get_or rows n row
    → is_lt (row_order (row_key_of before) (row_key_of row)) ≡ true → Steps rows n → Steps rows (n + 1)
steps-more rows n before row some inside before_is row_is less steps k d within = by (cases_eq (suc k) n)
  where
    by : (suc k ≡ n) ⊎ (suc k ≡ n → ⊥) → row_order (row_key_of (get_or rows k d)) (row_key_of (get_or rows (suc k) d)) ≡ Less
    by (inl same) =
        let place : n - 1 ≡ k = omega (arith, same) in
        let one : before ≡ get_or rows k d = before_is ∙ get_or_default rows (n - 1) before d (omega (arith, inside)) ∙ ap (λ i. get_or rows i d) place in
        let two : row ≡ get_or rows (suc k) d = row_is ∙ get_or_default rows n row d inside ∙ ap (λ i. get_or rows i d) (sym same) in
        ap (λ (r : Row). row_order (row_key_of r) (row_key_of (get_or rows (suc k) d))) (sym one)
        ∙ ap (λ (r : Row). row_order (row_key_of before) (row_key_of r)) (sym two) ∙ less-is (row_order (row_key_of before) (row_key_of row)) less
    by (inr other) = steps k d (omega (arith, within, other))

-- a step that is none
pub order-broken : (rows : List Row) (n : ℕ) (before row : Row) → 1 ≤ n → n < length rows → before ≡ get_or rows (n - 1) before → row ≡ get_or rows n row
    → is_lt (row_order (row_key_of before) (row_key_of row)) ≡ false → IsStrictlySortedBy row_order (map row_key_of rows) → ⊥
order-broken rows n before row some inside before_is row_is less sorted =
    let next : suc (n - 1) ≡ n = omega (arith, some) in
    let two : row ≡ get_or rows (suc (n - 1)) before =
    row_is ∙ get_or_default rows n row before inside ∙ ap (λ i. get_or rows i before) (sym next) in
    less-not (row_order (row_key_of before) (row_key_of row)) less
    (ap (λ (r : Row). row_order (row_key_of r) (row_key_of row)) before_is
    ∙ ap (λ (r : Row). row_order (row_key_of (get_or rows (n - 1) before)) (row_key_of r)) two
    ∙ order-steps rows sorted (n - 1) before (omega (arith, some, inside)))

-- ---- sums

-- the games of rows are those of the first ones, of one more and of the others
pub games-split : (rows : List Row) (i : ℕ) (row : Row) → i < length rows → row ≡ get_or rows i row
    → sum_by games_of rows ≡ sum_by games_of (take i rows) + games_of row + sum_by games_of (drop (suc i) rows)
games-split [] i row inside is = absurd (omega arith)
games-split (r ∷ rows) zero row inside is = omega (arith, sum_by-cons games_of r rows, ap games_of is)
games-split (r ∷ rows) (suc i) row inside is =
    omega (arith, sum_by-cons games_of r rows, sum_by-cons games_of r (take i rows), games-split rows i row (omega arith) is)

pub games-next : (rows : List Row) (i : ℕ) (row : Row) → i < length rows → row ≡ get_or rows i row
    → sum_by games_of (take (i + 1) rows) ≡ sum_by games_of (take i rows) + games_of row
games-next rows i row inside is =
    ap (sum_by games_of) (take_more rows i row inside ∙ ap (λ y. take i rows ++ y ∷ []) (sym is))
    ∙ omega (arith, sum_by-append games_of (take i rows) (row ∷ []), sum_by-cons games_of row [])

-- ---- one row

module _ (at : Position) (n : ℕ) (moves : List Move) (row : Row) (legal : AreLegalMoves at moves) where
  legal-of : (next : Option Move) → IfSome next (λ m. Contains moves m) → IfSome next (λ m. Legal at m)
  legal-of None h = tt
  legal-of (Some m) h = (legal m).0 h

  contains-of : (next : Option Move) → IfSome next (λ m. Legal at m) → IfSome next (λ m. Contains moves m)
  contains-of None h = tt
  contains-of (Some m) h = (legal m).1 h

  -- whose move is none of these
  pub not-played : (IfSome row.next (λ m. Contains moves m) → ⊥) → IsSoundRow at n row → ⊥
  not-played off sound = off (contains-of row.next sound.legal)

  -- by what is listed
  pub listed-is : (b : Bool) → IsTidyKey at row.key → IsCounted row → IfSome row.next (λ m. Contains moves m)
      → IsTrue b ↔ (IsListOf before_by_rating n (listed_of row) row.top × IsListOf before_by_month n (listed_of row) row.recent)
      → IsTrue b ↔ IsSoundRow at n row
  listed-is b tidy counted played listed = (
    λ h. record { keyed = tidy; legal = legal-of row.next played; counted = counted; top = (listed.0 h).0; recent = (listed.0 h).1 },
    λ sound. listed.1 (sound.top, sound.recent),
  )

-- ---- all rows

pub legal-moves : (board at : Position) (items moves : List Move) → board ≡ at → moves ≡ items → ((m : Move) → Contains items m ↔ Legal board m)
    → AreLegalMoves at moves
legal-moves board at items moves board_is moves_are each =
    subst (λ (p : Position). AreLegalMoves p moves) board_is (subst (λ (ms : List Move). (m : Move) → Contains ms m ↔ Legal board m) (sym moves_are) each)

module _ (at : Position) (n : ℕ) where
  pub tops-below : (rows : List Row) → AllByRecursion (IsSoundRow at n) rows → AllByRecursion (λ row. AllByRecursion (λ entry. entry.number < n) row.top) rows
  tops-below [] all = tt
  tops-below (row ∷ rows) all = (all.0.top.numbers, tops-below rows all.1)

  pub recents-below : (rows : List Row) → AllByRecursion (IsSoundRow at n) rows
      → AllByRecursion (λ row. AllByRecursion (λ entry. entry.number < n) row.recent) rows
  recents-below [] all = tt
  recents-below (row ∷ rows) all = (all.0.recent.numbers, recents-below rows all.1)

  -- by whether the latest games are different
  pub sound-by : {E : Type 0} (rows : List Row) (result : Result Bool E) → IsStrictlySortedBy row_order (map row_key_of rows)
      → AllByRecursion (IsSoundRow at n) rows → sum_by games_of rows ≤ n → AreDifferent (numbers_in (λ row. row.top) rows)
      → IfOk result (λ different. IsTrue different ↔ AreDifferent (numbers_in (λ row. row.recent) rows))
      → IfOk result (λ sound. IsTrue sound ↔ AreSound at n rows)
  sound-by rows (Ok different) ordered each few tops recents = (
    λ h. record { ordered = ordered; each = each; few = few; tops = tops; recents = recents.0 h },
    λ sound. recents.1 sound.recents,
  )
  sound-by rows (Err e) ordered each few tops recents = tt

-- ---- tests of moves

-- some move passes a test that only this one does
pub any-contains : (test : Move → Bool) (m : Move) → ((y : Move) → IsTrue (test y) ↔ (y ≡ m)) → (moves : List Move)
    → IsTrue (list_any test moves) ↔ Contains moves m
any-contains test m only [] = (λ h. absurd (true≢false (sym h)), λ h. absurd (omega (arith, h.1)))
any-contains test m only (y ∷ moves) = (let rest = any-contains test m only moves in (there (test y) refl rest.0, back rest.1))
  where
    there : (b : Bool) → test y ≡ b → (IsTrue (list_any test moves) → Contains moves m) → IsTrue (b || list_any test moves) → Contains (y ∷ moves) m
    there true is rest h = (0, omega arith, (only y).0 is)
    there false is rest h = (let later = rest h in (suc later.0, omega (arith, later.1), later.2))

    or-right : (b c : Bool) → IsTrue c → IsTrue (b || c)
    or-right true c h = refl
    or-right false c h = h

    or-left : (b c : Bool) → IsTrue b → IsTrue (b || c)
    or-left true c h = refl
    or-left false c h = absurd (true≢false (sym h))

    back : (Contains moves m → IsTrue (list_any test moves)) → Contains (y ∷ moves) m → IsTrue (test y || list_any test moves)
    back rest (zero, below, is) = or-left (test y) (list_any test moves) ((only y).1 is)
    back rest (suc k, below, is) = or-right (test y) (list_any test moves) (rest (k, omega (arith, below), is))

-- moves are the same where squares and promotions are
module _ (test : Role → Role → Bool) (same : (a b : Role) → (IsTrue (test a b) → a ≡ b) × (a ≡ b → IsTrue (test a b))) where
  option-same : (a b : Option Role) → IsTrue (option_eq test a b) → a ≡ b
  option-same None None h = refl
  option-same None (Some b) h = absurd (true≢false (sym h))
  option-same (Some a) None h = absurd (true≢false (sym h))
  option-same (Some a) (Some b) h = ap Some ((same a b).0 h)

  option-itself : (a : Option Role) → IsTrue (option_eq test a a)
  option-itself None = refl
  option-itself (Some a) = (same a a).1 refl

  abbrev is_same : Move → Move → Bool
  is_same m n = (m.from.index == n.from.index) && ((m.to.index == n.to.index) && option_eq test m.promotion n.promotion)

  pub same-move : (m n : Move) → (IsTrue (is_same m n) → m ≡ n) × (m ≡ n → IsTrue (is_same m n))
  same-move m n = (one, λ e. subst (λ (k : Move). IsTrue (is_same m k)) e itself)
    where
      one : IsTrue (is_same m n) → m ≡ n
      one h =
          let first = and_parts (m.from.index == n.from.index) ((m.to.index == n.to.index) && option_eq test m.promotion n.promotion) h in
          let second = and_parts (m.to.index == n.to.index) (option_eq test m.promotion n.promotion) first.1 in
          let from : m.from ≡ n.from = square_eq m.from n.from ((Decides-eqb m.from.index n.from.index).0 first.0) in
          let to : m.to ≡ n.to = square_eq m.to n.to ((Decides-eqb m.to.index n.to.index).0 second.0) in
          let promotion : m.promotion ≡ n.promotion = option-same m.promotion n.promotion second.1 in
          λ i. record { from = from i; to = to i; promotion = promotion i }

      itself : IsTrue (is_same m m)
      itself =
          and_from (m.from.index == m.from.index) ((m.to.index == m.to.index) && option_eq test m.promotion m.promotion)
          ((Decides-eqb m.from.index m.from.index).1 refl)
          (and_from (m.to.index == m.to.index) (option_eq test m.promotion m.promotion) ((Decides-eqb m.to.index m.to.index).1 refl) (option-itself m.promotion))
