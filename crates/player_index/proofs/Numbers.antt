-- The numbers of a player's games, as entries have them.
use Rattle.std.proofs.Common.{◌≡◌, ℕ, zero, suc, ◌+◌, ◌<◌, ◌≤◌, Bool, true, false, if◌then◌else◌, List, [], ◌∷◌, ◌++◌, length, take, drop, get_or, map, filter, Some, refl, sym, ap, ◌∙◌, arith}
use Rattle.std.specs.declared.cmp.Ordering.{Ordering}
use Rattle.std.specs.declared.cmp.Ordering.TheVariants.{Less, Equal, Greater}
use Rattle.std.specs.List.{slice_get}
use Rattle.std.specs.Cmp.Lexicographic.{slice_cmp}
use Rattle.std.specs.Ordering.{nat_cmp, ordering_then, is_eq}
use Rattle.std.specs.Str.{bytes_eq}
use Rattle.std.proofs.lemmas.List.{append_assoc, length_push}
use Rattle.std.proofs.lemmas.Map.Text.{is_eq-slice_cmp}
use Rattle.plain_laws.specs.Lists.{get-between}
use Rattle.explorer_model.specs.declared.archive.Classes.{Classes}
use Rattle.explorer_model.specs.declared.chess.Color.{Color}
use Rattle.explorer_model.specs.declared.chess.Color.TheVariants.{White, Black}
use Rattle.explorer_model.specs.Players.{plays_as}
use Rattle.player_index.specs.declared.entry.Entry.{Entry}
use Rattle.player_index.specs.Entries.{folded, numbers_where, seat_order, seat_by, name_in, is_at, entry, entries_from}

-- ---- what a test keeps that holds in one run

module _ {X : Type 0} (p : X → Bool) where
  kept-none : (xs : List X) → ((k : ℕ) (d : X) → k < length xs → p (get_or xs k d) ≡ false) → filter p xs ≡ []
  kept-none [] h = refl
  kept-none (x ∷ xs) h =
      ap (λ b. if b then x ∷ filter p xs else filter p xs) (h 0 x (omega arith)) ∙ kept-none xs (λ k d less. h (suc k) d (omega arith))

  pub kept-behind : (n : ℕ) (xs : List X) → ((k : ℕ) (d : X) → k < n → k < length xs → p (get_or xs k d) ≡ false) → filter p xs ≡ filter p (drop n xs)
  kept-behind zero xs h = refl
  kept-behind (suc n) [] h = refl
  kept-behind (suc n) (x ∷ xs) h =
      ap (λ b. if b then x ∷ filter p xs else filter p xs) (h 0 x (omega arith) (omega arith))
      ∙ kept-behind n xs (λ k d less within. h (suc k) d (omega arith) (omega arith))

  pub kept-front : (n : ℕ) (xs : List X) → ((k : ℕ) (d : X) → k < n → k < length xs → p (get_or xs k d) ≡ true)
      → ((k : ℕ) (d : X) → n ≤ k → k < length xs → p (get_or xs k d) ≡ false) → filter p xs ≡ take n xs
  kept-front zero xs h none = kept-none xs (λ k d less. none k d (omega arith) less)
  kept-front (suc n) [] h none = refl
  kept-front (suc n) (x ∷ xs) h none =
      ap (λ b. if b then x ∷ filter p xs else filter p xs) (h 0 x (omega arith) (omega arith))
      ∙ ap (λ l. x ∷ l) (kept-front n xs (λ k d less within. h (suc k) d (omega arith) (omega arith)) (λ k d less within. none (suc k) d (omega arith) (omega arith)))

-- ---- the entries of a seat

then-greater : (o : Ordering) → is_eq (ordering_then o Greater) ≡ false
then-greater Less = refl
then-greater Equal = refl
then-greater Greater = refl

then-less : (o : Ordering) → is_eq (ordering_then o Less) ≡ false
then-less Less = refl
then-less Equal = refl
then-less Greater = refl

then-equal : (o : Ordering) → is_eq (ordering_then o Equal) ≡ is_eq o
then-equal Less = refl
then-equal Equal = refl
then-equal Greater = refl

seat-own : (name player : List ℕ) (color : Color) → is_eq (seat_order (seat_by name color) (seat_by player color)) ≡ bytes_eq (folded name) (folded player)
seat-own name player White = then-equal (slice_cmp nat_cmp (folded name) (folded player)) ∙ is_eq-slice_cmp (folded name) (folded player)
seat-own name player Black = then-equal (slice_cmp nat_cmp (folded name) (folded player)) ∙ is_eq-slice_cmp (folded name) (folded player)

-- of the two entries of a game
module _ (all : List Classes) (classes : Classes) (number : ℕ) (here : slice_get all number ≡ Some classes) (player : List ℕ) where
  at-own : (color : Color) → is_at all (seat_by player color) (entry number color) ≡ plays_as player color classes
  at-own White = ap (λ o. is_eq (seat_order (seat_by (name_in White o) White) (seat_by player White))) here ∙ seat-own classes.white.name player White
  at-own Black = ap (λ o. is_eq (seat_order (seat_by (name_in Black o) Black) (seat_by player Black))) here ∙ seat-own classes.black.name player Black

  at-white : is_at all (seat_by player White) (entry number Black) ≡ false
  at-white = then-greater (slice_cmp nat_cmp (folded (name_in Black (slice_get all number))) (folded player))

  at-black : is_at all (seat_by player Black) (entry number White) ≡ false
  at-black = then-less (slice_cmp nat_cmp (folded (name_in White (slice_get all number))) (folded player))

  pair-kept : (color : Color) (rest : List Entry) → filter (is_at all (seat_by player color)) (entry number White ∷ entry number Black ∷ rest)
      ≡ (if plays_as player color classes then entry number color ∷ filter (is_at all (seat_by player color)) rest else filter (is_at all (seat_by player color)) rest)
  pair-kept White rest =
      let p = is_at all (seat_by player White) in
      (λ k. if at-own White k then entry number White ∷ (if at-white k then entry number Black ∷ filter p rest else filter p rest)
      else (if at-white k then entry number Black ∷ filter p rest else filter p rest))
  pair-kept Black rest =
      let p = is_at all (seat_by player Black) in
      (λ k. if at-black k then entry number White ∷ (if at-own Black k then entry number Black ∷ filter p rest else filter p rest)
      else (if at-own Black k then entry number Black ∷ filter p rest else filter p rest))

numbers-by : (b : Bool) (number : ℕ) (color : Color) (kept : List Entry) (numbers : List ℕ) → map (λ e. e.number) kept ≡ numbers
    → map (λ e. e.number) (if b then entry number color ∷ kept else kept) ≡ (if b then number ∷ numbers else numbers)
numbers-by true number color kept numbers is = ap (λ l. number ∷ l) is
numbers-by false number color kept numbers is = is

-- the entries of a seat have the numbers of the games that the player plays so
pub numbers-kept : (player : List ℕ) (color : Color) (front rest : List Classes) (n : ℕ) → length front ≡ n
    → map (λ e. e.number) (filter (is_at (front ++ rest) (seat_by player color)) (entries_from n (length rest)))
    ≡ numbers_where (plays_as player color) n rest
unfolding entries_from numbers_where
numbers-kept player color front [] n long = refl
numbers-kept player color front (classes ∷ rest) n long =
    let all = front ++ classes ∷ rest in
    let p = is_at all (seat_by player color) in
    let regrouped : (front ++ classes ∷ []) ++ rest ≡ all = append_assoc front (classes ∷ []) rest in
    let later : map (λ e. e.number) (filter p (entries_from (n + 1) (length rest))) ≡ numbers_where (plays_as player color) (n + 1) rest =
    ap (λ l. map (λ e. e.number) (filter (is_at l (seat_by player color)) (entries_from (n + 1) (length rest)))) (sym regrouped)
    ∙ numbers-kept player color (front ++ classes ∷ []) rest (n + 1) (length_push front classes ∙ ap (λ m. m + 1) long) in
    let here : slice_get all n ≡ Some classes = ap (slice_get all) (sym long) ∙ get-between front classes rest in
    ap (map (λ e. e.number)) (pair-kept all classes n here player color (entries_from (n + 1) (length rest)))
    ∙ numbers-by (plays_as player color classes) n color (filter p (entries_from (n + 1) (length rest))) (numbers_where (plays_as player color) (n + 1) rest) later
