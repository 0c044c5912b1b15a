-- The numbers of an entry compare as the parts of a row do.
use Rattle.std.proofs.Common.{◌≡◌, ℕ, zero, suc, ◌+◌, ◌*◌, ◌<◌, ◌≤◌, ◌^◌, List, Option, Some, None, length, get_or, drop, refl, sym, ap, subst, ◌∙◌, arith}
use Rattle.std.specs.declared.cmp.Ordering.{Ordering}
use Rattle.std.specs.declared.cmp.Ordering.TheVariants.{Less, Equal, Greater}
use Rattle.std.specs.Ordering.{on, nat_cmp, then_cmp, ordering_then, MatchOrdering}
use Rattle.std.specs.Option.{option_cmp}
use Rattle.std.specs.Cmp.{nat_cmp_is, ranks}
use Rattle.std.specs.Cmp.Lexicographic.{slice_cmp}
use Rattle.std.proofs.lemmas.List.{drop_more, drop_all}
use Rattle.std.proofs.lemmas.Nat.{mul-add-lt}
use Rattle.std.proofs.Math.Nat.{mul_comm, pow-suc}
use Rattle.explorer_model.specs.declared.archive.Speed.{Speed}
use Rattle.explorer_model.specs.declared.archive.Speed.TheVariants.{UltraBullet, Bullet, Blitz, Rapid, Classical, Correspondence}
use Rattle.explorer_model.specs.declared.chess.Move.{Move}
use Rattle.explorer_model.specs.declared.chess.Role.{Role}
use Rattle.explorer_model.specs.declared.chess.Role.TheVariants.{Pawn, Knight, Bishop, Rook, Queen, King}
use Rattle.explorer_model.specs.Order.{speed_index, role_index}
use Rattle.tally_rows.specs.declared.row_key.RowKey.{RowKey}
use Rattle.tally_rows.specs.declared.sort_entry.SortEntry.{SortEntry}
use Rattle.tally_rows.specs.RowKey.{move_order, row_order}
use Rattle.tally_rows.specs.SortEntry.{spelled, promotion_code, next_code, rest_of, Tells}

-- ---- numbers of two digits

above : (m r s : ℕ) → r < s → m + r < m + s
above m r s lt = omega arith

first_digits : (p x y r s : ℕ) → x < y → r < p → x * p + r < y * p + s
first_digits p x y r s lt low = omega (arith, mul-add-lt x p r y lt low, mul_comm p y)

digits_by : (p x y r s : ℕ) → r < p → s < p → (o q : Ordering)
    → MatchOrdering o (x < y) (x ≡ y) (y < x) → MatchOrdering q (r < s) (r ≡ s) (s < r)
    → MatchOrdering (ordering_then o q) (x * p + r < y * p + s) (x * p + r ≡ y * p + s) (y * p + s < x * p + r)
digits_by p x y r s low high Less q h g = first_digits p x y r s h low
digits_by p x y r s low high Greater q h g = first_digits p y x s r h high
digits_by p x y r s low high Equal Less h g = subst (λ (z : ℕ). x * p + r < z * p + s) h (above (x * p) r s g)
digits_by p x y r s low high Equal Equal h g = λ i. h i * p + g i
digits_by p x y r s low high Equal Greater h g = subst (λ (z : ℕ). z * p + s < x * p + r) h (above (x * p) s r g)

-- they compare by the first digit, then by the second
digit_cmp : (p x y r s : ℕ) → r < p → s < p → nat_cmp (x * p + r) (y * p + s) ≡ ordering_then (nat_cmp x y) (nat_cmp r s)
digit_cmp p x y r s low high =
    sym (nat_cmp_is (x * p + r) (y * p + s) (ordering_then (nat_cmp x y) (nat_cmp r s))
    (digits_by p x y r s low high (nat_cmp x y) (nat_cmp r s) (ranks x y) (ranks r s)))

next_by : (x y : ℕ) → (o : Ordering) → MatchOrdering o (x < y) (x ≡ y) (y < x) → MatchOrdering o (1 + x < 1 + y) (1 + x ≡ 1 + y) (1 + y < 1 + x)
next_by x y Less h = omega arith
next_by x y Equal h = omega arith
next_by x y Greater h = omega arith

one_more_cmp : (x y : ℕ) → nat_cmp (1 + x) (1 + y) ≡ nat_cmp x y
one_more_cmp x y = sym (nat_cmp_is (1 + x) (1 + y) (nat_cmp x y) (next_by x y (nat_cmp x y) (ranks x y)))

none_first : (x : ℕ) → nat_cmp 0 (1 + x) ≡ Less
none_first x = sym (nat_cmp_is 0 (1 + x) Less (omega arith))

none_last : (x : ℕ) → nat_cmp (1 + x) 0 ≡ Greater
none_last x = sym (nat_cmp_is (1 + x) 0 Greater (omega arith))

-- ---- the words of a key

abbrev pub AreBytes : List ℕ → Type 0
AreBytes bytes = (i : ℕ) → get_or bytes i 0 < 256

spelled_below : (bytes : List ℕ) → AreBytes bytes → (n at : ℕ) → spelled bytes at n < 256 ^ n
spelled_below bytes small zero at = omega arith
spelled_below bytes small (suc n) at =
    omega (
      arith,
      pow-suc 256 n,
      mul-add-lt (get_or bytes at 0) (256 ^ n) (spelled bytes (at + 1) n) 256 (small at) (spelled_below bytes small n (at + 1)),
    )

then_assoc : (p q r : Ordering) → ordering_then (ordering_then p q) r ≡ ordering_then p (ordering_then q r)
then_assoc Less q r = refl
then_assoc Equal q r = refl
then_assoc Greater q r = refl

pub then_equal : (p : Ordering) → ordering_then p Equal ≡ p
then_equal Less = refl
then_equal Equal = refl
then_equal Greater = refl

-- what is left of two lists is in the order of the numbers that its first bytes spell, then of what is left behind them
pub spelled_cmp : (n at : ℕ) (xs ys : List ℕ) → AreBytes xs → AreBytes ys → at + n ≤ length xs → at + n ≤ length ys
    → slice_cmp nat_cmp (drop at xs) (drop at ys)
    ≡ ordering_then (nat_cmp (spelled xs at n) (spelled ys at n)) (slice_cmp nat_cmp (drop (at + n) xs) (drop (at + n) ys))
spelled_cmp zero at xs ys small little within fits =
    let here : at + 0 ≡ at = omega arith in
    sym (ap (λ (k : ℕ). slice_cmp nat_cmp (drop k xs) (drop k ys)) here)
spelled_cmp (suc n) at xs ys small little within fits =
    let left : ℕ → Ordering = λ k. slice_cmp nat_cmp (drop k xs) (drop k ys) in
    let x : ℕ = get_or xs at 0 in
    let y : ℕ = get_or ys at 0 in
    let more : ℕ = spelled xs (at + 1) n in
    let others : ℕ = spelled ys (at + 1) n in
    let there : at + 1 + n ≡ at + suc n = omega arith in
    let opened : left at ≡ ordering_then (nat_cmp x y) (left (at + 1)) =
    λ i. slice_cmp nat_cmp (drop_more xs at 0 (omega arith) i) (drop_more ys at 0 (omega arith) i) in
    opened
    ∙ ap (ordering_then (nat_cmp x y)) (spelled_cmp n (at + 1) xs ys small little (omega arith) (omega arith))
    ∙ sym (then_assoc (nat_cmp x y) (nat_cmp more others) (left (at + 1 + n)))
    ∙ ap (λ (o : Ordering). ordering_then o (left (at + 1 + n)))
    (sym (digit_cmp (256 ^ n) x y more others (spelled_below xs small n (at + 1)) (spelled_below ys little n (at + 1))))
    ∙ ap (λ (k : ℕ). ordering_then (nat_cmp (spelled xs at (suc n)) (spelled ys at (suc n))) (left k)) there

module _ (xs ys : List ℕ) (small : AreBytes xs) (little : AreBytes ys) (long : length xs ≡ 34) (wide : length ys ≡ 34) where
  step : (n at : ℕ) → at + n ≤ 34 → slice_cmp nat_cmp (drop at xs) (drop at ys)
      ≡ ordering_then (nat_cmp (spelled xs at n) (spelled ys at n)) (slice_cmp nat_cmp (drop (at + n) xs) (drop (at + n) ys))
  step n at within = spelled_cmp n at xs ys small little (omega arith) (omega arith)

  key_cmp : slice_cmp nat_cmp xs ys
      ≡ ordering_then (nat_cmp (spelled xs 0 8) (spelled ys 0 8))
      (ordering_then (nat_cmp (spelled xs 8 8) (spelled ys 8 8))
      (ordering_then (nat_cmp (spelled xs 16 8) (spelled ys 16 8))
      (ordering_then (nat_cmp (spelled xs 24 8) (spelled ys 24 8))
      (nat_cmp (spelled xs 32 2) (spelled ys 32 2)))))
  key_cmp =
      let at : ℕ → Ordering = λ k. nat_cmp (spelled xs k 8) (spelled ys k 8) in
      let ends : slice_cmp nat_cmp (drop 34 xs) (drop 34 ys) ≡ Equal =
      λ i. slice_cmp nat_cmp (drop_all 34 xs (omega arith) i) (drop_all 34 ys (omega arith) i) in
      step 8 0 (omega arith)
      ∙ ap (ordering_then (at 0)) (step 8 8 (omega arith)
      ∙ ap (ordering_then (at 8)) (step 8 16 (omega arith)
      ∙ ap (ordering_then (at 16)) (step 8 24 (omega arith)
      ∙ ap (ordering_then (at 24)) (step 2 32 (omega arith)
      ∙ ap (ordering_then (nat_cmp (spelled xs 32 2) (spelled ys 32 2))) ends
      ∙ then_equal (nat_cmp (spelled xs 32 2) (spelled ys 32 2))))))

-- ---- the codes

role_below : (role : Role) → role_index role < 6
role_below Pawn = omega arith
role_below Knight = omega arith
role_below Bishop = omega arith
role_below Rook = omega arith
role_below Queen = omega arith
role_below King = omega arith

speed_below : (speed : Speed) → speed_index speed < 256
speed_below UltraBullet = omega arith
speed_below Bullet = omega arith
speed_below Blitz = omega arith
speed_below Rapid = omega arith
speed_below Classical = omega arith
speed_below Correspondence = omega arith

pub promotion_below : (promotion : Option Role) → promotion_code promotion < 8
promotion_below None = omega arith
promotion_below (Some role) = omega (arith, role_below role)

pub next_below : (next : Option Move) → next_code next < 65536
next_below None = omega arith
next_below (Some m) = omega (arith, m.from.on_board, m.to.on_board, promotion_below m.promotion)

promotion_cmp : (a b : Option Role) → nat_cmp (promotion_code a) (promotion_code b) ≡ option_cmp (on role_index nat_cmp) a b
promotion_cmp None None = refl
promotion_cmp None (Some y) = none_first (role_index y)
promotion_cmp (Some x) None = none_last (role_index x)
promotion_cmp (Some x) (Some y) = one_more_cmp (role_index x) (role_index y)

next_cmp : (a b : Option Move) → nat_cmp (next_code a) (next_code b) ≡ option_cmp move_order a b
next_cmp None None = refl
next_cmp None (Some y) = none_first (y.from.index * 512 + (y.to.index * 8 + promotion_code y.promotion))
next_cmp (Some x) None = none_last (x.from.index * 512 + (x.to.index * 8 + promotion_code x.promotion))
next_cmp (Some x) (Some y) =
    let low : ℕ = x.to.index * 8 + promotion_code x.promotion in
    let high : ℕ = y.to.index * 8 + promotion_code y.promotion in
    one_more_cmp (x.from.index * 512 + low) (y.from.index * 512 + high)
    ∙ digit_cmp 512 x.from.index y.from.index low high
    (omega (arith, x.to.on_board, promotion_below x.promotion)) (omega (arith, y.to.on_board, promotion_below y.promotion))
    ∙ ap (ordering_then (nat_cmp x.from.index y.from.index))
    (digit_cmp 8 x.to.index y.to.index (promotion_code x.promotion) (promotion_code y.promotion)
    (promotion_below x.promotion) (promotion_below y.promotion)
    ∙ ap (ordering_then (nat_cmp x.to.index y.to.index)) (promotion_cmp x.promotion y.promotion))

module _ (a b : RowKey) (year : a.month.year < 65536) (month : a.month.month < 256) (years : b.month.year < 65536) (months : b.month.month < 256) where
  rest_cmp : nat_cmp (rest_of a) (rest_of b)
      ≡ ordering_then (nat_cmp (spelled a.key 32 2) (spelled b.key 32 2))
      (ordering_then (nat_cmp (next_code a.next) (next_code b.next))
      (ordering_then (nat_cmp a.month.year b.month.year)
      (ordering_then (nat_cmp a.month.month b.month.month) (nat_cmp (speed_index a.speed) (speed_index b.speed)))))
  rest_cmp =
      let slow : ℕ = speed_index a.speed in
      let fast : ℕ = speed_index b.speed in
      let slow_below : slow < 256 = speed_below a.speed in
      let fast_below : fast < 256 = speed_below b.speed in
      let months1 : ℕ = a.month.month * 256 + slow in
      let months2 : ℕ = b.month.month * 256 + fast in
      let years1 : ℕ = a.month.year * 65536 + months1 in
      let years2 : ℕ = b.month.year * 65536 + months2 in
      let next1 : ℕ = next_code a.next in
      let next2 : ℕ = next_code b.next in
      let next_low : next1 < 65536 = next_below a.next in
      let next_high : next2 < 65536 = next_below b.next in
      digit_cmp 281474976710656 (spelled a.key 32 2) (spelled b.key 32 2) (next1 * 4294967296 + years1) (next2 * 4294967296 + years2) (omega arith) (omega arith)
      ∙ ap (ordering_then (nat_cmp (spelled a.key 32 2) (spelled b.key 32 2)))
      (digit_cmp 4294967296 next1 next2 years1 years2 (omega arith) (omega arith)
      ∙ ap (ordering_then (nat_cmp next1 next2))
      (digit_cmp 65536 a.month.year b.month.year months1 months2 (omega arith) (omega arith)
      ∙ ap (ordering_then (nat_cmp a.month.year b.month.year))
      (digit_cmp 256 a.month.month b.month.month slow fast slow_below fast_below)))

-- ---- entries

-- the order of entries, number by number
abbrev pub entry_order : SortEntry → SortEntry → Ordering
entry_order =
    then_cmp (on (λ e. e.first) nat_cmp)
    (then_cmp (on (λ e. e.second) nat_cmp)
    (then_cmp (on (λ e. e.third) nat_cmp)
    (then_cmp (on (λ e. e.fourth) nat_cmp)
    (then_cmp (on (λ e. e.rest) nat_cmp)
    (then_cmp (on (λ e. e.group) nat_cmp) (on (λ e. e.at) nat_cmp))))))

abbrev then3 : Ordering → Ordering → Ordering → Ordering
then3 p q r = ordering_then p (ordering_then q r)

-- what decides first, however it is grouped
worth : (w0 w1 w2 w3 t n y m s g a : Ordering)
    → then3 w0 w1 (then3 w2 w3 (then3 (then3 t n (then3 y m s)) g a))
    ≡ ordering_then (ordering_then (then3 w0 w1 (then3 w2 w3 t)) (ordering_then n (then3 (ordering_then y m) s g))) a
worth Less w1 w2 w3 t n y m s g a = refl
worth Greater w1 w2 w3 t n y m s g a = refl
worth Equal Less w2 w3 t n y m s g a = refl
worth Equal Greater w2 w3 t n y m s g a = refl
worth Equal Equal Less w3 t n y m s g a = refl
worth Equal Equal Greater w3 t n y m s g a = refl
worth Equal Equal Equal Less t n y m s g a = refl
worth Equal Equal Equal Greater t n y m s g a = refl
worth Equal Equal Equal Equal Less n y m s g a = refl
worth Equal Equal Equal Equal Greater n y m s g a = refl
worth Equal Equal Equal Equal Equal Less y m s g a = refl
worth Equal Equal Equal Equal Equal Greater y m s g a = refl
worth Equal Equal Equal Equal Equal Equal Less m s g a = refl
worth Equal Equal Equal Equal Equal Equal Greater m s g a = refl
worth Equal Equal Equal Equal Equal Equal Equal Less s g a = refl
worth Equal Equal Equal Equal Equal Equal Equal Greater s g a = refl
worth Equal Equal Equal Equal Equal Equal Equal Equal Less g a = refl
worth Equal Equal Equal Equal Equal Equal Equal Equal Greater g a = refl
worth Equal Equal Equal Equal Equal Equal Equal Equal Equal Less a = refl
worth Equal Equal Equal Equal Equal Equal Equal Equal Equal Greater a = refl
worth Equal Equal Equal Equal Equal Equal Equal Equal Equal Equal a = refl

-- entries stand in the order of their parts, then of their places
pub entry_cmp : (x y : SortEntry) (a b : RowKey) → Tells x a → Tells y b → entry_order x y ≡ ordering_then (row_order a b) (nat_cmp x.at y.at)
unfolding row_order
entry_cmp x y a b p q =
    let word : ℕ → Ordering = λ k. nat_cmp (spelled a.key k 8) (spelled b.key k 8) in
    let ends : Ordering = nat_cmp (spelled a.key 32 2) (spelled b.key 32 2) in
    let next : Ordering = nat_cmp (next_code a.next) (next_code b.next) in
    let year : Ordering = nat_cmp a.month.year b.month.year in
    let month : Ordering = nat_cmp a.month.month b.month.month in
    let speed : Ordering = nat_cmp (speed_index a.speed) (speed_index b.speed) in
    let group : Ordering = nat_cmp a.group.value b.group.value in
    let at : Ordering = nat_cmp x.at y.at in
    let told : entry_order x y ≡ then3 (word 0) (word 8) (then3 (word 16) (word 24) (then3 (nat_cmp (rest_of a) (rest_of b)) group at)) =
    λ i. then3 (nat_cmp (p.first i) (q.first i)) (nat_cmp (p.second i) (q.second i))
    (then3 (nat_cmp (p.third i) (q.third i)) (nat_cmp (p.fourth i) (q.fourth i))
    (then3 (nat_cmp (p.rest i) (q.rest i)) (nat_cmp (p.group i) (q.group i)) at)) in
    told
    ∙ ap (λ (o : Ordering). then3 (word 0) (word 8) (then3 (word 16) (word 24) (then3 o group at)))
    (rest_cmp a b p.year p.month q.year q.month)
    ∙ worth (word 0) (word 8) (word 16) (word 24) ends next year month speed group at
    ∙ (λ i. ordering_then (ordering_then (sym (key_cmp a.key b.key p.bytes q.bytes p.long q.long) i)
    (ordering_then (next_cmp a.next b.next i) (then3 (ordering_then year month) speed group))) at)
