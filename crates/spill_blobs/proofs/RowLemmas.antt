-- A block is that of one row.
use Rattle.std.proofs.Common.{◌≡◌, ℕ, zero, suc, ◌+◌, ◌-◌, ◌*◌, ◌≤◌, ◌<◌, ◌^◌, List, [], ◌∷◌, ◌++◌, length, replicate, Option, Some, None, refl, sym, ap, ◌∙◌, arith, length-append}
use Rattle.std.specs.List.{AllByRecursion, flat_map}
use Rattle.std.specs.Int.{w16, w32, w64, to_le_bytes, from_le_bytes}
use Rattle.std.proofs.lemmas.List.{length-replicate}
use Rattle.std.proofs.lemmas.Nat.{from_le_bytes-to_le_bytes_2, from_le_bytes-to_le_bytes_4, from_le_bytes-to_le_bytes_8}
use Rattle.plain_laws.specs.Lists.{same_cons}
use Rattle.best_lists.specs.declared.entry.Entry.{Entry}
use Rattle.explorer_model.specs.declared.archive.Speed.{Speed}
use Rattle.explorer_model.specs.declared.archive.Speed.TheVariants.{UltraBullet, Bullet, Blitz, Rapid, Classical, Correspondence}
use Rattle.explorer_model.specs.declared.chess.Move.{Move}
use Rattle.explorer_model.specs.declared.chess.Role.{Role}
use Rattle.explorer_model.specs.declared.chess.Role.TheVariants.{Pawn, Knight, Bishop, Rook, Queen, King}
use Rattle.explorer_model.specs.declared.square.Square.{Square}
use Rattle.explorer_model.specs.Order.{speed_index}
use Rattle.explorer_model.proofs.Squares.{square_eq}
use Rattle.tally_rows.specs.declared.row.Row.{Row}
use Rattle.tally_rows.specs.declared.row_key.RowKey.{RowKey}
use Rattle.tally_rows.specs.Row.{row_key_of}
use Rattle.spill_blobs.specs.RowBlocks.{promotion_code, move_bytes, row_key_bytes, count_bytes, entry_bytes, list_bytes, row_bytes, AreFew, Fits, CanBeWritten, IsRowKey, IsWritable, IsRowAt}

-- ---- lists

pub record Split {A : Type 0} (a b x y : List A) : Type 0 where
  pub front : a ≡ b
  pub back : x ≡ y

pub split : {A : Type 0} (a b x y : List A) → length a ≡ length b → a ++ x ≡ b ++ y → Split a b x y
split [] [] x y n e = record { front = refl; back = e }
split [] (d ∷ b) x y n e = absurd (omega arith)
split (c ∷ a) [] x y n e = absurd (omega arith)
split (c ∷ a) (d ∷ b) x y n e =
    let head : c ≡ d = cc in
    let tails : a ++ x ≡ b ++ y = cc in
    let rest = split a b x y (omega arith) tails in
    record { front = cc (head, rest.front); back = rest.back }

-- ---- numbers

pub two : (m n : ℕ) → m < 2 ^ 16 → n < 2 ^ 16 → to_le_bytes w16 m ≡ to_le_bytes w16 n → m ≡ n
two m n small fits e = sym (from_le_bytes-to_le_bytes_2 m small) ∙ (ap (from_le_bytes w16) e ∙ from_le_bytes-to_le_bytes_2 n fits)

pub four : (m n : ℕ) → m < 2 ^ 32 → n < 2 ^ 32 → to_le_bytes w32 m ≡ to_le_bytes w32 n → m ≡ n
four m n small fits e = sym (from_le_bytes-to_le_bytes_4 m small) ∙ (ap (from_le_bytes w32) e ∙ from_le_bytes-to_le_bytes_4 n fits)

pub eight : (m n : ℕ) → m < 2 ^ 64 → n < 2 ^ 64 → to_le_bytes w64 m ≡ to_le_bytes w64 n → m ≡ n
eight m n small fits e = sym (from_le_bytes-to_le_bytes_8 m small) ∙ (ap (from_le_bytes w64) e ∙ from_le_bytes-to_le_bytes_8 n fits)

-- ---- moves

one_promotion : (a b : Option Role) → promotion_code a ≤ 4 → promotion_code b ≤ 4 → promotion_code a ≡ promotion_code b → a ≡ b
one_promotion None None h k e = refl
one_promotion None (Some Knight) h k e = absurd (omega arith)
one_promotion None (Some Bishop) h k e = absurd (omega arith)
one_promotion None (Some Rook) h k e = absurd (omega arith)
one_promotion None (Some Queen) h k e = absurd (omega arith)
one_promotion (Some Knight) None h k e = absurd (omega arith)
one_promotion (Some Knight) (Some Knight) h k e = refl
one_promotion (Some Knight) (Some Bishop) h k e = absurd (omega arith)
one_promotion (Some Knight) (Some Rook) h k e = absurd (omega arith)
one_promotion (Some Knight) (Some Queen) h k e = absurd (omega arith)
one_promotion (Some Bishop) None h k e = absurd (omega arith)
one_promotion (Some Bishop) (Some Knight) h k e = absurd (omega arith)
one_promotion (Some Bishop) (Some Bishop) h k e = refl
one_promotion (Some Bishop) (Some Rook) h k e = absurd (omega arith)
one_promotion (Some Bishop) (Some Queen) h k e = absurd (omega arith)
one_promotion (Some Rook) None h k e = absurd (omega arith)
one_promotion (Some Rook) (Some Knight) h k e = absurd (omega arith)
one_promotion (Some Rook) (Some Bishop) h k e = absurd (omega arith)
one_promotion (Some Rook) (Some Rook) h k e = refl
one_promotion (Some Rook) (Some Queen) h k e = absurd (omega arith)
one_promotion (Some Queen) None h k e = absurd (omega arith)
one_promotion (Some Queen) (Some Knight) h k e = absurd (omega arith)
one_promotion (Some Queen) (Some Bishop) h k e = absurd (omega arith)
one_promotion (Some Queen) (Some Rook) h k e = absurd (omega arith)
one_promotion (Some Queen) (Some Queen) h k e = refl
one_promotion (Some Pawn) b h k e = absurd (omega arith)
one_promotion (Some King) b h k e = absurd (omega arith)
one_promotion a (Some Pawn) h k e = absurd (omega arith)
one_promotion a (Some King) h k e = absurd (omega arith)

abbrev move_of : Square × Square × Option Role → Move
move_of p = record { from = p.0; to = p.1; promotion = p.2 }

pub third : (a b c x y z : ℕ) → a ∷ b ∷ c ∷ [] ≡ x ∷ y ∷ z ∷ [] → (a ≡ x) × (b ≡ y) × (c ≡ z)
third a b c x y z e = (cc, cc, cc)

pub one_move : (m n : Option Move) → CanBeWritten m → CanBeWritten n
    → move_bytes m ≡ move_bytes n → m ≡ n
one_move None None h k e = refl
one_move None (Some n) h k e = absurd (omega (arith, (third _ _ _ _ _ _ e).0, n.from.on_board))
one_move (Some m) None h k e = absurd (omega (arith, (third _ _ _ _ _ _ e).0, m.from.on_board))
one_move (Some m) (Some n) h k e =
    let parts = third m.from.index m.to.index (promotion_code m.promotion) n.from.index n.to.index (promotion_code n.promotion) e in
    let from : m.from ≡ n.from = square_eq m.from n.from parts.0 in
    let to : m.to ≡ n.to = square_eq m.to n.to parts.1 in
    let promotion : m.promotion ≡ n.promotion = one_promotion m.promotion n.promotion h k parts.2 in
    let all : (m.from, m.to, m.promotion) ≡ (n.from, n.to, n.promotion) = cc (from, to, promotion) in
    ap (λ p. Some (move_of p)) all

pub length-move : (m : Option Move) → length (move_bytes m) ≡ 3
length-move None = refl
length-move (Some m) = refl

-- ---- speeds

one_speed : (a b : Speed) → speed_index a ≡ speed_index b → a ≡ b
one_speed a b e = sym (named a) ∙ (ap name e ∙ named b)
  where
    name : ℕ → Speed
    name zero = UltraBullet
    name (suc zero) = Bullet
    name (suc (suc zero)) = Blitz
    name (suc (suc (suc zero))) = Rapid
    name (suc (suc (suc (suc zero)))) = Classical
    name _ = Correspondence

    named : (s : Speed) → name (speed_index s) ≡ s
    named UltraBullet = refl
    named Bullet = refl
    named Blitz = refl
    named Rapid = refl
    named Classical = refl
    named Correspondence = refl

-- ---- lists of entries

abbrev entry_of : ℕ × ℕ → Entry
entry_of p = record { rank = p.0; number = p.1 }

one_entry : (a b : Entry) (x y : List ℕ) → Fits a → Fits b
    → entry_bytes a ++ x ≡ entry_bytes b ++ y → (a ≡ b) × (x ≡ y)
one_entry a b x y h k e =
    let whole = split (entry_bytes a) (entry_bytes b) x y refl e in
    let both = split (to_le_bytes w32 a.rank) (to_le_bytes w32 b.rank) (to_le_bytes w32 a.number) (to_le_bytes w32 b.number) refl whole.front in
    let rank : a.rank ≡ b.rank = four a.rank b.rank h.0 k.0 both.front in
    let number : a.number ≡ b.number = four a.number b.number h.1 k.1 both.back in
    let all : (a.rank, a.number) ≡ (b.rank, b.number) = cc (rank, number) in
    (ap entry_of all, whole.back)

pub entries-one : (a b : List Entry) (x y : List ℕ) → length a ≡ length b
    → AllByRecursion Fits a → AllByRecursion Fits b
    → flat_map entry_bytes a ++ x ≡ flat_map entry_bytes b ++ y → a ≡ b
entries-one [] [] x y n h k e = refl
entries-one [] (d ∷ b) x y n h k e = absurd (omega arith)
entries-one (c ∷ a) [] x y n h k e = absurd (omega arith)
entries-one (c ∷ a) (d ∷ b) x y n h k e =
    let first = one_entry c d (flat_map entry_bytes a ++ x) (flat_map entry_bytes b ++ y) h.0 k.0 e in
    let rest = entries-one a b x y (omega arith) h.1 k.1 first.1 in
    cc (first.0, rest)

pub one_list : (a b : List Entry) → AreFew a → AreFew b → list_bytes a ≡ list_bytes b → a ≡ b
one_list a b h k e =
    let both = same_cons (length a) (length b) _ _ e in
    entries-one a b _ _ both.0 h.fit k.fit both.1

pub length-entries : (a : List Entry) → length (flat_map entry_bytes a) ≡ 8 * length a
length-entries [] = refl
length-entries (c ∷ a) = omega (arith, length-append (entry_bytes c) (flat_map entry_bytes a), length-entries a)

pub length-list : (a : List Entry) → AreFew a → length (list_bytes a) ≡ 33
length-list a h =
    omega (arith, length-append (flat_map entry_bytes a) (replicate (8 * (4 - length a)) 0), length-entries a, length-replicate {A = ℕ} (8 * (4 - length a)) 0, h.few)

-- ---- what a row's games have in common

abbrev pub k4 : RowKey → List ℕ
k4 r = speed_index r.speed ∷ to_le_bytes w16 r.group.value

abbrev pub k3 : RowKey → List ℕ
k3 r = r.month.month ∷ k4 r

abbrev pub k2 : RowKey → List ℕ
k2 r = to_le_bytes w16 r.month.year ++ k3 r

abbrev pub k1 : RowKey → List ℕ
k1 r = move_bytes r.next ++ k2 r

pub length-row_key : (r : RowKey) → length r.key ≡ 34 → length (row_key_bytes r) ≡ 43
length-row_key r long =
    let behind : length (k2 r) ≡ 6 = refl in
    let next : length (k1 r) ≡ 3 + length (k2 r) = omega (arith, length-append (move_bytes r.next) (k2 r), length-move r.next) in
    omega (arith, length-append r.key (k1 r), long, behind, next)

abbrev row_key_from : List ℕ × Option Move × (ℕ × ℕ) × Speed × ℕ → RowKey
row_key_from p = record {
  key = p.0;
  next = p.1;
  month = record { year = p.2.0; month = p.2.1 };
  speed = p.3;
  group = record { value = p.4 };
}

pub one_row_key : (r s : RowKey) → IsRowKey r → IsRowKey s → row_key_bytes r ≡ row_key_bytes s → r ≡ s
one_row_key r s w v all =
    let key = split r.key s.key (k1 r) (k1 s) (w.key ∙ sym v.key) all in
    let next = split (move_bytes r.next) (move_bytes s.next) (k2 r) (k2 s) (length-move r.next ∙ sym (length-move s.next)) key.back in
    let year = split (to_le_bytes w16 r.month.year) (to_le_bytes w16 s.month.year) (k3 r) (k3 s) refl next.back in
    let month = same_cons r.month.month s.month.month (k4 r) (k4 s) year.back in
    let speed = same_cons (speed_index r.speed) (speed_index s.speed) (to_le_bytes w16 r.group.value) (to_le_bytes w16 s.group.value) month.1 in
    let e1 : r.key ≡ s.key = key.front in
    let e2 : r.next ≡ s.next = one_move r.next s.next w.next v.next next.front in
    let e3 : r.month.year ≡ s.month.year = two r.month.year s.month.year w.year v.year year.front in
    let e4 : r.month.month ≡ s.month.month = month.0 in
    let e5 : r.speed ≡ s.speed = one_speed r.speed s.speed speed.0 in
    let e6 : r.group.value ≡ s.group.value = two r.group.value s.group.value w.group v.group speed.1 in
    let both : (r.key, r.next, (r.month.year, r.month.month), r.speed, r.group.value)
    ≡ (s.key, s.next, (s.month.year, s.month.month), s.speed, s.group.value) = cc (e1, e2, e3, e4, e5, e6) in
    ap row_key_from both

-- ---- rows

-- what stands behind what a row's games have in common
abbrev pub lists_bytes : Row → List ℕ
lists_bytes r = list_bytes r.top ++ list_bytes r.recent

abbrev pub rest_bytes : Row → List ℕ
rest_bytes r = count_bytes r ++ lists_bytes r

pub as_parts : (r : Row) → row_bytes r ≡ row_key_bytes (row_key_of r) ++ rest_bytes r
unfolding row_bytes
as_parts r = refl

-- a row has 129 bytes
pub length-fields : (r : Row) → length r.key ≡ 34 → AreFew r.top → AreFew r.recent → length (row_bytes r) ≡ 129
length-fields r long top recent =
    let lists : length (lists_bytes r) ≡ 66 =
    omega (arith, length-append (list_bytes r.top) (list_bytes r.recent), length-list r.top top, length-list r.recent recent) in
    let counts : length (count_bytes r) ≡ 20 = refl in
    let rest : length (rest_bytes r) ≡ 86 = omega (arith, length-append (count_bytes r) (lists_bytes r), lists, counts) in
    ap length (as_parts r)
    ∙ omega (arith, length-append (row_key_bytes (row_key_of r)) (rest_bytes r), length-row_key (row_key_of r) long, rest)

pub length-row : (r : Row) → IsWritable r → length (row_bytes r) ≡ 129
length-row r w = length-fields r w.row_key.key w.top.few w.recent.few

abbrev row_from : RowKey × (ℕ × ℕ × ℕ × ℕ) × List Entry × List Entry → Row
row_from p = record {
  key = p.0.key;
  next = p.0.next;
  month = p.0.month;
  speed = p.0.speed;
  group = p.0.group;
  white = p.1.0;
  draws = p.1.1;
  black = p.1.2;
  ratings = p.1.3;
  top = p.2;
  recent = p.3;
}

-- a block is of one row
pub one_row : (block : List ℕ) (r s : Row) → IsRowAt block r → IsRowAt block s → r ≡ s
one_row block r s h k =
    let w = h.writable in
    let v = k.writable in
    let all : row_key_bytes (row_key_of r) ++ rest_bytes r ≡ row_key_bytes (row_key_of s) ++ rest_bytes s =
    sym (as_parts r) ∙ (sym h.bytes ∙ (k.bytes ∙ as_parts s)) in
    let key = split (row_key_bytes (row_key_of r)) (row_key_bytes (row_key_of s)) (rest_bytes r) (rest_bytes s)
    (length-row_key (row_key_of r) w.row_key.key ∙ sym (length-row_key (row_key_of s) v.row_key.key)) all in
    let counts = split (count_bytes r) (count_bytes s) (lists_bytes r) (lists_bytes s) refl key.back in
    let c1 : Row → List ℕ = λ x. to_le_bytes w64 x.ratings in
    let c2 : Row → List ℕ = λ x. to_le_bytes w32 x.black ++ c1 x in
    let c3 : Row → List ℕ = λ x. to_le_bytes w32 x.draws ++ c2 x in
    let white = split (to_le_bytes w32 r.white) (to_le_bytes w32 s.white) (c3 r) (c3 s) refl counts.front in
    let draws = split (to_le_bytes w32 r.draws) (to_le_bytes w32 s.draws) (c2 r) (c2 s) refl white.back in
    let black = split (to_le_bytes w32 r.black) (to_le_bytes w32 s.black) (c1 r) (c1 s) refl draws.back in
    let lists = split (list_bytes r.top) (list_bytes s.top) (list_bytes r.recent) (list_bytes s.recent)
    (length-list r.top w.top.few ∙ sym (length-list s.top v.top.few)) counts.back in
    let e1 : row_key_of r ≡ row_key_of s = one_row_key (row_key_of r) (row_key_of s) w.row_key v.row_key key.front in
    let e2 : r.white ≡ s.white = four r.white s.white w.white v.white white.front in
    let e3 : r.draws ≡ s.draws = four r.draws s.draws w.draws v.draws draws.front in
    let e4 : r.black ≡ s.black = four r.black s.black w.black v.black black.front in
    let e5 : r.ratings ≡ s.ratings = eight r.ratings s.ratings w.ratings v.ratings black.back in
    let e6 : r.top ≡ s.top = one_list r.top s.top w.top.few v.top.few lists.front in
    let e7 : r.recent ≡ s.recent = one_list r.recent s.recent w.recent.few v.recent.few lists.back in
    let both : (row_key_of r, (r.white, r.draws, r.black, r.ratings), r.top, r.recent)
    ≡ (row_key_of s, (s.white, s.draws, s.black, s.ratings), s.top, s.recent) = cc (e1, e2, e3, e4, e5, e6, e7) in
    ap row_from both
