-- A sample is determined by its number and the generator.
use Rattle.std.proofs.Common.{◌≡◌, ◌≢◌, ℕ, zero, suc, ◌+◌, ◌<◌, Bool, true, false, true≢false, List, [], ◌∷◌, ◌++◌, length, get_or, inl, inr, ◌⊎◌, Some, slice_get, Contains, codes, refl, sym, ap, ◌∙◌, subst, arith}
use Rattle.std.specs.Cmp.Lexicographic.{slice_cmp}
use Rattle.std.specs.declared.cmp.Ordering.{Ordering}
use Rattle.std.specs.declared.cmp.Ordering.TheVariants.{Less, Equal, Greater}
use Rattle.std.specs.Ordering.{nat_cmp, is_lt, is_eq, ordering_reverse}
use Rattle.std.specs.Cmp.{IsStrictWeakOrder}
use Rattle.std.proofs.lemmas.Cmp.{nat_list_cmp_total}
use Rattle.std.proofs.lemmas.List.Sorted.{ranks_by, sorted_far}
use Rattle.std.proofs.lemmas.Map.Text.{is_eq-slice_cmp}
use Rattle.std.specs.Cmp.Lexicographic.{bytes_decides}
use Rattle.std.proofs.lemmas.Option.{same_Some}
use Rattle.plain_laws.specs.Lists.{contains-cases, contains-first, contains-later}
use Rattle.explorer_model.specs.declared.chess.Move.{Move}
use Rattle.explorer_model.specs.declared.chess.Position.{Position}
use Rattle.explorer_model.specs.Chess.{Legal, after, start}
use Rattle.explorer_model.specs.San.{SanText}
use Rattle.explorer_model.specs.Uci.{uci_text}
use Rattle.explorer_model.proofs.UciText.{uci_text-names}
use Rattle.rand_pcg.specs.Lcg.{Lcg}
use Rattle.sample_games.specs.Samples.{drawn, later, InUciOrder, DrawsMoves, WritesMoves, number_text, header_text, header_drawn, behind_header, IsSample}

-- ---- the list of legal moves

abbrev less : Move → Move → Bool
less a b = is_lt (slice_cmp nat_cmp (uci_text a) (uci_text b))

order : IsStrictWeakOrder less
order = ranks_by nat_list_cmp_total uci_text

-- each move comes before those behind it
abbrev Strict : List Move → Type 0
Strict moves = (i j : ℕ) (d : Move) → i < j → j < length moves → less (get_or moves i d) (get_or moves j d) ≡ true

less-by : (a b : Move) (r : Ordering) → slice_cmp nat_cmp (uci_text a) (uci_text b) ≡ r → a ≢ b → less b a ≡ false → less a b ≡ true
less-by a b Less is other after_it = ap is_lt is
less-by a b Equal is other after_it =
    absurd (other (uci_text-names a b ((bytes_decides (uci_text a) (uci_text b)).0 (sym (is_eq-slice_cmp (uci_text a) (uci_text b)) ∙ ap is_eq is))))
less-by a b Greater is other after_it =
    absurd (true≢false (sym (ap is_lt (nat_list_cmp_total.antisymm (uci_text b) (uci_text a) ∙ ap ordering_reverse is)) ∙ after_it))

strict-from : (p : Position) (moves : List Move) → InUciOrder p moves → Strict moves
strict-from p moves listed i j d lt below =
    less-by (get_or moves i d) (get_or moves j d) _ refl (listed.once i j d lt below) (sorted_far less order moves listed.ascending i j d (omega (arith, lt)) below)

never-both : (a b : Move) → less a b ≡ true → less b a ≡ true → ⊥
never-both a b one other = true≢false (sym other ∙ order.one_way a b one)

strict-tail : (m : Move) (moves : List Move) → Strict (m ∷ moves) → Strict moves
strict-tail m moves strict i j d lt below = strict (suc i) (suc j) d (omega (arith, lt)) (omega (arith, below))

strict-head : (m x : Move) (moves : List Move) → Strict (m ∷ moves) → Contains moves x → less m x ≡ true
strict-head m x moves strict at = subst (λ (y : Move). less m y ≡ true) at.2 (strict 0 (suc at.0) x (omega arith) (omega (arith, at.1)))

same-first : (m n : Move) (moves others : List Move) → Strict (m ∷ moves) → Strict (n ∷ others) → Contains (n ∷ others) m → Contains (m ∷ moves) n → m ≡ n
same-first m n moves others strict strict' in_other in_moves = by (contains-cases n others m in_other) (contains-cases m moves n in_moves) where
  by : (n ≡ m) ⊎ Contains others m → (m ≡ n) ⊎ Contains moves n → m ≡ n
  by (inl same) other = sym same
  by (inr at) (inl same) = same
  by (inr at) (inr at') = absurd (never-both m n (strict-head m n moves strict at') (strict-head n m others strict' at))

tail-in : (m n : Move) (moves others : List Move) → Strict (m ∷ moves) → m ≡ n → ((x : Move) → Contains (m ∷ moves) x → Contains (n ∷ others) x)
    → (x : Move) → Contains moves x → Contains others x
tail-in m n moves others strict same all x at = by (contains-cases n others x (all x (contains-later m moves x at))) where
  by : (n ≡ x) ⊎ Contains others x → Contains others x
  by (inl is) = let self : less m m ≡ true = subst (λ (y : Move). less m y ≡ true) (sym (same ∙ is)) (strict-head m x moves strict at) in absurd (never-both m m self self)
  by (inr there) = there

same-lists : (moves others : List Move) → Strict moves → Strict others → ((x : Move) → Contains moves x → Contains others x) → ((x : Move) → Contains others x → Contains moves x) → moves ≡ others
same-lists [] [] strict strict' to from = refl
same-lists [] (n ∷ others) strict strict' to from = (let at = from n (contains-first others n) in absurd (omega (arith, at.1)))
same-lists (m ∷ moves) [] strict strict' to from = (let at = to m (contains-first moves m) in absurd (omega (arith, at.1)))
same-lists (m ∷ moves) (n ∷ others) strict strict' to from =
    let same : m ≡ n = same-first m n moves others strict strict' (to m (contains-first moves m)) (from n (contains-first others n)) in
    let rest : moves ≡ others = same-lists moves others (strict-tail m moves strict) (strict-tail n others strict')
    (tail-in m n moves others strict same to) (tail-in n m others moves strict' (sym same) from) in
    λ i. same i ∷ rest i

one-list : (p : Position) (moves others : List Move) → InUciOrder p moves → InUciOrder p others → moves ≡ others
one-list p moves others listed listed' =
    same-lists moves others (strict-from p moves listed) (strict-from p others listed')
    (λ x at. (listed'.each x).1 ((listed.each x).0 at)) (λ x at. (listed.each x).1 ((listed'.each x).0 at))

-- ---- the moves that are drawn

abbrev AreSame : List Move → List Move → Lcg → Lcg → Type 0
AreSame moves others behind behind' = (moves ≡ others) × (behind ≡ behind')

stuck-draws : (plies : ℕ) (p : Position) (before : Lcg) (moves : List Move) (behind : Lcg) → ((m : Move) → ¬ Legal p m) → DrawsMoves plies p before moves behind → (moves ≡ []) × (behind ≡ before)
stuck-draws zero p before moves behind none draws = draws
stuck-draws (suc plies) p before moves behind none (inl draws) = (draws.1, draws.2)
stuck-draws (suc plies) p before moves behind none (inr (legal, m, rest, listed, picks, draws, is)) = absurd (none m ((listed.each m).0 (picked legal _ m picks))) where
  picked : (moves : List Move) (k : ℕ) (m : Move) → slice_get moves k ≡ Some m → Contains moves m
  picked [] k m e = absurd (grind (arith, e))
  picked (o ∷ moves) zero m e = (0, omega arith, same_Some o m e)
  picked (o ∷ moves) (suc k) m e = let at = picked moves k m e in (suc at.0, omega (arith, at.1), at.2)

one-draw : (plies : ℕ) (p : Position) (before : Lcg) (moves others : List Move) (behind behind' : Lcg)
    → DrawsMoves plies p before moves behind → DrawsMoves plies p before others behind' → AreSame moves others behind behind'
one-draw zero p before moves others behind behind' draws draws' = (draws.0 ∙ sym draws'.0, draws.1 ∙ sym draws'.1)
one-draw (suc plies) p before moves others behind behind' (inl draws) draws' =
    let other = stuck-draws (suc plies) p before others behind' draws.0 draws' in (draws.1 ∙ sym other.0, draws.2 ∙ sym other.1)
one-draw (suc plies) p before moves others behind behind' (inr draws) (inl draws') =
    let own = stuck-draws (suc plies) p before moves behind draws'.0 (inr draws) in (own.0 ∙ sym draws'.1, own.1 ∙ sym draws'.2)
one-draw (suc plies) p before moves others behind behind' (inr (legal, m, rest, listed, picks, draws, is)) (inr (legal', m', rest', listed', picks', draws', is')) =
    let lists : legal ≡ legal' = one-list p legal legal' listed listed' in
    let same : m ≡ m' = same_Some m m' (sym picks ∙ ap (λ (ms : List Move). slice_get ms (drawn (length ms) before)) lists ∙ picks') in
    let later_on : AreSame rest rest' behind behind' =
    one-draw plies (after p m) (later before) rest rest' behind behind' draws (subst (λ (x : Move). DrawsMoves plies (after p x) (later before) rest' behind') (sym same) draws') in
    (is ∙ ((λ i. same i ∷ later_on.0 i) ∙ sym is'), later_on.1)

-- ---- the text

module _ (one_writing : (p : Position) (m : Move) (text other : List ℕ) → SanText p m text → SanText p m other → text ≡ other) where
  one-movetext : (p : Position) (ply : ℕ) (moves : List Move) (text other : List ℕ) → WritesMoves p ply moves text → WritesMoves p ply moves other → text ≡ other
  one-movetext p ply [] text other writes writes' = writes ∙ sym writes'
  one-movetext p ply (m ∷ moves) text other writes writes' =
      let san : writes.0 ≡ writes'.0 = one_writing p m writes.0 writes'.0 writes.2 writes'.2 in
      let rest : writes.1 ≡ writes'.1 = one-movetext (after p m) (ply + 1) moves writes.1 writes'.1 writes.3 writes'.3 in
      writes.4 ∙ ((λ i. number_text ply ++ san i ++ codes " " ++ rest i) ∙ sym writes'.4)

  pub one-sample : (index : ℕ) (before : Lcg) (text other : List ℕ) (behind behind' : Lcg) → IsSample index before text behind → IsSample index before other behind'
      → (text ≡ other) × (behind ≡ behind')
  one-sample index before text other behind behind' s s' =
      let drawn_same : AreSame s.moves s'.moves s.played s'.played = one-draw (20 + drawn 41 before) start (later before) s.moves s'.moves s.played s'.played s.draws s'.draws in
      let movetext : s.movetext ≡ s'.movetext =
      one-movetext start 0 s.moves s.movetext s'.movetext s.writes (subst (λ (ms : List Move). WritesMoves start 0 ms s'.movetext) (sym drawn_same.0) s'.writes) in
      let whole : Lcg → List ℕ → List ℕ = λ played moves. header_text index (header_drawn played) ++ codes "\n" ++ moves ++ (header_drawn played).result ++ codes "\n\n" in
      (s.text_is ∙ ((λ i. whole (drawn_same.1 i) (movetext i)) ∙ sym s'.text_is), s.behind_is ∙ (ap behind_header drawn_same.1 ∙ sym s'.behind_is))
