-- Neighbours of a list, and how few segments there are where none are due.
use Rattle.std.proofs.Common.{get_or, ◌≡◌, ◌<◌, ◌≤◌, ◌+◌, ◌*◌, ◌^◌, ℕ, zero, suc, Bool, true, false, List, [], ◌∷◌, ◌++◌, length, length-drop, map, set, take, drop, Option, None, Some, refl, sym, ap, ◌∙◌, subst, arith, length-append}
use Rattle.std.proofs.Math.Nat.{pow-suc}
use Rattle.std.proofs.Math.Pow.{pow_mono}
use Rattle.std.proofs.lemmas.Bool.Decides.{nat_tests}
use Rattle.std.proofs.lemmas.Grind.{flat_map-append}
use Rattle.std.proofs.lemmas.List.{length-map, length-take-le}
use Rattle.std.proofs.lemmas.List.Elements.{recursion_from_All}
use Rattle.std.proofs.lemmas.Slice.Zip.{AllZip-long}
use Rattle.std.proofs.lemmas.Option.{same_Some, slice_get-map, slice_get_read, slice_get_within}
use Rattle.std.specs.Option.{option_map}
use Rattle.std.specs.Prelude.{nat_lt, slice_get}
use Rattle.explorer_model.specs.declared.archive.Batch.{Batch}
use Rattle.explorer_model.specs.declared.archive.Game.{Game}
use Rattle.explorer_model.specs.Journal.{IsBatch, game_count, game_limit}
use Rattle.explorer_model.specs.Spans.{Adjoin, Span}
use Rattle.explorer_model.specs.Visits.{IsTextOf, texts_of}
use Rattle.segment_blocks.specs.Segment.{CanJoin, CountedSpan, IsSegment}
use Rattle.explorer_model.specs.Timeline.{both}
use Rattle.published_index.proofs.CoverLemmas.{IsBoth, journal-joined, list-joined, map-joined}
use Rattle.published_index.specs.Changes as index
use Rattle.published_index.specs.Cover.{IsList, journal_of, spans_of}
use Rattle.ingest_desk.specs.Installs.{HaveSpans, StandAt}
use Rattle.ingest_desk.specs.Picking.{AreAt, AreDue, HasNoneDue, IsLastDue, IsPicked, NoneDueFrom}
use Rattle.ingest_desk.proofs.RegisterLemmas.{few_batches}

-- ---- games of segments

pub games_of : (segment : CountedSpan) → IsSegment segment
    → length segment.classes ≡ length (texts_of segment.span.batches)
games_of segment is =
    ap length is.tally.classes_are
    ∙ length-map is.tally.games (λ (game : Game). game.classes)
    ∙ AllZip-long IsTextOf (texts_of segment.span.batches) is.tally.games is.tally.are_games

some_games : (segment : CountedSpan) → IsSegment segment → 0 < length segment.classes
some_games segment is =
    omega (
      arith,
      games_of segment is,
      is.some,
      few_batches segment.span.batches (recursion_from_All IsBatch segment.span.batches is.batches),
    )

texts-append : (front rest : List Batch)
    → length (texts_of (front ++ rest)) ≡ length (texts_of front) + length (texts_of rest)
texts-append front rest =
    ap length (flat_map-append (λ (batch : Batch). batch.texts) front rest)
    ∙ length-append (texts_of front) (texts_of rest)

games-cons : (segment : CountedSpan) (list : List CountedSpan)
    → game_count (journal_of (segment ∷ list))
    ≡ length (texts_of segment.span.batches) + game_count (journal_of list)
games-cons segment list = texts-append segment.span.batches (journal_of list)

-- ---- neighbours

next-place : (at : ℕ) → suc at + 1 ≡ suc (at + 1)
next-place at = omega arith

pub at_tail : (segment : CountedSpan) (list : List CountedSpan) (at : ℕ) (left right : CountedSpan)
    → AreAt (segment ∷ list) (suc at) left right → AreAt list at left right
at_tail segment list at left right stand = record {
  left_is = stand.left_is;
  right_is = ap (slice_get (segment ∷ list)) (sym (next-place at)) ∙ stand.right_is;
}

pub at_cons : (segment : CountedSpan) (list : List CountedSpan) (at : ℕ) (left right : CountedSpan)
    → AreAt list at left right → AreAt (segment ∷ list) (suc at) left right
at_cons segment list at left right stand = record {
  left_is = stand.left_is;
  right_is = ap (slice_get (segment ∷ list)) (next-place at) ∙ stand.right_is;
}

none_some : (left : CountedSpan) (P : Type 0) → Path (Option CountedSpan) None (Some left) → P
none_some left P e = absurd (no left e)
  where
    no : (left : CountedSpan) → Path (Option CountedSpan) None (Some left) → ⊥
    no left e = cc

-- the games of neighbours are among those of the list
pub pair_games : (list : List CountedSpan) (at : ℕ) (left right : CountedSpan)
    → AreAt list at left right
    → length (texts_of left.span.batches) + length (texts_of right.span.batches)
    ≤ game_count (journal_of list)
pair_games [] at left right stand = none_some left _ stand.left_is
pair_games (first ∷ []) zero left right stand = none_some right _ stand.right_is
pair_games (first ∷ second ∷ list) zero left right stand =
    let l = ap (λ (s : CountedSpan). length (texts_of s.span.batches)) (same_Some first left stand.left_is) in
    let r = ap (λ (s : CountedSpan). length (texts_of s.span.batches)) (same_Some second right stand.right_is) in
    omega (arith, l, r, games-cons first (second ∷ list), games-cons second list)
pair_games (first ∷ list) (suc at) left right stand =
    omega (
      arith,
      games-cons first list,
      pair_games list at left right (at_tail first list at left right stand),
    )

-- the right one begins where the left one ends
pub pair_adjoin : (first : ℕ) (list : List CountedSpan) (at : ℕ) (left right : CountedSpan)
    → Adjoin first (spans_of list) → AreAt list at left right
    → right.span.first ≡ left.span.first + length left.span.batches
pair_adjoin first [] at left right adjoin stand = none_some left _ stand.left_is
pair_adjoin first (one ∷ []) zero left right adjoin stand = none_some right _ stand.right_is
pair_adjoin first (one ∷ two ∷ list) zero left right adjoin stand =
    let l = same_Some one left stand.left_is in
    let r = same_Some two right stand.right_is in
    ap (λ (s : CountedSpan). s.span.first) (sym r)
    ∙ adjoin.1.0
    ∙ ap (λ n. n + length one.span.batches) (sym adjoin.0)
    ∙ ap (λ (s : CountedSpan). s.span.first + length s.span.batches) l
pair_adjoin first (one ∷ list) (suc at) left right adjoin stand =
    pair_adjoin (first + length one.span.batches) list at left right adjoin.1
    (at_tail one list at left right stand)

-- neighbours can become one
pub can_join : (list : List CountedSpan) (at : ℕ) (left right : CountedSpan) → IsList list
    → game_count (journal_of list) ≤ game_limit → AreAt list at left right → IsSegment left
    → IsSegment right → CanJoin left right
can_join list at left right is few stand left_is right_is = record {
  adjoin = pair_adjoin 0 list at left right is.covers.adjoin stand;
  few = omega (
    arith,
    games_of left left_is,
    games_of right right_is,
    pair_games list at left right stand,
    few,
  );
}

-- ---- lists without neighbours that are due

pub record IsSteep (left right : CountedSpan) : Type 0 where
  pub left_is : IsSegment left
  pub right_is : IsSegment right
  pub more : 2 * length right.classes < length left.classes

abbrev pub AreSteepFrom : ℕ → List CountedSpan → Type 0
AreSteepFrom first list =
    (at : ℕ) (left right : CountedSpan) → first ≤ at → AreAt list at left right → IsSteep left right

steep_tail : (first : CountedSpan) (list : List CountedSpan) → AreSteepFrom 0 (first ∷ list)
    → AreSteepFrom 0 list
steep_tail first list steep at left right least stand =
    steep (suc at) left right (omega arith) (at_cons first list at left right stand)

grown : (first : CountedSpan) (list : List CountedSpan) → AreSteepFrom 0 (first ∷ list)
    → 0 < length first.classes → 2 ^ length (first ∷ list) ≤ length first.classes + 1
grown first [] steep some = omega (arith, some)
grown first (second ∷ list) steep some =
    let pair = steep 0 first second (omega arith) (record { left_is = refl; right_is = refl }) in
    let rest = grown second list (steep_tail first (second ∷ list) steep) (some_games second pair.right_is) in
    let twice : 2 ^ length (first ∷ second ∷ list) ≡ 2 ^ length (second ∷ list) * 2 =
    pow-suc 2 (length (second ∷ list)) in
    omega (arith, pair.more, rest, twice)

few_by : (n : ℕ) (over : Bool) → nat_lt 18 n ≡ over → 2 ^ n ≤ 262145 → n ≤ 18
few_by n true is small =
    let above : 19 ≤ n = grind (arith, nat_tests) in
    let much : 2 ^ 19 ≤ 2 ^ n = pow_mono above in
    absurd (omega (arith, much, small))
few_by n false is small = grind (arith, nat_tests)

few_steep : (list : List CountedSpan) → AreSteepFrom 0 list
    → game_count (journal_of list) ≤ game_limit → length list ≤ 18
few_steep [] steep few = omega arith
few_steep (first ∷ []) steep few = omega arith
few_steep (first ∷ second ∷ list) steep few =
    let pair = steep 0 first second (omega arith) (record { left_is = refl; right_is = refl }) in
    let big = grown first (second ∷ list) steep (some_games first pair.left_is) in
    let small : 2 ^ length (first ∷ second ∷ list) ≤ 262145 =
    omega (arith, big, games_of first pair.left_is, games-cons first (second ∷ list), few) in
    few_by (length (first ∷ second ∷ list)) (nat_lt 18 (length (first ∷ second ∷ list))) refl small

pub none_due : (first : ℕ) (list : List CountedSpan) → AreSteepFrom first list
    → NoneDueFrom first list
none_due first list steep at left right least stand due =
    omega (arith, (steep at left right least stand).more, due)

pub has_none_due : (list : List CountedSpan) → AreSteepFrom 0 list
    → game_count (journal_of list) ≤ game_limit → HasNoneDue list
has_none_due list steep few = record {
  none = none_due 0 list steep;
  few = few_steep list steep few;
}

-- one place more
pub steep_more : (at : ℕ) (list : List CountedSpan) (left right : CountedSpan)
    → AreAt list at left right → IsSteep left right → AreSteepFrom (at + 1) list
    → AreSteepFrom at list
steep_more at list left right stand pair later k l r least there =
    by (nat_lt at k) refl
  where
    same : (k : ℕ) → at ≡ k → AreAt list k l r → IsSteep l r
    same k e there =
        let here = subst (λ n. AreAt list n l r) (sym e) there in
        let a = same_Some left l (sym stand.left_is ∙ here.left_is) in
        let b = same_Some right r (sym stand.right_is ∙ here.right_is) in
        subst (λ x. IsSteep x r) a (subst (λ y. IsSteep left y) b pair)

    by : (beyond : Bool) → nat_lt at k ≡ beyond → IsSteep l r
    by true is = later k l r (grind (arith, nat_tests)) there
    by false is = same k (grind (arith, nat_tests)) there

-- ---- what the loop finds

pub at_items : {A : Type 0} (v : A → CountedSpan) (xs : List A) (at : ℕ) (x y : A)
    → at + 1 < length xs → x ≡ get_or xs at x → y ≡ get_or xs (at + 1) y
    → AreAt (map v xs) at (v x) (v y)
at_items v xs at x y inside left right = record {
  left_is =
      slice_get-map v xs at
      ∙ ap (option_map v) (slice_get_read xs (length xs) at x refl (omega (arith, inside)) left);
  right_is =
      slice_get-map v xs (at + 1)
      ∙ ap (option_map v) (slice_get_read xs (length xs) (at + 1) y refl inside right);
}

true_false : (b : Bool) → b ≡ true → b ≡ false → ⊥
true_false b true_is false_is = cc

pub not_due : (l r : ℕ) (b : Bool) → (l ≤ 2 * r → b ≡ true) → b ≡ false → 2 * r < l
not_due l r b due false_is = by (nat_lt (2 * r) l) refl
  where
    by : (more : Bool) → nat_lt (2 * r) l ≡ more → 2 * r < l
    by true is = grind (arith, nat_tests)
    by false is =
        let least : l ≤ 2 * r = grind (arith, nat_tests) in absurd (true_false b (due least) false_is)

-- neighbours that are there and can become one
pub record CanMerge (list : List CountedSpan) (at : ℕ) (left right : CountedSpan) : Type 0 where
  pub stand : AreAt list at left right
  pub join : CanJoin left right
  pub inside : at + 1 < length list

-- the neighbours that were picked
pub picked : {A : Type 0} (v : A → CountedSpan) (xs : List A) (at : ℕ) (x y : A)
    (list : List CountedSpan) → map v xs ≡ list → IsList list
    → game_count (journal_of list) ≤ game_limit → IsLastDue (map v xs) at
    → x ≡ get_or xs at x → y ≡ get_or xs (at + 1) y → IsSegment (v x) → IsSegment (v y)
    → CanMerge list at (v x) (v y)
picked v xs at x y list are is few due left right left_is right_is =
    let inside : at + 1 < length xs =
    omega (arith, slice_get_within (map v xs) (at + 1) due.right due.stand.right_is, length-map xs v) in
    let stand : AreAt list at (v x) (v y) =
    subst (λ l. AreAt l at (v x) (v y)) are (at_items v xs at x y inside left right) in
    record {
      stand = stand;
      join = can_join list at (v x) (v y) is few stand left_is right_is;
      inside = slice_get_within list (at + 1) (v y) stand.right_is;
    }

-- the list may get the segment of both
pub may_replace : (list : List CountedSpan) (at : ℕ) (left right segment : CountedSpan)
    → CanMerge list at left right → segment.span ≡ both left.span right.span
    → index.CanJoin list at segment
may_replace list at left right segment can is = record {
  pair = can.inside;
  spans = λ l r first second.
      is
      ∙ ap (λ (s : CountedSpan). both s.span right.span)
      (same_Some left l (sym can.stand.left_is ∙ first))
      ∙ ap (λ (s : CountedSpan). both l.span s.span)
      (same_Some right r (sym can.stand.right_is ∙ second));
}

-- a list of which two segments became one
pub joined_length : (list : List CountedSpan) (at : ℕ) (segment : CountedSpan)
    → at + 1 < length list → length (take at list ++ segment ∷ drop (at + 2) list) + 1 ≡ length list
joined_length list at segment inside =
    omega (
      arith,
      inside,
      length-append (take at list) (segment ∷ drop (at + 2) list),
      length-take-le at list (omega (arith, inside)),
      length-drop (at + 2) list,
    )

-- ---- neighbours with given spans

pub list_same : {X : Type 0} (xs ys : List X) → length xs ≡ length ys
    → ((k : ℕ) → k < length xs → slice_get xs k ≡ slice_get ys k) → xs ≡ ys
list_same [] [] long each = refl
list_same [] (y ∷ ys) long each = absurd (omega (arith, long))
list_same (x ∷ xs) [] long each = absurd (omega (arith, long))
list_same {X} (x ∷ xs) (y ∷ ys) long each =
    let head : x ≡ y = same x y (each 0 (omega arith)) in
    let tail = list_same xs ys (omega (arith, long)) (λ k lt. each (suc k) (omega (arith, lt))) in
    λ i. head i ∷ tail i
  where
    same : (x y : X) → Some x ≡ Some y → x ≡ y
    same x y e = cc

pub span_same : (a b : Span) → a.first ≡ b.first → length a.batches ≡ length b.batches
    → ((k : ℕ) → k < length a.batches → slice_get a.batches k ≡ slice_get b.batches k) → a ≡ b
span_same a b first long each =
    let batches = list_same a.batches b.batches long each in
    λ i. record { first = first i; batches = batches i }

-- one place more at which the neighbours are not
abbrev pub AreNotFrom : ℕ → List CountedSpan → Span → Span → Type 0
AreNotFrom first list left right = (at : ℕ) → first ≤ at → ¬ StandAt list at left right

pub not_from_more : (at : ℕ) (list : List CountedSpan) (x y : CountedSpan) (left right : Span)
    → AreAt list at x y → ¬ HaveSpans x.span y.span left right
    → ((k : ℕ) → at + 1 ≤ k → ¬ StandAt list k left right)
    → (k : ℕ) → at ≤ k → ¬ StandAt list k left right
not_from_more at list x y left right here apart later k least stands = by (nat_lt at k) refl
  where
    same : at ≡ k → ⊥
    same e =
        let stand : AreAt list at stands.first stands.second =
        subst (λ n. AreAt list n stands.first stands.second) (sym e) stands.stand in
        let a = same_Some x stands.first (sym here.left_is ∙ stand.left_is) in
        let b = same_Some y stands.second (sym here.right_is ∙ stand.right_is) in
        apart (
          ap (λ (s : CountedSpan). s.span) a ∙ stands.left_is,
          ap (λ (s : CountedSpan). s.span) b ∙ stands.right_is,
        )

    by : (beyond : Bool) → nat_lt at k ≡ beyond → ⊥
    by true is = later k (grind (arith, nat_tests)) stands
    by false is = same (grind (arith, nat_tests))

at_one : (list : List CountedSpan) (at : ℕ) (left right l r : CountedSpan)
    → AreAt list at left right → slice_get list at ≡ Some l → slice_get list (at + 1) ≡ Some r
    → (l ≡ left) × (r ≡ right)
at_one list at left right l r stand first second =
    (same_Some l left (sym first ∙ stand.left_is), same_Some r right (sym second ∙ stand.right_is))

-- what the last neighbours that are due are
pub is_picked : (items list : List CountedSpan) (at : ℕ) (left right : CountedSpan)
    → items ≡ list → IsLastDue items at → CanMerge list at left right → IsPicked list left right
is_picked items list at left right are due can =
    let there : AreAt list at due.left due.right =
    subst (λ l. AreAt l at due.left due.right) are due.stand in
    let one = at_one list at left right due.left due.right can.stand there.left_is there.right_is in
    let D : CountedSpan → CountedSpan → Type 0 = λ l r. AreDue l r in
    record {
      at = at;
      stand = can.stand;
      due = subst (λ r. D left r) one.1 (subst (λ l. D l due.right) one.0 due.due);
      last = subst (NoneDueFrom (at + 1)) are due.last;
      join = can.join;
    }

-- the list with the segment of both
pub joined_list : {A : Type 0} (v : A → CountedSpan) (xs removed : List A) (at : ℕ) (x : A)
    (left right : CountedSpan) → IsList (map v xs) → CanMerge (map v xs) at left right
    → (v x).span ≡ both left.span right.span → removed ≡ take at xs ++ drop (at + 1) xs
    → IsList (map v (set removed at x)) × (journal_of (map v (set removed at x)) ≡ journal_of (map v xs))
joined_list v xs removed at x left right is can span less =
    let list = map v xs in
    let pair : at + 1 < length xs = omega (arith, can.inside, length-map xs v) in
    let items = map-joined v xs removed at x pair less in
    let one : at + 1 ≡ suc at = omega arith in
    let next : slice_get list (suc at) ≡ Some right =
    subst (λ (n : ℕ). slice_get list n ≡ Some right) one can.stand.right_is in
    let lt : suc at < length list = omega (arith, can.inside) in
    let batches : (v x).span.batches ≡ left.span.batches ++ right.span.batches = ap (λ (s : Span). s.batches) span in
    let both_is : IsBoth left right (v x) = record {
      first = ap (λ (s : Span). s.first) span;
      count = ap length batches ∙ length-append left.span.batches right.span.batches;
    } in (
      subst IsList (sym items) (list-joined list at (v x) left right lt can.stand.left_is next both_is is),
      ap journal_of items ∙ journal-joined list at (v x) left right can.stand.left_is next batches,
    )

-- the segment of neighbours that stand there may come in their place
pub may_install : (list : List CountedSpan) (at : ℕ) (left right : Span) (segment : CountedSpan)
    → StandAt list at left right → segment.span ≡ both left right → index.CanJoin list at segment
may_install list at left right segment stands is = record {
  pair = slice_get_within list (at + 1) stands.second stands.stand.right_is;
  spans = λ l r first second.
      let a = same_Some stands.first l (sym stands.stand.left_is ∙ first) in
      let b = same_Some stands.second r (sym stands.stand.right_is ∙ second) in
      is
      ∙ ap (λ (s : Span). both s right) (sym stands.left_is ∙ ap (λ (x : CountedSpan). x.span) a)
      ∙ ap (λ (s : Span). both l.span s) (sym stands.right_is ∙ ap (λ (x : CountedSpan). x.span) b);
}

-- a list that is one item shorter
pub less_length : {A : Type 0} (xs ys : List A) (at : ℕ) → at + 1 < length xs
    → ys ≡ take at xs ++ drop (at + 1) xs → at < length ys
less_length xs ys at inside is =
    omega (
      arith,
      inside,
      ap length is,
      length-append (take at xs) (drop (at + 1) xs),
      length-take-le at xs (omega (arith, inside)),
      length-drop (at + 1) xs,
    )

-- ---- a list has one last pair

-- a pair that is due stands nowhere behind the last one
not_behind : (list : List CountedSpan) (at : ℕ) (left right : CountedSpan) (other : ℕ)
    → AreAt list at left right → AreDue left right → NoneDueFrom (other + 1) list → at ≤ other
not_behind list at left right other stand due last = by (nat_lt other at) refl
  where
    by : (behind : Bool) → nat_lt other at ≡ behind → at ≤ other
    by true is = absurd (last at left right (grind (arith, nat_tests)) stand due)
    by false is = grind (arith, nat_tests)

-- it stands at one place
pub same_place : (list : List CountedSpan) (left right first second : CountedSpan)
    → (a : IsPicked list left right) → (b : IsPicked list first second) → a.at ≡ b.at
same_place list left right first second a b =
    omega (
      arith,
      not_behind list a.at left right b.at a.stand a.due b.last,
      not_behind list b.at first second a.at b.stand b.due a.last,
    )

pub one_picked : (list : List CountedSpan) (left right first second : CountedSpan)
    → IsPicked list left right → IsPicked list first second → (left ≡ first) × (right ≡ second)
one_picked list left right first second a b =
    let same = sym (same_place list left right first second a b) in
    let there : AreAt list a.at first second = subst (λ n. AreAt list n first second) same b.stand in
    at_one list a.at first second left right there a.stand.left_is a.stand.right_is

pub picked_or_none : (list : List CountedSpan) (left right : CountedSpan) → HasNoneDue list
    → IsPicked list left right → ⊥
picked_or_none list left right none found =
    none.none found.at left right (omega arith) found.stand found.due
