-- What an index covers, and more of it.
use Rattle.std.proofs.Common.{◌≡◌, ℕ, zero, suc, ◌+◌, ◌-◌, ◌*◌, ◌<◌, Bool, List, [], ◌∷◌, ◌++◌, length, map, Result, Ok, refl, sym, ap, subst, ◌∙◌, arith}
use Rattle.std.specs.List.{AllByRecursion, AllZip}
use Rattle.std.proofs.lemmas.List.{append_assoc, append-nil, length-append, map-append, nil_from_length}
use Rattle.std.proofs.lemmas.List.Concat.{flat_map-append}
use Rattle.explorer_model.specs.declared.archive.Batch.{Batch}
use Rattle.explorer_model.specs.declared.archive.Classes.{Classes}
use Rattle.explorer_model.specs.declared.archive.Game.{Game}
use Rattle.explorer_model.specs.declared.fault.GameFault.{GameFault}
use Rattle.explorer_model.specs.declared.chess.Color.TheVariants.{White, Black}
use Rattle.explorer_model.specs.Games.{GameOf}
use Rattle.explorer_model.specs.Timeline.{IsPrefix}
use Rattle.explorer_model.specs.Visits.{IsTextOf, texts_of}
use Rattle.explorer_model.proofs.Lists.{one-zip, zip-append}
use Rattle.explorer_model.proofs.Readings.{Ok-injective}
use Rattle.published_index.specs.Cover.{journal_of}
use Rattle.segment_blocks.specs.Segment.{CountedSpan, IsSegment}
use Rattle.best_lists.proofs.Ranked.{puts, ranked, length-ranked, ranked-append, ranked-comm, ranked-InOrder, InOrder-ranked}
use Rattle.std.specs.Ordering.{is_lt}
use Rattle.plain_laws.specs.Lists.{get-front}
use Rattle.player_index.specs.declared.entry.Entry.{Entry}
use Rattle.player_index.specs.Entries.{before, entries_from, entries_in, entry, place_of, place_order, seat_by, name_in}
use Rattle.player_index.specs.Index.{AreClassesOf}
use Rattle.row_sums.specs.Listing.{classes_in}
use Rattle.player_index.proofs.Orders.{entry-order}
use Rattle.player_index.proofs.Ranking.{ranked-agree}

-- ---- a journal has one list of classes

abbrev pub OneGame : Type 0
OneGame = (text : List ℕ) (game other : Result Game GameFault) → GameOf text game → GameOf text other → game ≡ other

one-game : OneGame → (text : List ℕ) (g h : Game) → IsTextOf text g → IsTextOf text h → g ≡ h
one-game one text g h first second = Ok-injective g h (one text (Ok g) (Ok h) first second)

pub one-classes : OneGame → (journal : List Batch) (classes others : List Classes) → AreClassesOf journal classes → AreClassesOf journal others → classes ≡ others
one-classes one journal classes others first second =
    first.are_classes
    ∙ ap (map (λ g. g.classes)) (one-zip IsTextOf (one-game one) (texts_of journal) first.games second.games first.are_games second.are_games)
    ∙ sym second.are_classes

-- a pair of lists in two
record SplitsZip {A B : Type 0} (R : A → B → Type 0) (xs vs : List A) (zs : List B) : Type 0 where
  ys : List B
  ws : List B
  is : zs ≡ ys ++ ws
  left : AllZip R xs ys
  right : AllZip R vs ws

zip-split : {A B : Type 0} (R : A → B → Type 0) (xs vs : List A) (zs : List B) → AllZip R (xs ++ vs) zs → SplitsZip R xs vs zs
zip-split R [] vs zs each = record { ys = []; ws = zs; is = refl; left = tt; right = each }
zip-split R (x ∷ xs) vs [] each = absurd each
zip-split R (x ∷ xs) vs (z ∷ zs) each =
    let rest = zip-split R xs vs zs each.1 in
    record { ys = z ∷ rest.ys; ws = rest.ws; is = ap (λ l. z ∷ l) rest.is; left = (each.0, rest.left); right = rest.right }

-- a journal that begins with another has more classes behind those of the other
pub more-classes : OneGame → (front whole : List Batch) (classes all : List Classes) → IsPrefix front whole → AreClassesOf front classes → AreClassesOf whole all
    → (more : List Classes) × (all ≡ classes ++ more)
more-classes one front whole classes all prefix first second =
    let texts : texts_of whole ≡ texts_of front ++ texts_of prefix.rest =
    ap texts_of prefix.is ∙ flat_map-append (λ b. b.texts) front prefix.rest in
    let parts = zip-split IsTextOf (texts_of front) (texts_of prefix.rest) second.games
    (subst (λ l. AllZip IsTextOf l second.games) texts second.are_games) in
    let same : parts.ys ≡ first.games = one-zip IsTextOf (one-game one) (texts_of front) parts.ys first.games parts.left first.are_games in (
      map (λ g. g.classes) parts.ws,
      second.are_classes ∙ ap (map (λ g. g.classes)) (parts.is ∙ ap (λ l. l ++ parts.ws) same) ∙ map-append (λ g. g.classes) first.games parts.ws
          ∙ ap (λ l. l ++ map (λ g. g.classes) parts.ws) (sym first.are_classes),
    )

-- what segments say of their games
pub segments-classes : (list : List CountedSpan) → AllByRecursion IsSegment list → AreClassesOf (journal_of list) (classes_in list)
segments-classes [] each = record { games = []; are_games = tt; are_classes = refl }
segments-classes (segment ∷ list) each =
    let rest = segments-classes list each.1 in
    let tally = each.0.tally in
    record {
      games = tally.games ++ rest.games;
      are_games = subst (λ l. AllZip IsTextOf l (tally.games ++ rest.games)) (sym (flat_map-append (λ b. b.texts) segment.span.batches (journal_of list)))
          (zip-append IsTextOf (texts_of segment.span.batches) (texts_of (journal_of list)) tally.games rest.games tally.are_games rest.are_games);
      are_classes = (λ k. tally.classes_are k ++ rest.are_classes k) ∙ sym (map-append (λ g. g.classes) tally.games rest.games);
    }

-- what an index of the journal of segments knows of its games is what the segments say
pub read-classes : OneGame → (list : List CountedSpan) → AllByRecursion IsSegment list → {journal : List Batch} → journal ≡ journal_of list
    → {classes : List Classes} → AreClassesOf journal classes → classes ≡ classes_in list
read-classes one list each {journal} is {classes} known =
    one-classes one (journal_of list) classes (classes_in list) (subst (λ j. AreClassesOf j classes) is known) (segments-classes list each)

-- ---- entries

pub entries-none : (first : ℕ) → [] ≡ entries_from first 0
unfolding entries_from
entries-none first = refl

pub entries-nowhere : [] ≡ entries_in []
unfolding entries_from ranked
entries-nowhere = refl

pub entries-append : (first count more : ℕ) → entries_from first (count + more) ≡ entries_from first count ++ entries_from (first + count) more
unfolding entries_from
entries-append first zero more =
    let e : zero + more ≡ more = omega arith in
    let f : first ≡ first + zero = omega arith in
    (λ k. entries_from (f k) (e k))
entries-append first (suc count) more =
    let e : suc count + more ≡ suc (count + more) = omega arith in
    let f : first + 1 + count ≡ first + suc count = omega arith in
    ap (entries_from first) e
    ∙ ap (λ l. entry first White ∷ entry first Black ∷ l) (entries-append (first + 1) count more)
    ∙ ap (λ n. entry first White ∷ entry first Black ∷ (entries_from (first + 1) count ++ entries_from n more)) f

pub entries-push : (first count : ℕ) → entries_from first (count + 1) ≡ (entries_from first count ++ entry (first + count) White ∷ []) ++ entry (first + count) Black ∷ []
unfolding entries_from
entries-push first count =
    entries-append first count 1 ∙ sym (append_assoc (entries_from first count) (entry (first + count) White ∷ []) (entry (first + count) Black ∷ []))

pub entries-below : (first count : ℕ) → AllByRecursion (λ e. e.number < first + count) (entries_from first count)
unfolding entries_from
entries-below first zero = tt
entries-below first (suc count) =
    let e : first + 1 + count ≡ first + suc count = omega arith in
    let rest = subst (λ n. AllByRecursion (λ (e : Entry). e.number < n) (entries_from (first + 1) count)) e (entries-below (first + 1) count) in
    (omega arith, (omega arith, rest))

module _ (classes more : List Classes) where
  place-same : (e : Entry) → e.number < length classes → place_of (classes ++ more) e ≡ place_of classes e
  place-same e within = ap (λ o. (seat_by (name_in e.color o) e.color, e.number)) (get-front classes more e.number within)

  order-same : (a b : Entry) → a.number < length classes → b.number < length classes → before (classes ++ more) a b ≡ before classes a b
  order-same a b first second = (λ k. is_lt (place_order (place-same a first k) (place-same b second k)))

  -- the entries of the first games stand in the same order among those of all
  pub entries-stay : ranked (before (classes ++ more)) (entries_from 0 (length classes)) ≡ entries_in classes
  entries-stay =
      let olds = entries_from 0 (length classes) in
      let below : AllByRecursion (λ e. e.number < length classes) olds =
      subst (λ n. AllByRecursion (λ (e : Entry). e.number < n) olds) (let z : 0 + length classes ≡ length classes = omega arith in z) (entries-below 0 (length classes)) in
      ranked-agree (λ (e : Entry). e.number < length classes) (before (classes ++ more)) (before classes) order-same olds below

  -- the entries of more games, put into those of the first
  pub entries-more : puts (before (classes ++ more)) (ranked (before (classes ++ more)) (entries_from (length classes) (length more))) (entries_in classes)
      ≡ entries_in (classes ++ more)
  entries-more =
      let order = entry-order (classes ++ more) in
      let by = before (classes ++ more) in
      let olds = entries_from 0 (length classes) in
      let news = entries_from (length classes) (length more) in
      let same : ranked by olds ≡ entries_in classes = entries-stay in
      let count : length (classes ++ more) ≡ length classes + length more = length-append classes more in
      ap (puts by (ranked by news)) (sym same)
      ∙ sym (ranked-append by (ranked by news) olds)
      ∙ ranked-comm order (ranked by news) olds
      ∙ ranked-append by olds (ranked by news)
      ∙ ap (puts by olds) (ranked-InOrder by (ranked by news) (InOrder-ranked order news))
      ∙ sym (ranked-append by olds news)
      ∙ ap (ranked by) (sym (entries-append 0 (length classes) (length more)
      ∙ ap (λ n. olds ++ entries_from n (length more)) (let z : 0 + length classes ≡ length classes = omega arith in z)))
      ∙ ap (λ n. ranked by (entries_from 0 n)) (sym count)

-- ---- an index that covers more

-- what segments say of more games than are known
pub more-read : OneGame → (list : List CountedSpan) → AllByRecursion IsSegment list → {front : List Batch} → IsPrefix front (journal_of list)
    → {classes : List Classes} → AreClassesOf front classes → (more : List Classes) × (classes_in list ≡ classes ++ more)
more-read one list each {front} prefix {classes} known =
    more-classes one front (journal_of list) classes (classes_in list) prefix known (segments-classes list each)

module _ (all classes more : List Classes) (is : all ≡ classes ++ more) where
  pub count-more : length all ≡ length classes + length more
  count-more = ap length is ∙ length-append classes more

  pub entries-stay-in : ranked (before all) (entries_from 0 (length classes)) ≡ entries_in classes
  entries-stay-in = subst (λ l. ranked (before l) (entries_from 0 (length classes)) ≡ entries_in classes) (sym is) (entries-stay classes more)

  pub entries-grow : (n m : ℕ) → n ≡ length classes → m ≡ length all
      → puts (before all) (ranked (before all) (entries_from n (m - n))) (entries_in classes) ≡ entries_in all
  entries-grow n m from to =
      let by = before all in
      let rest : m - n ≡ length more = omega (arith, from, to, count-more) in
      (λ k. puts by (ranked by (entries_from (from k) (rest k))) (entries_in classes))
      ∙ subst (λ l. puts (before l) (ranked (before l) (entries_from (length classes) (length more))) (entries_in classes) ≡ entries_in l) (sym is)
      (entries-more classes more)

pub length-entries : (first count : ℕ) → length (entries_from first count) ≡ 2 * count
unfolding entries_from
length-entries first zero = refl
length-entries first (suc count) = omega (arith, length-entries (first + 1) count)

pub length-ranked_entries : (by : Entry → Entry → Bool) (first count : ℕ) → length (ranked by (entries_from first count)) ≡ 2 * count
length-ranked_entries by first count = length-ranked by (entries_from first count) ∙ length-entries first count

-- a journal that is no longer than its front is its front
pub prefix-whole : {A : Type 0} (front whole : List A) → IsPrefix front whole → length whole ≡ length front → front ≡ whole
prefix-whole front whole prefix long =
    let none : prefix.rest ≡ [] = nil_from_length prefix.rest (omega (arith, long, ap length prefix.is, length-append front prefix.rest)) in
    sym (prefix.is ∙ ap (λ l. front ++ l) none ∙ append-nil front)
