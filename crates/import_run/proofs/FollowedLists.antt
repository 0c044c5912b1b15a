-- Lists that follow batches: their journals, and that they stand alike.
use Rattle.std.proofs.Common.{◌≡◌, ◌≤◌, ◌<◌, ◌+◌, ℕ, zero, suc, Bool, true, false, List, [], ◌∷◌, ◌++◌, length, take, drop, Some, inl, inr, refl, sym, ap, ◌∙◌, subst, arith, length-append, append_assoc, append-nil}
use Rattle.std.proofs.lemmas.Bool.Decides.{nat_tests}
use Rattle.std.proofs.lemmas.List.{append_cancel_left}
use Rattle.std.proofs.lemmas.List.Elements.{All-append, All-cons, All-drop, All-push, All-take, recursion_from_All}
use Rattle.std.proofs.lemmas.Option.{same_Some, slice_get_within}
use Rattle.std.specs.List.{All, AllByRecursion}
use Rattle.std.specs.Prelude.{nat_lt, slice_get}
use Rattle.plain_laws.specs.Lists.{get-nil}
use Rattle.explorer_model.specs.declared.archive.Batch.{Batch}
use Rattle.explorer_model.specs.Journal.{IsBatch}
use Rattle.explorer_model.specs.Spans.{Span}
use Rattle.explorer_model.specs.Visits.{texts_of}
use Rattle.segment_blocks.specs.PackedRows.{AreBlocksOf}
use Rattle.segment_blocks.specs.Segment.{CanJoin, CountedSpan, IsSegment}
use Rattle.tally_rows.specs.declared.row.Row.{Row}
use Rattle.segment_merge.specs.Merging.{IsMergeOf}
use Rattle.tally_rows.specs.Tally.{IsTallyOf}
use Rattle.published_index.specs.Changes.{JoinAt}
use Rattle.published_index.specs.Changes as index
use Rattle.published_index.specs.Cover.{IsList, journal_of, list_limit}
use Rattle.published_index.proofs.CoverLemmas.{journal-changed, journal-one, list-changed, list-one}
use Rattle.ingest_desk.specs.Alike.{StandAlike}
use Rattle.ingest_desk.specs.Installs.{list_by}
use Rattle.ingest_desk.specs.Listing.{JoinsPicked, MakesRoom, PutsBehind}
use Rattle.ingest_desk.specs.Picking.{HasNoneDue}
use Rattle.ingest_desk.specs.Stored.{Stored, journal}
use Rattle.ingest_desk.proofs.AlikeLemmas.{alike_back, alike_self}
use Rattle.ingest_desk.proofs.PickingLemmas.{joined_length, may_replace}
use Rattle.import_run.specs.Upkeep.{CountsItsSpan, Follows, FollowsAll, FollowsBatch, IsMerged}

-- ---- joins

pair_in : (list new : List CountedSpan) → (joins : JoinsPicked list new) → joins.picked.at + 1 < length list
pair_in list new joins = slice_get_within list (joins.picked.at + 1) joins.right joins.picked.stand.right_is

may_join : (list new : List CountedSpan) → (joins : JoinsPicked list new) → index.CanJoin list joins.picked.at joins.joined
may_join list new joins =
    let picked = joins.picked in
    may_replace list picked.at joins.left joins.right joins.joined
    (record { stand = picked.stand; join = picked.join; inside = pair_in list new joins }) joins.merged.span

joins_journal : (list new : List CountedSpan) → JoinsPicked list new → journal_of new ≡ journal_of list
joins_journal list new joins =
    ap journal_of joins.list_is ∙ journal-changed list (JoinAt joins.picked.at joins.joined) (may_join list new joins)

joins_list : (list new : List CountedSpan) → IsList list → JoinsPicked list new → IsList new
joins_list list new is joins =
    subst IsList (sym joins.list_is) (list-changed list (JoinAt joins.picked.at joins.joined) (may_join list new joins) is)

pub joins_length : (list new : List CountedSpan) → (joins : JoinsPicked list new) → length new + 1 ≡ length list
joins_length list new joins =
    omega (arith, ap length joins.list_is, joined_length list joins.picked.at joins.joined (pair_in list new joins))

-- ---- segments

segment_at : (list : List CountedSpan) (at : ℕ) (segment : CountedSpan) → AllByRecursion CountsItsSpan list → slice_get list at ≡ Some segment → CountsItsSpan segment
segment_at [] at segment all is = get-nil segment _ is
segment_at (x ∷ list) zero segment all is = subst CountsItsSpan (same_Some x segment is) all.0
segment_at (x ∷ list) (suc at) segment all is = segment_at list at segment all.1 is

-- as many blocks as rows hold these
own_blocks : (rows : List Row) → AreBlocksOf rows (length rows)
own_blocks rows = record { room = omega arith; some = omega arith }

pub counts_its_span : (segment : CountedSpan) → IsSegment segment → CountsItsSpan segment
counts_its_span segment is = record {
  some = is.some;
  place = is.place;
  few = is.few;
  batches = is.batches;
  tally = is.tally;
  blocks = own_blocks segment.rows;
}

-- the merge of two segments is one
merge_counts : (left right joined : CountedSpan) → CountsItsSpan left → CountsItsSpan right → CanJoin left right → IsMergeOf left right joined → CountsItsSpan joined
merge_counts left right joined l r can merged =
    let first = ap (λ (s : Span). s.first) merged.span in
    let batches = ap (λ (s : Span). s.batches) merged.span in
    let long = ap length batches ∙ length-append left.span.batches right.span.batches in
    let games = ap length merged.classes ∙ length-append left.classes right.classes in
    let all : All IsBatch (left.span.batches ++ right.span.batches) = All-append IsBatch left.span.batches right.span.batches l.batches r.batches in
    let tally : IsTallyOf (texts_of joined.span.batches) (left.classes ++ right.classes) joined.rows =
    subst (λ (bs : List Batch). IsTallyOf (texts_of bs) (left.classes ++ right.classes) joined.rows) (sym batches) merged.tally in
    record {
      some = omega (arith, long, l.some);
      place = omega (arith, first, long, can.adjoin, r.place);
      few = omega (arith, games, can.few);
      batches = subst (λ (bs : List Batch). All IsBatch bs) (sym batches) all;
      tally = subst (λ cs. IsTallyOf (texts_of joined.span.batches) cs joined.rows) (sym merged.classes) tally;
      blocks = own_blocks joined.rows;
    }

joins_segments : (list new : List CountedSpan) → All CountsItsSpan list → JoinsPicked list new → All CountsItsSpan new
joins_segments list new all joins =
    let picked = joins.picked in
    let each = recursion_from_All CountsItsSpan list all in
    let left = segment_at list picked.at joins.left each picked.stand.left_is in
    let right = segment_at list (picked.at + 1) joins.right each picked.stand.right_is in
    let joined = merge_counts joins.left joins.right joins.joined left right picked.join joins.merged in
    let rest = All-cons CountsItsSpan joins.joined (drop (picked.at + 2) list) joined (All-drop CountsItsSpan (picked.at + 2) list all) in
    subst (λ (l : List CountedSpan). All CountsItsSpan l) (sym joins.list_is)
    (All-append CountsItsSpan (take picked.at list) (joins.joined ∷ drop (picked.at + 2) list) (All-take CountsItsSpan picked.at list all) rest)

-- ---- what one batch does

-- what holds of lists before and behind, by each of the ways to make room
by_room : (P : List CountedSpan → Type 0) → (list new : List CountedSpan) → (JoinsPicked list new → P new) → P list → MakesRoom list new → P new
by_room P list new joined same room = by (nat_lt (length list) list_limit) refl
  where
    by : (few : Bool) → nat_lt (length list) list_limit ≡ few → P new
    by true is =
        let few : length list < list_limit = grind (arith, nat_tests) in
        subst P (sym (room.has_room few)) same
    by false is =
        let full : list_limit ≤ length list = grind (arith, nat_tests) in
        joined (room.is_full full)

by_merge : (P : List CountedSpan → Type 0) → (list new : List CountedSpan) → (JoinsPicked list new → P new) → P list → IsMerged list new → P new
by_merge P list new joined same (inl none) = subst P (sym none.1) same
by_merge P list new joined same (inr joins) = joined joins

-- a list with room, or one of which two became one, has room
has_room : (list new : List CountedSpan) → IsList list → MakesRoom list new → length new < list_limit
has_room list new is room = by (nat_lt (length list) list_limit) refl
  where
    by : (few : Bool) → nat_lt (length list) list_limit ≡ few → length new < list_limit
    by true is_few =
        let few : length list < list_limit = grind (arith, nat_tests) in
        omega (arith, few, ap length (room.has_room few))
    by false is_few =
        let full : list_limit ≤ length list = grind (arith, nat_tests) in
        omega (arith, is.few, joins_length list new (room.is_full full))

batch_journal : (batch : Batch) (list new : List CountedSpan) → FollowsBatch batch list new → journal_of new ≡ journal_of list ++ batch ∷ []
batch_journal batch list new follows =
    let roomy = follows.roomy in
    let puts = follows.puts in
    let room : journal_of roomy ≡ journal_of list =
    by_room (λ l. journal_of l ≡ journal_of list) list roomy (joins_journal list roomy) refl follows.room in
    let longer : journal_of follows.longer ≡ journal_of list ++ batch ∷ [] =
    ap journal_of puts.list_is ∙ journal-one roomy puts.segment ∙ ap (λ (bs : List Batch). journal_of roomy ++ bs) puts.batch_is
    ∙ ap (λ (j : List Batch). j ++ batch ∷ []) room in
    by_merge (λ l. journal_of l ≡ journal_of list ++ batch ∷ []) follows.longer new (λ joins. joins_journal follows.longer new joins ∙ longer) longer follows.merged

batch_list : (batch : Batch) (list new : List CountedSpan) → IsList list → FollowsBatch batch list new → IsList new
batch_list batch list new is follows =
    let puts = follows.puts in
    let roomy : IsList follows.roomy = by_room IsList list follows.roomy (joins_list list follows.roomy is) is follows.room in
    let longer : IsList follows.longer =
    subst IsList (sym puts.list_is) (list-one follows.roomy puts.segment roomy (has_room list follows.roomy is follows.room) puts.starts) in
    by_merge IsList follows.longer new (joins_list follows.longer new longer) longer follows.merged

batch_segments : (batch : Batch) (list new : List CountedSpan) → All CountsItsSpan list → FollowsBatch batch list new → All CountsItsSpan new
batch_segments batch list new all follows =
    let puts = follows.puts in
    let A : List CountedSpan → Type 0 = λ l. All CountsItsSpan l in
    let roomy : All CountsItsSpan follows.roomy = by_room A list follows.roomy (joins_segments list follows.roomy all) all follows.room in
    let longer : All CountsItsSpan follows.longer = subst A (sym puts.list_is) (All-push CountsItsSpan follows.roomy puts.segment roomy (counts_its_span puts.segment puts.counts)) in
    by_merge A follows.longer new (joins_segments follows.longer new longer) longer follows.merged

-- ---- what batches do, one after another

pub follows_journal : (batches : List Batch) (list new : List CountedSpan) → FollowsAll batches list new → journal_of new ≡ journal_of list ++ batches
follows_journal [] list new same = ap journal_of same ∙ sym (append-nil (journal_of list))
follows_journal (batch ∷ batches) list new follows =
    follows_journal batches follows.0 new follows.2
    ∙ ap (λ (j : List Batch). j ++ batches) (batch_journal batch list follows.0 follows.1)
    ∙ append_assoc (journal_of list) (batch ∷ []) batches

pub follows_list : (batches : List Batch) (list new : List CountedSpan) → IsList list → FollowsAll batches list new → IsList new
follows_list [] list new is same = subst IsList (sym same) is
follows_list (batch ∷ batches) list new is follows =
    follows_list batches follows.0 new (batch_list batch list follows.0 is follows.1) follows.2

pub follows_segments : (batches : List Batch) (list new : List CountedSpan) → All CountsItsSpan list → FollowsAll batches list new → All CountsItsSpan new
follows_segments [] list new all same = let A : List CountedSpan → Type 0 = λ l. All CountsItsSpan l in subst A (sym same) all
follows_segments (batch ∷ batches) list new all follows =
    follows_segments batches follows.0 new (batch_segments batch list follows.0 all follows.1) follows.2

-- ---- lists that follow stand alike

-- what the lower crate says: lists that stand alike come to such
pub record HasOneListing : Type 0 where
  pub joins : (list other first second : List CountedSpan) → StandAlike list other → JoinsPicked list first → JoinsPicked other second → StandAlike first second
  pub either : (list other new : List CountedSpan) → StandAlike list other → HasNoneDue list → JoinsPicked other new → ⊥
  pub room : (list other first second : List CountedSpan) → StandAlike list other → MakesRoom list first → MakesRoom other second → StandAlike first second
  pub puts : (batch : Batch) (list other first second : List CountedSpan) → StandAlike list other → PutsBehind batch list first → PutsBehind batch other second → StandAlike first second

module _ (one : HasOneListing) where
  same_alike : (list other first second : List CountedSpan) → StandAlike list other → first ≡ list → second ≡ other → StandAlike first second
  same_alike list other first second alike is also =
      subst (λ l. StandAlike l second) (sym is) (subst (λ l. StandAlike list l) (sym also) alike)

  merges_alike : (list other first second : List CountedSpan) → StandAlike list other → IsMerged list first → IsMerged other second → StandAlike first second
  merges_alike list other first second alike (inl none) (inl also) = same_alike list other first second alike none.1 also.1
  merges_alike list other first second alike (inl none) (inr joins) = absurd (one.either list other second alike none.0 joins)
  merges_alike list other first second alike (inr joins) (inl none) = absurd (one.either other list first (alike_back list other alike) none.0 joins)
  merges_alike list other first second alike (inr joins) (inr also) = one.joins list other first second alike joins also

  batch_alike : (batch : Batch) (list other first second : List CountedSpan) → StandAlike list other → FollowsBatch batch list first → FollowsBatch batch other second → StandAlike first second
  batch_alike batch list other first second alike a b =
      let roomy = one.room list other a.roomy b.roomy alike a.room b.room in
      let longer = one.puts batch a.roomy b.roomy a.longer b.longer roomy a.puts b.puts in
      merges_alike a.longer b.longer first second longer a.merged b.merged

  pub follows_alike : (batches : List Batch) (list other first second : List CountedSpan) → StandAlike list other → FollowsAll batches list first → FollowsAll batches other second → StandAlike first second
  follows_alike [] list other first second alike a b = same_alike list other first second alike a b
  follows_alike (batch ∷ batches) list other first second alike a b =
      follows_alike batches a.0 b.0 first second (batch_alike batch list other a.0 b.0 alike a.1 b.1) a.2 b.2

  pub follows_one : (batches : List Batch) (list first second : List CountedSpan) → FollowsAll batches list first → FollowsAll batches list second → StandAlike first second
  follows_one batches list first second a b = follows_alike batches list list first second (alike_self list) a b

  -- stores that followed one store to one journal publish lists that stand alike
  pub stores_alike : {D : Type 0} (before after other : Stored D) → Follows before after → Follows before other → journal after ≡ journal other
      → StandAlike (list_by after.index) (list_by other.index)
  stores_alike before after other a b same =
      let batches : a.batches ≡ b.batches = append_cancel_left (journal before) a.batches b.batches (sym a.journal_is ∙ same ∙ b.journal_is) in
      let list = list_by before.index in
      let new = list_by after.index in
      follows_one b.batches list new (list_by other.index) (subst (λ (bs : List Batch). FollowsAll bs list new) batches a.lists) b.lists
