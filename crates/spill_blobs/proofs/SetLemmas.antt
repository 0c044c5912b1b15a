-- Where the parts of a set stand.
use Rattle.std.proofs.Common.{◌≡◌, ℕ, zero, suc, ◌+◌, ◌*◌, ◌≤◌, ◌<◌, ◌^◌, List, [], ◌∷◌, ◌++◌, length, map, take, drop, get_or, refl, sym, ap, ◌∙◌, subst, arith, length-append, append_assoc, append-nil}
use Rattle.std.proofs.lemmas.List.{take_at, drop_at, drop-drop}
use Rattle.std.specs.Prelude.{IfOk, IfSome, Option, None, Some, Result, Ok, Err, Vec, slice_get}
use Rattle.std.specs.List.{AllByRecursion}
use Rattle.std.specs.Option.{option_map}
use Rattle.std.specs.Global.{Global}
use Rattle.explorer_model.specs.declared.chess.Position.{Position}
use Rattle.explorer_model.specs.declared.fault.Stop.{Stop}
use Rattle.outside.specs.Ports.{Scratch, AppendsPiece}
use Rattle.segment_blocks.specs.Kept.{kept_of}
use Rattle.segment_blocks.specs.Segment.{CountedSpan, IsSegment, segment_limit}
use Rattle.spill_blobs.specs.Parts.{Spilled, Stands, part_bytes}
use Rattle.spill_blobs.specs.RowBlocks.{block_size}
use Rattle.spill_blobs.specs.Judging.{blocks_at, Judges}
use Rattle.spill_blobs.specs.Sets.{games_in, journal_of, set_bytes, AreLaid, FollowFrom, HasJust, HoldsIn, IsSet, JudgesPart}
use Rattle.spill_blobs.specs.SoundRows.{AreSound}
use Rattle.spill_blobs.specs.declared.port_fault.PortFault.{PortFault}
use Rattle.tally_rows.specs.declared.row.Row.{Row}

abbrev pub segments : List Spilled → List CountedSpan
segments parts = map (λ part. part.segment) parts

-- a part stands inside of the set's bytes
pub laid-inside : (parts : List Spilled) (at end n : ℕ) (other : Spilled) → AreLaid at parts end → n < length parts
    → (get_or parts n other).start + block_size * (get_or parts n other).count ≤ at + length (set_bytes (segments parts))
laid-inside [] at end n other laid inside = absurd (omega arith)
laid-inside (part ∷ parts) at end zero other laid inside =
    omega (arith, laid.0, laid.1, length-append (part_bytes part.segment) (set_bytes (segments parts)))
laid-inside (part ∷ parts) at end (suc n) other laid inside =
    omega (
      arith,
      laid-inside parts (at + block_size * part.count) end n other laid.2 (omega arith),
      laid.1,
      length-append (part_bytes part.segment) (set_bytes (segments parts)),
    )

-- and its bytes are there
pub laid-stands : (parts : List Spilled) (at end n : ℕ) (other : Spilled) (bytes rest : List ℕ) → AreLaid at parts end → n < length parts
    → drop at bytes ≡ set_bytes (segments parts) ++ rest
    → take (block_size * (get_or parts n other).count) (drop (get_or parts n other).start bytes) ≡ part_bytes (get_or parts n other).segment
laid-stands [] at end n other bytes rest laid inside e = absurd (omega arith)
laid-stands (part ∷ parts) at end zero other bytes rest laid inside e =
    let front = part_bytes part.segment in
    let back = set_bytes (segments parts) in
    ap (λ s. take (block_size * part.count) (drop s bytes)) laid.0 ∙ ap (take (block_size * part.count)) (e ∙ append_assoc front back rest)
    ∙ take_at front (back ++ rest) (block_size * part.count) laid.1
laid-stands (part ∷ parts) at end (suc n) other bytes rest laid inside e =
    let front = part_bytes part.segment in
    let back = set_bytes (segments parts) in
    laid-stands parts (at + block_size * part.count) end n other bytes rest laid.2 (omega arith)
    (sym (drop-drop (block_size * part.count) at bytes) ∙ ap (drop (block_size * part.count)) (e ∙ append_assoc front back rest)
    ∙ drop_at front (back ++ rest) (block_size * part.count) laid.1)

pub holds-stands : (parts : List Spilled) (end n : ℕ) (other : Spilled) (told : Option (List ℕ)) → AreLaid 0 parts end → n < length parts
    → HoldsIn (segments parts) told → Stands (get_or parts n other) told
holds-stands parts end n other None laid inside holds = absurd holds
holds-stands parts end n other (Some bytes) laid inside holds = laid-stands parts 0 end n other bytes holds.rest laid inside holds.is

pub length-segments : (parts : List Spilled) → length (segments parts) ≡ length parts
length-segments [] = refl
length-segments (part ∷ parts) = ap suc (length-segments parts)

pub segment-at : (parts : List Spilled) (n : ℕ) (other : Spilled) → n < length parts → slice_get (segments parts) n ≡ Some (get_or parts n other).segment
segment-at [] n other inside = absurd (omega arith)
segment-at (part ∷ parts) zero other inside = refl
segment-at (part ∷ parts) (suc n) other inside = segment-at parts n other (omega arith)

-- ---- with one part more

pub laid-more : (parts : List Spilled) (at end : ℕ) (part : Spilled) → AreLaid at parts end → part.start ≡ end
    → length (part_bytes part.segment) ≡ block_size * part.count → AreLaid at (parts ++ part ∷ []) (end + block_size * part.count)
laid-more [] at end part laid start size = (start ∙ laid, size, ap (λ n. n + block_size * part.count) laid)
laid-more (p ∷ parts) at end part laid start size =
    (laid.0, laid.1, laid-more parts (at + block_size * p.count) end part laid.2 start size)

pub segments-more : (parts : List Spilled) (part : Spilled) → segments (parts ++ part ∷ []) ≡ segments parts ++ part.segment ∷ []
segments-more [] part = refl
segments-more (p ∷ parts) part = ap (λ l. p.segment ∷ l) (segments-more parts part)

pub set_bytes-more : (set : List CountedSpan) (segment : CountedSpan) → set_bytes (set ++ segment ∷ []) ≡ set_bytes set ++ part_bytes segment
set_bytes-more [] segment = append-nil (part_bytes segment)
set_bytes-more (s ∷ set) segment =
    ap (λ l. part_bytes s ++ l) (set_bytes-more set segment) ∙ sym (append_assoc (part_bytes s) (set_bytes set) (part_bytes segment))

follow-more : (first : ℕ) (set : List CountedSpan) (segment : CountedSpan) → FollowFrom first set
    → segment.span.first ≡ first + length (journal_of set) → FollowFrom first (set ++ segment ∷ [])
follow-more first [] segment follow is = (omega (arith, is), tt)
follow-more first (s ∷ set) segment follow is =
    (follow.0, follow-more (first + length s.span.batches) set segment follow.1 (omega (arith, is, length-append s.span.batches (journal_of set))))

each-more : (set : List CountedSpan) (segment : CountedSpan) → AllByRecursion IsSegment set → IsSegment segment → AllByRecursion IsSegment (set ++ segment ∷ [])
each-more [] segment all one = (one, tt)
each-more (s ∷ set) segment all one = (all.0, each-more set segment all.1 one)

games-more : (set : List CountedSpan) (segment : CountedSpan) → games_in (set ++ segment ∷ []) ≡ games_in set + length segment.classes
games-more [] segment = omega arith
games-more (s ∷ set) segment = omega (arith, games-more set segment)

pub set-more : (set : List CountedSpan) (segment : CountedSpan) → IsSet set → IsSegment segment → segment.span.first ≡ length (journal_of set)
    → games_in set + length segment.classes ≤ segment_limit → IsSet (set ++ segment ∷ [])
set-more set segment is one adjoin few = record {
  each = each-more set segment is.each one;
  follow = follow-more 0 set segment is.follow (omega (arith, adjoin));
  few = omega (arith, games-more set segment, few);
}

pub no-set : IsSet []
no-set = record { each = tt; follow = tt; few = omega arith }

-- ---- what was appended

told-more : (told new : Option (List ℕ)) (bytes piece : List ℕ) → IfSome told (λ t. t ≡ bytes)
    → new ≡ option_map (λ t. t ++ piece) told → IfSome new (λ t. t ≡ bytes ++ piece)
told-more None new bytes piece old is = subst (λ (o : Option (List ℕ)). IfSome o (λ t. t ≡ bytes ++ piece)) (sym is) tt
told-more (Some t) new bytes piece old is =
    subst (λ (o : Option (List ℕ)). IfSome o (λ t. t ≡ bytes ++ piece)) (sym is) (ap (λ l. l ++ piece) old)

pub just-more : (old new : Scratch) (set : List CountedSpan) (segment : CountedSpan) → HasJust old (set_bytes set)
    → AppendsPiece (part_bytes segment) old new → HasJust new (set_bytes (set ++ segment ∷ []))
just-more old new set segment just appends =
    subst (HasJust new) (sym (set_bytes-more set segment)) (record {
      told = told-more old.appended new.appended (set_bytes set) (part_bytes segment) just.told (ap (λ (s : Scratch). s.appended) appends);
      size = ap (λ (s : Scratch). s.size) appends ∙ omega (arith, just.size, length-append (set_bytes set) (part_bytes segment));
    })

-- a set of parts with one more
pub parts-more : (parts : List Spilled) (end : ℕ) (part : Spilled) → AreLaid 0 parts end × IsSet (segments parts) → part.start ≡ end
    → length (part_bytes part.segment) ≡ block_size * part.count → IsSegment part.segment
    → part.segment.span.first ≡ length (journal_of (segments parts)) → games_in (segments parts) + length part.segment.classes ≤ segment_limit
    → (new : ℕ) → new ≡ end + length (part_bytes part.segment)
    → AreLaid 0 (parts ++ part ∷ []) new × IsSet (segments (parts ++ part ∷ []))
parts-more parts end part old start size one adjoin few new new_is = (
  subst (AreLaid 0 (parts ++ part ∷ [])) (sym (new_is ∙ ap (λ n. end + n) size)) (laid-more parts 0 end part old.0 start size),
  subst IsSet (sym (segments-more parts part)) (set-more (segments parts) part.segment old.1 one adjoin few),
)

-- the same where the part's segment is told
pub parts-with : (parts items : List Spilled) (end : ℕ) (part : Spilled) (segment : CountedSpan) → items ≡ parts ++ part ∷ [] → part.segment ≡ segment
    → AreLaid 0 parts end × IsSet (segments parts) → part.start ≡ end → length (part_bytes segment) ≡ block_size * part.count → IsSegment segment
    → segment.span.first ≡ length (journal_of (segments parts)) → games_in (segments parts) + length segment.classes ≤ segment_limit
    → (new : ℕ) → new ≡ end + length (part_bytes segment) → AreLaid 0 items new × IsSet (segments items)
parts-with parts items end part segment items_are of old start size one adjoin few new new_is =
    let back : segment ≡ part.segment = sym of in
    subst (λ (ps : List Spilled). AreLaid 0 ps new × IsSet (segments ps)) (sym items_are)
    (parts-more parts end part old start
    (subst (λ (s : CountedSpan). length (part_bytes s) ≡ block_size * part.count) back size) (subst IsSegment back one)
    (subst (λ (s : CountedSpan). s.span.first ≡ length (journal_of (segments parts))) back adjoin)
    (subst (λ (s : CountedSpan). games_in (segments parts) + length s.classes ≤ segment_limit) back few)
    new (subst (λ (s : CountedSpan). new ≡ end + length (part_bytes s)) back new_is))

pub segments-with : (parts items : List Spilled) (part : Spilled) (segment : CountedSpan) (set : List CountedSpan) → items ≡ parts ++ part ∷ []
    → part.segment ≡ segment → segments parts ≡ set → segments items ≡ set ++ segment ∷ []
segments-with parts items part segment set items_are of same =
    ap segments items_are ∙ segments-more parts part ∙ (λ i. same i ++ of i ∷ [])

-- ---- how many parts there are

count-from : (first : ℕ) (set : List CountedSpan) (n : ℕ) → AllByRecursion IsSegment set → FollowFrom first set → n < length set → first + n < 2 ^ 32
count-from first [] n each follow inside = absurd (omega arith)
count-from first (s ∷ set) zero each follow inside = omega (arith, follow.0, each.0.place)
count-from first (s ∷ set) (suc n) each follow inside =
    omega (arith, each.0.some, count-from (first + length s.span.batches) set n each.1 follow.1 (omega arith))

pub number-fits : (set : List CountedSpan) (n : ℕ) → IsSet set → n < length set → n < 2 ^ 32
number-fits set n is inside = omega (arith, count-from 0 set n is.each is.follow inside)

-- where a part stands
pub start-at : (parts : List Spilled) (at end n : ℕ) (other : Spilled) → AreLaid at parts end → n < length parts
    → (get_or parts n other).start ≡ at + length (set_bytes (take n (segments parts)))
start-at [] at end n other laid inside = absurd (omega arith)
start-at (part ∷ parts) at end zero other laid inside = omega (arith, laid.0)
start-at (part ∷ parts) at end (suc n) other laid inside =
    omega (
      arith,
      start-at parts (at + block_size * part.count) end n other laid.2 (omega arith),
      laid.1,
      length-append (part_bytes part.segment) (set_bytes (take n (segments parts))),
    )

-- ---- what is said of a part is said of the set

module _ (set : List CountedSpan) (n : ℕ) (segment : CountedSpan) (there : slice_get set n ≡ Some segment) where
  pub of-set : (P : CountedSpan → Type 0) → P segment → IfSome (slice_get set n) P
  of-set P h = subst (λ (o : Option CountedSpan). IfSome o P) (sym there) h

  pub judged-at : (at : Position) (key : List ℕ) (start : ℕ) (result : Result (Vec Row Global) (Stop PortFault)) → start ≡ length (set_bytes (take n set))
      → (told : Option (List ℕ)) → IfSome told (λ t. Judges at key n (length segment.classes) (blocks_at key start segment t) result)
      → IfSome told (λ t. JudgesPart at key n set t result)
  judged-at at key start result start_is None h = tt
  judged-at at key start result start_is (Some t) h =
      of-set (λ (s : CountedSpan). Judges at key n (length s.classes) (blocks_at key (length (set_bytes (take n set))) s t) result)
      (subst (λ (m : ℕ). Judges at key n (length segment.classes) (blocks_at key m segment t) result) start_is h)

  pub sound-at : (at : Position) (result : Result (Vec Row Global) (Stop PortFault)) → IfOk result (λ rows. AreSound at (length segment.classes) rows.items)
      → IfOk result (λ rows. IfSome (slice_get set n) (λ s. AreSound at (length s.classes) rows.items))
  sound-at at (Ok rows) sound = of-set (λ (s : CountedSpan). AreSound at (length s.classes) rows.items) sound
  sound-at at (Err stop) sound = tt

-- a part of the set by its place
pub part-at : (parts : List Spilled) (n : ℕ) (x : Spilled) → n < length parts → x ≡ get_or parts n x → slice_get (segments parts) n ≡ Some x.segment
part-at parts n x inside is = segment-at parts n x inside ∙ ap (λ (p : Spilled). Some p.segment) (sym is)

pub part-inside : (parts : List Spilled) (end n : ℕ) (x : Spilled) → AreLaid 0 parts end → n < length parts → x ≡ get_or parts n x
    → (size : ℕ) → length (set_bytes (segments parts)) ≤ size → x.start + block_size * x.count ≤ size
part-inside parts end n x laid inside is size room =
    let h = laid-inside parts 0 end n x laid inside in
    subst (λ (p : Spilled). p.start + block_size * p.count ≤ size) (sym is) (omega (arith, h, room))

pub part-start : (parts : List Spilled) (end n : ℕ) (x : Spilled) → AreLaid 0 parts end → n < length parts → x ≡ get_or parts n x
    → x.start ≡ length (set_bytes (take n (segments parts)))
part-start parts end n x laid inside is = ap (λ (p : Spilled). p.start) is ∙ omega (arith, start-at parts 0 end n x laid inside)

pub part-stands : (parts : List Spilled) (end n : ℕ) (x : Spilled) (told : Option (List ℕ)) → AreLaid 0 parts end → n < length parts → x ≡ get_or parts n x
    → HoldsIn (segments parts) told → Stands x told
part-stands parts end n x told laid inside is holds =
    subst (λ (p : Spilled). Stands p told) (sym is) (holds-stands parts end n x told laid inside holds)

pub kept-at : (parts : List Spilled) (n : ℕ) (x : Spilled) → n < length parts → x ≡ get_or parts n x
    → slice_get (map kept_of (segments parts)) n ≡ Some (kept_of x.segment)
kept-at [] n x inside is = absurd (omega arith)
kept-at (p ∷ parts) zero x inside is = ap (λ (q : Spilled). Some (kept_of q.segment)) (sym is)
kept-at (p ∷ parts) (suc n) x inside is = kept-at parts n x (omega arith) is
