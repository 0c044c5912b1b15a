-- Parts that are read one after another.
use Rattle.std.proofs.Common.{◌≡◌, ℕ, zero, suc, ◌+◌, ◌<◌, ◌≤◌, ◌^◌, List, [], ◌∷◌, ◌++◌, map, length, take, get_or, Option, None, Some, option_map, Err, IfSome, refl, sym, ap, subst, ◌∙◌, arith}
use Rattle.std.specs.List.{All, AllZip, slice_get, sum_by}
use Rattle.std.proofs.lemmas.List.{take_more}
use Rattle.std.proofs.lemmas.List.Sums.{sum_by_more, sum_by-take-le}
use Rattle.std.proofs.lemmas.Option.{get_or_from_slice_get, same_Some, slice_get-map, slice_get_within}
use Rattle.plain_laws.specs.Options.{IfSome-at}
use Rattle.explorer_model.proofs.Lists.{zip-append}
use Rattle.explorer_model.specs.declared.chess.Position.{Position}
use Rattle.explorer_model.specs.declared.fault.Stop.{Stop}
use Rattle.explorer_model.specs.declared.fault.Stop.TheVariants.{Fault, OutOfMemory}
use Rattle.lookup.specs.declared.part_rows.PartRows.{PartRows}
use Rattle.lookup.specs.Reading.{most_steps, AreJudged, AreRead, IsPartOf, IsUndamaged, StopsAt}
use Rattle.outside.specs.Ports.{Scratch}
use Rattle.segment_blocks.specs.Kept.{KeptSpan, kept_of}
use Rattle.segment_blocks.specs.Segment.{CountedSpan}
use Rattle.spill_blobs.specs.Ends.{Reads}
use Rattle.spill_blobs.specs.Judging.{blocks_at, GivesRowsOf, Judges, NamesPart}
use Rattle.spill_blobs.specs.Marks.{marks}
use Rattle.spill_blobs.specs.Sets.{games_in, set_bytes, JudgesPart}
use Rattle.spill_blobs.specs.SoundRows as sound
use Rattle.spill_blobs.specs.declared.port_fault.PortFault.{PortFault}
use Rattle.spill_blobs.specs.declared.port_fault.PortFault.TheVariants.{ReadFault, Damaged, WriteFault}

-- ---- what stands at a place

pub record Placed {X : Type 0} (xs : List X) (i : ℕ) : Type 0 where
  pub value : X
  pub is : slice_get xs i ≡ Some value

pub placed : {X : Type 0} (xs : List X) (i : ℕ) → i < length xs → Placed xs i
placed [] i within = absurd (omega arith)
placed (x ∷ xs) zero within = record { value = x; is = refl }
placed (x ∷ xs) (suc i) within = let rest = placed xs i (omega arith) in record { value = rest.value; is = rest.is }

pub take-at : {X : Type 0} (xs : List X) (i : ℕ) (x : X) → slice_get xs i ≡ Some x → take (i + 1) xs ≡ take i xs ++ x ∷ []
take-at xs i x is =
    take_more xs i x (slice_get_within xs i x is) ∙ ap (λ y. take i xs ++ y ∷ []) (get_or_from_slice_get xs i x x is)

pub both-some : {X : Type 0} (P Q R : X → Type 0) (o : Option X) → ((x : X) → P x → Q x → R x) → IfSome o P → IfSome o Q → IfSome o R
both-some P Q R None follows first second = tt
both-some P Q R (Some x) follows first second = follows x first second

-- ---- games

pub kept-games : (set : List CountedSpan) (i : ℕ) (segment : CountedSpan) (kept : KeptSpan) → slice_get set i ≡ Some segment → slice_get (map kept_of set) i ≡ Some kept
    → kept ≡ kept_of segment
kept-games set i segment kept is told =
    same_Some kept (kept_of segment) (sym told ∙ slice_get-map kept_of set i ∙ ap (option_map kept_of) is)

games-behind : (set : List CountedSpan) (segment : CountedSpan) → games_in (set ++ segment ∷ []) ≡ games_in set + length segment.classes
games-behind [] segment = omega arith
games-behind (other ∷ set) segment = omega (arith, games-behind set segment)

pub games-more : (set : List CountedSpan) (i : ℕ) (segment : CountedSpan) → slice_get set i ≡ Some segment
    → games_in (take (i + 1) set) ≡ games_in (take i set) + length segment.classes
games-more set i segment is = ap games_in (take-at set i segment is) ∙ games-behind (take i set) segment

pub games-within : (n : ℕ) (set : List CountedSpan) → games_in (take n set) ≤ games_in set
games-within zero set = omega arith
games-within (suc n) [] = omega arith
games-within (suc n) (segment ∷ set) = omega (arith, games-within n set)

-- ---- one part more

read-behind : (at : Position) (first : ℕ) (set : List CountedSpan) (parts : List PartRows) (segment : CountedSpan) (part : PartRows)
    → AreRead at first set parts → part.first ≡ first + games_in set → sound.AreSound at (length segment.classes) part.rows.items
    → AreRead at first (set ++ segment ∷ []) (parts ++ part ∷ [])
read-behind at first [] [] segment part read is rows = (omega (arith, is), rows, tt)
read-behind at first [] (other ∷ parts) segment part read is rows = absurd read
read-behind at first (one ∷ set) [] segment part read is rows = absurd read
read-behind at first (one ∷ set) (other ∷ parts) segment part read is rows =
    (read.0, read.1, read-behind at (first + length one.classes) set parts segment part read.2 (omega (arith, is)) rows)

pub read-more : (at : Position) (set : List CountedSpan) (i : ℕ) (segment : CountedSpan) (is : slice_get set i ≡ Some segment) (parts : List PartRows) (part : PartRows)
    → AreRead at 0 (take i set) parts → part.first ≡ games_in (take i set) → sound.AreSound at (length segment.classes) part.rows.items
    → AreRead at 0 (take (i + 1) set) (parts ++ part ∷ [])
read-more at set i segment is parts part read first rows =
    subst (λ (taken : List CountedSpan). AreRead at 0 taken (parts ++ part ∷ [])) (sym (take-at set i segment is))
    (read-behind at 0 (take i set) parts segment part read (omega (arith, first)) rows)

pub zip-at : {A B : Type 0} (R : A → B → Type 0) (xs : List A) (i : ℕ) (x : A) (is : slice_get xs i ≡ Some x) (ys : List B) (y : B)
    → AllZip R (take i xs) ys → R x y → AllZip R (take (i + 1) xs) (ys ++ y ∷ [])
zip-at {A} R xs i x is ys y zip holds =
    subst (λ (taken : List A). AllZip R taken (ys ++ y ∷ [])) (sym (take-at xs i x is))
    (zip-append R (take i xs) (x ∷ []) ys (y ∷ []) zip (holds, tt))

-- ---- why reading stops

pub stops-at : (at : Position) (key : List ℕ) (set : List CountedSpan) (appended : Option (List ℕ)) (n : ℕ) (stop : Stop PortFault) → n < length set
    → IfSome appended (λ told. AreJudged at key set told n) → IfSome appended (λ told. JudgesPart at key n set told (Err stop)) → StopsAt at key set appended stop
stops-at at key set appended n OutOfMemory within before here = tt
stops-at at key set appended n (Fault (ReadFault first last)) within before here = tt
stops-at at key set appended n (Fault (WriteFault first last)) within before here = tt
stops-at at key set appended n (Fault (Damaged part)) within before here =
    both-some (λ (told : List ℕ). AreJudged at key set told n) (λ (told : List ℕ). JudgesPart at key n set told (Err (Fault (Damaged part))))
    (λ (told : List ℕ). (part < length set) × AreJudged at key set told part × JudgesPart at key part set told (Err (Fault (Damaged part)))) appended
    stop before here
  where
    stop : (told : List ℕ) → AreJudged at key set told n → JudgesPart at key n set told (Err (Fault (Damaged part)))
        → (part < length set) × AreJudged at key set told part × JudgesPart at key part set told (Err (Fault (Damaged part)))
    stop told before here =
        let place : Placed set n = placed set n within in
        let judged = IfSome-at (λ (s : CountedSpan). Judges at key n (length s.classes) (blocks_at key (length (set_bytes (take n set))) s told) (Err (Fault (Damaged part))))
        (slice_get set n) place.value place.is here in
        let own : part ≡ n = judged.0 in
        subst (λ (k : ℕ). (k < length set) × AreJudged at key set told k × JudgesPart at key k set told (Err (Fault (Damaged part)))) (sym own)
        (within, before, here)

pub undamaged : (key : List ℕ) (segment : CountedSpan) (stop : Stop PortFault) → GivesRowsOf key segment (Err stop) → IsUndamaged stop
undamaged key segment OutOfMemory given = tt
undamaged key segment (Fault (ReadFault first last)) given = tt
undamaged key segment (Fault (WriteFault first last)) given = tt
undamaged key segment (Fault (Damaged part)) given = given

-- a part that is named is one of the set's
pub part-of : (n count : ℕ) (stop : Stop PortFault) → n < count → NamesPart n (Err stop) → IsPartOf count stop
part-of n count OutOfMemory within named = tt
part-of n count (Fault (ReadFault first last)) within named = tt
part-of n count (Fault (WriteFault first last)) within named = tt
part-of n count (Fault (Damaged part)) within named = subst (λ (k : ℕ). k < count) (sym named) within

-- ---- what it costs

module _ (digits : CountedSpan → ℕ) (set : List CountedSpan) (i : ℕ) (segment : CountedSpan) (is : slice_get set i ≡ Some segment) where
  pub few-marks : All (λ s. length (marks s.rows) < 2 ^ digits s) set → length (marks segment.rows) < 2 ^ digits segment
  few-marks small =
      subst (λ (s : CountedSpan). length (marks s.rows) < 2 ^ digits s) (get_or_from_slice_get set i segment segment is)
      (small i segment (slice_get_within set i segment is))

  pub cost-more : (cost : CountedSpan → ℕ) (before so_far after : ℕ) → so_far ≤ before + sum_by cost (take i set) → after ≤ so_far + cost segment
      → after ≤ before + sum_by cost (take (i + 1) set)
  cost-more cost before so_far after bound step =
      le-more after so_far before (sum_by cost (take i set)) (cost segment) (cost (get_or set i segment)) (sum_by cost (take (i + 1) set)) bound step
      (sym (ap cost (get_or_from_slice_get set i segment segment is))) (sum_by_more cost set i segment (slice_get_within set i segment is))
    where
      le-more : (after so_far before sum steps steps' all : ℕ) → so_far ≤ before + sum → after ≤ so_far + steps → steps ≡ steps' → all ≡ sum + steps' → after ≤ before + all
      le-more after so_far before sum steps steps' all bound step same more = omega (arith, bound, step, same, more)

  pub cost-within : (cost : CountedSpan → ℕ) (before so_far after : ℕ) → so_far ≤ before + sum_by cost (take i set) → after ≤ so_far + cost segment
      → after ≤ before + sum_by cost set
  cost-within cost before so_far after bound step = omega (arith, cost-more cost before so_far after bound step, sum_by-take-le cost set (i + 1))

  pub most-read : (key : List ℕ) (blocks : List ℕ → List (List ℕ)) (scratch : Scratch) (before after : ℕ)
      → Reads key blocks (length segment.rows) (digits segment) scratch before after → after ≤ before + most_steps digits segment
  most-read key blocks scratch before after reads = omega (arith, reads.steps, reads.within)
