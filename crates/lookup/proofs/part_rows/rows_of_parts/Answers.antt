use Rattle.std.proofs.Common.{◌≡◌, ℕ, ◌+◌, ◌<◌, ◌≤◌, ◌^◌, List, Vec, Ok, Err, IfSome, filter, length, take, below_more, sym, ap, subst, ◌∙◌, arith}
use Rattle.std.specs.Global.{Global}
use Rattle.std.specs.List.{AllZip, slice_get}
use Rattle.std.proofs.lemmas.List.{take_all}
use Rattle.std.proofs.lemmas.List.Sums.{sum_by-take-le}
use Rattle.plain_laws.specs.Options.{IfSome-at}
use Rattle.lookup.specs.declared.part_rows.PartRows.{PartRows}
use Rattle.lookup.specs.Reading.{most_steps, read_steps, AreJudged, AreOfKey, AreRead}
use Rattle.lookup.proofs.ReadLemmas.{Placed, both-some, cost-more, cost-within, few-marks, games-more, games-within, kept-games, most-read, part-of, placed, read-more, stops-at, undamaged, zip-at}
use Rattle.outside.specs.Ports.{Scratch}
use Rattle.segment_blocks.specs.Kept.{KeptSpan}
use Rattle.segment_blocks.specs.Segment.{CountedSpan}
use Rattle.segment_blocks.specs.Walk.{has_key}
use Rattle.spill_blobs.specs.Ends.{Reads}
use Rattle.spill_blobs.specs.Judging.{blocks_at, GivesRowsOf, ReadsPart}
use Rattle.spill_blobs.specs.Marks.{marks}
use Rattle.spill_blobs.specs.Sets.{set_bytes, Holds, JudgesPart}
use Rattle.spill_blobs.specs.SoundRows as sound
use Rattle.spill_blobs.specs.Walks.{lesser_limit}
use Rattle.tally_rows.specs.declared.row.Row.{Row}
use Rattle.lookup.proofs.part_rows.rows_of_parts.Goals as goal

pub rows-requires-clause-size : goal.rows-requires-clause-size
rows-requires-clause-size g c =
    subst (λ (s : Scratch). length (set_bytes c.args.set.now) ≤ s.size) (sym c.loop-part.invariant.same) c.requires.size

pub overflow_add-first : goal.overflow_add-first
overflow_add-first g c =
    let set = c.args.set.now in
    let i = c.loop-part.part in
    let within : i < length set = omega (arith, c.loop-part-test.true, c.parts-count.ensures.count) in
    let place : Placed set i = placed set i within in
    let games : c.games-first.result ≡ length place.value.classes =
    c.games-first.ensures ∙ ap (λ (k : KeptSpan). length k.classes) (kept-games set i place.value c.kept.result.now place.is c.kept.ensures) in
    omega (arith, c.loop-part.invariant.first, games, games-more set i place.value place.is, games-within (i + 1) set, c.parts-count.ensures.set.few)

pub loop-part-preserved : goal.loop-part-preserved
loop-part-preserved g c =
    let l = c.loop-part in
    let at = c.args.at.now in
    let set = c.args.set.now in
    let old : Scratch = g.P.Port.port c.args.port.now in
    let i = l.part in
    let within : i < length set = omega (arith, c.loop-part-test.true, c.parts-count.ensures.count) in
    let place : Placed set i = placed set i within in
    let segment : CountedSpan = place.value in
    let rows : Vec Row Global = c.in-Ok.rows in
    let part : PartRows = record { first = l.first; rows = rows } in
    let same : g.P.Port.port l.port ≡ old = l.invariant.same in
    let games : c.games-first.result ≡ length segment.classes =
    c.games-first.ensures ∙ ap (λ (k : KeptSpan). length k.classes) (kept-games set i segment c.kept.result.now place.is c.kept.ensures) in
    let pushed = c.in-Ok-push.ensures.items in
    record {
      first = omega (arith, l.invariant.first, games, games-more set i segment place.is);
      read = subst (λ (parts : List PartRows). AreRead at 0 (take (i + 1) set) parts) (sym pushed)
          (read-more at set i segment place.is l.parts.items part l.invariant.read l.invariant.first
          (IfSome-at (λ (s : CountedSpan). sound.AreSound at (length s.classes) rows.items) (slice_get set i) segment place.is c.in-Ok.ensures.sound));
      same = c.in-Ok.ensures.faults ∙ same;
      found = λ key tidy holds.
          subst (λ (parts : List PartRows). AllZip (AreOfKey key) (take (i + 1) set) parts) (sym pushed)
          (zip-at (AreOfKey key) set i segment place.is l.parts.items part (l.invariant.found key tidy holds)
          (IfSome-at (λ (s : CountedSpan). rows.items ≡ filter (has_key key) s.rows) (slice_get set i) segment place.is
          (c.in-Ok.ensures.found key tidy (subst (λ (s : Scratch). Holds set s) (sym same) holds))));
      judged = λ key tidy.
          both-some (λ (told : List ℕ). AreJudged at key set told i) (λ (told : List ℕ). JudgesPart at key i set told (Ok rows))
          (λ (told : List ℕ). AreJudged at key set told (i + 1)) old.appended
          (λ told before here. below_more (λ n. (read : Vec Row Global) × JudgesPart at key n set told (Ok read)) i before (rows, here))
          (l.invariant.judged key tidy)
          (subst (λ (s : Scratch). IfSome s.appended (λ told. JudgesPart at key i set told (Ok rows))) same (c.in-Ok.ensures.judged key tidy));
      cost = λ key digits tidy small holds.
          let own : rows.items ≡ filter (has_key key) segment.rows =
          IfSome-at (λ (s : CountedSpan). rows.items ≡ filter (has_key key) s.rows) (slice_get set i) segment place.is
          (c.in-Ok.ensures.found key tidy (subst (λ (s : Scratch). Holds set s) (sym same) holds)) in
          let step : c.rows.new.steps ≤ l.steps + lesser_limit + digits segment + length rows.items + 1 =
          IfSome-at (λ (s : CountedSpan). (n : ℕ) → length (marks s.rows) < 2 ^ n → c.rows.new.steps ≤ l.steps + lesser_limit + n + length rows.items + 1)
          (slice_get set i) segment place.is c.in-Ok.ensures.cost (digits segment) (few-marks digits set i segment place.is small) in
          cost-more digits set i segment place.is (read_steps key digits) c.args.steps.now l.steps c.rows.new.steps (l.invariant.cost key digits tidy small holds)
          (omega (arith, step, ap (λ (rs : List Row). length rs) own));
      most = λ key digits tidy small.
          cost-more digits set i segment place.is (most_steps digits) c.args.steps.now l.steps c.rows.new.steps (l.invariant.most key digits tidy small)
          (most-read digits set i segment place.is key _ (g.P.Port.port l.port) l.steps c.rows.new.steps
          (IfSome-at (λ (s : CountedSpan). length (marks s.rows) < 2 ^ digits segment
          → Reads key (blocks_at key (length (set_bytes (take i set))) s) (length s.rows) (digits segment) (g.P.Port.port l.port) l.steps c.rows.new.steps)
          (slice_get set i) segment place.is (c.rows.ensures.reads key (digits segment) tidy) (few-marks digits set i segment place.is small)));
    }

pub returns-in-Err-clause-faults : goal.returns-in-Err-clause-faults
returns-in-Err-clause-faults g c =
    subst (λ (s : Scratch). ReadsPart (Err c.in-Err.stop) s (g.P.Port.port c.rows.new.port)) c.loop-part.invariant.same c.in-Err.ensures.faults

pub returns-in-Err-clause-whole : goal.returns-in-Err-clause-whole
returns-in-Err-clause-whole g c = λ key tidy holds.
    let set = c.args.set.now in
    let i = c.loop-part.part in
    let place : Placed set i = placed set i (omega (arith, c.loop-part-test.true, c.parts-count.ensures.count)) in
    undamaged key place.value c.in-Err.stop
    (IfSome-at (λ (s : CountedSpan). GivesRowsOf key s (Err c.in-Err.stop)) (slice_get set i) place.value place.is
    (c.in-Err.ensures.found key tidy (subst (λ (s : Scratch). Holds set s) (sym c.loop-part.invariant.same) holds)))

pub returns-in-Err-clause-part : goal.returns-in-Err-clause-part
returns-in-Err-clause-part g c =
    let set = c.args.set.now in
    let i = c.loop-part.part in
    part-of i (length set) c.in-Err.stop (omega (arith, c.loop-part-test.true, c.parts-count.ensures.count)) c.in-Err.ensures.named

pub returns-in-Err-clause-stopped : goal.returns-in-Err-clause-stopped
returns-in-Err-clause-stopped g c = λ key tidy.
    let set = c.args.set.now in
    let i = c.loop-part.part in
    stops-at c.args.at.now key set (g.P.Port.port c.args.port.now).appended i c.in-Err.stop (omega (arith, c.loop-part-test.true, c.parts-count.ensures.count))
    (c.loop-part.invariant.judged key tidy)
    (subst (λ (s : Scratch). IfSome s.appended (λ told. JudgesPart c.args.at.now key i set told (Err c.in-Err.stop))) c.loop-part.invariant.same
    (c.in-Err.ensures.judged key tidy))

pub returns-in-Err-clause-most : goal.returns-in-Err-clause-most
returns-in-Err-clause-most g c = λ key digits tidy small.
    let l = c.loop-part in
    let set = c.args.set.now in
    let i = l.part in
    let place : Placed set i = placed set i (omega (arith, c.loop-part-test.true, c.parts-count.ensures.count)) in
    let segment : CountedSpan = place.value in
    cost-within digits set i segment place.is (most_steps digits) c.args.steps.now l.steps c.rows.new.steps (l.invariant.most key digits tidy small)
    (most-read digits set i segment place.is key _ (g.P.Port.port l.port) l.steps c.rows.new.steps
    (IfSome-at (λ (s : CountedSpan). length (marks s.rows) < 2 ^ digits segment
    → Reads key (blocks_at key (length (set_bytes (take i set))) s) (length s.rows) (digits segment) (g.P.Port.port l.port) l.steps c.rows.new.steps)
    (slice_get set i) segment place.is (c.rows.ensures.reads key (digits segment) tidy) (few-marks digits set i segment place.is small)))

pub returns-in_default-clause-most : goal.returns-in_default-clause-most
returns-in_default-clause-most g c = λ key digits tidy small.
    let l = c.loop-part in
    let set = c.args.set.now in
    let i = l.part in
    let place : Placed set i = placed set i (omega (arith, c.loop-part-test.true, c.parts-count.ensures.count)) in
    let segment : CountedSpan = place.value in
    cost-within digits set i segment place.is (most_steps digits) c.args.steps.now l.steps c.rows.new.steps (l.invariant.most key digits tidy small)
    (most-read digits set i segment place.is key _ (g.P.Port.port l.port) l.steps c.rows.new.steps
    (IfSome-at (λ (s : CountedSpan). length (marks s.rows) < 2 ^ digits segment
    → Reads key (blocks_at key (length (set_bytes (take i set))) s) (length s.rows) (digits segment) (g.P.Port.port l.port) l.steps c.rows.new.steps)
    (slice_get set i) segment place.is (c.rows.ensures.reads key (digits segment) tidy) (few-marks digits set i segment place.is small)))

pub returns-clause-parts : goal.returns-clause-parts
returns-clause-parts g c =
    let set = c.args.set.now in
    let all : take c.loop-part.part set ≡ set = take_all c.loop-part.part set (omega (arith, c.loop-part-test.false, c.parts-count.ensures.count)) in
    subst (λ (s : List CountedSpan). AreRead c.args.at.now 0 s c.loop-part.parts.items) all c.loop-part.invariant.read

pub returns-clause-found : goal.returns-clause-found
returns-clause-found g c = λ key tidy holds.
    let set = c.args.set.now in
    let all : take c.loop-part.part set ≡ set = take_all c.loop-part.part set (omega (arith, c.loop-part-test.false, c.parts-count.ensures.count)) in
    subst (λ (s : List CountedSpan). AllZip (AreOfKey key) s c.loop-part.parts.items) all (c.loop-part.invariant.found key tidy holds)

pub returns-clause-judged : goal.returns-clause-judged
returns-clause-judged g c = λ key tidy.
    let set = c.args.set.now in
    let n = c.loop-part.part in
    let at = c.args.at.now in
    let past : length set ≤ n = omega (arith, c.loop-part-test.false, c.parts-count.ensures.count) in
    both-some (λ (told : List ℕ). AreJudged at key set told n) (λ (told : List ℕ). AreJudged at key set told n) (λ (told : List ℕ). AreJudged at key set told (length set))
    (g.P.Port.port c.args.port.now).appended (λ told before _. λ k below. before k (omega (arith, below, past)))
    (c.loop-part.invariant.judged key tidy) (c.loop-part.invariant.judged key tidy)

pub returns-clause-cost : goal.returns-clause-cost
returns-clause-cost g c = λ key digits tidy small holds.
    omega (arith, c.loop-part.invariant.cost key digits tidy small holds, sum_by-take-le (read_steps key digits) c.args.set.now c.loop-part.part)

pub returns-clause-most : goal.returns-clause-most
returns-clause-most g c = λ key digits tidy small.
    omega (arith, c.loop-part.invariant.most key digits tidy small, sum_by-take-le (most_steps digits) c.args.set.now c.loop-part.part)
