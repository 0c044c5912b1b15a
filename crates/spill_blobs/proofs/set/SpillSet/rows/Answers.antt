use Rattle.std.proofs.Common.{◌≡◌, ℕ, ◌+◌, ◌≤◌, ◌<◌, ◌^◌, List, length, take, get_or, sym, ap, ◌∙◌, subst, arith}
use Rattle.std.specs.Prelude.{IfOk}
use Rattle.segment_blocks.specs.Segment.{CountedSpan}
use Rattle.spill_blobs.specs.Ends.{Reads}
use Rattle.spill_blobs.specs.Judging.{blocks_at, GivesRowsOf}
use Rattle.spill_blobs.specs.Marks.{marks}
use Rattle.spill_blobs.specs.Parts.{Spilled}
use Rattle.spill_blobs.specs.Sets.{set_bytes}
use Rattle.spill_blobs.specs.Walks.{lesser_limit}
use Rattle.spill_blobs.proofs.SetLemmas.{judged-at, length-segments, number-fits, of-set, part-at, part-inside, part-stands, part-start, segments, sound-at}
use Rattle.spill_blobs.proofs.set.SpillSet.rows.Goals as goal

pub overflow_cast-part : goal.overflow_cast-part
overflow_cast-part g c =
    let list = c.self.inside.parts.items in
    let n = c.args.part in
    let short : n < length (segments list) = subst (λ (s : List CountedSpan). n < length s) (sym c.self.view_is) c.requires.inside in
    let small : n < 2 ^ 32 = number-fits (segments list) n c.self.invariant.1 short in
    omega (arith, small)

pub rows-requires-clause-inside : goal.rows-requires-clause-inside
rows-requires-clause-inside g c =
    let list = c.self.inside.parts.items in
    let n = c.args.part in
    let x = c.index-parts-part.result in
    let is : x ≡ get_or list n x = c.index-parts-part.is ∙ ap (λ (l : List Spilled). get_or l n x) c.as_slice-parts.ensures.value in
    let size : length (set_bytes (segments list)) ≤ (g.P.Port.port c.args.port.now).size =
    subst (λ (s : List CountedSpan). length (set_bytes s) ≤ (g.P.Port.port c.args.port.now).size) (sym c.self.view_is) c.requires.size in
    let short : n < length (segments list) = subst (λ (s : List CountedSpan). n < length s) (sym c.self.view_is) c.requires.inside in
    let inside : n < length list = omega (arith, short, length-segments list) in
    part-inside list c.self.inside.end n x c.self.invariant.0 inside is (g.P.Port.port c.args.port.now).size size

pub returns-clause-judged : goal.returns-clause-judged
returns-clause-judged g c =
    let list = c.self.inside.parts.items in
    let n = c.args.part in
    let x = c.index-parts-part.result in
    let is : x ≡ get_or list n x = c.index-parts-part.is ∙ ap (λ (l : List Spilled). get_or l n x) c.as_slice-parts.ensures.value in
    let short : n < length (segments list) = subst (λ (s : List CountedSpan). n < length s) (sym c.self.view_is) c.requires.inside in
    let inside : n < length list = omega (arith, short, length-segments list) in
    rw (← c.self.view_is)
    (λ key tidy. judged-at (segments list) n x.segment (part-at list n x inside is) c.args.at.now key x.start c.rows.result
    (part-start list c.self.inside.end n x c.self.invariant.0 inside is) (g.P.Port.port c.args.port.now).appended (c.rows.ensures.judged key tidy))

pub returns-clause-found : goal.returns-clause-found
returns-clause-found g c =
    let list = c.self.inside.parts.items in
    let n = c.args.part in
    let x = c.index-parts-part.result in
    let is : x ≡ get_or list n x = c.index-parts-part.is ∙ ap (λ (l : List Spilled). get_or l n x) c.as_slice-parts.ensures.value in
    let short : n < length (segments list) = subst (λ (s : List CountedSpan). n < length s) (sym c.self.view_is) c.requires.inside in
    let inside : n < length list = omega (arith, short, length-segments list) in
    rw (← c.self.view_is)
    (λ key tidy holds. of-set (segments list) n x.segment (part-at list n x inside is) (λ (s : CountedSpan). GivesRowsOf key s c.rows.result)
    (c.rows.ensures.found key tidy
    (part-stands list c.self.inside.end n x (g.P.Port.port c.args.port.now).appended c.self.invariant.0 inside is holds)))

pub returns-clause-reads : goal.returns-clause-reads
returns-clause-reads g c =
    let list = c.self.inside.parts.items in
    let n = c.args.part in
    let x = c.index-parts-part.result in
    let is : x ≡ get_or list n x = c.index-parts-part.is ∙ ap (λ (l : List Spilled). get_or l n x) c.as_slice-parts.ensures.value in
    let short : n < length (segments list) = subst (λ (s : List CountedSpan). n < length s) (sym c.self.view_is) c.requires.inside in
    let inside : n < length list = omega (arith, short, length-segments list) in
    let scratch = g.P.Port.port c.args.port.now in
    rw (← c.self.view_is)
    (λ key digits tidy. of-set (segments list) n x.segment (part-at list n x inside is)
    (λ (s : CountedSpan). length (marks s.rows) < 2 ^ digits
    → Reads key (blocks_at key (length (set_bytes (take n (segments list)))) s) (length s.rows) digits scratch c.args.steps.now c.rows.new.steps)
    (λ fits. subst (λ (start : ℕ). Reads key (blocks_at key start x.segment) (length x.segment.rows) digits scratch c.args.steps.now c.rows.new.steps)
    (part-start list c.self.inside.end n x c.self.invariant.0 inside is) (c.rows.ensures.reads key digits tidy fits)))

pub returns-clause-cost : goal.returns-clause-cost
returns-clause-cost g c =
    let list = c.self.inside.parts.items in
    let n = c.args.part in
    let x = c.index-parts-part.result in
    let is : x ≡ get_or list n x = c.index-parts-part.is ∙ ap (λ (l : List Spilled). get_or l n x) c.as_slice-parts.ensures.value in
    let short : n < length (segments list) = subst (λ (s : List CountedSpan). n < length s) (sym c.self.view_is) c.requires.inside in
    let inside : n < length list = omega (arith, short, length-segments list) in
    rw (← c.self.view_is)
    (of-set (segments list) n x.segment (part-at list n x inside is)
    (λ (s : CountedSpan). (digits : ℕ) → length (marks s.rows) < 2 ^ digits
    → IfOk c.rows.result (λ rows. c.rows.new.steps ≤ c.args.steps.now + lesser_limit + digits + length rows.items + 1))
    c.rows.ensures.cost)

pub returns-clause-sound : goal.returns-clause-sound
returns-clause-sound g c =
    let list = c.self.inside.parts.items in
    let n = c.args.part in
    let x = c.index-parts-part.result in
    let is : x ≡ get_or list n x = c.index-parts-part.is ∙ ap (λ (l : List Spilled). get_or l n x) c.as_slice-parts.ensures.value in
    let short : n < length (segments list) = subst (λ (s : List CountedSpan). n < length s) (sym c.self.view_is) c.requires.inside in
    let inside : n < length list = omega (arith, short, length-segments list) in
    rw (← c.self.view_is)
    (sound-at (segments list) n x.segment (part-at list n x inside is) c.args.at.now c.rows.result c.rows.ensures.sound)
