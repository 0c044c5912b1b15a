use Rattle.std.proofs.Common.{◌≡◌, ◌<◌, Some, List, length, get_or, sym, ap, ◌∙◌, subst, arith}
use Rattle.segment_blocks.specs.Kept.{KeptSpan}
use Rattle.segment_blocks.specs.Segment.{CountedSpan}
use Rattle.spill_blobs.specs.Parts.{Spilled}
use Rattle.spill_blobs.proofs.SetLemmas.{kept-at, length-segments, segments}
use Rattle.spill_blobs.proofs.set.SpillSet.kept.Goals as goal

pub returns : goal.returns
returns c =
    let list = c.self.inside.parts.items in
    let n = c.args.part in
    let x = c.index-parts-part.result in
    let is : x ≡ get_or list n x = c.index-parts-part.is ∙ ap (λ (l : List Spilled). get_or l n x) c.as_slice-parts.ensures.value in
    let short : n < length (segments list) = subst (λ (s : List CountedSpan). n < length s) (sym c.self.view_is) c.requires in
    let inside : n < length list = omega (arith, short, length-segments list) in
    rw (← c.self.view_is) (kept-at list n x inside is ∙ ap (λ (k : KeptSpan). Some k) (sym c.kept.ensures))
