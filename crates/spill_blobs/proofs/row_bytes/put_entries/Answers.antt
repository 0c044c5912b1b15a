use Rattle.std.proofs.Common.{◌≡◌, ◌++◌, length, take, get_or, ap, ◌∙◌, subst, arith}
use Rattle.std.proofs.Math.Seq.{take-length}
use Rattle.std.specs.List.{AllByRecursion, flat_map}
use Rattle.spill_blobs.specs.RowBlocks.{entry_bytes, Fits}
use Rattle.spill_blobs.proofs.BytesLemmas.{entry-next}
use Rattle.spill_blobs.proofs.ListLemmas.{no_entry, at-place}
use Rattle.spill_blobs.proofs.SoundLemmas.{all-next}
use Rattle.spill_blobs.proofs.row_bytes.put_entries.Goals as goal

pub loop-entry-preserved : goal.loop-entry-preserved
loop-entry-preserved c =
    let l = c.loop-entry in
    let entries = c.args.entries.now in
    let entry = get_or entries l.entry-index no_entry in
    let is = at-place entries l.entry-index c.loop-entry-test.true in
    record {
      bytes = entry-next c.args.bytes.now.items l.bytes.items _ entries l.entry-index entry c.loop-entry-test.true is l.invariant.bytes
          c.in_ok-put_entry.ensures.bytes;
      fit = all-next Fits entries l.entry-index entry c.loop-entry-test.true is l.invariant.fit c.in_ok-put_entry.ensures.fits;
    }

pub returns-clause-bytes : goal.returns-clause-bytes
returns-clause-bytes c =
    let l = c.loop-entry in
    let entries = c.args.entries.now in
    let all : l.entry-index ≡ length entries = omega (arith, l.auto.entry-index-end, c.loop-entry-test.false) in
    l.invariant.bytes ∙ ap (λ es. c.args.bytes.now.items ++ flat_map entry_bytes es) (ap (λ k. take k entries) all ∙ take-length entries)

pub returns-clause-fit : goal.returns-clause-fit
returns-clause-fit c =
    let l = c.loop-entry in
    let entries = c.args.entries.now in
    let all : l.entry-index ≡ length entries = omega (arith, l.auto.entry-index-end, c.loop-entry-test.false) in
    subst (AllByRecursion Fits) (ap (λ k. take k entries) all ∙ take-length entries) l.invariant.fit
