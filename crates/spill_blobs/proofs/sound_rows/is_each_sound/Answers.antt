use Rattle.std.proofs.Common.{◌≡◌, length, take, refl, sym, ap, ◌∙◌, subst, arith, true≢false}
use Rattle.std.specs.List.{AllByRecursion}
use Rattle.std.proofs.Math.Seq.{take-length}
use Rattle.explorer_model.specs.Tidy.{IsTidyKey}
use Rattle.tally_rows.specs.declared.row.Row.{Row}
use Rattle.spill_blobs.specs.SoundRows.{IsSoundRow}
use Rattle.spill_blobs.proofs.SoundLemmas.{all-item, all-next}
use Rattle.spill_blobs.proofs.sound_rows.is_each_sound.Goals as goal

pub loop-row-preserved : goal.loop-row-preserved
loop-row-preserved c =
    let l = c.loop-row in
    let rows = c.args.rows.now in
    λ at legal tidy. all-next (IsSoundRow at c.args.n) rows l.row-index c.row-item.result c.loop-row-test.true c.row-item.is (l.invariant at legal tidy)
    ((c.is_sound_row.ensures at legal (all-item (λ (row : Row). IsTidyKey at row.key) rows l.row-index c.row-item.result c.loop-row-test.true c.row-item.is tidy)).0
    c.if-not-is_sound_row.false)

pub returns-then-not-is_sound_row : goal.returns-then-not-is_sound_row
returns-then-not-is_sound_row c =
    let l = c.loop-row in
    let rows = c.args.rows.now in
    λ at legal tidy. (
      λ h. absurd (true≢false (sym h)),
      λ all. absurd (true≢false (sym ((c.is_sound_row.ensures at legal (all-item (λ (row : Row). IsTidyKey at row.key) rows l.row-index c.row-item.result c.loop-row-test.true c.row-item.is tidy)).1
          (all-item (IsSoundRow at c.args.n) rows l.row-index c.row-item.result c.loop-row-test.true c.row-item.is all)) ∙ c.if-not-is_sound_row.true)),
    )

pub returns : goal.returns
returns c =
    let l = c.loop-row in
    let rows = c.args.rows.now in
    let all : l.row-index ≡ length rows = omega (arith, l.auto.row-index-end, c.loop-row-test.false) in
    λ at legal tidy. (
      λ h. subst (AllByRecursion (IsSoundRow at c.args.n)) (ap (λ k. take k rows) all ∙ take-length rows) (l.invariant at legal tidy),
      λ each. refl,
    )
