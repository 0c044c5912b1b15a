use Rattle.std.proofs.Common.{List, [], refl, sym, ◌∙◌, subst}
use Rattle.tally_rows.specs.declared.row.Row.{Row}
use Rattle.spill_blobs.proofs.SheetLemmas.{IsUnderWay, empty-sheet, under-end, under-more, within-all}
use Rattle.spill_blobs.proofs.sheet.Sheet.of_uncounted.Goals as goal

pub loop-row-init : goal.loop-row-init
loop-row-init g c = record {
  done = [];
  has = empty-sheet _ c.new-bytes.ensures.items refl c.new-keys.ensures.items refl;
  are = sym (within-all c.args.segment.now.rows) ∙ sym c.rows_within-walk.ensures.rows;
}

pub loop-row-preserved : goal.loop-row-preserved
loop-row-preserved g c =
    let rows = c.args.segment.now.rows in
    let sheet = c.loop-row.sheet in
    under-more sheet _ c.in-Some.row _ rows
    (subst (λ (left : List Row). IsUnderWay sheet left rows) c.in-Some.ensures.rows c.loop-row.invariant) c.in_ok-put.ensures

pub returns : goal.returns
returns g c =
    let rows = c.args.segment.now.rows in
    let sheet = c.loop-row.sheet in
    under-end sheet rows (subst (λ (left : List Row). IsUnderWay sheet left rows) c.in_default.ensures.rows.0 c.loop-row.invariant)
