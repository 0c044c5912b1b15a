use Rattle.std.proofs.Common.{◌++◌, List, map, sym, ap, ◌∙◌, arith}
use Rattle.std.proofs.lemmas.List.{append-nil, take_all}
use Rattle.lookup.proofs.ReadHits.{picked, picked-more}
use Rattle.row_sums.specs.Hits.{hit_as}
use Rattle.tally_rows.specs.Cover.{passes_row_key}
use Rattle.tally_rows.specs.declared.row.Row.{Row}
use Rattle.lookup.proofs.part_rows.add_hits.Goals as goal

pub loop-row-init : goal.loop-row-init
loop-row-init c = sym (append-nil (map hit_as c.args.hits.now.items))

pub loop-row-preserved : goal.loop-row-preserved
loop-row-preserved c =
    let pick = passes_row_key c.args.wanted.now in
    let first = c.args.part.now.first in
    let i = c.loop-row.row-index in
    picked-more pick first c.as_slice-rows.result.now i c.row-item.result c.loop-row-test.true c.row-item.is (map hit_as c.args.hits.now.items)
    (map hit_as c.loop-row.hits.items) (map hit_as c.add_row.new.hits.items) c.loop-row.invariant c.in_ok-add_row.ensures

pub returns : goal.returns
returns c =
    let pick = passes_row_key c.args.wanted.now in
    let first = c.args.part.now.first in
    c.loop-row.invariant
    ∙ ap (λ (rows : List Row). map hit_as c.args.hits.now.items ++ picked pick first rows)
    (take_all c.loop-row.row-index c.as_slice-rows.result.now (omega (arith, c.loop-row-test.false)) ∙ c.as_slice-rows.ensures.value)
