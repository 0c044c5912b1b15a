use Rattle.std.proofs.Common.{◌≡◌, ◌+◌, ap, ◌∙◌, lit<, arith}
use Rattle.tally_rows.specs.Grid.{zeros, added, plus}
use Rattle.tally_rows.proofs.Combining.{row_of-one}
use Rattle.segment_tests.proofs.tests.rows.grids_sum_what_is_chosen.Goals as goal

pub sum_of-requires : goal.sum_of-requires
unfolding added plus
sum_of-requires g c =
    let row = c.of-row.result in
    let one : row.white + row.draws + row.black ≡ 1 = rw c.of-row.ensures.row (row_of-one c.single.result) in
    let grid : c.add.new.self ≡ added (zeros 2 3) 1 2 row = c.add.ensures ∙ ap (λ z. added z 1 2 row) c.new-grid.ensures in (
      lit< tt,
      (
        lit< tt,
        (
          lit< tt,
          rw grid (record {
            white = omega arith;
            draws = omega arith;
            black = omega arith;
            ratings = omega (arith, c.of-row.ensures.small);
          }),
        ),
      ),
    )

pub sum_of-requires-2 : goal.sum_of-requires-2
unfolding added plus
sum_of-requires-2 g c =
    let row = c.of-row.result in
    let grid : c.add.new.self ≡ added (zeros 2 3) 1 2 row = c.add.ensures ∙ ap (λ z. added z 1 2 row) c.new-grid.ensures in
    (lit< tt, (lit< tt, (lit< tt, rw grid (record { white = omega arith; draws = omega arith; black = omega arith; ratings = omega arith }))))
