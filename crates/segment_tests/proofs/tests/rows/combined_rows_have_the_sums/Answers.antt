use Rattle.std.proofs.Common.{◌≡◌, ◌+◌, ap, sym, ◌∙◌, arith}
use Rattle.tally_rows.specs.Row.{row_key_of}
use Rattle.tally_rows.proofs.Combining.{row_of-one}
use Rattle.tally_rows.proofs.FromSingles.{row_of-row_key}
use Rattle.segment_tests.proofs.tests.rows.combined_rows_have_the_sums.Goals as goal

pub combine-both-requires-clause-same : goal.combine-both-requires-clause-same
combine-both-requires-clause-same g c =
    ap row_key_of c.of-one.ensures.row ∙ row_of-row_key c.single.result ∙ c.single.ensures ∙ sym c.single-2.ensures
    ∙ sym (row_of-row_key c.single-2.result) ∙ ap row_key_of (sym c.of-other.ensures.row)

pub combine-both-requires-clause-fit : goal.combine-both-requires-clause-fit
combine-both-requires-clause-fit g c =
    let one : c.of-one.result.white + c.of-one.result.draws + c.of-one.result.black ≡ 1 = rw c.of-one.ensures.row (row_of-one c.single.result) in
    let other : c.of-other.result.white + c.of-other.result.draws + c.of-other.result.black ≡ 1 = rw c.of-other.ensures.row (row_of-one c.single-2.result) in
    record {
      white = omega arith;
      draws = omega arith;
      black = omega arith;
      ratings = omega (arith, c.of-one.ensures.small, c.of-other.ensures.small);
    }
