use Rattle.std.proofs.Common.{◌≡◌, ◌==◌, List, [], length, map, take, sym, ap, subst, ◌∙◌, arith}
use Rattle.std.proofs.lemmas.List.{length-map}
use Rattle.explorer_model.specs.declared.archive.Month.{Month}
use Rattle.explorer_model.specs.Counting.{month_number}
use Rattle.row_sums.specs.Groups.{Tells, place_of, with_number}
use Rattle.row_sums.specs.Hits.{NumberedRow, hit_as}
use Rattle.row_sums.specs.Sums.{month_line, months_in}
use Rattle.row_sums.proofs.Grouping.{place-least}
use Rattle.row_sums.proofs.GroupedRows.{line-room, lines-room, month-lines-next, month-numbers-next}
use Rattle.row_sums.proofs.RowMoves.{months-none}
use Rattle.row_sums.proofs.Rows.{hits-all}
use Rattle.row_sums.proofs.history.lines_of_months.Goals as goal

pub loop-hit-init : goal.loop-hit-init
loop-hit-init c = record {
  lines = c.new-lines.ensures.items ∙ sym (ap (map (month_line [])) months-none);
  places = subst (λ (ms : List Month). Tells c.new-places.result (map month_number ms)) (sym months-none)
      c.new-places.ensures;
}

pub add_hit-requires-clause-room : goal.add_hit-requires-clause-room
add_hit-requires-clause-room c =
    lines-room c.args.hits.now c.requires c.loop-hit.hit-index c.hit-item.result c.loop-hit-test.true c.hit-item.is c.loop-hit.lines.items
    c.loop-hit.invariant.lines

pub add_hit-requires-clause-alone : goal.add_hit-requires-clause-alone
add_hit-requires-clause-alone c =
    line-room c.args.hits.now c.requires c.loop-hit.hit-index c.hit-item.result c.loop-hit-test.true c.hit-item.is

pub add_hit-requires-clause-place : goal.add_hit-requires-clause-place
add_hit-requires-clause-place c =
    let before : List NumberedRow = take c.loop-hit.hit-index (map hit_as c.args.hits.now) in
    let months = months_in before in
    let numbers = map month_number months in
    let long : length numbers ≡ c.len.result =
    omega (arith, c.len.ensures, ap length c.loop-hit.invariant.lines, length-map months (month_line before), length-map months month_number) in
    let at : c.in_ok-place.place ≡ place_of numbers c.month_number.result = c.in_ok-place.ensures.place numbers long c.loop-hit.invariant.places in
    omega (arith, at, place-least (λ n. n == c.month_number.result) numbers, long, c.len.ensures)

pub loop-hit-preserved : goal.loop-hit-preserved
loop-hit-preserved c =
    let hits = c.args.hits.now in
    let i = c.loop-hit.hit-index in
    let hit = c.hit-item.result in
    let within = c.loop-hit-test.true in
    let is = c.hit-item.is in
    let before : List NumberedRow = take i (map hit_as hits) in
    let months = months_in before in
    let numbers = map month_number months in
    let long : length numbers ≡ c.len.result =
    omega (arith, c.len.ensures, ap length c.loop-hit.invariant.lines, length-map months (month_line before), length-map months month_number) in
    let number : c.month_number.result ≡ month_number (hit_as hit).row.month = c.month_number.ensures ∙ ap month_number c.month.ensures in
    let at : c.in_ok-place.place ≡ place_of numbers c.month_number.result = c.in_ok-place.ensures.place numbers long c.loop-hit.invariant.places in
    let told = c.in_ok-place.ensures.places numbers long c.loop-hit.invariant.places in
    record {
      lines = c.in_ok-add_hit.ensures
          ∙ month-lines-next hits i hit within is c.loop-hit.lines.items c.in_ok-place.place c.loop-hit.invariant.lines (at ∙ ap (place_of numbers) number);
      places = subst (Tells c.place_of.new.self) (ap (with_number numbers) number ∙ sym (month-numbers-next hits i hit within is)) told;
    }

pub returns : goal.returns
returns c =
    c.loop-hit.invariant.lines
    ∙ ap (λ (hits : List NumberedRow). map (month_line hits) (months_in hits)) (hits-all c.args.hits.now c.loop-hit.hit-index c.loop-hit-test.false)
