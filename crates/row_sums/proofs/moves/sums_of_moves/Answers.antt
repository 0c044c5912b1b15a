use Rattle.std.proofs.Common.{◌≡◌, ◌==◌, List, [], length, map, take, sym, ap, subst, ◌∙◌, arith}
use Rattle.std.proofs.lemmas.List.{length-map}
use Rattle.explorer_model.specs.declared.chess.Move.{Move}
use Rattle.row_sums.specs.Groups.{Tells, place_of, with_number}
use Rattle.row_sums.specs.GroupSums.{move_number}
use Rattle.row_sums.specs.Hits.{NumberedRow, hit_as}
use Rattle.row_sums.specs.MoveSums.{sum_as}
use Rattle.row_sums.specs.Sums.{moves_in}
use Rattle.row_sums.proofs.Grouping.{place-least}
use Rattle.row_sums.proofs.GroupedRows.{sum-room, sums-room, sums-next, sums-same, move-numbers-next, move-numbers-same}
use Rattle.row_sums.proofs.RowMoves.{moves-none}
use Rattle.row_sums.proofs.Rows.{hit-sound, hits-all}
use Rattle.row_sums.proofs.moves.sums_of_moves.Goals as goal
use Rattle.row_sums.proofs.moves.sums_of_moves.Goals.{in-Some+in_ok-place+in_ok-add_hit, in_default}

pub loop-hit-init : goal.loop-hit-init
loop-hit-init c = record {
  sums = c.new-sums.ensures.items ∙ sym (ap (map (sum_as [])) moves-none);
  places = subst (λ (ms : List Move). Tells c.new-places.result (map move_number ms)) (sym moves-none)
      c.new-places.ensures;
}

pub add_hit-requires-clause-room : goal.add_hit-requires-clause-room
add_hit-requires-clause-room c =
    sums-room c.args.hits.now c.requires c.loop-hit.hit-index c.hit-item.result c.loop-hit-test.true c.hit-item.is c.loop-hit.sums.items
    c.loop-hit.invariant.sums

pub add_hit-requires-clause-alone : goal.add_hit-requires-clause-alone
add_hit-requires-clause-alone c =
    sum-room c.args.hits.now c.requires c.loop-hit.hit-index c.hit-item.result c.loop-hit-test.true c.hit-item.is c.in-Some.next

pub add_hit-requires-clause-sound : goal.add_hit-requires-clause-sound
add_hit-requires-clause-sound c =
    hit-sound c.args.hits.now c.loop-hit.hit-index c.hit-item.result c.loop-hit-test.true c.hit-item.is c.requires

pub add_hit-requires-clause-place : goal.add_hit-requires-clause-place
add_hit-requires-clause-place c =
    let before : List NumberedRow = take c.loop-hit.hit-index (map hit_as c.args.hits.now) in
    let moves = moves_in before in
    let numbers = map move_number moves in
    let long : length numbers ≡ c.len.result =
    omega (arith, c.len.ensures, ap length c.loop-hit.invariant.sums, length-map moves (sum_as before), length-map moves move_number) in
    let at : c.in_ok-place.place ≡ place_of numbers c.move_number.result = c.in_ok-place.ensures.place numbers long c.loop-hit.invariant.places in
    omega (arith, at, place-least (λ n. n == c.move_number.result) numbers, long, c.len.ensures)

pub loop-hit-preserved : goal.loop-hit-preserved
loop-hit-preserved c =
    let hits = c.args.hits.now in
    let i = c.loop-hit.hit-index in
    let hit = c.hit-item.result in
    let within = c.loop-hit-test.true in
    let is = c.hit-item.is in
    let before : List NumberedRow = take i (map hit_as hits) in
    let moves = moves_in before in
    let numbers = map move_number moves in
    elim c.match-next.branch [
      | in-Some+in_ok-place+in_ok-add_hit w ↦ (
          let long : length numbers ≡ w.len.result =
          omega (arith, w.len.ensures, ap length c.loop-hit.invariant.sums, length-map moves (sum_as before), length-map moves move_number) in
          let number : w.move_number.result ≡ move_number w.in-Some.next = w.move_number.ensures in
          let at : w.in_ok-place.place ≡ place_of numbers w.move_number.result = w.in_ok-place.ensures.place numbers long c.loop-hit.invariant.places in
          let told = w.in_ok-place.ensures.places numbers long c.loop-hit.invariant.places in
          record {
            sums = ap (λ s. s.items) w.sums-is ∙ w.in_ok-add_hit.ensures
                ∙ sums-next hits i hit within is w.in-Some.next (sym c.next.ensures ∙ w.in-Some.is) c.loop-hit.sums.items w.in_ok-place.place c.loop-hit.invariant.sums
                (at ∙ ap (place_of numbers) number);
            places = rw w.places-is
                (subst (Tells w.place_of.new.self)
                (ap (with_number numbers) number ∙ sym (move-numbers-next hits i hit within is w.in-Some.next (sym c.next.ensures ∙ w.in-Some.is))) told);
          })
      | in_default w ↦
          record {
            sums = ap (λ s. s.items) w.sums-is ∙ sums-same hits i hit within is c.loop-hit.sums.items (sym c.next.ensures ∙ w.in_default.is) c.loop-hit.invariant.sums;
            places = rw w.places-is
                (subst (Tells c.loop-hit.places) (sym (move-numbers-same hits i hit within is (sym c.next.ensures ∙ w.in_default.is))) c.loop-hit.invariant.places);
          }
    ]

pub returns : goal.returns
returns c =
    c.loop-hit.invariant.sums
    ∙ ap (λ (hits : List NumberedRow). map (sum_as hits) (moves_in hits)) (hits-all c.args.hits.now c.loop-hit.hit-index c.loop-hit-test.false)
