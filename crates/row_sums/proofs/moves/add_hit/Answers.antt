use Rattle.std.proofs.Common.{◌≡◌, [], ◌∷◌, ◌++◌, get_or, sym, ap, subst, ◌∙◌, rules, arith}
use Rattle.std.specs.Prelude.{slice_set}
use Rattle.row_sums.specs.GroupSums.{HasRoomFor, no_sum, sum_with}
use Rattle.row_sums.specs.Hits.{hit_as}
use Rattle.row_sums.specs.declared.moves.MoveSum.{MoveSum}
use Rattle.row_sums.proofs.Grouping.{changed-within, changed-behind}
use Rattle.row_sums.proofs.moves.add_hit.Goals as goal

pub with_hit-requires-else-place-len-clause-room : goal.with_hit-requires-else-place-len-clause-room
with_hit-requires-else-place-len-clause-room c =
    subst (λ (sum : MoveSum). HasRoomFor sum (hit_as c.args.hit.now)) (sym c.of_no_game.ensures) c.requires.alone

pub returns-then-place-len : goal.returns-then-place-len
returns-then-place-len c =
    let hit = hit_as c.args.hit.now in
    let sums = c.args.sums.now.items in
    let sum : MoveSum = c.index.result.now in
    let is : sum ≡ get_or sums c.args.place sum = search rules in
    ap (slice_set sums c.args.place) (c.with_hit.ensures ∙ ap (sum_with hit) is)
    ∙ changed-within (sum_with hit) (sum_with hit (no_sum c.args.next)) c.args.place sums sum (omega arith)

pub returns-in_ok-push : goal.returns-in_ok-push
returns-in_ok-push c =
    let hit = hit_as c.args.hit.now in
    let sums = c.args.sums.now.items in
    c.in_ok-push.ensures.items
    ∙ ap (λ s. sums ++ s ∷ []) (c.with_hit-else-place-len.ensures ∙ ap (sum_with hit) c.of_no_game.ensures)
    ∙ changed-behind (sum_with hit) (sum_with hit (no_sum c.args.next)) c.args.place sums (omega arith)
