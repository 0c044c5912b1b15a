use Rattle.std.proofs.Common.{map}
use Rattle.std.specs.Option.{option_copied}
use Rattle.serde_json.specs.Data.{array}
use Rattle.explorer_model.specs.Answer.{array_by, listed_value, move_items, named_body, opening_value}
use Rattle.answer_json.proofs.Writing.{answer-pieces}
use Rattle.answer_json.proofs.answer.lent_body.Goals as goal

pub returns : goal.returns
unfolding named_body
returns c =
    let found = c.args.found.now in
    rw (
      c.in_ok-push.ensures.items,
      c.in_ok-push_count-3.ensures,
      c.in_ok-push_lists.ensures,
      c.in_ok-push_history.ensures,
      c.as_ref.ensures.value,
      c.in_ok-push_count-2.ensures,
      c.in_ok-push_count.ensures,
      c.in_ok-body.ensures.items,
    )
    (answer-pieces found.totals.black found.totals.draws found.totals.white found.history
    (array (move_items found.moves (map option_copied c.args.openings.now))) (opening_value (option_copied c.args.whole))
    (array_by listed_value found.recent) (array_by listed_value found.top))
