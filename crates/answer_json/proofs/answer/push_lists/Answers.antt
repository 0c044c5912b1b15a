use Rattle.std.proofs.Common.{codes, map}
use Rattle.std.specs.Option.{option_copied}
use Rattle.serde_json.specs.Data.{array}
use Rattle.serde_json.specs.Written.{compact_text}
use Rattle.explorer_model.specs.Answer.{array_by, listed_value, move_items, opening_value}
use Rattle.answer_json.proofs.Values.{no_float-games}
use Rattle.answer_json.proofs.Writing.{lists-regroup}
use Rattle.answer_json.proofs.answer.push_lists.Goals as goal

pub push_value-requires : goal.push_value-requires
push_value-requires c = rw (c.in_ok-recent.ensures, c.as_slice-2.ensures) (no_float-games c.args.found.now.recent)

pub push_value-requires-2 : goal.push_value-requires-2
push_value-requires-2 c = rw (c.in_ok-top.ensures, c.as_slice-3.ensures) (no_float-games c.args.found.now.top)

pub returns : goal.returns
returns c =
    let found = c.args.found.now in
    rw (
      c.in_ok-push_value-2.ensures,
      c.in_ok-top.ensures,
      c.as_slice-3.ensures,
      c.in_ok-push_value.ensures,
      c.in_ok-recent.ensures,
      c.as_slice-2.ensures,
      c.in_ok-push_opening.ensures,
      c.in_ok-push_moves.ensures,
      c.as_slice.ensures,
      c.in_ok-extend_from_slice.ensures.items,
    )
    (lists-regroup c.args.body.now.items
    (codes ",\"moves\":") (compact_text (array (move_items found.moves (map option_copied c.args.openings.now))))
    (codes ",\"opening\":") (compact_text (opening_value (option_copied c.args.whole)))
    (codes ",\"recentGames\":") (compact_text (array_by listed_value found.recent))
    (codes ",\"topGames\":") (compact_text (array_by listed_value found.top)))
