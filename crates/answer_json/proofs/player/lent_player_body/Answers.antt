use Rattle.std.proofs.Common.{map}
use Rattle.std.specs.Option.{option_copied}
use Rattle.serde_json.specs.Data.{array}
use Rattle.explorer_model.specs.Answer.{array_by, listed_value, opening_value}
use Rattle.explorer_model.specs.Players.{player_body, player_move_items}
use Rattle.answer_json.proofs.Values.{no_float-games}
use Rattle.answer_json.proofs.Writing.{player-pieces}
use Rattle.answer_json.proofs.player.lent_player_body.Goals as goal

pub push_value-requires : goal.push_value-requires
push_value-requires c = rw (c.in_ok-recent.ensures, c.as_slice-2.ensures) (no_float-games c.args.found.now.recent)

pub returns : goal.returns
unfolding player_body
returns c =
    let found = c.args.found.now in
    rw (
      c.in_ok-push.ensures.items,
      c.in_ok-push_count-3.ensures,
      c.in_ok-push_value.ensures,
      c.in_ok-recent.ensures,
      c.as_slice-2.ensures,
      c.in_ok-push_opening.ensures,
      c.in_ok-push_moves.ensures,
      c.as_slice.ensures,
      c.in_ok-extend_from_slice.ensures.items,
      c.in_ok-push_count-2.ensures,
      c.in_ok-push_count.ensures,
      c.in_ok-body.ensures.items,
    )
    (player-pieces found.totals.black found.totals.draws found.totals.white
    (array (player_move_items found.moves (map option_copied c.args.openings.now))) (opening_value (option_copied c.args.whole))
    (array_by listed_value found.recent))
