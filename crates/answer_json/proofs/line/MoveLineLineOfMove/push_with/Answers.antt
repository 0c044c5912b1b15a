use Rattle.std.specs.Option.{option_copied}
use Rattle.explorer_model.specs.Answer.{game_value, opening_value}
use Rattle.explorer_model.specs.Uci.{uci_text}
use Rattle.answer_json.proofs.Writing.{line-text, move-pieces}
use Rattle.answer_json.proofs.line.MoveLineLineOfMove.push_with.Goals as goal

pub returns : goal.returns
unfolding line-text
returns c =
    let line = c.args.self.now in
    rw (
      c.in_ok-push.ensures.items,
      c.in_ok-push_count.ensures,
      c.in_ok-push_play.ensures,
      c.as_slice.ensures,
      c.in_ok-push_opening.ensures,
      c.in_ok-push_game.ensures,
      c.as_ref.ensures.value,
      c.in_ok-push_counts.ensures,
      c.in_ok-extend_from_slice.ensures.items,
    )
    (move-pieces c.args.body.now.items c.args.before.now line.average line.totals.black line.totals.draws line.totals.white
    (game_value line.game) (opening_value (option_copied c.args.opening)) line.san (uci_text line.next))
