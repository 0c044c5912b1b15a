use Rattle.game_classes.proofs.Splits.{nowhere_any, nowhere_before, first_any, first_before, first_after}
use Rattle.game_classes.proofs.bytes.split_once.Goals as goal

pub returns-in_err-place-clause-none : goal.returns-in_err-place-clause-none
returns-in_err-place-clause-none c =
    rw c.from_residual.ensures
    (nowhere_any c.args.byte c.args.text.now c.in_err-place.ensures, nowhere_before c.args.byte c.args.text.now c.in_err-place.ensures)

pub returns-clause-some : goal.returns-clause-some
returns-clause-some c =
    let place = c.in_ok-place.place in
    let found = c.in_ok-place.ensures in (
      first_any c.args.byte c.args.text.now place found.0.high found.1,
      first_before c.args.byte c.args.text.now place found.0 found.1,
      first_after c.args.byte c.args.text.now place found.0 found.1,
    )
