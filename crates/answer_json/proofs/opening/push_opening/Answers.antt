use Rattle.std.proofs.Common.{◌≡◌, Some, ap}
use Rattle.std.specs.Option.{option_copied}
use Rattle.answer_json.proofs.Writing.{opening-pieces}
use Rattle.answer_json.proofs.opening.push_opening.Goals as goal

pub returns : goal.returns
returns c =
    let opening = c.in-Some.opening.now in
    let is : option_copied c.args.opening ≡ Some opening = ap option_copied c.in-Some.is in
    rw (
      is,
      c.in_ok-push.ensures.items,
      c.in_ok-push_text-2.ensures,
      c.as_str-2.ensures,
      c.in_ok-push_text.ensures,
      c.as_str.ensures,
    )
    (opening-pieces c.args.body.now.items opening.eco opening.name)
