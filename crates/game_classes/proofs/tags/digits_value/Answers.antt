use Rattle.std.proofs.Common.{rules, arith}
use Rattle.plain_laws.specs.Numbers.{digit-at}
use Rattle.game_classes.proofs.Numbers.{fits_next}
use Rattle.game_classes.proofs.tags.digits_value.Goals as goal

pub overflow_mul-number : goal.overflow_mul-number
overflow_mul-number c =
    let room = fits_next c.loop-byte.byte-index c.loop-byte.number (omega (arith, c.requires.few, c.loop-byte-test.true)) c.loop-byte.invariant.2 in
    search (rules, room)

pub overflow_add-number : goal.overflow_add-number
overflow_add-number c =
    let room = fits_next c.loop-byte.byte-index c.loop-byte.number (omega (arith, c.requires.few, c.loop-byte-test.true)) c.loop-byte.invariant.2 in
    let digit = digit-at c.loop-byte.byte-index c.args.text.now c.loop-byte-test.true c.loop-byte.invariant.0 in
    search (rules, room, digit)
