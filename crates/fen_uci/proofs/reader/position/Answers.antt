use Rattle.std.proofs.Common.{sym, ◌∙◌}
use Rattle.fen_uci.proofs.Positions.{first_1, first_2, first_3, first_4, first_5, first_6}
use Rattle.fen_uci.proofs.reader.position.Goals as goal

pub returns-in_default : goal.returns-in_default
returns-in_default c = first_1 c.args.text.now c.in_default.ensures.none

pub returns-in_default-turn : goal.returns-in_default-turn
returns-in_default-turn c = first_2 c.args.text.now c.in-Some.squares c.in-Some.ensures.some c.in_default-turn.ensures.none

pub returns-in_default-rights : goal.returns-in_default-rights
returns-in_default-rights c =
    first_3 c.args.text.now c.in-Some.squares c.in-Some-turn.turn c.in-Some.ensures.some c.in-Some-turn.ensures.some c.in_default-rights.ensures.none

pub returns-in_default-en_passant_field : goal.returns-in_default-en_passant_field
returns-in_default-en_passant_field c =
    first_4 c.args.text.now c.in-Some.squares c.in-Some-turn.turn c.in-Some-rights.rights
    c.in-Some.ensures.some c.in-Some-turn.ensures.some c.in-Some-rights.ensures.some c.in_default-en_passant_field.ensures.none

pub returns-then-not-has_clock : goal.returns-then-not-has_clock
returns-then-not-has_clock c =
    first_5 c.args.text.now c.in-Some.squares c.in-Some-turn.turn c.in-Some-rights.rights c.in-Some-en_passant_field.en_passant
    c.in-Some.ensures.some c.in-Some-turn.ensures.some c.in-Some-rights.ensures.some c.in-Some-en_passant_field.ensures.some
    (sym c.has_clock.ensures ∙ c.if-not-has_clock.true)

pub returns-then-not-has_number : goal.returns-then-not-has_number
returns-then-not-has_number c =
    first_6 c.args.text.now c.in-Some.squares c.in-Some-turn.turn c.in-Some-rights.rights c.in-Some-en_passant_field.en_passant
    c.in-Some.ensures.some c.in-Some-turn.ensures.some c.in-Some-rights.ensures.some c.in-Some-en_passant_field.ensures.some
    (sym c.has_clock.ensures ∙ c.if-not-has_clock.false) (sym c.has_number.ensures ∙ c.if-not-has_number.true)
