use Rattle.explorer_model.proofs.EnPassant.{taken-some, taken-none}
use Rattle.chess_reference.proofs.legal.legal_en_passant.Goals as goal

pub returns-then-can_capture_en_passant : goal.returns-then-can_capture_en_passant
returns-then-can_capture_en_passant c =
    taken-some c.args.position.now c.in_ok-to.to c.in_ok-to.was (c.can_capture_en_passant.ensures.0 c.if-can_capture_en_passant.true)

pub returns-else-can_capture_en_passant : goal.returns-else-can_capture_en_passant
returns-else-can_capture_en_passant c =
    taken-none c.args.position.now c.in_ok-to.to c.in_ok-to.was (λ taken.
    let is = c.can_capture_en_passant.ensures.1 taken in
    let isnt = c.if-can_capture_en_passant.false in cc)
