use Rattle.player_lookup.proofs.visit.has_same_pieces.Goals as goal

pub returns : goal.returns
returns c =
    let others = c.has_same_turn_and_rights.ensures.0 c.if-not-has_same_turn_and_rights.false in
    (λ e. (c.has_same_squares.ensures.0 e, others.0, others.1), λ h. c.has_same_squares.ensures.1 h.0)
