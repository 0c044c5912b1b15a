use Rattle.legal_moves.proofs.EvasionLemmas.{attackers_say}
use Rattle.legal_moves.proofs.pins.attackers.Goals as goal

pub returns : goal.returns
returns c = λ a on.
    attackers_say c.args.enemy_sets.now c.args.enemy c.args.square a c.pawn_origins.result c.knight_targets.result c.king_targets.result c.rook_targets.result
    c.bishop_targets.result c.open_targets-sliders.result on (c.pawn_origins.ensures a on) (c.knight_targets.ensures a on) (c.king_targets.ensures a on)
    (c.rook_targets.ensures a on) (c.bishop_targets.ensures a on) (c.open_targets-sliders.ensures a on)
