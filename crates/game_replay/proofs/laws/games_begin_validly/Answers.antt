use Rattle.std.proofs.Common.{subst, ◌∙◌}
use Rattle.explorer_model.specs.declared.chess.Position.{Position}
use Rattle.explorer_model.specs.Chess.{IsValid}
use Rattle.game_replay.proofs.Roots.{begins-validly}
use Rattle.game_replay.proofs.laws.games_begin_validly.Goals as goal

pub returns : goal.returns
returns c =
    let V : Position → Type 0 = λ p. IsValid p in
    begins-validly c.what_is_read_is_valid.ensures (subst V (c.position-start.ensures.same ∙ c.start.ensures) c.position-start.ensures.valid)
