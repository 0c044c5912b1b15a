use Rattle.std.proofs.Common.{refl}
use Rattle.legal_moves.proofs.Lists.{some-true, none-false}
use Rattle.legal_moves.proofs.CheckMaskLemmas.{castles_king}
use Rattle.legal_moves.proofs.check_info.CheckInfo.is_legal.Goals as goal

pub returns-then-m-self : goal.returns-then-m-self
returns-then-m-self c = (
  λ _. (
    c.requires.pseudo_legal,
    some-true c.is_safe.result _ c.is_safe.ensures c.if-not-is_safe.false,
    λ castles. absurd (c.if-m-self.true (castles_king c.args.position.now c.args.self.now c.args.m c.requires.informed castles)),
  ),
  λ _. refl,
)

pub returns-then-not-castles : goal.returns-then-not-castles
returns-then-not-castles c = (
  λ _. (
    c.requires.pseudo_legal,
    some-true c.is_safe.result _ c.is_safe.ensures c.if-not-is_safe.false,
    λ castles. absurd (none-false c.castles.result _ c.castles.ensures c.if-not-castles.true castles),
  ),
  λ _. refl,
)

pub returns : goal.returns
returns c = (
  λ calm. (
    c.requires.pseudo_legal,
    some-true c.is_safe.result _ c.is_safe.ensures c.if-not-is_safe.false,
    λ _. c.is_castling_path_safe.ensures.0 calm,
  ),
  λ legal. c.is_castling_path_safe.ensures.1 (legal.2 (some-true c.castles.result _ c.castles.ensures c.if-not-castles.false)),
)
