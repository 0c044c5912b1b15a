use Rattle.std.proofs.Common.{◌≡◌, arith, refl, subst, length}
use Rattle.explorer_model.specs.San.{MovesLike}
use Rattle.san_codec.proofs.Rivals.{NoneOf, none_of-more, none_of-end, legal_at, not_false}
use Rattle.san_codec.proofs.writer.has_rival.Goals as goal

pub returns-then-moves_like : goal.returns-then-moves_like
returns-then-moves_like c =
    let legal = legal_at c.args.position.now c.args.legal.now c.loop-other.other-index c.other-item.result c.loop-other-test.true c.other-item.is c.requires in
    (λ found. (c.other-item.result, (legal, c.if-moves_like.ensures.0 refl)), λ some. refl)

pub loop-other-preserved : goal.loop-other-preserved
loop-other-preserved c =
    none_of-more (MovesLike c.args.position.now c.args.m) c.args.legal.now c.loop-other.other-index c.other-item.result c.loop-other-test.true c.other-item.is
    (λ goes. not_false (c.if-moves_like.ensures.1 goes)) c.loop-other.invariant

pub returns : goal.returns
returns c =
    let P = MovesLike c.args.position.now c.args.m in
    let last : c.loop-other.other-index ≡ length c.args.legal.now = omega (arith, c.loop-other-test.false, c.loop-other.auto.other-index-end) in
    let none : NoneOf P c.args.legal.now (length c.args.legal.now) = subst (λ n. NoneOf P c.args.legal.now n) last c.loop-other.invariant in
    (λ found. absurd (not_false found), λ (o, (legal, goes)). absurd (none_of-end P c.args.position.now c.args.legal.now none c.requires o legal goes))
