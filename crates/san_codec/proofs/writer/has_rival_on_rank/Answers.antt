use Rattle.std.proofs.Common.{◌≡◌, arith, refl, sym, ◌∙◌, subst, length}
use Rattle.explorer_model.specs.declared.chess.Move.{Move}
use Rattle.explorer_model.specs.Board.{rank_of}
use Rattle.explorer_model.specs.San.{MovesLike}
use Rattle.san_codec.proofs.Rivals.{NoneOf, none_of-end, legal_at, not_false}
use Rattle.san_codec.proofs.writer.has_rival_on_rank.Goals as goal

pub returns-then-rank : goal.returns-then-rank
returns-then-rank c =
    let legal = legal_at c.args.position.now c.args.legal.now c.loop-other.other-index c.other-item.result c.loop-other-test.true c.other-item.is c.requires in
    let same : rank_of c.other-item.result.from.index ≡ rank_of c.args.m.from.index = sym c.rank.ensures ∙ c.if-rank.true ∙ c.rank-then-moves_like.ensures in
    (λ found. (c.other-item.result, ((legal, c.if-moves_like.ensures.0 refl), same)), λ some. refl)

pub returns : goal.returns
returns c =
    let P = λ (o : Move). MovesLike c.args.position.now c.args.m o × (rank_of o.from.index ≡ rank_of c.args.m.from.index) in
    let last : c.loop-other.other-index ≡ length c.args.legal.now = omega (arith, c.loop-other-test.false, c.loop-other.auto.other-index-end) in
    let none : NoneOf P c.args.legal.now (length c.args.legal.now) = subst (λ n. NoneOf P c.args.legal.now n) last c.loop-other.invariant in
    (λ found. absurd (not_false found), λ (o, ((legal, goes), same)). absurd (none_of-end P c.args.position.now c.args.legal.now none c.requires o legal (goes, same)))
