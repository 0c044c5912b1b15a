use Rattle.std.proofs.Common.{sym, ap, subst, refl, Some}
use Rattle.explorer_model.specs.declared.chess.Move.{Move}
use Rattle.explorer_model.specs.Chess.{Legal}
use Rattle.legal_moves.proofs.Lists.{some-true, none-false}
use Rattle.legal_moves.proofs.SourceLemmas.{castle_is, castle_at, castle_pseudo_legal, castled}
use Rattle.legal_moves.proofs.sources.castling.Goals as goal

pub returns-then-not-castles_to-clause-only : goal.returns-then-not-castles_to-clause-only
returns-then-not-castles_to-clause-only c = λ m legal castles same.
    absurd (none-false c.castles_to.result _ c.castles_to.ensures c.if-not-castles_to.true
    (castle_at c.args.position.now m c.args.side c.king_home.result c.king_target.result c.requires.valid c.king_home.ensures c.king_target.ensures
    legal castles same))

pub is_legal-requires-clause-pseudo_legal : goal.is_legal-requires-clause-pseudo_legal
is_legal-requires-clause-pseudo_legal c =
    castle_pseudo_legal c.args.position.now _ c.args.side (record { from = c.king_home.ensures; to = c.king_target.ensures; none = refl })
    (some-true c.castles_to.result _ c.castles_to.ensures c.if-not-castles_to.false)

pub returns-then-not-is_legal-clause-only : goal.returns-then-not-is_legal-clause-only
returns-then-not-is_legal-clause-only c = λ m legal castles same.
    let P : Move → Type 0 = λ m. Legal c.args.position.now m in
    let is = castle_is c.args.position.now m _ c.args.side c.requires.valid (record { from = c.king_home.ensures; to = c.king_target.ensures; none = refl })
    legal castles same in
    absurd (none-false c.is_legal.result _ c.is_legal.ensures c.if-not-is_legal.true (subst P is.0 legal))

pub returns-clause-some : goal.returns-clause-some
returns-clause-some c =
    let legal = some-true c.is_legal.result _ c.is_legal.ensures c.if-not-is_legal.false in
    let castles = castled c.args.position.now _ c.args.side legal (some-true c.castles_to.result _ c.castles_to.ensures c.if-not-castles_to.false) in
    (legal, castles.0, castles.1)

pub returns-clause-only : goal.returns-clause-only
returns-clause-only c = λ m legal castles same.
    ap (λ n. Some n) (sym (castle_is c.args.position.now m _ c.args.side c.requires.valid (record { from = c.king_home.ensures; to = c.king_target.ensures; none = refl })
    legal castles same).0)
