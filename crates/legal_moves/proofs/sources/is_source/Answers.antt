use Rattle.std.proofs.Common.{◌≡◌, true, false}
use Rattle.explorer_model.specs.Chess.{is_castling}
use Rattle.legal_moves.proofs.Lists.{some-true, none-false}
use Rattle.legal_moves.proofs.SourceLemmas.{pseudo_legal_of, of_pseudo_legal}
use Rattle.legal_moves.proofs.sources.is_source.Goals as goal

pub returns-then-contains : goal.returns-then-contains
returns-then-contains c = (
  λ (no_way : false ≡ true). cc,
  λ source. absurd (source.2.0.1 ((c.requires.informed.own c.args.m.to.index c.args.m.to.on_board).0
      (some-true c.contains.result _ c.contains.ensures c.if-contains.true))),
)

pub returns-then-not-lands : goal.returns-then-not-lands
returns-then-not-lands c = (
  λ (no_way : false ≡ true). cc,
  λ source. absurd (none-false c.lands.result _ c.lands.ensures c.if-not-lands.true
      (of_pseudo_legal c.args.position.now c.args.m c.args.role source.0 source.2.0 source.1).0),
)

pub returns-then-not-becomes_as : goal.returns-then-not-becomes_as
returns-then-not-becomes_as c = (
  λ (no_way : false ≡ true). cc,
  λ source. absurd (none-false c.becomes_as.result _ c.becomes_as.ensures c.if-not-becomes_as.true
      (of_pseudo_legal c.args.position.now c.args.m c.args.role source.0 source.2.0 source.1).1),
)

pub is_legal-requires-clause-pseudo_legal : goal.is_legal-requires-clause-pseudo_legal
is_legal-requires-clause-pseudo_legal c =
    (pseudo_legal_of c.args.position.now c.args.m c.args.role c.requires.piece
    (λ own. none-false c.contains.result _ c.contains.ensures c.if-contains.false ((c.requires.informed.own c.args.m.to.index c.args.m.to.on_board).1 own))
    (some-true c.lands.result _ c.lands.ensures c.if-not-lands.false)
    (some-true c.becomes_as.result _ c.becomes_as.ensures c.if-not-becomes_as.false)).0

pub returns : goal.returns
returns c =
    let plain : is_castling c.args.position.now c.args.m ≡ false =
    (pseudo_legal_of c.args.position.now c.args.m c.args.role c.requires.piece
    (λ own. none-false c.contains.result _ c.contains.ensures c.if-contains.false ((c.requires.informed.own c.args.m.to.index c.args.m.to.on_board).1 own))
    (some-true c.lands.result _ c.lands.ensures c.if-not-lands.false)
    (some-true c.becomes_as.result _ c.becomes_as.ensures c.if-not-becomes_as.false)).1 in
    (λ e. (c.requires.piece, plain, c.is_legal.ensures.0 e), λ source. c.is_legal.ensures.1 source.2)
