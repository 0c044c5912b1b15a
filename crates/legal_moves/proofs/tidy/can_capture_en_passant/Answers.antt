use Rattle.std.proofs.Common.{◌≡◌, ◌↔◌, ◌<◌, ℕ, true, false, refl, subst}
use Rattle.step_tables.specs.Bitboard.{Holds}
use Rattle.explorer_model.specs.declared.chess.Color.{Color}
use Rattle.explorer_model.specs.Board.{PawnDiagonal}
use Rattle.legal_moves.proofs.EnPassantCaptures.{capture_pseudo_legal, tried-none, tried-more, tried-all, tried-found}
use Rattle.legal_moves.proofs.Lists.{some-true, none-false}
use Rattle.legal_moves.proofs.tidy.can_capture_en_passant.Goals as goal

pub loop-rest-init : goal.loop-rest-init
loop-rest-init c =
    let P : Color → Type 0 = λ color. (s : ℕ) → s < 64 → Holds c.pawn_diagonals.result s ↔ PawnDiagonal color c.args.to.index s in
    tried-none c.args.position.now c.args.to c.args.info.now.own_pawns c.pawn_diagonals.result c.requires.informed.valid c.requires.crossed
    c.requires.informed.own_pawns (subst P c.opponent.ensures c.pawn_diagonals.ensures)

pub is_legal-requires-clause-pseudo_legal : goal.is_legal-requires-clause-pseudo_legal
is_legal-requires-clause-pseudo_legal c =
    let h = c.loop-rest.invariant.pawns c.lowest-index.result c.lowest-index.ensures.on_board c.lowest-index.ensures.within in
    capture_pseudo_legal c.args.position.now _ c.args.to c.requires.informed.valid c.requires.crossed h.0 h.1

pub returns-then-is_legal : goal.returns-then-is_legal
returns-then-is_legal c = (
  λ _. tried-found c.args.position.now _ c.args.to c.loop-rest.rest c.requires.crossed c.loop-rest.invariant c.lowest-index.ensures.within
      (some-true c.is_legal.result _ c.is_legal.ensures c.if-is_legal.true),
  λ _. refl,
)

pub loop-rest-preserved : goal.loop-rest-preserved
loop-rest-preserved c =
    tried-more c.args.position.now c.args.to _ c.loop-rest.rest c.without-rest.result c.loop-rest.invariant
    (none-false c.is_legal.result _ c.is_legal.ensures c.if-is_legal.false) c.without-rest.ensures.others

pub returns : goal.returns
returns c = (
  λ (no_way : false ≡ true). cc,
  λ can. absurd (tried-all c.args.position.now c.args.to c.loop-rest.rest c.requires.informed.valid c.requires.crossed c.loop-rest.invariant
      c.loop-rest-test.false can),
)
