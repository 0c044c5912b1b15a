use Rattle.std.proofs.Common.{ℕ, bit_and, sym, refl, subst, inl, inr}
use Rattle.step_tables.specs.Bitboard.{Holds}
use Rattle.step_tables.proofs.BitboardLemmas.{Holds-zero, Holds-and}
use Rattle.explorer_model.specs.declared.square.Square.{Square}
use Rattle.legal_moves.specs.Sources.{move_from, IsSource, AreSifted}
use Rattle.legal_moves.proofs.Lists.{some-true, none-false}
use Rattle.legal_moves.proofs.SourceLemmas.{source_at, piece_both, of_pseudo_legal, sifted-none, sifted-skip, sifted-take}
use Rattle.legal_moves.proofs.sources.sources.Goals as goal
use Rattle.legal_moves.proofs.sources.sources.Goals.{then-is_source, else-is_source}

pub loop-rest-init : goal.loop-rest-init
loop-rest-init c = sifted-none _ (IsSource c.args.position.now c.args.role c.args.to c.args.promotion)

pub is_source-requires-clause-piece : goal.is_source-requires-clause-piece
is_source-requires-clause-piece c =
    let bit = c.loop-rest.invariant.within c.lowest-index.result c.lowest-index.ensures.on_board c.lowest-index.ensures.within in
    (piece_both c.args.position.now c.args.role c.of_color.result c.of_role.result c.lowest-index.result (c.of_color.ensures _ c.requires.told)
    (c.of_role.ensures _ c.requires.told) c.lowest-index.ensures.on_board).0
    ((Holds-and _ _ _).0 ((Holds-and _ _ _).0 bit).0).0

pub loop-rest-preserved : goal.loop-rest-preserved
loop-rest-preserved c =
    let all : ℕ = bit_and (bit_and (bit_and c.of_color.result c.of_role.result) c.reach_back.result) c.args.among in
    let at : Square = record { index = c.lowest-index.result; on_board = c.lowest-index.ensures.on_board } in
    elim c.if-is_source.branch [
      | then-is_source w ↦ (
          let P : ℕ → Type 0 = λ found. AreSifted all c.without-rest.result found (IsSource c.args.position.now c.args.role c.args.to c.args.promotion) in
          subst P (sym w.found-is)
          (sifted-take all c.loop-rest.rest c.without-rest.result c.loop-rest.found w.only-found.result
          (IsSource c.args.position.now c.args.role c.args.to c.args.promotion) at c.loop-rest.invariant c.lowest-index.ensures.within
          ((source_at c.args.position.now c.args.role c.args.to c.args.promotion _ at refl).0 (some-true c.is_source.result _ c.is_source.ensures w.if-is_source.true)) w.only-found.ensures c.without-rest.ensures.others)
          )
      | else-is_source w ↦ (
          let P : ℕ → Type 0 = λ found. AreSifted all c.without-rest.result found (IsSource c.args.position.now c.args.role c.args.to c.args.promotion) in
          subst P (sym w.found-is)
          (sifted-skip all c.loop-rest.rest c.without-rest.result c.loop-rest.found (IsSource c.args.position.now c.args.role c.args.to c.args.promotion) at
          c.loop-rest.invariant (λ h. none-false c.is_source.result _ c.is_source.ensures w.if-is_source.false ((source_at c.args.position.now c.args.role c.args.to c.args.promotion _ at refl).1 h)) c.without-rest.ensures.others)
          )
    ]

pub returns : goal.returns
returns c = λ from. (
  λ bit. (let h = c.loop-rest.invariant.sound from bit in (((Holds-and _ _ _).0 h.0).1, h.1)),
  λ h.
      let piece = (piece_both c.args.position.now c.args.role c.of_color.result c.of_role.result from.index (c.of_color.ensures _ c.requires.told)
      (c.of_role.ensures _ c.requires.told) from.on_board).1 h.1.0 in
      let back = c.reach_back.ensures c.args.position.now (move_from from c.args.to c.args.promotion) refl refl
      (of_pseudo_legal c.args.position.now (move_from from c.args.to c.args.promotion) c.args.role h.1.0 h.1.2.0 h.1.1).0 in
      elim (c.loop-rest.invariant.complete from ((Holds-and _ _ _).1 ((Holds-and _ _ _).1 (piece, back), h.0)) h.1) [
        | inl left ↦ absurd (Holds-zero from.index (let P : ℕ → Type 0 = λ x. Holds x from.index in subst P c.loop-rest-test.false left))
        | inr done ↦ done
      ],
)
