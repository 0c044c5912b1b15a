use Rattle.std.proofs.Common.{◌≡◌, ℕ, List, true, false, ◌==◌, ◌+◌, ◌*◌, length, refl, sym, ◌∙◌, subst, arith}
use Rattle.std.proofs.lemmas.Bool.Decides.{nat_tests}
use Rattle.std.proofs.lemmas.List.{nil_from_length}
use Rattle.explorer_model.specs.declared.chess.Move.{Move}
use Rattle.legal_moves.specs.Listing.{ListsBelow}
use Rattle.legal_moves.proofs.Lists.{IsSwept, swept-none, swept-to, swept-next, swept-all, some_listed, none_listed}
use Rattle.legal_moves.proofs.generate.has_move.Goals as goal

not_empty : (n : ℕ) → (n == 0) ≡ false → n ≡ 0 → ⊥
not_empty n e h = grind (arith, nat_tests)

none_there : (n : ℕ) → (n == 0) ≡ true → n ≡ 0
none_there n e = grind (arith, nat_tests)

pub loop-rest-init : goal.loop-rest-init
loop-rest-init c =
    let P : List Move → Type 0 = λ moves. IsSwept c.args.position.now c.of-masks.result.info.own moves × (length moves ≡ 0) in
    subst P (sym c.new-moves.ensures) (swept-none c.args.position.now c.of-masks.result.info.own c.of-masks.ensures.informed.own, refl)

pub list_from-requires-clause-own : goal.list_from-requires-clause-own
list_from-requires-clause-own c = c.loop-rest.invariant.0.own c.lowest-index.result c.lowest-index.ensures.on_board c.lowest-index.ensures.within

pub list_from-requires-clause-before : goal.list_from-requires-clause-before
list_from-requires-clause-before c =
    swept-to c.args.position.now c.loop-rest.rest c.lowest-index.result c.loop-rest.moves.items c.loop-rest.invariant.0
    (c.loop-rest.invariant.0.above c.lowest-index.result c.lowest-index.ensures.on_board c.lowest-index.ensures.within)
    (omega (arith, c.lowest-index.ensures.on_board)) c.lowest-index.ensures.first

pub loop-rest-preserved : goal.loop-rest-preserved
loop-rest-preserved c = (
  swept-next c.args.position.now c.loop-rest.rest c.without-rest.result c.lowest-index.result c.loop-rest.moves.items c.list_from.new.moves.items
      c.loop-rest.invariant.0 c.lowest-index.ensures.on_board c.lowest-index.ensures.first c.lowest-index.ensures.within
      c.without-rest.ensures.others c.list_from.ensures,
  none_there (length c.list_from.new.moves.items) (sym c.is_empty.ensures ∙ c.if-not-is_empty.false),
)

pub returns-then-not-is_empty : goal.returns-then-not-is_empty
returns-then-not-is_empty c = (
  λ _. some_listed c.args.position.now (512 * c.lowest-index.result + 512) c.list_from.new.moves.items c.list_from.ensures
      (not_empty (length c.list_from.new.moves.items) (sym c.is_empty.ensures ∙ c.if-not-is_empty.true)),
  λ _. refl,
)

pub returns : goal.returns
returns c = (
  λ (no_way : false ≡ true). cc,
  λ some.
      let P : List Move → Type 0 = λ moves. ListsBelow c.args.position.now 32768 moves in
      absurd (none_listed c.args.position.now 32768 (omega arith)
      (subst P (nil_from_length c.loop-rest.moves.items c.loop-rest.invariant.1)
      (swept-all c.args.position.now c.loop-rest.rest c.loop-rest.moves.items c.loop-rest.invariant.0 c.loop-rest-test.false)) some),
)
