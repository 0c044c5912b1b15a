use Rattle.std.proofs.Common.{◌↔◌, ◌<◌, ℕ, sym, subst, inl, inr}
use Rattle.step_tables.specs.Bitboard.{Holds}
use Rattle.step_tables.proofs.BitboardLemmas.{Holds-zero, Holds-or}
use Rattle.explorer_model.specs.declared.chess.Color.{Color}
use Rattle.legal_moves.specs.Pins.{IsAttacker}
use Rattle.legal_moves.proofs.PinLemmas.{some_square, one_square}
use Rattle.legal_moves.proofs.EvasionLemmas.{all_squares, none_checks, two_check, one_checks}
use Rattle.legal_moves.proofs.pins.evasions.Goals as goal

pub returns-then-checkers-eq0 : goal.returns-then-checkers-eq0
returns-then-checkers-eq0 c = λ s on.
    let P : Color → Type 0 = λ color. (a : ℕ) → a < 64 → Holds c.attackers-checkers.result a ↔ IsAttacker c.args.info.now.enemy_sets color a c.args.info.now.king in (
      λ bit. none_checks c.args.position.now c.args.info.now c.requires c.attackers-checkers.result
          (subst P c.opponent.ensures c.attackers-checkers.ensures) s c.if-checkers-eq0.true,
      λ evades. all_squares s on,
    )

pub returns-then-more-ne0 : goal.returns-then-more-ne0
returns-then-more-ne0 c = λ s on.
    let P : Color → Type 0 = λ color. (a : ℕ) → a < 64 → Holds c.attackers-checkers.result a ↔ IsAttacker c.args.info.now.enemy_sets color a c.args.info.now.king in
    let bit = some_square c.without-more.result c.without-more.type_inv c.if-more-ne0.true in
    let more = (c.without-more.ensures.others bit.0 bit.1).0 bit.2 in (
      λ none. absurd (Holds-zero s none),
      λ evades. absurd (two_check c.args.position.now c.args.info.now c.requires c.attackers-checkers.result
          (subst P c.opponent.ensures c.attackers-checkers.ensures) c.lowest-first.result bit.0 s c.lowest-first.ensures.on_board bit.1 on
          c.lowest-first.ensures.within more.0 (λ e. more.1 (sym e)) evades),
    )

pub returns : goal.returns
returns c = λ s on.
    let P : Color → Type 0 = λ color. (a : ℕ) → a < 64 → Holds c.attackers-checkers.result a ↔ IsAttacker c.args.info.now.enemy_sets color a c.args.info.now.king in
    let one = one_checks c.args.position.now c.args.info.now c.requires c.attackers-checkers.result
    (subst P c.opponent.ensures c.attackers-checkers.ensures) c.lowest-first.result s c.lowest-first.ensures.on_board c.lowest-first.ensures.within
    (one_square c.attackers-checkers.result c.without-more.result c.lowest-first.result c.without-more.ensures.others c.if-more-ne0.false) in (
      λ bit. one.0 (elim ((Holds-or c.only.result c.between.result s).0 bit) [
        | inl x ↦ inl ((c.only.ensures s on).0 x)
        | inr y ↦ inr ((c.between.ensures s on).0 y)
      ]),
      λ evades. (Holds-or c.only.result c.between.result s).1 (elim (one.1 evades) [
        | inl e ↦ inl ((c.only.ensures s on).1 e)
        | inr between ↦ inr ((c.between.ensures s on).1 between)
      ]),
    )
