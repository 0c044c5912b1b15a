use Rattle.std.proofs.Common.{◌≡◌, ℕ, ◌+◌, ◌*◌, refl, subst, arith}
use Rattle.legal_moves.specs.Listing.{ListsBelow}
use Rattle.legal_moves.proofs.Lists.{some-true, none-false, quiet-listed, promotions-next, promotions-listed}
use Rattle.legal_moves.proofs.DestinationLemmas.{quiet_pseudo_legal}
use Rattle.legal_moves.proofs.generate.list_between.Goals as goal

quiet_place : (a b : ℕ) → 512 * a + 8 * b + 0 + 1 ≡ 512 * a + 8 * b + 1
quiet_place a b = omega arith

quiet_first : (a b : ℕ) → 512 * a + 8 * b ≡ 512 * a + 8 * b + 0
quiet_first a b = omega arith

pub list_promotions-requires-clause-before : goal.list_promotions-requires-clause-before
list_promotions-requires-clause-before c =
    promotions-next c.args.position.now c.args.from.index c.args.to.index c.args.moves.now.items c.args.from.on_board c.args.to.on_board
    (some-true c.is_promoting.result _ c.is_promoting.ensures c.if-is_promoting.true) c.requires.before

pub returns-then-is_promoting : goal.returns-then-is_promoting
returns-then-is_promoting c =
    promotions-listed c.args.position.now c.args.from.index c.args.to.index c.list_promotions.new.moves.items c.args.to.on_board c.list_promotions.ensures

pub list_move-requires-clause-pseudo_legal : goal.list_move-requires-clause-pseudo_legal
list_move-requires-clause-pseudo_legal c =
    quiet_pseudo_legal c.args.position.now _ (c.requires.destination _ refl refl) refl
    (none-false c.is_promoting.result _ c.is_promoting.ensures c.if-is_promoting.false)

pub list_move-requires-clause-before : goal.list_move-requires-clause-before
list_move-requires-clause-before c =
    let P : ℕ → Type 0 = λ n. ListsBelow c.args.position.now n c.args.moves.now.items in
    subst P (quiet_first c.args.from.index c.args.to.index) c.requires.before

pub returns : goal.returns
returns c =
    let P : ℕ → Type 0 = λ n. ListsBelow c.args.position.now n c.list_move.new.moves.items in
    quiet-listed c.args.position.now c.args.from.index c.args.to.index c.list_move.new.moves.items c.args.to.on_board
    (none-false c.is_promoting.result _ c.is_promoting.ensures c.if-is_promoting.false)
    (subst P (quiet_place c.args.from.index c.args.to.index) c.list_move.ensures)
