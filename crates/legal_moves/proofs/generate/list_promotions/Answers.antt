use Rattle.std.proofs.Common.{◌≡◌, ℕ, ◌+◌, ◌*◌, ◌≤◌, refl, sym, subst, arith}
use Rattle.legal_moves.specs.Listing.{place_of, ListsBelow}
use Rattle.legal_moves.proofs.Places.{step_with, place_of-step_with, promotions_promote}
use Rattle.legal_moves.proofs.DestinationLemmas.{promoting_pseudo_legal}
use Rattle.legal_moves.proofs.generate.list_promotions.Goals as goal

next : (a b n k : ℕ) → n ≡ 512 * a + 8 * b + 1 + k → n + 1 ≡ 512 * a + 8 * b + 1 + (k + 1)
next a b n k e = omega arith

start : (a b : ℕ) → 512 * a + 8 * b + 1 ≡ 512 * a + 8 * b + 1 + 0
start a b = omega arith

pub loop-promotion-init : goal.loop-promotion-init
loop-promotion-init c =
    let P : ℕ → Type 0 = λ n. ListsBelow c.args.position.now n c.args.moves.now.items in
    subst P (start c.args.from.index c.args.to.index) c.requires.before

pub list_move-requires-clause-pseudo_legal : goal.list_move-requires-clause-pseudo_legal
list_move-requires-clause-pseudo_legal c =
    promoting_pseudo_legal c.args.position.now (step_with c.args.from c.args.to c.loop-promotion.promotion-index)
    (c.requires.destination (step_with c.args.from c.args.to c.loop-promotion.promotion-index) refl refl) c.requires.promoting
    (promotions_promote c.loop-promotion.promotion-index c.loop-promotion-test.true)

pub list_move-requires-clause-before : goal.list_move-requires-clause-before
list_move-requires-clause-before c =
    let P : ℕ → Type 0 = λ n. ListsBelow c.args.position.now n c.loop-promotion.moves.items in
    subst P (sym (place_of-step_with c.args.from c.args.to c.loop-promotion.promotion-index c.loop-promotion-test.true)) c.loop-promotion.invariant

pub loop-promotion-preserved : goal.loop-promotion-preserved
loop-promotion-preserved c =
    let P : ℕ → Type 0 = λ n. ListsBelow c.args.position.now n c.list_move.new.moves.items in
    subst P
    (next c.args.from.index c.args.to.index (place_of (step_with c.args.from c.args.to c.loop-promotion.promotion-index)) c.loop-promotion.promotion-index
    (place_of-step_with c.args.from c.args.to c.loop-promotion.promotion-index c.loop-promotion-test.true))
    c.list_move.ensures

four : {k : ℕ} → 4 ≤ k → k ≤ 4 → k ≡ 4
four low high = omega arith

last : (a b k : ℕ) → k ≡ 4 → 512 * a + 8 * b + 1 + k ≡ 512 * a + 8 * b + 5
last a b k e = omega arith

pub returns : goal.returns
returns c =
    let P : ℕ → Type 0 = λ n. ListsBelow c.args.position.now n c.loop-promotion.moves.items in
    subst P (last c.args.from.index c.args.to.index c.loop-promotion.promotion-index (four c.loop-promotion-test.false c.loop-promotion.auto.promotion-index-end)) c.loop-promotion.invariant
