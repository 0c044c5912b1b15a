use Rattle.std.proofs.Common.{ℕ, ◌+◌, ◌<◌, ◌≤◌, ◌≡◌, Option, Some, None, refl, sym, subst, ◌∙◌, ⊎_elim, true≢false, arith}
use Rattle.std.proofs.lemmas.Bool.{cases_lt}
use Rattle.explorer_model.specs.Board.{piece_at, IsEmpty, IsBetween}
use Rattle.explorer_model.specs.declared.chess.Piece.{Piece}
use Rattle.chess_reference.proofs.board.is_open.Goals as goal

below-more : (P : ℕ → Type 0) (n : ℕ) → ((k : ℕ) → k < n → P k) → P n → (k : ℕ) → k < n + 1 → P k
below-more P n before here k low =
    ⊎_elim (λ (h : k < n). before k h) (λ (h : n ≤ k). let same : n ≡ k = omega (arith, h, low) in subst P same here) (cases_lt k n)

empty_unless : (o : Option Piece) → ¬ ¬ IsEmpty o → IsEmpty o
empty_unless None h = refl
empty_unless (Some piece) h = absurd (h (λ e. cc))

pub loop-s-preserved : goal.loop-s-preserved
loop-s-preserved c =
    let P : ℕ → Type 0 = λ k. IsBetween c.args.a k c.args.b → IsEmpty (piece_at c.args.squares.now k) in
    below-more P c.loop-s.s c.loop-s.invariant (λ between. empty_unless _ (λ stands.
    true≢false (sym (c.cuts_off.ensures.1 (between, stands)) ∙ c.if-cuts_off.false)))
