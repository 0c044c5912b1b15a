-- A search through the legal moves for one that has a property.
use Rattle.std.proofs.Common.{◌≡◌, ◌↔◌, ℕ, ◌+◌, ◌<◌, List, length, slice_index_or, Contains, IsTrue, false, sym, subst, ◌∙◌}
use Rattle.std.proofs.lemmas.List.{get_or_default}
use borrow.Author.Count.{below_more}
use Rattle.explorer_model.specs.declared.chess.Position.{Position}
use Rattle.explorer_model.specs.declared.chess.Move.{Move}
use Rattle.explorer_model.specs.Chess.{Legal}

pub not_false : ¬ IsTrue false
not_false off = cc

-- none of the first n has it
abbrev pub NoneOf : (Move → Type 0) → List Move → ℕ → Type 0
NoneOf P moves n = (k : ℕ) → k < n → (d : Move) → ¬ P (slice_index_or moves k d)

pub none_of-more : (P : Move → Type 0) (moves : List Move) (n : ℕ) (x : Move) → n < length moves → x ≡ slice_index_or moves n x
    → ¬ P x → NoneOf P moves n → NoneOf P moves (n + 1)
none_of-more P moves n x h e off none =
    below_more (λ k. (d : Move) → ¬ P (slice_index_or moves k d)) n none (λ d here. off (subst P (get_or_default moves n d x h ∙ sym e) here))

pub none_of-end : (P : Move → Type 0) (p : Position) (moves : List Move) → NoneOf P moves (length moves)
    → ((o : Move) → Contains moves o ↔ Legal p o) → (o : Move) → Legal p o → ¬ P o
none_of-end P p moves none each o legal here =
    let (k, within, same) = (each o).1 legal in none k within o (subst P (sym same) here)

pub legal_at : (p : Position) (moves : List Move) (n : ℕ) (x : Move) → n < length moves → x ≡ slice_index_or moves n x
    → ((o : Move) → Contains moves o ↔ Legal p o) → Legal p x
legal_at p moves n x h e each = (each x).0 (n, h, sym e)
