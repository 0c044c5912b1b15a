-- The written form of a board, rank by rank.
use Rattle.std.proofs.Common.{◌≡◌, ℕ, zero, suc, ◌*◌, List, [], ◌∷◌, ◌++◌, take, drop, Option, refl, sym, subst, ap, ◌∙◌, append_assoc, append-nil}
use Rattle.explorer_model.specs.declared.chess.Piece.{Piece}
use Rattle.explorer_model.specs.Fen.{run_text, rank_text, ranks_text}

-- what is written of the ranks below this one
abbrev pub below_text : List (Option Piece) → ℕ → List ℕ
below_text squares zero = []
below_text squares (suc rank) = 47 ∷ ranks_text squares rank

pub ranks_from : (squares : List (Option Piece)) (rank : ℕ) → ranks_text squares rank ≡ rank_text squares rank ++ below_text squares rank
ranks_from squares zero = sym (append-nil (rank_text squares 0))
ranks_from squares (suc rank) = refl

-- one rank more
pub rank_more : (squares : List (Option Piece)) (rank above n : ℕ) (items pushed new whole : List ℕ) → above ≡ suc rank → n ≡ 8
    → pushed ≡ items ++ 47 ∷ [] → new ≡ pushed ++ run_text 0 (take n (drop (8 * rank) squares))
    → items ++ below_text squares above ≡ whole → new ++ below_text squares rank ≡ whole
rank_more squares rank above n items pushed new whole next eight slash e so_far =
    let here : new ≡ (items ++ 47 ∷ []) ++ rank_text squares rank =
    e ∙ ap (λ (size : ℕ). pushed ++ run_text 0 (take size (drop (8 * rank) squares))) eight ∙ ap (λ (text : List ℕ). text ++ rank_text squares rank) slash in
    let before : items ++ 47 ∷ ranks_text squares rank ≡ whole = subst (λ (m : ℕ). items ++ below_text squares m ≡ whole) next so_far in
    ap (λ (text : List ℕ). text ++ below_text squares rank) here
    ∙ append_assoc (items ++ 47 ∷ []) (rank_text squares rank) (below_text squares rank)
    ∙ append_assoc items (47 ∷ []) (rank_text squares rank ++ below_text squares rank)
    ∙ ap (λ (text : List ℕ). items ++ 47 ∷ text) (sym (ranks_from squares rank))
    ∙ before
