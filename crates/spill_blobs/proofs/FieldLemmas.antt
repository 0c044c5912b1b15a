-- Fields at the front of bytes.
use Rattle.std.proofs.Common.{◌≡◌, ◌≢◌, ℕ, ◌≤◌, ◌<◌, List, [], ◌∷◌, ◌++◌, take, drop, Option, Some, None, sym, ap, ◌∙◌, arith, append_assoc}
use Rattle.std.proofs.lemmas.List.{take-append-drop}
use Rattle.explorer_model.specs.declared.chess.Move.{Move}
use Rattle.explorer_model.specs.declared.chess.Role.{Role}
use Rattle.spill_blobs.specs.RowBlocks.{move_bytes, promotion_code, CanBeWritten}
use Rattle.spill_blobs.proofs.RowLemmas.{third}

-- the first bytes, as they were written, and the others
pub joined : (n : ℕ) (bytes front rest written : List ℕ) → front ≡ take n bytes → rest ≡ drop n bytes → written ≡ front
    → bytes ≡ written ++ rest
joined n bytes front rest written front_is rest_is written_is =
    sym (take-append-drop n bytes) ∙ (λ i. (sym (written_is ∙ front_is) i) ++ (sym rest_is i))

pub joined_twice : (bytes one two middle rest : List ℕ) → bytes ≡ one ++ middle → middle ≡ two ++ rest → bytes ≡ (one ++ two) ++ rest
joined_twice bytes one two middle rest first second = first ∙ ap (λ l. one ++ l) second ∙ sym (append_assoc one two rest)

-- bytes other than those of no move, of which a square is off the board, are no move's
pub no_squares : (from to promotion : ℕ) → ((from ≡ 255) × (to ≡ 255) × (promotion ≡ 255) → ⊥) → ((from < 64) × (to < 64) → ⊥)
    → (next : Option Move) → CanBeWritten next → move_bytes next ≢ from ∷ to ∷ promotion ∷ []
no_squares from to promotion some off None fits e = (let p = third 255 255 255 from to promotion e in some (sym p.0, sym p.1, sym p.2))
no_squares from to promotion some off (Some m) fits e =
    let p = third _ _ _ from to promotion e in
    off (omega (arith, p.0, m.from.on_board), omega (arith, p.1, m.to.on_board))

-- and those whose promotion is none's
pub no_promotion : (from to promotion : ℕ) → ((from ≡ 255) × (to ≡ 255) × (promotion ≡ 255) → ⊥)
    → ((role : Option Role) → promotion_code role ≤ 4 → promotion_code role ≢ promotion)
    → (next : Option Move) → CanBeWritten next → move_bytes next ≢ from ∷ to ∷ promotion ∷ []
no_promotion from to promotion some off None fits e = (let p = third 255 255 255 from to promotion e in some (sym p.0, sym p.1, sym p.2))
no_promotion from to promotion some off (Some m) fits e =
    let p = third _ _ _ from to promotion e in
    off m.promotion fits p.2
