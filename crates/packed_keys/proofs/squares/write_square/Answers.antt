use Rattle.std.proofs.Common.{◌≡◌, ℕ, ◌+◌, ◌*◌, ◌/◌, ◌%◌, List, set, get_or, refl, sym, ap, ◌∙◌, subst}
use Rattle.explorer_model.specs.Keys.{packed}
use Rattle.packed_keys.proofs.Packed.{low_written, high_written}
use Rattle.packed_keys.proofs.squares.write_square.Goals as goal

pub returns-then-square-eq0 : goal.returns-then-square-eq0
returns-then-square-eq0 c = λ squares board is.
    let at : ℕ = c.args.square / 2 in
    let Written : List ℕ → Type 0 = λ bytes.
    set bytes at (get_or bytes at 0 / 16 * 16 + c.piece_code-code.result) ≡ packed (set squares c.args.square c.args.occupant) in
    subst Written (sym is)
    (ap (λ code. set (packed squares) at (get_or (packed squares) at 0 / 16 * 16 + code)) c.piece_code-code.ensures.code
    ∙ low_written squares c.args.square at c.args.occupant board c.requires refl c.if-square-eq0.true)

pub returns : goal.returns
returns c = λ squares board is.
    let at : ℕ = c.args.square / 2 in
    let Written : List ℕ → Type 0 = λ bytes.
    set bytes at (get_or bytes at 0 % 16 + 16 * c.piece_code-code.result) ≡ packed (set squares c.args.square c.args.occupant) in
    subst Written (sym is)
    (ap (λ code. set (packed squares) at (get_or (packed squares) at 0 % 16 + 16 * code)) c.piece_code-code.ensures.code
    ∙ high_written squares c.args.square at c.args.occupant board c.requires refl c.if-square-eq0.false)
