-- Who is to move in a position, from its key.
use Rattle.std.proofs.Common.{◌≡◌, ◌%◌, ◌==◌, if◌then◌else◌, length, ap, ◌∙◌, arith}
use Rattle.explorer_model.specs.declared.chess.Color.{Color}
use Rattle.explorer_model.specs.declared.chess.Color.TheVariants.{White, Black}
use Rattle.explorer_model.specs.declared.chess.Position.{Position}
use Rattle.explorer_model.specs.declared.chess.Rights.{Rights}
use Rattle.explorer_model.specs.Keys.{state_code, en_passant_code, key}
use Rattle.packed_keys.proofs.Packed.{bytes_of-state}
use Rattle.tally_rows.specs.Cover.{turn_of}

by_state : (turn : Color) (rights : Rights) → (if (state_code turn rights % 2) == 1 then Black else White) ≡ turn
by_state White rights =
    let even : (state_code White rights % 2) ≡ 0 = omega arith in
    ap (λ n. if n == 1 then Black else White) even
by_state Black rights =
    let odd : (state_code Black rights % 2) ≡ 1 = omega arith in
    ap (λ n. if n == 1 then Black else White) odd

pub turn_of-key : (p : Position) → length p.squares ≡ 64 → turn_of (key p) ≡ p.turn
turn_of-key p board =
    ap (λ n. if (n % 2) == 1 then Black else White) (bytes_of-state p.squares (state_code p.turn p.rights) (en_passant_code p.en_passant) board)
    ∙ by_state p.turn p.rights
