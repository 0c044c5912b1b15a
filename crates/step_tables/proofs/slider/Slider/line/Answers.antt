use Rattle.std.proofs.Common.{ℕ, ◌*◌, ◌<◌, ◌≤◌, Fits, w64, arith}
use Rattle.std.proofs.lemmas.Nat.{mul-le}
use Rattle.step_tables.proofs.Test.{Holds-has_lines}
use Rattle.step_tables.proofs.slider.Slider.line.Goals as goal

small : (square count : ℕ) → square < 64 → count ≤ 8 → Fits w64 (square * (count * 8))
small square count on_board few =
    let most = mul-le square (count * 8) 64 64 (omega arith) (omega arith) in omega (arith, most)

pub offset_bounds-self-square : goal.offset_bounds-self-square
offset_bounds-self-square g c = small c.args.square g.row.N c.requires.on_board c.args.self.now.few

pub offset_bounds-self-direction : goal.offset_bounds-self-direction
offset_bounds-self-direction g c = omega (arith, c.requires.known, c.args.self.now.few)

pub returns : goal.returns
returns g c = λ b h.
    Holds-has_lines _ _ _ c.args.self.now.right_lines c.args.square c.args.direction b c.requires.on_board c.requires.known h
