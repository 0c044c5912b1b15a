use Rattle.std.specs.Prelude.{◌≡◌, ℕ, ◌<◌, ◌≤◌, refl}
use Rattle.std.proofs.Common.{arith}
use Rattle.pgn_cut.proofs.Fronts.{cuts-onward, starts}
use Rattle.pgn_cut.proofs.front.Front.feed.Goals as goal

pub returns-then-scan-eq8 : goal.returns-then-scan-eq8
returns-then-scan-eq8 c =
    starts c.args.self c.find_start-scan.result.matched c.args.piece.now c.find_start-scan.result.taken c.first_with-first.result
    c.if-scan-eq8.true c.find_start-scan.ensures.taken c.find_start-scan.ensures.goes_on c.first_with-first.ensures

below_limit : (n : ℕ) → n ≤ 8 → (n ≡ 8 → ⊥) → n < 8
below_limit n most other = omega (arith, other)

pub returns : goal.returns
returns c = (
  refl,
  cuts-onward c.args.self.came c.args.self.first c.args.self.matched c.find_start-scan.result.matched c.args.piece.now c.find_start-scan.result.taken c.first_with-first.result
      c.args.self.short c.args.self.begun c.find_start-scan.ensures.matched
      (c.find_start-scan.ensures.whole (below_limit c.find_start-scan.result.matched c.find_start-scan.ensures.matched c.if-scan-eq8.false))
      c.find_start-scan.ensures.goes_on c.first_with-first.ensures,
)
