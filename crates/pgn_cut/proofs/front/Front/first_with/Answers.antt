use Rattle.std.specs.Prelude.{ℕ, ◌+◌, ◌-◌, Some, take}
use Rattle.std.proofs.Common.{◌∙◌, ap, ap₂, arith}
use Rattle.pgn_cut.specs.Solid.{solid}
use Rattle.pgn_cut.proofs.Fronts.{none-settled, open-settled, piece-settled}
use Rattle.pgn_cut.proofs.front.Front.first_with.Goals as goal

pub returns-then-settled-eq0 : goal.returns-then-settled-eq0
returns-then-settled-eq0 c = λ g.
    none-settled c.args.self.came c.args.self.first c.args.self.matched c.args.scan.matched c.args.piece.now c.args.scan.taken
    c.args.self.short c.requires.short c.requires.taken g c.in_default.is (omega arith)

pub returns-then-open-gt0 : goal.returns-then-open-gt0
returns-then-open-gt0 c = λ g.
    ap (λ (x : ℕ). Some (c.args.self.came - x)) c.saturating_sub-open.ensures
    ∙ open-settled c.args.self.came c.args.self.first c.args.self.matched c.args.scan.matched c.args.piece.now c.args.scan.taken
    c.args.self.short c.requires.short c.requires.taken g c.in_default.is (λ none. c.if-settled-eq0.false (omega (arith, none))) (omega arith)

pub returns : goal.returns
returns c = λ g.
    piece-settled c.args.self.came c.args.self.first c.args.self.matched c.args.scan.matched c.args.piece.now c.args.scan.taken c.first_solid.result
    c.args.self.short c.requires.short c.requires.taken g c.in_default.is (omega arith)
    (c.first_solid.ensures ∙ ap₂ (λ (x y : ℕ). solid c.args.self.came (take (x + c.args.scan.taken - y) c.args.piece.now)) c.saturating_sub-open.ensures c.saturating_sub.ensures)
