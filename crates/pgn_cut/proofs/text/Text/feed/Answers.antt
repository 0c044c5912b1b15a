use Rattle.std.specs.Prelude.{ℕ, ◌+◌, ◌-◌, [], take}
use Rattle.std.proofs.Common.{◌∙◌, ap, Vec, Global}
use Rattle.pgn_cut.specs.Text.{TextState, cut_with}
use Rattle.pgn_cut.proofs.Texts.{goes_on-whole, cuts-whole, cuts-taken, some_taken}
use Rattle.pgn_cut.proofs.text.Text.feed.Goals as goal

-- src/text.rt:77:13
pub invariant_of-self-then-scan-lt8 : goal.invariant_of-self-then-scan-lt8
invariant_of-self-then-scan-lt8 c =
    let t : TextState = record { place = c.self.inside.place; count = c.self.inside.count; matched = c.self.inside.matched; kept = c.self.inside.kept.items } in
    let scan = c.find_start-scan.ensures in
    goes_on-whole t c.args.piece.now c.find_start-scan.result.taken c.find_start-scan.result.matched c.keep.new.kept.items
    c.self.invariant c.if-scan-lt8.true (scan.whole c.if-scan-lt8.true) scan.goes_on (c.in_ok-keep.ensures)

pub returns-then-scan-lt8-clause-cuts : goal.returns-then-scan-lt8-clause-cuts
returns-then-scan-lt8-clause-cuts c =
    let t : TextState = record { place = c.self.inside.place; count = c.self.inside.count; matched = c.self.inside.matched; kept = c.self.inside.kept.items } in
    let scan = c.find_start-scan.ensures in
    cuts-whole t c.args.self.now c.args.piece.now c.find_start-scan.result.taken c.find_start-scan.result.matched c.keep.new.kept.items
    c.self.invariant c.self.view_is c.if-scan-lt8.true (scan.whole c.if-scan-lt8.true) scan.goes_on (c.in_ok-keep.ensures)

pub returns-clause-cuts : goal.returns-clause-cuts
returns-clause-cuts c =
    let t : TextState = record { place = c.self.inside.place; count = c.self.inside.count; matched = c.self.inside.matched; kept = c.self.inside.kept.items } in
    let scan = c.find_start-scan.ensures in
    let k = t.count + c.find_start-scan.result.taken - 7 in
    cuts-taken t c.args.self.now c.args.piece.now c.find_start-scan.result.taken c.find_start-scan.result.matched c.keep-2.new.kept.items c.replace.new.dest.items _
    c.self.invariant c.self.view_is c.if-scan-lt8.false scan.matched scan.taken scan.goes_on (c.in_ok-keep-2.ensures)
    (ap (λ (v : Vec ℕ Global). v.items) c.replace.ensures.after ∙ c.in_ok-next.ensures.items)
    (c.cut_of-cut.ensures ∙ ap (λ (v : Vec ℕ Global). cut_with t.place k (take k v.items) []) c.replace.ensures.value)

pub returns-clause-some : goal.returns-clause-some
returns-clause-some c = λ _. some_taken c.self.inside.matched c.find_start-scan.result.matched c.args.piece.now c.find_start-scan.result.taken
    c.self.invariant.short c.if-scan-lt8.false c.find_start-scan.ensures.matched c.find_start-scan.ensures.goes_on
