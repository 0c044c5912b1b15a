use Rattle.std.proofs.Common.{arith, ◌≡◌, ◌==◌, ℕ, true, List, length, sym, ap, ◌∙◌}
use Rattle.std.proofs.lemmas.Bool.Decides.{nat_tests}
use Rattle.http_wire.proofs.Growing.{blanked-off, misses-blanks, misses-done, misses-blank-fault, blanked-fills}
use Rattle.http_wire.proofs.head.skip_line_ends.Goals as goal

nothing-left : (shown list : List ℕ) → shown ≡ list → true ≡ (length shown == 0) → length list ≡ 0
nothing-left shown list same empty =
    let none : length shown ≡ 0 = grind (arith, nat_tests) in ap length (sym same) ∙ none

pub returns-then-skipped-ge-HEAD_LIMIT-clause-missed : goal.returns-then-skipped-ge-HEAD_LIMIT-clause-missed
returns-then-skipped-ge-HEAD_LIMIT-clause-missed g c =
    let off = blanked-off c.blank.skipped c.line_ends-count.result c.args.ahead.now c.blank.ahead c.as_slice.result.now c.skip.new.self
    _ _ c.as_slice.ensures.items c.line_ends-count.ensures.count c.skip.ensures c.blank.invariant.blanked in
    misses-blanks _ _ _ _ _ off.0 off.1 c.if-skipped-ge-HEAD_LIMIT.true

pub returns-in-Ok-eq0-clause-missed : goal.returns-in-Ok-eq0-clause-missed
returns-in-Ok-eq0-clause-missed g c =
    let off = blanked-off c.blank.skipped c.line_ends-count.result c.args.ahead.now c.blank.ahead c.as_slice.result.now c.skip.new.self
    _ _ c.as_slice.ensures.items c.line_ends-count.ensures.count c.skip.ensures c.blank.invariant.blanked in
    let none : length c.skip.new.self ≡ 0 = nothing-left c.as_slice-in-blank.result.now c.skip.new.self c.as_slice-in-blank.ensures.items c.if-not-is_empty.ensures in
    misses-done _ _ c.skip.new.self _ _ _ _ none c.if-skipped-ge-HEAD_LIMIT.false off.0
    (rw c.in-Ok-eq0.field-0-test at c.in-Ok-eq0.ensures.fills)

pub blank-preserved : goal.blank-preserved
blank-preserved g c =
    let off = blanked-off c.blank.skipped c.line_ends-count.result c.args.ahead.now c.blank.ahead c.as_slice.result.now c.skip.new.self
    _ _ c.as_slice.ensures.items c.line_ends-count.ensures.count c.skip.ensures c.blank.invariant.blanked in
    let none : length c.skip.new.self ≡ 0 = nothing-left c.as_slice-in-blank.result.now c.skip.new.self c.as_slice-in-blank.ensures.items c.if-not-is_empty.ensures in
    record {
      blanked = blanked-fills _ _ _ c.skip.new.self _ _ _ _ none off.0 c.in-Ok.ensures.fills;
      few = c.if-skipped-ge-HEAD_LIMIT.false;
    }

pub returns-in-Err-clause-missed : goal.returns-in-Err-clause-missed
returns-in-Err-clause-missed g c =
    let off = blanked-off c.blank.skipped c.line_ends-count.result c.args.ahead.now c.blank.ahead c.as_slice.result.now c.skip.new.self
    _ _ c.as_slice.ensures.items c.line_ends-count.ensures.count c.skip.ensures c.blank.invariant.blanked in
    let none : length c.skip.new.self ≡ 0 = nothing-left c.as_slice-in-blank.result.now c.skip.new.self c.as_slice-in-blank.ensures.items c.if-not-is_empty.ensures in
    misses-blank-fault _ _ c.skip.new.self _ _ _ none c.if-skipped-ge-HEAD_LIMIT.false off.0 c.in-Err.ensures.fails
