use Rattle.std.proofs.Common.{◌≡◌, ◌+◌, ◌==◌, true, false, take, get_or, sym, ap, ◌∙◌, subst, arith}
use Rattle.std.proofs.lemmas.List.Sums.{count_by_more_yes, count_by_more_no}
use Rattle.std.proofs.lemmas.Bool.Decides.{nat_tests}
use Rattle.explorer_model.specs.Wire.{lines_in}
use Rattle.http_wire.specs.declared.head.Scan.{Scan}
use Rattle.http_wire.specs.Scanning.{stage_after, IsScanned}
use Rattle.http_wire.proofs.Ends.{scanned-next}
use Rattle.http_wire.proofs.head.Scan.advance.Goals.{then-byte-eq10, else-byte-eq10}
use Rattle.http_wire.proofs.head.Scan.advance.Goals as goal

pub loop-byte-preserved : goal.loop-byte-preserved
loop-byte-preserved c =
    let text = c.args.text.now in
    let was = c.loop-byte.self in
    let now = c.if-byte-eq10.self in
    let scanned = c.loop-byte.invariant.scanned in
    let inside = c.if-self-text.true in
    let at_is : now.at ≡ was.at = elim c.if-byte-eq10.branch [
      | then-byte-eq10 w ↦ ap (λ (s : Scan). s.at) w.self-is
      | else-byte-eq10 w ↦ ap (λ (s : Scan). s.at) w.self-is
    ] in
    let stage_is : now.stage ≡ was.stage = elim c.if-byte-eq10.branch [
      | then-byte-eq10 w ↦ ap (λ (s : Scan). s.stage) w.self-is
      | else-byte-eq10 w ↦ ap (λ (s : Scan). s.stage) w.self-is
    ] in
    let counted : now.lines ≡ lines_in (take (was.at + 1) text) = elim c.if-byte-eq10.branch [
      | then-byte-eq10 w ↦
          let ends : (get_or text was.at 0 == 10) ≡ true = grind (arith, nat_tests, w.if-byte-eq10.true) in
          ap (λ (s : Scan). s.lines) w.self-is
          ∙ ap (λ n. n + 1) scanned.counted
          ∙ sym (count_by_more_yes (λ b. b == 10) text was.at 0 inside ends)
      | else-byte-eq10 w ↦
          let other : (get_or text was.at 0 == 10) ≡ false = grind (arith, nat_tests, w.if-byte-eq10.false) in
          ap (λ (s : Scan). s.lines) w.self-is
          ∙ scanned.counted
          ∙ sym (count_by_more_no (λ b. b == 10) text was.at 0 inside other)
    ] in
    let next : IsScanned (take (was.at + 1) text) now.lines (stage_after was.stage (get_or text was.at 0))
    = scanned-next text was.at was.lines now.lines was.stage inside (sym c.loop-byte-test.ensures) counted scanned in
    let stage : c.after-self.result ≡ stage_after was.stage (get_or text was.at 0)
    = c.after-self.ensures ∙ ap (λ s. stage_after s (get_or text was.at 0)) stage_is in
    record {
      within = omega (arith, at_is, inside);
      scanned = rw at_is (subst (IsScanned (take (was.at + 1) text) now.lines) (sym stage) next);
    }
