use Rattle.std.proofs.Common.{◌≡◌, ◌≤◌, ℕ, List, length, reverse, slice_range, sym, ap, ◌∙◌, arith}
use Rattle.std.proofs.lemmas.List.{reverse-reverse, take_all}
use Rattle.std.proofs.lemmas.Slice.{between_from_start}
use Rattle.httparse.specs.Grammar.{skip_ows, trim_ows}
use Rattle.httparse.proofs.TrimLemmas.{skip_ows_yes, skip_ows_no, slice_first, slice_last, slice_empty}
use Rattle.http_wire.proofs.fields.trim_ows.Goals.{then-loop-start-test+else-is_space_or_tab, else-loop-start-test, then-loop-end-test+else-is_space_or_tab-2, else-loop-end-test}
use Rattle.http_wire.proofs.fields.trim_ows.Goals as goal

whole : (bytes : List ℕ) → slice_range bytes 0 (length bytes) ≡ bytes
whole bytes = between_from_start bytes (length bytes) ∙ take_all (length bytes) bytes (omega arith)

pub loop-start-init : goal.loop-start-init
loop-start-init c = (omega arith, ap skip_ows (sym (whole c.args.bytes.now)))

pub loop-start-preserved : goal.loop-start-preserved
loop-start-preserved c = (
  omega arith,
  c.loop-start.invariant.1
      ∙ skip_ows_yes (slice_first _ _ _ c.loop-start-test.true (omega arith)) c.if-is_space_or_tab.ensures,
)

pub loop-end-init : goal.loop-end-init
unfolding trim_ows
loop-end-init c =
    let all = c.args.bytes.now in
    let here = slice_range all c.loop-start.start (length all) in
    let fits : length all ≤ length all = omega arith in
    let stays : skip_ows here ≡ here =
    elim c.loop-start-test.branch [
      | then-loop-start-test+else-is_space_or_tab w ↦
          let first = slice_first _ _ _ w.loop-start-test.true fits in
          skip_ows_no first w.if-is_space_or_tab.ensures
      | else-loop-start-test w ↦
          let empty = slice_empty all c.loop-start.start (length all) (omega arith) fits in
          ap skip_ows empty ∙ sym empty
    ] in (
      omega arith,
      omega arith,
      ap (λ (t : List ℕ). reverse (skip_ows (reverse t))) (c.loop-start.invariant.1 ∙ stays),
    )

pub loop-end-preserved : goal.loop-end-preserved
loop-end-preserved c =
    let last = slice_last c.args.bytes.now _ _ c.loop-end-test.true (omega arith) in (
      omega arith,
      omega arith,
      c.loop-end.invariant.2
          ∙ ap reverse (skip_ows_yes last c.if-is_space_or_tab-2.ensures),
    )

pub returns : goal.returns
returns c =
    let all = c.args.bytes.now in
    let rest = slice_range all c.loop-start.start c.loop-end.end in
    let stays : reverse (skip_ows (reverse rest)) ≡ rest =
    elim c.loop-end-test.branch [
      | then-loop-end-test+else-is_space_or_tab-2 w ↦
          let last = slice_last all _ _ w.loop-end-test.true c.loop-end.invariant.1 in
          ap reverse (skip_ows_no last w.if-is_space_or_tab-2.ensures) ∙ reverse-reverse rest
      | else-loop-end-test w ↦
          let empty = slice_empty all c.loop-start.start c.loop-end.end (omega arith) c.loop-end.invariant.1 in
          ap (λ (t : List ℕ). reverse (skip_ows (reverse t))) empty ∙ sym empty
    ] in
    sym (c.loop-end.invariant.2 ∙ stays)
