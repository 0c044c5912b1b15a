use Rattle.std.proofs.Common.{◌≡◌, ℕ, ◌+◌, List, false, IfOk, get_or, drop, sym, ap, ◌∙◌, subst, arith}
use Rattle.std.proofs.lemmas.List.{take_rest}
use Rattle.explorer_model.specs.Items.{escapes, unescaped}
use Rattle.pgn_lex.proofs.Strings.{kept_at, dropped_at, unescaped_whole, nothing_escapes}
use Rattle.pgn_lex.proofs.pair.unescape.Goals as goal
use Rattle.pgn_lex.proofs.pair.unescape.Goals.{then-not-escaped+in_ok-push, else-not-escaped}

pub loop-at-preserved : goal.loop-at-preserved
loop-at-preserved c =
    let e : escapes c.loop-at.escaped (get_or c.args.string.now c.loop-at.at 0) (drop (c.loop-at.at + 1) c.args.string.now) ≡ c.escapes-escaped.result =
    sym (c.escapes-escaped.ensures ∙ ap (escapes c.loop-at.escaped (get_or c.args.string.now c.loop-at.at 0)) (take_rest c.args.string.now (c.loop-at.at + 1))) in
    elim c.if-not-escaped.branch [
      | then-not-escaped+in_ok-push w ↦ rw (w.value-is, w.in_ok-push.ensures.items, w.if-not-escaped.true)
          (kept_at c.loop-at.escaped c.args.string.now c.loop-at.at c.loop-at-test.true c.loop-at.value.items (unescaped false c.args.string.now) (e ∙ w.if-not-escaped.true) c.loop-at.invariant)
      | else-not-escaped w ↦ rw (w.value-is, w.if-not-escaped.false)
          (dropped_at c.loop-at.escaped c.args.string.now c.loop-at.at c.loop-at-test.true c.loop-at.value.items (unescaped false c.args.string.now) (e ∙ w.if-not-escaped.false) c.loop-at.invariant)
    ]

pub returns : goal.returns
returns c = unescaped_whole c.loop-at.escaped c.args.string.now c.loop-at.at c.loop-at.value.items (unescaped false c.args.string.now) (omega arith) c.loop-at.invariant

pub returns-then-not-has_backslash : goal.returns-then-not-has_backslash
returns-then-not-has_backslash c =
    let IsCopy : List ℕ → Type 0 = λ bytes. IfOk c.from_slice.result (λ value. value.items ≡ bytes) in
    subst IsCopy (sym (nothing_escapes c.args.string.now (sym c.has_backslash.ensures ∙ c.if-not-has_backslash.true))) c.from_slice.ensures.items
