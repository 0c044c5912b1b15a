use Rattle.std.proofs.Common.{◌≡◌, ℕ, ◌+◌, Bool, true, false, get_or, drop, sym, ap, ◌∙◌, subst, arith}
use Rattle.std.proofs.lemmas.List.{take_rest}
use Rattle.explorer_model.specs.Items.{escapes, string_len}
use Rattle.pgn_lex.specs.Pair.{is_plain}
use Rattle.pgn_lex.proofs.Strings.{ahead, ahead-zero, plain_stays, plain_whole, plain_keeps, closed_at, broken_at, goes_on_at, unclosed}
use Rattle.pgn_lex.proofs.pair.string_len.Goals as goal

pub loop-at-init : goal.loop-at-init
loop-at-init c = ahead-zero (string_len false c.args.bytes.now)

pub returns-then-closes_string-clause-value : goal.returns-then-closes_string-clause-value
returns-then-closes_string-clause-value c =
    closed_at c.loop-at.escaped c.args.bytes.now c.loop-at.at c.loop-at-test.true (string_len false c.args.bytes.now) (sym c.closes_string.ensures ∙ c.if-closes_string.true) c.loop-at.invariant

pub returns-then-ends_line-clause-value : goal.returns-then-ends_line-clause-value
returns-then-ends_line-clause-value c =
    broken_at c.loop-at.escaped c.args.bytes.now c.loop-at.at c.loop-at-test.true (string_len false c.args.bytes.now)
    (sym c.closes_string.ensures ∙ c.if-closes_string.false) (sym c.ends_line.ensures ∙ c.if-ends_line.true) c.loop-at.invariant

pub loop-at-preserved : goal.loop-at-preserved
loop-at-preserved c =
    let e : c.escapes-escaped.result ≡ escapes c.loop-at.escaped (get_or c.args.bytes.now c.loop-at.at 0) (drop (c.loop-at.at + 1) c.args.bytes.now) =
    c.escapes-escaped.ensures ∙ ap (escapes c.loop-at.escaped (get_or c.args.bytes.now c.loop-at.at 0)) (take_rest c.args.bytes.now (c.loop-at.at + 1)) in
    rw e (goes_on_at c.loop-at.escaped c.args.bytes.now c.loop-at.at c.loop-at-test.true (string_len false c.args.bytes.now)
    (sym c.closes_string.ensures ∙ c.if-closes_string.false) (sym c.ends_line.ensures ∙ c.if-ends_line.false) c.loop-at.invariant)

pub loop-at-preserved-then-is_plain : goal.loop-at-preserved-then-is_plain
loop-at-preserved-then-is_plain c =
    let b : ℕ = get_or c.args.bytes.now c.loop-at.at 0 in
    let plain : is_plain b ≡ true = sym c.is_plain.ensures ∙ c.if-is_plain.true in
    let GoesOn : Bool → Type 0 = λ escaped.
    ahead (c.loop-at.at + 1) (string_len escaped (drop (c.loop-at.at + 1) c.args.bytes.now)) ≡ string_len false c.args.bytes.now in
    subst GoesOn (plain_keeps c.loop-at.escaped b (drop (c.loop-at.at + 1) c.args.bytes.now) plain)
    (goes_on_at c.loop-at.escaped c.args.bytes.now c.loop-at.at c.loop-at-test.true (string_len false c.args.bytes.now)
    (plain_stays c.loop-at.escaped b plain) (plain_whole b plain) c.loop-at.invariant)

pub returns-clause-value : goal.returns-clause-value
returns-clause-value c = unclosed c.loop-at.escaped c.args.bytes.now c.loop-at.at (string_len false c.args.bytes.now) (omega arith) c.loop-at.invariant
