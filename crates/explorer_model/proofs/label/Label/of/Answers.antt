use Rattle.std.proofs.Common.{◌≡◌, ◌++◌, true, List, ℕ, sym, ap, subst, ◌∙◌, arith}
use Rattle.explorer_model.specs.Labels.{is_label}
use Rattle.explorer_model.proofs.LabelLemmas.{too-long, not-printing, no-text, label-is}
use Rattle.explorer_model.proofs.label.Label.of.Goals as goal

pub returns-then-text-gt64-clause-none : goal.returns-then-text-gt64-clause-none
returns-then-text-gt64-clause-none c = too-long c.args.text.now c.if-text-gt64.true

pub returns-then-not-are_printing-clause-none : goal.returns-then-not-are_printing-clause-none
returns-then-not-are_printing-clause-none c = not-printing c.args.text.now (sym c.are_printing.ensures ∙ c.if-not-are_printing.true)

pub returns-in_default-clause-none : goal.returns-in_default-clause-none
returns-in_default-clause-none c = no-text c.args.text.now c.in_default.ensures.cases.0

pub invariant_of-result : goal.invariant_of-result
invariant_of-result c =
    let is : is_label c.args.text.now ≡ true =
    label-is c.args.text.now (omega (arith, c.if-text-gt64.false)) (sym c.are_printing.ensures ∙ c.if-not-are_printing.false) c.in-Ok.ensures.cases.1 in
    let same = c.push_str.ensures.bytes ∙ ap (λ (l : List ℕ). l ++ c.in-Ok.chars.now) c.new-text.ensures ∙ c.in-Ok.ensures.cases.0 in
    subst (λ (l : List ℕ). is_label l ≡ true) (sym same) is

pub returns-clause-some : goal.returns-clause-some
returns-clause-some c = (
  c.push_str.ensures.bytes ∙ ap (λ (l : List ℕ). l ++ c.in-Ok.chars.now) c.new-text.ensures ∙ c.in-Ok.ensures.cases.0,
  label-is c.args.text.now (omega (arith, c.if-text-gt64.false)) (sym c.are_printing.ensures ∙ c.if-not-are_printing.false) c.in-Ok.ensures.cases.1,
)
