use Rattle.std.proofs.Common.{◌≡◌, ◌∙◌, ℕ, Option, None, subst, arith, inl, inr}
use Rattle.std.specs.Str.Parse.{ParsesUnsigned, ExplainsUnsignedError, HasUnsignedDigitsIfOk}
use Rattle.clap.specs.Matches.{ReadsOne}
use Rattle.clap.specs.Words.{found_of, rows_of}
use Rattle.clap.specs.Walk.{one_of}
use Rattle.clap.proofs.WalkLemmas.{one_text-rows}
use Rattle.command_line.proofs.WordLemmas.{is_given, is_out, none_given}
use Rattle.command_line.proofs.command.number_of.Goals as goal

pub returns-in_default-clause-number : goal.returns-in_default-clause-number
returns-in_default-clause-number c =
    let found = found_of c.args.given.now in
    let name = c.args.name.now in
    none_given (λ bs r. ParsesUnsigned 64 10 bs r × ExplainsUnsignedError 10 bs r × HasUnsignedDigitsIfOk bs r) (record { least = c.args.least; most = c.args.most }) (one_of name (rows_of found)) c.args.default
    (λ t e. subst (λ (n : Option ℕ). ReadsOne (λ bs r. ParsesUnsigned 64 10 bs r × ExplainsUnsignedError 10 bs r × HasUnsignedDigitsIfOk bs r) t n) c.in_default.is (c.get_one.ensures.value t (one_text-rows found name ∙ e)))
    (λ t r reads. reads.0)

pub returns-then-number-least-clause-number : goal.returns-then-number-least-clause-number
returns-then-number-least-clause-number c =
    let found = found_of c.args.given.now in
    let name = c.args.name.now in
    is_out (λ bs r. ParsesUnsigned 64 10 bs r × ExplainsUnsignedError 10 bs r × HasUnsignedDigitsIfOk bs r) (record { least = c.args.least; most = c.args.most }) (one_of name (rows_of found)) c.in-Some.number c.args.default
    (λ t e. subst (λ (n : Option ℕ). ReadsOne (λ bs r. ParsesUnsigned 64 10 bs r × ExplainsUnsignedError 10 bs r × HasUnsignedDigitsIfOk bs r) t n) c.in-Some.is (c.get_one.ensures.value t (one_text-rows found name ∙ e)))
    (λ t r reads. reads.0)
    (λ low high. elim c.then-number-least.either [ inl below ↦ omega (arith, below, low) | inr above ↦ omega (arith, above.1, high) ])

pub returns-clause-number : goal.returns-clause-number
returns-clause-number c =
    let found = found_of c.args.given.now in
    let name = c.args.name.now in
    is_given (λ bs r. ParsesUnsigned 64 10 bs r × ExplainsUnsignedError 10 bs r × HasUnsignedDigitsIfOk bs r) (record { least = c.args.least; most = c.args.most }) (one_of name (rows_of found)) c.in-Some.number c.args.default
    (λ t e. subst (λ (n : Option ℕ). ReadsOne (λ bs r. ParsesUnsigned 64 10 bs r × ExplainsUnsignedError 10 bs r × HasUnsignedDigitsIfOk bs r) t n) c.in-Some.is (c.get_one.ensures.value t (one_text-rows found name ∙ e)))
    (λ t r reads. reads.0)
    (λ none. subst (λ (n : Option ℕ). n ≡ None) c.in-Some.is (c.get_one.ensures.none (one_text-rows found name ∙ none)))
    c.if-number-least.false c.if-number-most.false
