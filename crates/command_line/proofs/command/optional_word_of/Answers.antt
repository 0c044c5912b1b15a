use Rattle.std.proofs.Common.{◌∙◌, ℕ, List, Option, Some, ap, Bor, option_map, sym}
use Rattle.clap.specs.Words.{found_of}
use Rattle.clap.proofs.WalkLemmas.{first_value-rows}
use Rattle.command_line.proofs.command.optional_word_of.Goals as goal

pub returns-in_default : goal.returns-in_default
returns-in_default c =
    let found = found_of c.args.given.now in
    sym (ap (λ (g : Option (Bor (List ℕ))). option_map (λ s. s.now) g) c.in_default.is)
    ∙ (c.get_str.ensures ∙ first_value-rows found c.args.name.now)

pub returns : goal.returns
returns c =
    let found = found_of c.args.given.now in
    ap Some c.in_ok-word.ensures.ok
    ∙ (sym (ap (λ (g : Option (Bor (List ℕ))). option_map (λ s. s.now) g) c.in-Some.is)
    ∙ (c.get_str.ensures ∙ first_value-rows found c.args.name.now))
