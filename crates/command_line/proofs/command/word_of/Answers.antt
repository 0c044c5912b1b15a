use Rattle.std.proofs.Common.{◌∙◌, ℕ, List, ap, Bor, refl}
use Rattle.std.proofs.lemmas.Result.{IfOk-weaker}
use Rattle.clap.specs.Words.{found_of, rows_of}
use Rattle.clap.specs.Walk.{first_of}
use Rattle.clap.proofs.WalkLemmas.{first_value-rows}
use Rattle.command_line.proofs.WordLemmas.{given_or_none}
use Rattle.command_line.proofs.command.word_of.Goals as goal

pub returns : goal.returns
returns c =
    let found = found_of c.args.given.now in
    IfOk-weaker c.from_str.result _ _ (λ word is. is ∙ ap (λ (s : Bor (List ℕ)). s.now) c.unwrap_or.ensures
    ∙ given_or_none c.get_str.result _ (first_of c.args.name.now (rows_of found)) refl (c.get_str.ensures ∙ first_value-rows found c.args.name.now)) c.from_str.ensures.ok
