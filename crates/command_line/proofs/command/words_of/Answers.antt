use Rattle.std.proofs.Common.{◌∙◌, ℕ, List, Bor, ap, map, string_bytes}
use Rattle.std.proofs.lemmas.List.{take_all}
use Rattle.clap.specs.Words.{found_of}
use Rattle.clap.proofs.WalkLemmas.{raw_values-rows}
use Rattle.command_line.proofs.WordLemmas.{given_list, given_none}
use Rattle.command_line.proofs.command.words_of.Goals as goal

pub returns-in_default : goal.returns-in_default
returns-in_default c =
    let found = found_of c.args.given.now in
    ap (λ l. map string_bytes l) c.new.ensures.items ∙ given_none c.get_strs.result _ c.in_default.is (c.get_strs.ensures ∙ raw_values-rows found c.args.name.now)

pub returns : goal.returns
returns c =
    let found = found_of c.args.given.now in
    c.copying.invariant ∙ ap (λ (l : List (Bor (List ℕ))). map (λ (s : Bor (List ℕ)). s.now) l) (take_all c.copying.text-index c.in-Some.texts.now c.copying-test.false)
    ∙ given_list c.get_strs.result c.in-Some.texts _ c.in-Some.is (c.get_strs.ensures ∙ raw_values-rows found c.args.name.now)
