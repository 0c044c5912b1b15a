use Rattle.std.proofs.Common.{rules, ◌≡◌, map, Ok, Some}
use Rattle.explorer_model.specs.declared.query.Parameter.TheVariants.{Fen}
use Rattle.query_params.specs.Given.{texts, given_in}
use Rattle.query_params.proofs.Played.{root_given}
use Rattle.query_params.proofs.position.root_of.Goals as goal

pub returns-in-Ok-Some : goal.returns-in-Ok-Some
returns-in-Ok-Some c =
    let given : given_in Fen (map texts c.args.pairs.now) ≡ Ok (Some c.in-Ok-Some.text.now) = search rules in
    root_given (map texts c.args.pairs.now) c.in-Ok-Some.text.now c.root_named.result given c.root_named.ensures
