use Rattle.std.proofs.Common.{◌≡◌, ◌++◌, map, drop}
use Rattle.std.specs.Option.{option_copied}
use Rattle.query_params.specs.Given.{texts, list_of, values_named}
use Rattle.query_params.proofs.pairs.value_named.Given as goal

abbrev pub invariant-loop-pair : goal.invariant-loop-pair
invariant-loop-pair l =
    values_named l.name (map texts l.pairs) ≡ list_of (option_copied l.found) ++ values_named l.name (map texts (drop l.pair-index l.pairs))
