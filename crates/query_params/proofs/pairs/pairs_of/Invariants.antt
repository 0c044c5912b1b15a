use Rattle.std.proofs.Common.{◌≡◌, ◌++◌, map}
use Rattle.form_urlencoded.specs.Parse.{owned_pairs_left}
use Rattle.explorer_model.specs.Query.{pairs_of}
use Rattle.query_params.specs.Given.{texts, decoded}
use Rattle.query_params.proofs.pairs.pairs_of.Given as goal

abbrev pub invariant-loop-pair : goal.invariant-loop-pair
invariant-loop-pair l = map texts l.pairs.items ++ decoded (owned_pairs_left l.pair-iterator) ≡ pairs_of l.text
