use Rattle.std.proofs.Common.{[], arith}
use Rattle.std.proofs.lemmas.List.Elements.{All-from_recursion}
use Rattle.explorer_model.specs.Journal.{IsBatch}
use Rattle.ingest_desk.proofs.register.Register.new.Goals as goal

pub returns : goal.returns
returns c = record {
  sound = record {
    batches = All-from_recursion IsBatch [] tt;
    games = [];
    are_games = tt;
    different = λ i j d lt below. absurd (omega (arith, below));
    within = (omega arith, omega arith);
  };
  numbers = c.new.ensures;
  batches = omega arith;
  games = omega arith;
  bytes = omega arith;
}
