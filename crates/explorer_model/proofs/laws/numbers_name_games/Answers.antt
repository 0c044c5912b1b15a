use Rattle.std.proofs.Common.{false, bytes_eq, ◌≡◌}
use Rattle.std.proofs.lemmas.List.Elements.{All-from_recursion}
use Rattle.explorer_model.proofs.Accounts.{numbers-name, numbers-none}
use Rattle.explorer_model.proofs.laws.numbers_name_games.Goals as goal

pub returns-clause-named : goal.returns-clause-named
returns-clause-named c = numbers-name

pub returns-clause-none : goal.returns-clause-none
returns-clause-none c = λ id games is.
    All-from_recursion (λ game. bytes_eq game.classes.id.bytes id ≡ false) games (numbers-none 0 id games is)
