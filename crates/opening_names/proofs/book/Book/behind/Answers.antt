use Rattle.std.proofs.Common.{subst}
use Rattle.std.specs.Option.{option_copied}
use Rattle.explorer_model.specs.declared.chess.Position.{Position}
use Rattle.explorer_model.specs.Openings.{OpeningOf}
use Rattle.opening_names.proofs.book.Book.behind.Goals as goal

pub returns : goal.returns
returns c =
    let O : Position → Type 0 = λ p. OpeningOf c.args.self.now p (option_copied c.at_key.result) in
    subst O c.play_on.ensures (c.at_key.ensures c.play_on.new.self c.behind.ensures.board c.behind.ensures.key)
