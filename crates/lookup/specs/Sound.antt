-- Statement: answers whose lines are legal moves in SAN, and whose games have tags that a game can have.
use Rattle.std.specs.Prelude.{IfSome}
use Rattle.std.specs.List.{AllByRecursion}
use Rattle.explorer_model.specs.Chess.{Legal}
use Rattle.explorer_model.specs.San.{SanText}
use Rattle.explorer_model.specs.SoundClasses.{AreSoundClasses}
use Rattle.explorer_model.specs.declared.answer.Found.{Found}
use Rattle.explorer_model.specs.declared.answer.Listed.{Listed}
use Rattle.explorer_model.specs.declared.answer.MoveLine.{MoveLine}
use Rattle.explorer_model.specs.declared.chess.Position.{Position}

abbrev pub HasSoundClasses : Listed → Type 0
HasSoundClasses game = AreSoundClasses game.classes

pub record IsSoundLine (at : Position) (line : MoveLine) : Type 0 where
  pub legal : Legal at line.next
  pub san : SanText at line.next line.san
  pub game : IfSome line.game HasSoundClasses

pub record IsSoundAnswer (at : Position) (found : Found) : Type 0 where
  pub moves : AllByRecursion (IsSoundLine at) found.moves
  pub top : AllByRecursion HasSoundClasses found.top
  pub recent : AllByRecursion HasSoundClasses found.recent
