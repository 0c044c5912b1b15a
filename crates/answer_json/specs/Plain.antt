-- Statement: answers whose texts, but for the names of players, are plain: the bytes of each are
-- below 128.
use Rattle.std.specs.Prelude.{Option, None, Some}
use Rattle.std.specs.List.{All}
use Rattle.std.specs.Str.{IsAscii}
use Rattle.explorer_model.specs.declared.answer.Found.{Found}
use Rattle.explorer_model.specs.declared.answer.Listed.{Listed}
use Rattle.explorer_model.specs.declared.answer.MoveLine.{MoveLine}
use Rattle.explorer_model.specs.declared.player.PlayerFound.{PlayerFound}
use Rattle.explorer_model.specs.declared.player.PlayerLine.{PlayerLine}

abbrev pub HasPlainId : Listed → Type 0
HasPlainId game = IsAscii game.classes.id.bytes

abbrev pub IsPlainGame : Option Listed → Type 0
IsPlainGame None = Unit {0}
IsPlainGame (Some game) = HasPlainId game

pub record IsPlainLine (line : MoveLine) : Type 0 where
  pub san : IsAscii line.san
  pub game : IsPlainGame line.game

pub record IsPlainFound (found : Found) : Type 0 where
  pub moves : All IsPlainLine found.moves
  pub top : All HasPlainId found.top
  pub recent : All HasPlainId found.recent

pub record IsPlainPlayerLine (line : PlayerLine) : Type 0 where
  pub san : IsAscii line.san
  pub game : IsPlainGame line.game

pub record IsPlainPlayerFound (found : PlayerFound) : Type 0 where
  pub moves : All IsPlainPlayerLine found.moves
  pub recent : All HasPlainId found.recent
