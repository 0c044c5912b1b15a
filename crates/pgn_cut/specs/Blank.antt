-- Laws: a stream of which no cut comes.
use Rattle.std.specs.Prelude.{List, ℕ, IsTrue, drop, nat_eq, if◌then◌else◌}
use Rattle.std.specs.List.{starts_with, list_all}
use Rattle.explorer_model.specs.Cuts.{is_white_space, mark}

abbrev pub AllWhite : List ℕ → Type 0
AllWhite bytes = IsTrue (list_all is_white_space bytes)

-- white space alone, or behind a mark
abbrev pub IsBlank : List ℕ → Type 0
IsBlank stream = AllWhite (if starts_with nat_eq stream mark then drop 3 stream else stream)
