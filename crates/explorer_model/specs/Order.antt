-- Statement: the order of what sorts rows.
use Rattle.std.specs.Prelude.{ℕ}
use Rattle.explorer_model.specs.declared.archive.Speed.{Speed}
use Rattle.explorer_model.specs.declared.archive.Speed.TheVariants.{UltraBullet, Bullet, Blitz, Rapid, Classical, Correspondence}
use Rattle.explorer_model.specs.declared.chess.Role.{Role}
use Rattle.explorer_model.specs.declared.chess.Role.TheVariants.{Pawn, Knight, Bishop, Rook, Queen, King}

-- where a speed stands among the speeds, from the least time to the most
abbrev pub speed_index : Speed → ℕ
speed_index UltraBullet = 0
speed_index Bullet = 1
speed_index Blitz = 2
speed_index Rapid = 3
speed_index Classical = 4
speed_index Correspondence = 5

-- where a role stands among the roles
abbrev pub role_index : Role → ℕ
role_index Pawn = 0
role_index Knight = 1
role_index Bishop = 2
role_index Rook = 3
role_index Queen = 4
role_index King = 5
