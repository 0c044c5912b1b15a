-- The parts that a game has in a position.
use Rattle.std.proofs.Common.{◌≡◌, ℕ, true, List, Option, None, Some, ap, sym, ◌∙◌}
use Rattle.std.specs.Option.{option_map}
use Rattle.explorer_model.specs.declared.chess.Move.{Move}
use Rattle.tally_rows.specs.declared.row_key.RowKey.{RowKey}
use Rattle.tally_rows.specs.RowKey.{same_row_key}
use Rattle.tally_rows.specs.Track.{Track, visit, row_keys_at, is_some_where, has}
use Rattle.tally_rows.proofs.RowOrder.{same_row_key-is, same_row_key-self}

same_as : (c : RowKey) (o : Option RowKey) → is_some_where (same_row_key c) o ≡ true → o ≡ Some c
same_as c None e = cc
same_as c (Some d) e = ap Some (sym (same_row_key-is c d e))

-- a game has just the parts that it has in their position
pub has-row_keys_at : (c : RowKey) (t : Track) → has c t ≡ true → row_keys_at c.key t ≡ Some c
unfolding has
has-row_keys_at c t e = same_as c (row_keys_at c.key t) e

pub row_keys_at-has : (c : RowKey) (t : Track) → row_keys_at c.key t ≡ Some c → has c t ≡ true
unfolding has
row_keys_at-has c t e = ap (is_some_where (same_row_key c)) e ∙ same_row_key-self c

-- the parts are of that position, and of the game's month, speed and group
pub record AreOf (key : List ℕ) (t : Track) (c : RowKey) : Type 0 where
  pub position : c.key ≡ key
  pub month : c.month ≡ t.classes.month
  pub speed : c.speed ≡ t.classes.speed
  pub group : c.group ≡ t.classes.group

row_key_by : (key : List ℕ) (t : Track) (o : Option (Option Move)) (c : RowKey)
    → option_map (λ next. record { key = key; next = next; month = t.classes.month; speed = t.classes.speed; group = t.classes.group }) o ≡ Some c
    → AreOf key t c
row_key_by key t None c e = cc
row_key_by key t (Some next) c e =
    let same : c ≡ record { key = key; next = next; month = t.classes.month; speed = t.classes.speed; group = t.classes.group } = cc in
    record {
      position = ap (λ p. p.key) same;
      month = ap (λ p. p.month) same;
      speed = ap (λ p. p.speed) same;
      group = ap (λ p. p.group) same;
    }

pub row_keys_at-AreOf : (key : List ℕ) (t : Track) (c : RowKey) → row_keys_at key t ≡ Some c → AreOf key t c
unfolding row_keys_at
row_keys_at-AreOf key t c e = row_key_by key t (visit key t) c e
