-- Bridge: a number that a key determines, by which most steps are told apart before their keys are.
use Rattle.std.specs.Prelude.{ℕ, ◌+◌, ◌*◌, ◌%◌, ◌^◌, List}
use Rattle.tally_rows.specs.SortEntry.{spelled}

abbrev pub tag_after : ℕ → ℕ → ℕ
tag_after tag word = ((tag * 31) % 2 ^ 64 + word) % 2 ^ 64

unfoldable pub tag_of : List ℕ → ℕ
tag_of key =
    tag_after (tag_after (tag_after (spelled key 0 8) (spelled key 8 8)) (spelled key 16 8))
    (spelled key 24 8)
