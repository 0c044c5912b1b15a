-- Statement: what batches are called.
use Rattle.std.specs.Prelude.{ℕ, Bool, not, ◌&&◌, ◌==◌, nat_le, List, [], length}
use Rattle.std.specs.List.{list_all}
use Rattle.std.specs.Str.{is_utf8}

-- the most bytes of a label
abbrev pub label_limit : ℕ
label_limit = 64

-- no control character of ASCII
abbrev pub is_printing : ℕ → Bool
is_printing b = nat_le 32 b && not (b == 127)

-- a text of UTF-8 of at most 64 bytes, none of which is a control character
unfoldable pub is_label : List ℕ → Bool
is_label text = nat_le (length text) label_limit && list_all is_printing text && is_utf8 text

-- the label of a batch that is given none
abbrev pub no_label : List ℕ
no_label = []
