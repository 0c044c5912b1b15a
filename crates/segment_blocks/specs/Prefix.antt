-- Bridge: how many bytes keys begin with alike.
use Rattle.std.specs.Prelude.{◌≡◌, ◌==◌, ℕ, suc, ⊤, List, [], ◌∷◌, if◌then◌else◌}
use Rattle.tally_rows.specs.declared.row.Row.{Row}
use Rattle.segment_blocks.specs.declared.mark.Mark.{Mark}

-- how many bytes two keys begin with alike
unfoldable pub common_len : List ℕ → List ℕ → ℕ
common_len [] ys = 0
common_len (x ∷ xs) [] = 0
common_len (x ∷ xs) (y ∷ ys) = if x == y then suc (common_len xs ys) else 0

-- each mark tells how many bytes the key of its row has in common with the key before it
abbrev pub TellShared : List ℕ → List Mark → List Row → Type 0
TellShared before [] [] = ⊤
TellShared before [] (row ∷ rows) = ⊥
TellShared before (mark ∷ marks) [] = ⊥
TellShared before (mark ∷ marks) (row ∷ rows) =
    (mark.shared ≡ common_len before row.key) × TellShared row.key marks rows

-- the same of each mark but the first
abbrev pub TellSharedBehind : List Mark → List Row → Type 0
TellSharedBehind [] rows = ⊤
TellSharedBehind (mark ∷ marks) [] = ⊥
TellSharedBehind (mark ∷ marks) (row ∷ rows) = TellShared row.key marks rows
