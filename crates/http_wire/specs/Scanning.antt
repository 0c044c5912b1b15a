-- Bridge: how far a head has been scanned for its end.
use Rattle.std.specs.Prelude.{◌≡◌, ℕ, ◌+◌, ◌<◌, ◌≤◌, ◌==◌, Bool, true, false, List, [], ◌∷◌, ◌++◌, length, take, drop, if◌then◌else◌, Option, Some, None, option_map}
use Rattle.explorer_model.specs.Wire.{head_limit, head_len, lines_in, Opening, Head, TooLong, Begun, opening_by}
use Rattle.http_wire.specs.declared.head.Stage.{Stage}
use Rattle.http_wire.specs.declared.head.Stage.TheVariants.{Inside, LineEnd, Return, Whole}
use Rattle.http_wire.specs.declared.head.Sight.{Sight}
use Rattle.http_wire.specs.declared.head.Sight.TheVariants as sights

abbrev pub stage_after : Stage → ℕ → Stage
stage_after Inside b = if b == 10 then LineEnd else Inside
stage_after LineEnd b = if b == 10 then Whole else (if b == 13 then Return else Inside)
stage_after Return b = if b == 10 then Whole else Inside
stage_after Whole b = Whole

abbrev pub is_whole : Stage → Bool
is_whole Whole = true
is_whole _ = false

abbrev pub one_more : Option ℕ → Option ℕ
one_more count = option_map (λ n. n + 1) count

-- behind how many of the bytes the head ends
unfoldable pub ends_from : Stage → List ℕ → Option ℕ
ends_from Whole bytes = Some 0
ends_from Inside [] = None
ends_from Inside (b ∷ bytes) = one_more (ends_from (stage_after Inside b) bytes)
ends_from LineEnd [] = None
ends_from LineEnd (b ∷ bytes) = one_more (ends_from (stage_after LineEnd b) bytes)
ends_from Return [] = None
ends_from Return (b ∷ bytes) = one_more (ends_from (stage_after Return b) bytes)

-- the bytes were scanned: so many lines ended, at this stage, whatever follows
pub record IsScanned (bytes : List ℕ) (lines : ℕ) (stage : Stage) : Type 0 where
  pub counted : lines ≡ lines_in bytes
  pub ahead : (rest : List ℕ)
      → head_len (bytes ++ rest) ≡ option_map (λ count. count + length bytes) (ends_from stage rest)

-- what a text opens with behind so many line ends
abbrev pub opening_behind : ℕ → List ℕ → Opening
opening_behind skipped text = opening_by skipped text (head_len text)

abbrev pub IsSight : Sight → ℕ → List ℕ → Type 0
IsSight (sights.Whole count) skipped text =
    (count ≤ length text) × (opening_behind skipped text ≡ Head (take count text) (drop count text))
IsSight sights.TooLong skipped text = opening_behind skipped text ≡ TooLong
IsSight sights.Begun skipped text =
    (skipped + length text < head_limit) × (opening_behind skipped text ≡ Begun)
