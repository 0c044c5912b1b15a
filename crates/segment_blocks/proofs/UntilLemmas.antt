-- Where a walk ends, and its next row.
use Rattle.std.proofs.Common.{◌≡◌, None, is_none, List, [], ◌∷◌, refl, sym, ap, true≢false}
use Rattle.tally_rows.specs.declared.row.Row.{Row}
use Rattle.segment_blocks.specs.declared.until.Until.{Until}
use Rattle.segment_blocks.specs.declared.until.Until.TheVariants.{End, Key, Below, Done}
use Rattle.segment_blocks.specs.Moving.{next_row_key}
use Rattle.segment_blocks.specs.Walk.{rows_until}
use Rattle.segment_blocks.proofs.KeyLemmas.{until_key-nil}

pub until-nil : (until : Until) → rows_until until [] ≡ []
until-nil End = refl
until-nil (Key key) = refl
until-nil (Below key) = until_key-nil key
until-nil Done = refl

-- ---- the next row

pub next-none : (xs : List Row) → next_row_key xs ≡ None → xs ≡ []
next-none [] e = refl
next-none (x ∷ xs) e = absurd (true≢false (sym (ap is_none e)))
