-- The moves of rows are legal in their position.
use Rattle.std.proofs.Common.{◌≡◌, ℕ, ◌+◌, Bool, true, false, ◌&&◌, if◌then◌else◌, List, [], ◌∷◌, ◌++◌, map, length, bytes_eq, Option, Some, None, inl, inr, refl, ap, ◌∙◌, subst}
use Rattle.std.specs.Prelude.{option_map}
use Rattle.std.specs.List.{Any, AllByRecursion, AllZip, filter}
use Rattle.std.proofs.lemmas.Option.{none-some, same_Some}
use Rattle.std.proofs.lemmas.Slice.Eq.{bytes_eq-Decides}
use Rattle.explorer_model.specs.declared.archive.Game.{Game}
use Rattle.explorer_model.specs.declared.chess.Move.{Move}
use Rattle.explorer_model.specs.declared.chess.Position.{Position}
use Rattle.explorer_model.specs.Chess.{Legal}
use Rattle.explorer_model.specs.Visits.{IsTextOf, texts_of}
use Rattle.tally_rows.specs.declared.row_key.RowKey.{RowKey}
use Rattle.tally_rows.specs.declared.row.Row.{Row}
use Rattle.tally_rows.specs.Recount.{picks}
use Rattle.tally_rows.specs.Row.{row_key_of}
use Rattle.tally_rows.specs.Tally.{IsTrackOf}
use Rattle.lookup.specs.Parts.{Part, IsPart}
use Rattle.tally_rows.specs.Track.{Track, visit, row_keys_at, has}
use Rattle.tally_rows.proofs.Members.{IsIn, Found, All-IsIn, Found-from_Any, recursion-IsIn}
use Rattle.tally_rows.proofs.Visits.{has-row_keys_at}
use Rattle.row_sums.specs.Hits.{NumberedRow}
use Rattle.lookup.specs.Hits.{rows_from}
use Rattle.row_sums.specs.Sums.{moves_in}
use Rattle.row_sums.proofs.RowNexts.{moves-have}

-- ---- a row's games play its move in its position

visit-next : (key : List ℕ) (t : Track) (row_key : RowKey) → row_keys_at key t ≡ Some row_key → visit key t ≡ Some row_key.next
unfolding row_keys_at
visit-next key t row_key is = by (visit key t) refl is
  where
    by : (v : Option (Option Move)) → visit key t ≡ v
        → option_map (λ next. record { key = key; next = next; month = t.classes.month; speed = t.classes.speed; group = t.classes.group }) v ≡ Some row_key
        → visit key t ≡ Some row_key.next
    by None here is = absurd (none-some row_key is)
    by (Some next) here is = here ∙ ap (λ (p : RowKey). Some p.next) (same_Some _ row_key is)

-- a game that has the row's parts
pub row-visit : (row : Row) (t : Track) → has (row_key_of row) t ≡ true → visit row.key t ≡ Some row.next
row-visit row t is = visit-next row.key t (row_key_of row) (has-row_keys_at (row_key_of row) t is)

-- ---- and that move is legal

module _ (at : Position) (key : List ℕ) where
  -- what tracks tell to follow at the key is legal
  abbrev pub TellsLegal : Track → Type 0
  TellsLegal t = (m : Move) → visit key t ≡ Some (Some m) → Legal at m

  abbrev pub TracksTell : Type 0
  TracksTell = (text : List ℕ) (game : Game) (track : Track) → IsTextOf text game → IsTrackOf game track → TellsLegal track

  tracks-tell : TracksTell → (texts : List (List ℕ)) (games : List Game) (tracks : List Track) → AllZip IsTextOf texts games → AllZip IsTrackOf games tracks
      → AllByRecursion TellsLegal tracks
  tracks-tell tell [] [] [] of tracked = tt
  tracks-tell tell [] [] (t ∷ tracks) of tracked = absurd tracked
  tracks-tell tell [] (g ∷ games) tracks of tracked = absurd of
  tracks-tell tell (x ∷ texts) [] tracks of tracked = absurd of
  tracks-tell tell (x ∷ texts) (g ∷ games) [] of tracked = absurd tracked
  tracks-tell tell (x ∷ texts) (g ∷ games) (t ∷ tracks) of tracked = (tell x g t of.0 tracked.0, tracks-tell tell texts games tracks of.1 tracked.1)

  abbrev pub PlaysLegal : Row → Type 0
  PlaysLegal row = (m : Move) → row.next ≡ Some m → Legal at m

  row-legal : TracksTell → (part : Part) → IsPart part → (row : Row) → IsIn row part.rows → row.key ≡ key → PlaysLegal row
  row-legal tell part counted row is_in here m is =
      let tracks = counted.tally.tracks in
      let some : Found (λ t. has (row_key_of row) t ≡ true) tracks = Found-from_Any _ tracks (All-IsIn (λ x. Any (λ t. has (row_key_of x) t ≡ true) tracks) part.rows counted.tally.tallied.some row is_in) in
      let each = tracks-tell tell (texts_of part.batches) counted.tally.games tracks counted.tally.are_games counted.tally.are_tracks in
      let K : List ℕ → Type 0 = λ k. visit k some.value ≡ Some (Some m) in
      recursion-IsIn TellsLegal tracks each some.value some.is_in m (subst K here (row-visit row some.value some.holds ∙ ap (λ next. Some next) is))

  -- ---- over all parts

  filter-legal : (test : Row → Bool) (rows : List Row) → ((row : Row) → IsIn row rows → test row ≡ true → PlaysLegal row)
      → AllByRecursion PlaysLegal (filter test rows)
  filter-legal test [] legal = tt
  filter-legal test (row ∷ rows) legal = by (filter-legal test rows (λ r is_in. legal r (inr is_in))) (test row) refl
    where
      by : AllByRecursion PlaysLegal (filter test rows) → (b : Bool) → test row ≡ b → AllByRecursion PlaysLegal (if b then row ∷ filter test rows else filter test rows)
      by rest true is = (legal row (inl refl) is, rest)
      by rest false is = rest

  abbrev pub HitLegal : NumberedRow → Type 0
  HitLegal hit = PlaysLegal hit.row

  numbered-legal : (first : ℕ) (rows : List Row) → AllByRecursion PlaysLegal rows
      → AllByRecursion HitLegal (map (λ row. record { row = row; first = first }) rows)
  numbered-legal first [] each = tt
  numbered-legal first (row ∷ rows) each = (each.0, numbered-legal first rows each.1)

  append-legal : (hits more : List NumberedRow) → AllByRecursion HitLegal hits → AllByRecursion HitLegal more → AllByRecursion HitLegal (hits ++ more)
  append-legal [] more each rest = rest
  append-legal (hit ∷ hits) more each rest = (each.0, append-legal hits more each.1 rest)

  picked-key : (pick : RowKey → Bool) (row : Row) → picks key pick row ≡ true → row.key ≡ key
  unfolding picks
  picked-key pick row is = (bytes_eq-Decides row.key key).0 (first (bytes_eq row.key key) (pick (row_key_of row)) is)
    where
      first : (a b : Bool) → a && b ≡ true → a ≡ true
      first true b is = refl
      first false b is = is

  rows-legal : TracksTell → (pick : RowKey → Bool) (first : ℕ) (parts : List Part) → AllByRecursion IsPart parts
      → AllByRecursion HitLegal (rows_from key pick first parts)
  unfolding rows_from
  rows-legal tell pick first [] each = tt
  rows-legal tell pick first (part ∷ parts) each =
      append-legal (map (λ row. record { row = row; first = first }) (filter (picks key pick) part.rows)) (rows_from key pick (first + length part.classes) parts)
      (numbered-legal first (filter (picks key pick) part.rows)
      (filter-legal (picks key pick) part.rows (λ row is_in is. row-legal tell part each.0 row is_in (picked-key pick row is))))
      (rows-legal tell pick (first + length part.classes) parts each.1)

  pub moves-legal : TracksTell → (pick : RowKey → Bool) (parts : List Part) → AllByRecursion IsPart parts
      → AllByRecursion (λ m. Legal at m) (moves_in (rows_from key pick 0 parts))
  moves-legal tell pick parts each = moves-have (λ m. Legal at m) (rows_from key pick 0 parts) (rows-legal tell pick 0 parts each)
