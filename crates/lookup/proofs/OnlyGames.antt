-- The game of a move that just one game plays.
use Rattle.std.proofs.Common.{◌≡◌, ℕ, ◌+◌, Bool, true, false, cond, inl, inr, List, [], ◌∷◌, map, Option, Some, option_map, refl, sym, ap, ◌∙◌, subst, arith}
use Rattle.std.specs.Prelude.{option_and_then}
use Rattle.std.specs.List.{AllByRecursion, flat_map, slice_get}
use Rattle.std.proofs.lemmas.Option.{slice_get-map}
use Rattle.best_lists.specs.Entry.{moved_by}
use Rattle.best_lists.specs.Ranking.{before_by_rating}
use Rattle.best_lists.specs.declared.entry.Entry.{Entry}
use Rattle.best_lists.proofs.BestLaws.{best-one}
use Rattle.explorer_model.specs.Best.{best, others}
use Rattle.explorer_model.specs.Counting.{is_move}
use Rattle.explorer_model.specs.declared.answer.Listed.{Listed}
use Rattle.explorer_model.specs.declared.archive.Classes.{Classes}
use Rattle.explorer_model.specs.declared.chess.Move.{Move}
use Rattle.row_sums.specs.GroupSums.{shown_by}
use Rattle.row_sums.specs.Hits.{NumberedRow}
use Rattle.lookup.specs.Hits.{rows_from}
use Rattle.lookup.specs.Listing.{all_classes}
use Rattle.row_sums.specs.Listing.{listed_as, shown_game}
use Rattle.lookup.specs.Parts.{Part, IsPart, tracks_in}
use Rattle.row_sums.specs.Sums.{entries_where, plays, top_where}
use Rattle.row_sums.proofs.ListedRows.{in-either}
use Rattle.lookup.proofs.Listings.{rows-tell, classes-tracks, track-listed, top-lists, Tells}
use Rattle.tally_rows.specs.Cover.{listing, only_entry}
use Rattle.tally_rows.specs.Recount.{all_of}
use Rattle.tally_rows.specs.Track.{Track}
use Rattle.tally_rows.specs.declared.row.Row.{Row}
use Rattle.tally_rows.specs.declared.row_key.RowKey.{RowKey}
use Rattle.tally_rows.proofs.Members.{IsIn, Found-map}
use Rattle.tally_rows.proofs.Moves.{is_same_move-is}

-- ---- the row of an entry

record IsOf (test : Row → Bool) (hits : List NumberedRow) (entry : Entry) : Type 0 where
  hit : NumberedRow
  is_in : IsIn hit hits
  passes : test hit.row ≡ true
  own : Entry
  listed : IsIn own hit.row.top
  moved : moved_by hit.first own ≡ entry

of-row : (test : Row → Bool) (hit : NumberedRow) (hits : List NumberedRow) (entry : Entry) (b : Bool) → test hit.row ≡ b
    → IsIn entry (cond b (map (moved_by hit.first) hit.row.top) []) → IsOf test (hit ∷ hits) entry
of-row test hit hits entry true passes m =
    let found = Found-map (moved_by hit.first) hit.row.top entry m in
    record { hit = hit; is_in = inl refl; passes = passes; own = found.value; listed = found.is_in; moved = found.holds }
of-row test hit hits entry false passes m = absurd m

of-rows : (test : Row → Bool) (hits : List NumberedRow) (entry : Entry) → IsIn entry (entries_where hits test (λ row. row.top)) → IsOf test hits entry
unfolding entries_where
of-rows test [] entry m = absurd m
of-rows test (hit ∷ hits) entry m =
    elim (in-either (cond (test hit.row) (map (moved_by hit.first) hit.row.top) [])
    (flat_map (λ h. cond (test h.row) (map (moved_by h.first) h.row.top) []) hits) entry m) [
      | inl here ↦ of-row test hit hits entry (test hit.row) refl here
      | inr later ↦ (
          let rest = of-rows test hits entry later in
          record { hit = rest.hit; is_in = inr rest.is_in; passes = rest.passes; own = rest.own; listed = rest.listed; moved = rest.moved })
    ]

-- ---- its game

module _ (key : List ℕ) (pick : RowKey → Bool) (parts : List Part) (each : AllByRecursion IsPart parts) (m : Move) (hits : List NumberedRow)
    (are : hits ≡ rows_from key pick 0 parts) where
  abbrev tracks : List Track
  tracks = all_of (tracks_in parts each)

  entry-listed : (entry : Entry) → IsIn entry (entries_where hits (plays m) (λ row. row.top)) → listed_as (all_classes parts) m entry.number ≡ listing key tracks entry
  entry-listed entry is_in =
      let of = of-rows (plays m) hits entry is_in in
      let told : Tells (λ row. row.top) key 0 tracks of.hit of.own =
      rows-tell (λ row. row.top) top-lists key pick parts each 0 of.hit (subst (IsIn of.hit) are of.is_in) of.own of.listed in
      let number : of.own.number + of.hit.first ≡ entry.number = ap (λ e. e.number) of.moved in
      let place : told.place ≡ entry.number = omega (arith, told.is, number) in
      let track = told.played.track in
      let next = told.played.plays.next in
      let same : m ≡ next = is_same_move-is m next (sym (ap (is_move m) told.played.plays.of_row) ∙ of.passes) in
      let at : slice_get tracks entry.number ≡ Some track = ap (slice_get tracks) (sym place) ∙ told.played.at in
      let classes : slice_get (all_classes parts) entry.number ≡ Some track.classes =
      ap (λ l. slice_get l entry.number) (classes-tracks parts each) ∙ slice_get-map (λ t. t.classes) tracks entry.number
      ∙ ap (option_map (λ (t : Track). t.classes)) at in
      let found : Move → Option Listed = λ n. Some (record { next = n; classes = track.classes }) in
      ap (option_map {U = Listed} (λ (c : Classes). record { next = m; classes = c })) classes
      ∙ ap found same
      ∙ sym (track-listed key (slice_get tracks entry.number) track next at told.played.plays.of_track)

  by-entries : (entries : List Entry) → entries_where hits (plays m) (λ row. row.top) ≡ entries
      → shown_game (all_classes parts) m (shown_by entries) ≡ option_and_then (listing key tracks) (only_entry (best before_by_rating 4 entries))
  unfolding best others
  by-entries [] is = refl
  by-entries (e ∷ []) is =
      entry-listed e (subst (IsIn e) (sym is) (inl refl))
      ∙ ap (λ es. option_and_then (listing key tracks) (only_entry es)) (sym (best-one before_by_rating 3 e))
  by-entries (e ∷ f ∷ es) is = refl

  -- what is shown of a move is the game of the one entry of its rows
  pub only-game : shown_game (all_classes parts) m (shown_by (entries_where hits (plays m) (λ row. row.top)))
      ≡ option_and_then (listing key tracks) (only_entry (top_where hits (plays m)))
  only-game = by-entries (entries_where hits (plays m) (λ row. row.top)) refl
