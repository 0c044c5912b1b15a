-- Rows that are picked of counted parts are sound: they count some game each, and have room.
use Rattle.std.proofs.Common.{◌≡◌, ℕ, ◌+◌, ◌<◌, ◌≤◌, ◌^◌, Bool, true, false, ◌&&◌, List, [], ◌∷◌, map, filter, length, length-append, refl, sym, ap, subst, ◌∙◌, arith}
use Rattle.std.specs.List.{All, AllByRecursion, AllZip, sum_by}
use Rattle.std.proofs.lemmas.List.Elements.{All-nil, All-append, All-map, All-filter}
use Rattle.std.proofs.lemmas.List.Sums.{sum_by-cons, count_by-le-length}
use Rattle.best_lists.specs.Ranking.{before_by_rating, before_by_month}
use Rattle.best_lists.specs.declared.entry.Entry.{Entry}
use Rattle.row_sums.specs.Hits.{look_limit}
use Rattle.explorer_model.specs.Visits.{texts_of}
use Rattle.tally_rows.specs.declared.row_key.RowKey.{RowKey}
use Rattle.tally_rows.specs.declared.row.Row.{Row}
use Rattle.tally_rows.specs.Adding as adding
use Rattle.tally_rows.specs.Recount.{all_of, picks, picked_sum, is_counted, GivesPicked}
use Rattle.tally_rows.specs.Row.{row_key_of}
use Rattle.tally_rows.specs.Tallied.{rating_sum, track_month, has_move, IsTally, Tallied}
use Rattle.lookup.specs.Parts.{Part, IsPart}
use Rattle.tally_rows.specs.Track.{Track, has}
use Rattle.tally_rows.proofs.AddsUp.{count-outcomes}
use Rattle.tally_rows.proofs.Members.{IsIn, All-from_IsIn, All-IsIn}
use Rattle.tally_rows.proofs.Sums.{sum_by-add}
use Rattle.tally_rows.proofs.TrackBounds.{ratings-bound, track-ratings, best-fit}
use Rattle.row_sums.specs.Hits.{NumberedRow, games_of, IsSound, AreSound}
use Rattle.lookup.specs.Hits.{rows_from, games_counted}
use Rattle.row_sums.specs.Sums.{sum_where}
use Rattle.lookup.specs.Parts.{tracks_in}
use Rattle.lookup.proofs.Bridges.{rows_in, tracks-length, sum-picked}
use Rattle.lookup.proofs.Numbered.{numbered}

-- what is known of tallied rows
pub record Laws : Type 0 where
  pub gives : (cover : List (List Track)) (parts : List (List Row)) → AllZip Tallied cover parts
      → (bytes : List ℕ) (pick : RowKey → Bool) → GivesPicked bytes pick cover parts
  pub sound : (tracks : List Track) (rows : List Row) → Tallied tracks rows → All adding.IsSound rows

-- ---- how many games

all-games : (parts : List Part) (each : AllByRecursion IsPart parts) → length (all_of (tracks_in parts each)) ≡ games_counted parts
all-games [] each = refl
all-games (part ∷ parts) each =
    length-append each.0.tally.tracks (all_of (tracks_in parts each.1))
    ∙ (λ i. tracks-length part each.0 i + all-games parts each.1 i)
    ∙ sym (sum_by-cons (λ (t : Part). length t.classes) part parts)

module _ (key : List ℕ) (pick : RowKey → Bool) (parts : List Part) where
  sum-all : (count : Row → ℕ) → sum_by (λ hit. count hit.row) (rows_from key pick 0 parts) ≡ sum_by (picked_sum key pick count) (rows_in parts)
  unfolding sum_where
  sum-all count = sym (sum-picked key pick pick (λ row. true) (λ row. and_true (picks key pick row)) count 0 parts)
    where
      and_true : (b : Bool) → b ≡ (b && true)
      and_true true = refl
      and_true false = refl

  games-split : (hits : List NumberedRow) → sum_by (λ hit. games_of hit.row) hits
      ≡ sum_by (λ hit. hit.row.white) hits + sum_by (λ hit. hit.row.draws) hits + sum_by (λ hit. hit.row.black) hits
  games-split hits =
      sum_by-add (λ (hit : NumberedRow). hit.row.white + hit.row.draws) (λ hit. hit.row.black) hits
      ∙ ap (λ n. n + sum_by (λ hit. hit.row.black) hits) (sum_by-add (λ (hit : NumberedRow). hit.row.white) (λ hit. hit.row.draws) hits)

  -- a game is in at most one row of a position
  games-few : (each : AllByRecursion IsPart parts) → GivesPicked key pick (tracks_in parts each) (rows_in parts)
      → sum_by (λ hit. games_of hit.row) (rows_from key pick 0 parts) ≤ games_counted parts
  games-few each gives =
      let tracks = all_of (tracks_in parts each) in
      let hits = rows_from key pick 0 parts in
      omega (
        arith,
        games-split hits,
        sum-all (λ row. row.white) ∙ gives.white,
        sum-all (λ row. row.draws) ∙ gives.draws,
        sum-all (λ row. row.black) ∙ gives.black,
        count-outcomes (is_counted key pick) tracks,
        count_by-le-length (is_counted key pick) tracks,
        all-games parts each,
      )

-- ---- each row

row-sound : Laws → (part : Part) (counted : IsPart part) (first : ℕ) → first + length part.classes ≤ look_limit
    → All (λ row. IsSound (numbered first row)) part.rows
row-sound laws part counted first le = All-from_IsIn (λ row. IsSound (numbered first row)) part.rows sound
  where
    sound : (row : Row) → IsIn row part.rows → IsSound (numbered first row)
    sound row m =
        let tracks = counted.tally.tracks in
        let tallied = counted.tally.tallied in
        let counts = All-IsIn (IsTally tracks) part.rows tallied.each row m in
        let fine = All-IsIn adding.IsSound part.rows (laws.sound tracks part.rows tallied) row m in
        let within : first + length tracks ≤ look_limit = omega (arith, tracks-length part counted) in
        let fits = λ (list : List Entry). All (λ entry. entry.number + first < 2 ^ 32) list in
        record {
          some = fine.some;
          ratings = omega (
            arith,
            counts.white,
            counts.draws,
            counts.black,
            counts.ratings,
            count-outcomes (has (row_key_of row)) tracks,
            ratings-bound row.key (row_key_of row) tracks
                (track-ratings (texts_of part.batches) counted.tally.games tracks counted.tally.are_games counted.tally.are_tracks),
          );
          top = subst fits (sym counts.top) (best-fit rating_sum (has_move (row_key_of row)) before_by_rating first tracks (omega (arith, within)));
          recent = subst fits (sym counts.recent) (best-fit track_month (has_move (row_key_of row)) before_by_month first tracks (omega (arith, within)));
        }

rows-sound : Laws → (key : List ℕ) (pick : RowKey → Bool) (first : ℕ) (parts : List Part) → AllByRecursion IsPart parts
    → first + games_counted parts ≤ look_limit → All IsSound (rows_from key pick first parts)
unfolding rows_from
rows-sound laws key pick first [] each le = All-nil IsSound
rows-sound laws key pick first (part ∷ parts) each le =
    let split = sum_by-cons (λ (t : Part). length t.classes) part parts in
    All-append IsSound (map (numbered first) (filter (picks key pick) part.rows)) (rows_from key pick (first + length part.classes) parts)
    (All-map IsSound (numbered first) (filter (picks key pick) part.rows)
    (All-filter (picks key pick) (λ row. IsSound (numbered first row)) part.rows (row-sound laws part each.0 first (omega (arith, split)))))
    (rows-sound laws key pick (first + length part.classes) parts each.1 (omega (arith, split)))

pub are-sound : Laws → (parts : List Part) → AllByRecursion IsPart parts → games_counted parts ≤ look_limit
    → (key : List ℕ) (pick : RowKey → Bool) → AreSound (rows_from key pick 0 parts)
are-sound laws parts each le key pick = record {
  each = rows-sound laws key pick 0 parts each (omega arith);
  few = omega (arith, games-few key pick parts each (laws.gives (tracks_in parts each) (rows_in parts) (tallied parts each) key pick));
}
  where
    tallied : (ts : List Part) (e : AllByRecursion IsPart ts) → AllZip Tallied (tracks_in ts e) (rows_in ts)
    tallied [] e = tt
    tallied (t ∷ ts) e = (e.0.tally.tallied, tallied ts e.1)
