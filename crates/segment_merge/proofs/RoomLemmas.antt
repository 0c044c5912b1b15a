-- Rows of segments: their room, and what is merged of two of them.
use Rattle.std.proofs.Common.{◌≡◌, ℕ, ◌+◌, ◌<◌, ◌≤◌, ◌^◌, Bool, true, false, cond, List, [], ◌∷◌, ◌++◌, map, length, refl, sym, ap, subst, ◌∙◌, add-zero, arith, Option, None, Some, is_some, true≢false}
use Rattle.std.specs.List.{All, AllByRecursion, AllZip}
use Rattle.std.proofs.lemmas.List.{map-append, map-id, length-map}
use Rattle.std.proofs.lemmas.List.Concat.{flat_map-append}
use Rattle.std.proofs.lemmas.List.Elements.{recursion_from_All}
use Rattle.std.proofs.lemmas.List.Sums.{count_by-le-length}
use Rattle.std.proofs.lemmas.Slice.Zip.{AllZip-long}
use Rattle.best_lists.specs.Ranking.{before_by_rating, before_by_month}
use Rattle.best_lists.specs.declared.entry.Entry.{Entry}
use Rattle.best_lists.specs.Entry.{moved_by}
use Rattle.explorer_model.specs.declared.archive.Classes.{Classes}
use Rattle.explorer_model.specs.Visits.{IsTextOf, texts_of}
use Rattle.explorer_model.specs.Counting.{month_number}
use Rattle.tally_rows.specs.declared.row.Row.{Row}
use Rattle.explorer_model.specs.declared.chess.Move.{Move}
use Rattle.tally_rows.specs.declared.single.Single.{Single}
use Rattle.tally_rows.specs.Row.{row_key_of, row_of, shifted_row}
use Rattle.tally_rows.specs.Tallied.{rating_sum, track_month, entries, has_move, IsTally, Tallied}
use Rattle.tally_rows.specs.Tally.{IsTallyOf, IsTrackOf}
use Rattle.tally_rows.specs.Track.{has}
use Rattle.tally_rows.proofs.AddsUp.{count-outcomes}
use Rattle.tally_rows.proofs.TrackBounds.{ratings-bound, track-ratings, best-fit}
use Rattle.tally_rows.proofs.Members.{IsIn, All-IsIn, recursion-from_IsIn}
use Rattle.segment_blocks.specs.Segment.{CountedSpan, IsSegment, IsTallyOfBoth, segment_limit}
use Rattle.segment_merge.specs.Merged.{merged}
use Rattle.segment_merge.specs.Merging.{rows_of_both}
use Rattle.segment_merge.specs.Room.{HasRoom, IsSmall}
use Rattle.segment_merge.proofs.MergedLemmas.{Tallied-merged}

-- ---- lists of the same length

zip-append : {X Y : Type 0} (P : X → Y → Type 0) (xs : List X) (ys : List Y) (us : List X) (vs : List Y) → AllZip P xs ys → AllZip P us vs → AllZip P (xs ++ us) (ys ++ vs)
zip-append P [] [] us vs h k = k
zip-append P [] (y ∷ ys) us vs h k = absurd h
zip-append P (x ∷ xs) [] us vs h k = absurd h
zip-append P (x ∷ xs) (y ∷ ys) us vs h k = (h.0, zip-append P xs ys us vs h.1 k)

module _ (texts : List (List ℕ)) (classes : List Classes) (rows : List Row) (tally : IsTallyOf texts classes rows) where
  pub tracks-length : length tally.tracks ≡ length classes
  tracks-length =
      AllZip-long IsTrackOf tally.games tally.tracks tally.are_tracks ∙ sym (length-map tally.games (λ g. g.classes)) ∙ ap length (sym tally.classes_are)

  -- the rows of a span can be shifted behind so many games
  pub rooms : (by : ℕ) → by + length classes ≤ segment_limit → AllByRecursion (HasRoom by) rows
  rooms by le = recursion-from_IsIn (HasRoom by) rows each
    where
      each : (row : Row) → IsIn row rows → HasRoom by row
      each row m =
          let tracks = tally.tracks in
          let counts = All-IsIn (IsTally tracks) rows tally.tallied.each row m in
          let long = tracks-length in
          let within : by + length tracks ≤ segment_limit = omega (arith, long) in
          let all = count_by-le-length (has (row_key_of row)) tracks in
          let outcomes = count-outcomes (has (row_key_of row)) tracks in
          let fits = λ (list : List Entry). All (λ entry. entry.number + by < 2 ^ 32) list in
          record {
            small = record {
              white = omega (arith, counts.white, outcomes, all, within);
              draws = omega (arith, counts.draws, outcomes, all, within);
              black = omega (arith, counts.black, outcomes, all, within);
              ratings = omega (arith, within, counts.ratings, all, ratings-bound row.key (row_key_of row) tracks (track-ratings texts tally.games tracks tally.are_games tally.are_tracks));
            };
            top = subst fits (sym counts.top) (best-fit rating_sum (has_move (row_key_of row)) before_by_rating by tracks (omega (arith, within)));
            recent = subst fits (sym counts.recent) (best-fit track_month (has_move (row_key_of row)) before_by_month by tracks (omega (arith, within)));
          }

pub IsTallyOf-both : (left_texts right_texts : List (List ℕ)) (left_classes right_classes : List Classes) (ls rs : List Row)
    → IsTallyOf left_texts left_classes ls → IsTallyOf right_texts right_classes rs
    → IsTallyOf (left_texts ++ right_texts) (left_classes ++ right_classes) (merged ls (map (shifted_row (length left_classes)) rs))
IsTallyOf-both left_texts right_texts left_classes right_classes ls rs a b = record {
  games = a.games ++ b.games;
  are_games = zip-append IsTextOf left_texts a.games right_texts b.games a.are_games b.are_games;
  classes_are = (λ i. a.classes_are i ++ b.classes_are i) ∙ sym (map-append (λ g. g.classes) a.games b.games);
  tracks = a.tracks ++ b.tracks;
  are_tracks = zip-append IsTrackOf a.games a.tracks b.games b.tracks a.are_tracks b.are_tracks;
  tallied = subst (λ n. Tallied (a.tracks ++ b.tracks) (merged ls (map (shifted_row n) rs))) (tracks-length left_texts left_classes ls a)
      (Tallied-merged a.tracks b.tracks ls rs a.tallied b.tallied);
}

-- ---- segments

pub room : (segment : CountedSpan) → IsSegment segment → (by : ℕ) → by + length segment.classes ≤ segment_limit
    → AllByRecursion (HasRoom by) segment.rows
room segment h by le = rooms (texts_of segment.span.batches) segment.classes segment.rows h.tally by le

pub tally-both : (left right : CountedSpan) → IsSegment left → IsSegment right → IsTallyOfBoth left right (rows_of_both left right)
tally-both left right a b =
    rw (flat_map-append (λ b. b.texts) left.span.batches right.span.batches)
    (IsTallyOf-both (texts_of left.span.batches) (texts_of right.span.batches) left.classes right.classes left.rows right.rows a.tally b.tally)

-- ---- rows that are not shifted

moved-zero : moved_by 0 ≡ (λ (e : Entry). e)
moved-zero = λ i e. record { rank = e.rank; number = add-zero e.number i }

shifted-zero : shifted_row 0 ≡ (λ (row : Row). row)
unfolding shifted_row
shifted-zero = λ i row. record row { top = all row.top i; recent = all row.recent i }
  where
    all : (entries : List Entry) → map (moved_by 0) entries ≡ entries
    all entries = ap (λ f. map f entries) moved-zero ∙ map-id entries

pub rows-shifted-zero : (rows : List Row) → map (shifted_row 0) rows ≡ rows
rows-shifted-zero rows = ap (λ f. map f rows) shifted-zero ∙ map-id rows

-- a game with room is listed with a number that fits
module _ (by : ℕ) (game : Single) (h : HasRoom by (row_of game)) where
  pub number-fits : is_some game.row_key.next ≡ true → game.number + by < 2 ^ 32
  unfolding row_of
  number-fits e = by_next game.row_key.next refl
    where
      by_next : (next : Option Move) → game.row_key.next ≡ next → game.number + by < 2 ^ 32
      by_next None d = absurd (true≢false (sym e ∙ ap is_some d))
      by_next (Some m) d =
          let fits = λ (e : Entry). e.number + by < 2 ^ 32 in
          let listed : Bool → List Entry = λ b. cond b (record { rank = game.sum; number = game.number } ∷ []) [] in
          let one : AllByRecursion fits (listed true) = recursion_from_All fits (listed true) (subst (λ b. All fits (listed b)) (ap is_some d) h.top) in
          one.0

cond-moved : (by : ℕ) (b : Bool) (e : Entry) → cond b (moved_by by e ∷ []) [] ≡ map (moved_by by) (cond b (e ∷ []) [])
cond-moved by true e = refl
cond-moved by false e = refl

pub game-shifted : (by : ℕ) (game : Single) → row_of (record game { number = game.number + by }) ≡ shifted_row by (row_of game)
unfolding row_of shifted_row
game-shifted by game = λ i. record (row_of game) {
  top = cond-moved by (is_some game.row_key.next) (record { rank = game.sum; number = game.number }) i;
  recent = cond-moved by (is_some game.row_key.next) (record { rank = month_number game.row_key.month; number = game.number }) i;
}

unlisted : (by : ℕ) (b : Bool) (e : Entry) → b ≡ false → cond b (e ∷ []) [] ≡ map (moved_by by) (cond b (e ∷ []) [])
unlisted by true e d = absurd (true≢false d)
unlisted by false e d = refl

pub ended-game-shifted : (by : ℕ) (game : Single) → is_some game.row_key.next ≡ false → row_of game ≡ shifted_row by (row_of game)
unfolding row_of shifted_row
ended-game-shifted by game d = λ i. record (row_of game) {
  top = unlisted by (is_some game.row_key.next) (record { rank = game.sum; number = game.number }) d i;
  recent = unlisted by (is_some game.row_key.next) (record { rank = month_number game.row_key.month; number = game.number }) d i;
}

pub small-shifted : (by : ℕ) (row : Row) → HasRoom by row → IsSmall (shifted_row by row)
unfolding shifted_row
small-shifted by row h = record { white = h.small.white; draws = h.small.draws; black = h.small.black; ratings = h.small.ratings }
