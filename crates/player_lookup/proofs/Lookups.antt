-- The rows of a player's games, as the index tells them, are those of the games that are wanted.
use Rattle.std.proofs.Common.{◌≡◌, ℕ, ◌+◌, ◌<◌, Bool, List, [], ◌∷◌, length, map, refl, sym, ap, subst, ◌∙◌, zero-add}
use Rattle.std.specs.List.{AllByRecursion, AllZip}
use Rattle.explorer_model.specs.Players.{plays_as}
use Rattle.explorer_model.specs.Visits.{GameAt, IsGameAt}
use Rattle.explorer_model.specs.declared.archive.Classes.{Classes}
use Rattle.explorer_model.specs.declared.archive.Game.{Game}
use Rattle.explorer_model.specs.declared.chess.Position.{Position}
use Rattle.explorer_model.specs.declared.player.PlayerQuery.{PlayerQuery}
use Rattle.player_index.specs.Entries.{numbers_where}
use Rattle.player_index.specs.Index.{AreClassesOf}
use Rattle.player_index.specs.declared.entry.Entry.{Entry}
use Rattle.player_lookup.specs.Kept.{rows_of_numbers}
use Rattle.player_lookup.specs.Seen.{AreKept, AreSeen}
use Rattle.player_lookup.proofs.Finding.{Sight}
use Rattle.player_lookup.proofs.Ranged.{numbers-below, ranged}
use Rattle.published_index.specs.Cover.{journal_of}
use Rattle.row_sums.specs.Hits.{NumberedRow}
use Rattle.row_sums.specs.Listing.{classes_in}
use Rattle.segment_blocks.specs.Segment.{CountedSpan}

zip-classes : (at : Position) (games : List Game) (seen : List GameAt) → AllZip (IsGameAt at) games seen
    → map (λ (s : GameAt). s.classes) seen ≡ map (λ (g : Game). g.classes) games
zip-classes at [] [] each = refl
zip-classes at [] (s ∷ seen) each = absurd each
zip-classes at (g ∷ games) [] each = absurd each
zip-classes at (g ∷ games) (s ∷ seen) each = (let rest = zip-classes at games seen each.1 in λ k. each.0.0 k ∷ rest k)

entries-have : (limit : ℕ) (entries : List Entry) (numbers : List ℕ) → map (λ (e : Entry). e.number) entries ≡ numbers
    → AllByRecursion (λ n. n < limit) numbers → AllByRecursion (λ (e : Entry). e.number < limit) entries
entries-have limit entries numbers is each = by entries (subst (AllByRecursion (λ n. n < limit)) (sym is) each)
  where
    by : (entries : List Entry) → AllByRecursion (λ n. n < limit) (map (λ (e : Entry). e.number) entries) → AllByRecursion (λ (e : Entry). e.number < limit) entries
    by [] each = tt
    by (e ∷ entries) each = (each.0, by entries each.1)

module _ (segments : List CountedSpan) (at : Position) (sight : Sight segments at) where
  -- what segments say of their games is what the tags of these say
  pub sight-classes : AreClassesOf (journal_of segments) (classes_in segments)
  sight-classes = record {
    games = sight.are.games;
    are_games = sight.are.are_games;
    are_classes = sight.are.classes ∙ zip-classes at sight.are.games sight.seen sight.are.are_games_at;
  }

pub entries-within : (segments : List CountedSpan) (test : Classes → Bool) (entries : List Entry)
    → map (λ (e : Entry). e.number) entries ≡ numbers_where test 0 (classes_in segments)
    → AllByRecursion (λ (e : Entry). e.number < length (classes_in segments)) entries
entries-within segments test entries are =
    let limit : 0 + length (classes_in segments) ≡ length (classes_in segments) = zero-add (length (classes_in segments)) in
    entries-have (length (classes_in segments)) entries (numbers_where test 0 (classes_in segments)) are
    (subst (λ l. AllByRecursion (λ n. n < l) (numbers_where test 0 (classes_in segments))) limit (numbers-below test 0 (classes_in segments)))

-- the rows of the index's range are those of the games that are wanted
pub rows-kept : (q : PlayerQuery) (key : List ℕ) (segments : List CountedSpan) (sight : Sight segments q.query.at) (entries : List Entry) (hits : List NumberedRow)
    → map (λ (e : Entry). e.number) entries ≡ numbers_where (plays_as q.player q.color) 0 (classes_in segments)
    → ((seen : List GameAt) → AreSeen segments q.query.at seen → hits ≡ rows_of_numbers q key seen (map (λ (e : Entry). e.number) entries))
    → AreKept q segments hits
rows-kept q key segments sight entries hits numbers rows = record {
  key = key;
  seen = sight.seen;
  are_seen = sight.are;
  rows = rows sight.seen sight.are
      ∙ ap (rows_of_numbers q key sight.seen) (numbers ∙ ap (numbers_where (plays_as q.player q.color) 0) sight.are.classes)
      ∙ ranged q key [] sight.seen 0 refl;
}
