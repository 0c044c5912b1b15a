-- What is put together of the rows of a player's games is what is found.
use Rattle.std.proofs.Common.{◌≡◌, ℕ, ◌/◌, ◌≤◌, List, [], ◌∷◌, length, map, sym, ap, subst, ◌∙◌, arith}
use Rattle.std.proofs.lemmas.List.{length-map}
use Rattle.std.specs.List.{AllByRecursion, AllZip}
use Rattle.explorer_model.specs.Board.{opponent}
use Rattle.explorer_model.specs.Counting.{any_next, first_moves, is_move, move_totals, rating_of, total}
use Rattle.explorer_model.specs.Players.{IsPlayerFound, IsPlayerLineOf, IsPlayerRecount, is_wanted}
use Rattle.explorer_model.specs.SoundClasses.{AreSoundClasses}
use Rattle.explorer_model.specs.Visits.{GameAt, IsGameAt, IsTextOf, texts_of}
use Rattle.explorer_model.specs.declared.archive.Classes.{Classes}
use Rattle.explorer_model.specs.declared.archive.Game.{Game}
use Rattle.explorer_model.specs.declared.chess.Color.{Color}
use Rattle.explorer_model.specs.declared.chess.Color.TheVariants.{White, Black}
use Rattle.explorer_model.specs.declared.chess.Move.{Move}
use Rattle.explorer_model.specs.declared.chess.Position.{Position}
use Rattle.explorer_model.specs.declared.player.PlayerFound.{PlayerFound}
use Rattle.explorer_model.specs.declared.player.PlayerLine.{PlayerLine}
use Rattle.explorer_model.specs.declared.player.PlayerQuery.{PlayerQuery}
use Rattle.player_lookup.specs.Kept.{opponent_rating, rows_kept}
use Rattle.player_lookup.specs.Made.{HasMean, IsLineFrom, IsMadeOf, moves_listed}
use Rattle.player_lookup.specs.Seen.{AreKept}
use Rattle.player_lookup.proofs.KeptGames.{kept-sound}
use Rattle.player_lookup.proofs.Latest.{latest-kept}
use Rattle.player_lookup.proofs.OnlyGame.{only-kept}
use Rattle.player_lookup.proofs.Recounts.{first-same, ratings-kept, totals-kept}
use Rattle.published_index.specs.Cover.{journal_of}
use Rattle.row_sums.specs.Hits.{AreSound, NumberedRow}
use Rattle.row_sums.specs.Listing.{classes_in}
use Rattle.row_sums.specs.MoveSums.{IsAveraged, sum_as}
use Rattle.row_sums.specs.Sums.{plays, totals_where}
use Rattle.segment_blocks.specs.Segment.{CountedSpan}

-- ---- rows are sound

abbrev pub SoundGames : Type 0
SoundGames = (text : List ℕ) (game : Game) → IsTextOf text game → AreSoundClasses game.classes

rating-low : (color : Color) (classes : Classes) → AreSoundClasses classes → rating_of (opponent color) classes ≤ 65535
rating-low White classes sound = omega (arith, sound.black)
rating-low Black classes sound = omega (arith, sound.white)

ratings-low : SoundGames → (color : Color) (at : Position) (texts : List (List ℕ)) (games : List Game) (seen : List GameAt)
    → AllZip IsTextOf texts games → AllZip (IsGameAt at) games seen → AllByRecursion (λ s. rating_of (opponent color) s.classes ≤ 65535) seen
ratings-low sound color at [] [] [] of are = tt
ratings-low sound color at [] [] (s ∷ seen) of are = absurd are
ratings-low sound color at [] (g ∷ games) seen of are = absurd of
ratings-low sound color at (t ∷ texts) [] seen of are = absurd of
ratings-low sound color at (t ∷ texts) (g ∷ games) [] of are = absurd are
ratings-low sound color at (t ∷ texts) (g ∷ games) (s ∷ seen) of are = (
  rating-low color s.classes (subst AreSoundClasses (sym are.0.0) (sound t g of.0)),
  ratings-low sound color at texts games seen of.1 are.1,
)

pub sound-rows : SoundGames → (q : PlayerQuery) (segments : List CountedSpan) (hits : List NumberedRow) → AreKept q segments hits
    → length (classes_in segments) ≤ 16777216 → AreSound hits
sound-rows sound q segments hits kept few =
    let are = kept.are_seen in
    subst AreSound (sym kept.rows)
    (kept-sound (opponent_rating q) kept.key (is_wanted q) kept.seen
    (ratings-low sound q.color q.query.at (texts_of (journal_of segments)) are.games kept.seen are.are_games are.are_games_at)
    (omega (arith, few, ap length are.classes ∙ length-map kept.seen (λ (game : GameAt). game.classes))))

-- ---- the moves that are listed

pub listed-moves : (q : PlayerQuery) (segments : List CountedSpan) (hits : List NumberedRow) (kept : AreKept q segments hits)
    → moves_listed q hits ≡ first_moves q.query.moves (is_wanted q) kept.seen
listed-moves q segments hits kept =
    ap (moves_listed q) kept.rows ∙ first-same (is_wanted q) (opponent_rating q) kept.key kept.seen q.query.moves

-- the sums of these moves have means
pub have-means : (hits : List NumberedRow) (moves : List Move) → AllByRecursion (IsAveraged hits) moves → AllByRecursion HasMean (map (sum_as hits) moves)
have-means hits [] each = tt
have-means hits (m ∷ moves) each = (record { played = each.0.played; few = each.0.few; rated = each.0.rated }, have-means hits moves each.1)

-- ---- the answer

module _ (q : PlayerQuery) (key : List ℕ) (seen : List GameAt) where
  abbrev rows : List NumberedRow
  rows = rows_kept (opponent_rating q) key (is_wanted q) 0 seen

  line-made : (m : Move) (line : PlayerLine) → IsLineFrom q.query.at (map (λ game. game.classes) seen) (sum_as rows m) line → IsPlayerLineOf q seen m line
  line-made m line made =
      let totals : totals_where rows (plays m) ≡ move_totals (is_wanted q) seen m = totals-kept (is_wanted q) (opponent_rating q) key (is_move m) 0 seen in
      let ratings = ratings-kept (is_wanted q) (opponent_rating q) key m 0 seen in
      record {
        next = made.next;
        san = made.san;
        average = made.average ∙ (λ k. ratings k / total (totals k));
        totals = made.totals ∙ totals;
        game = made.game ∙ only-kept (opponent_rating q) key (is_wanted q) m seen;
      }

  lines-made : (moves : List Move) (lines : List PlayerLine)
      → AllZip (IsLineFrom q.query.at (map (λ game. game.classes) seen)) (map (sum_as rows) moves) lines → AllZip (IsPlayerLineOf q seen) moves lines
  lines-made [] [] zip = tt
  lines-made [] (line ∷ lines) zip = absurd zip
  lines-made (m ∷ moves) [] zip = absurd zip
  lines-made (m ∷ moves) (line ∷ lines) zip = (line-made m line zip.0, lines-made moves lines zip.1)

  pub recounted : (found : PlayerFound) → q.query.recent ≤ 4 → IsMadeOf q (map (λ game. game.classes) seen) rows found → IsPlayerRecount q seen found
  recounted found few made = record {
    totals = made.totals ∙ totals-kept (is_wanted q) (opponent_rating q) key any_next 0 seen;
    moves = subst (λ moves. AllZip (IsPlayerLineOf q seen) moves found.moves) (first-same (is_wanted q) (opponent_rating q) key seen q.query.moves)
        (lines-made (moves_listed q rows) found.moves made.lines);
    recent = latest-kept (opponent_rating q) key (is_wanted q) seen q.query.recent found.recent few made.recent;
  }

pub found-made : (q : PlayerQuery) (segments : List CountedSpan) (hits : List NumberedRow) (found : PlayerFound) → q.query.recent ≤ 4 → AreKept q segments hits
    → IsMadeOf q (classes_in segments) hits found → IsPlayerFound (journal_of segments) q found
found-made q segments hits found few kept made =
    let are = kept.are_seen in
    record {
      games = are.games;
      are_games = are.are_games;
      games_at = kept.seen;
      are_games_at = are.are_games_at;
      recount = recounted q kept.key kept.seen found few
          (subst (λ h. IsMadeOf q (map (λ game. game.classes) kept.seen) h found) kept.rows
          (subst (λ classes. IsMadeOf q classes hits found) are.classes made));
    }
