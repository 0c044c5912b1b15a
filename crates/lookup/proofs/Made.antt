-- What is made of rows is what is found in the games.
use Rattle.std.proofs.Common.{◌≡◌, ◌/◌, ℕ, Bool, true, false, List, [], ◌∷◌, ◌++◌, map, Option, Some, None, sym, ap, ◌∙◌, subst, refl}
use Rattle.std.specs.List.{AllByRecursion, AllZip}
use Rattle.std.proofs.lemmas.List.{map-append}
use Rattle.std.proofs.lemmas.List.Elements.{All-from_recursion}
use Rattle.plain_laws.specs.Lists.{each-append}
use Rattle.explorer_model.specs.SoundClasses.{IsMonth}
use Rattle.explorer_model.specs.declared.answer.Found.{Found}
use Rattle.explorer_model.specs.declared.answer.Listed.{Listed}
use Rattle.explorer_model.specs.declared.archive.Classes.{Classes}
use Rattle.explorer_model.specs.declared.archive.Game.{Game}
use Rattle.explorer_model.specs.declared.chess.Move.{Move}
use Rattle.explorer_model.specs.declared.chess.Position.{Position}
use Rattle.explorer_model.specs.declared.query.Query.{Query}
use Rattle.explorer_model.specs.Counting.{passes, rating_of, counts, any_next, is_move, total, rating_sum, move_totals, first_moves, games_by, before_by_rating, before_by_month}
use Rattle.explorer_model.specs.Finds.{history_of, IsLineOf, IsFoundOf}
use Rattle.explorer_model.proofs.Lists.{zip-append}
use Rattle.explorer_model.proofs.SoundClasses.{game-sound}
use Rattle.explorer_model.specs.Spans.{Span}
use Rattle.explorer_model.specs.Visits.{GameAt, IsTextOf, IsGameAt}
use Rattle.tally_rows.specs.declared.row.Row.{Row}
use Rattle.tally_rows.specs.Cover.{game_at, turn_of, meets, rows_totals, Recounts}
use Rattle.tally_rows.specs.Recount.{all_of}
use Rattle.tally_rows.specs.Tally.{IsTrackOf}
use Rattle.tally_rows.specs.Track.{Track}
use Rattle.lookup.specs.FromRows.{AreTallied, texts_in, IsAnswerable, IsRowsLine, rows_history, IsFromRows}

-- ---- spans, one after another

-- a game of a text, seen by its track
abbrev pub Sees : Position → List ℕ → Type 0
Sees at bytes = (text : List ℕ) (game : Game) (track : Track) → IsTextOf text game → IsTrackOf game track → IsGameAt at game (game_at bytes track)

span-games_at : (at : Position) (bytes : List ℕ) → Sees at bytes → (texts : List (List ℕ)) (games : List Game) (tracks : List Track)
    → AllZip IsTextOf texts games → AllZip IsTrackOf games tracks → AllZip (IsGameAt at) games (map (game_at bytes) tracks)
span-games_at at bytes sees [] [] [] of tracked = tt
span-games_at at bytes sees [] [] (t ∷ tracks) of tracked = absurd tracked
span-games_at at bytes sees [] (g ∷ games) tracks of tracked = absurd of
span-games_at at bytes sees (x ∷ texts) [] tracks of tracked = absurd of
span-games_at at bytes sees (x ∷ texts) (g ∷ games) [] of tracked = absurd tracked
span-games_at at bytes sees (x ∷ texts) (g ∷ games) (t ∷ tracks) of tracked =
    (sees x g t of.0 tracked.0, span-games_at at bytes sees texts games tracks of.1 tracked.1)

span-months : (texts : List (List ℕ)) (games : List Game) (tracks : List Track) → AllZip IsTextOf texts games → AllZip IsTrackOf games tracks
    → AllByRecursion (λ track. IsMonth track.classes.month) tracks
span-months [] [] [] of tracked = tt
span-months [] [] (t ∷ tracks) of tracked = absurd tracked
span-months [] (g ∷ games) tracks of tracked = absurd of
span-months (x ∷ texts) [] tracks of tracked = absurd of
span-months (x ∷ texts) (g ∷ games) [] of tracked = absurd tracked
span-months (x ∷ texts) (g ∷ games) (t ∷ tracks) of tracked = (
  (let M : Classes → Type 0 = λ c. IsMonth c.month in subst M (sym tracked.0.classes) (game-sound x g of.0).month),
  span-months texts games tracks of.1 tracked.1,
)

spans-games_at : (at : Position) (bytes : List ℕ) → Sees at bytes → (texts : List (List (List ℕ))) (games : List (List Game)) (cover : List (List Track))
    → AllZip (AllZip IsTextOf) texts games → AllZip (AllZip IsTrackOf) games cover
    → AllZip (IsGameAt at) (all_of games) (map (game_at bytes) (all_of cover))
spans-games_at at bytes sees [] [] [] of tracked = tt
spans-games_at at bytes sees [] [] (t ∷ cover) of tracked = absurd tracked
spans-games_at at bytes sees [] (g ∷ games) cover of tracked = absurd of
spans-games_at at bytes sees (x ∷ texts) [] cover of tracked = absurd of
spans-games_at at bytes sees (x ∷ texts) (g ∷ games) [] of tracked = absurd tracked
spans-games_at at bytes sees (x ∷ texts) (g ∷ games) (t ∷ cover) of tracked =
    let Z : List GameAt → Type 0 = λ games_at. AllZip (IsGameAt at) (g ++ all_of games) games_at in
    subst Z (sym (map-append (game_at bytes) t (all_of cover)))
    (zip-append (IsGameAt at) g (all_of games) (map (game_at bytes) t) (map (game_at bytes) (all_of cover))
    (span-games_at at bytes sees x g t of.0 tracked.0) (spans-games_at at bytes sees texts games cover of.1 tracked.1))

spans-months : (texts : List (List (List ℕ))) (games : List (List Game)) (cover : List (List Track))
    → AllZip (AllZip IsTextOf) texts games → AllZip (AllZip IsTrackOf) games cover
    → AllByRecursion (λ track. IsMonth track.classes.month) (all_of cover)
spans-months [] [] [] of tracked = tt
spans-months [] [] (t ∷ cover) of tracked = absurd tracked
spans-months [] (g ∷ games) cover of tracked = absurd of
spans-months (x ∷ texts) [] cover of tracked = absurd of
spans-months (x ∷ texts) (g ∷ games) [] of tracked = absurd tracked
spans-months (x ∷ texts) (g ∷ games) (t ∷ cover) of tracked =
    each-append (λ track. IsMonth track.classes.month) t (all_of cover) (span-months x g t of.0 tracked.0) (spans-months texts games cover of.1 tracked.1)

-- ---- lists

zip-with : {A B : Type 0} (R S : A → B → Type 0) (xs : List A) (ys : List B) → ((x : A) (y : B) → R x y → S x y) → AllZip R xs ys → AllZip S xs ys
zip-with R S [] [] each zip = tt
zip-with R S [] (y ∷ ys) each zip = absurd zip
zip-with R S (x ∷ xs) [] each zip = absurd zip
zip-with R S (x ∷ xs) (y ∷ ys) each zip = (each x y zip.0, zip-with R S xs ys each zip.1)

somes : List (Option Listed) → List Listed
somes [] = []
somes (None ∷ rest) = somes rest
somes (Some x ∷ rest) = x ∷ somes rest

somes-map : (xs : List Listed) → somes (map Some xs) ≡ xs
unfolding somes
somes-map [] = refl
somes-map (x ∷ xs) = ap (λ l. x ∷ l) (somes-map xs)

same-lists : (xs ys : List Listed) → map Some xs ≡ map Some ys → xs ≡ ys
same-lists xs ys is = sym (somes-map xs) ∙ ap somes is ∙ somes-map ys

-- ---- the recount

pub found-in-rows : (spans : List Span) (games : List (List Game)) (cover : List (List Track)) (tallies : List (List Row))
    (query : Query) (bytes : List ℕ) (found : Found)
    → Sees query.at bytes → turn_of bytes ≡ query.at.turn → Recounts bytes query.filter cover tallies
    → AreTallied spans games cover tallies → IsAnswerable query bytes → IsFromRows query bytes cover tallies found
    → IsFoundOf (all_of games) query found
found-in-rows spans games cover tallies query bytes found sees turn gives covers can made =
    let games_at : List GameAt = map (game_at bytes) (all_of cover) in
    let L : List Move → Type 0 = λ ms. AllZip (IsRowsLine query bytes cover tallies) ms found.moves in
    record {
      games_at = games_at;
      are_games_at = spans-games_at query.at bytes sees (texts_in spans) games cover covers.are_games covers.are_tracks;
      recount = record {
        totals = made.totals ∙ sym (gives.totals any_next);
        moves = zip-with (IsRowsLine query bytes cover tallies) (IsLineOf query games_at) (first_moves query.moves (passes query.filter) games_at) found.moves
            (λ m line is. record {
              next = is.next;
              san = is.san;
              average = is.average
                  ∙ ap (λ r. r / total (rows_totals bytes tallies (meets query.filter (is_move m)))) (sym (gives.ratings m))
                  ∙ ap (λ t. rating_sum (rating_of (turn_of bytes)) (counts (is_move m) (passes query.filter)) games_at / total t) (sym (gives.totals (is_move m)))
                  ∙ ap (λ c. rating_sum (rating_of c) (counts (is_move m) (passes query.filter)) games_at / total (move_totals (passes query.filter) games_at m)) turn;
              totals = is.totals ∙ sym (gives.totals (is_move m));
              game = is.game ∙ sym (gives.only_game m);
            })
            (subst L (sym (gives.moves query.moves)) made.moves);
        top = same-lists found.top (games_by before_by_rating query.top (passes query.filter) games_at) (made.top ∙ sym (gives.top query.top can.top));
        recent = same-lists found.recent (games_by before_by_month query.recent (passes query.filter) games_at) (made.recent ∙ sym (gives.recent query.recent can.recent));
        history = made.history ∙ history-by query.history;
      };
    }
  where
    history-by : (asked : Bool) → rows_history query bytes cover tallies asked ≡ history_of asked (passes query.filter) (map (game_at bytes) (all_of cover))
    history-by false = refl
    history-by true = sym (gives.history (All-from_recursion (λ track. IsMonth track.classes.month) (all_of cover) (spans-months (texts_in spans) games cover covers.are_games covers.are_tracks)))
