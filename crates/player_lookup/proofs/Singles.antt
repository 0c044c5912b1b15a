-- The row of a game of a number.
use Rattle.std.proofs.Common.{◌≡◌, ℕ, Bool, true, false, List, [], Option, Some, None, sym, ap, ◌∙◌}
use Rattle.std.specs.List.{slice_get}
use Rattle.explorer_model.specs.Tidy.{IsTidied}
use Rattle.explorer_model.specs.Visits.{FirstVisit, GameAt, IsTextOf, counted_stages, texts_of}
use Rattle.explorer_model.specs.declared.archive.Classes.{Classes}
use Rattle.explorer_model.specs.declared.archive.Game.{Game}
use Rattle.explorer_model.specs.declared.chess.Move.{Move}
use Rattle.explorer_model.specs.declared.chess.Position.{Position}
use Rattle.explorer_model.specs.declared.player.PlayerQuery.{PlayerQuery}
use Rattle.player_lookup.specs.Kept.{is_taken, opponent_rating, row_of_single, rows_by, rows_of_game, single_kept}
use Rattle.player_lookup.specs.Seen.{AreSeen, IsGameIn}
use Rattle.player_lookup.proofs.Finding.{IsSeen, OneGame, OneVisit, seen-classes, seen-visit}
use Rattle.segment_blocks.specs.Segment.{CountedSpan}

module _ (q : PlayerQuery) (key : List ℕ) (segments : List CountedSpan) (number : ℕ) (segment : CountedSpan) (place : ℕ) (known : IsGameIn segments number segment place)
    (classes : Classes) (told : slice_get segment.classes place ≡ Some classes) where
  seen-here : (seen : List GameAt) → AreSeen segments q.query.at seen → IsSeen seen number classes
  seen-here seen are = seen-classes segments q.query.at seen are number classes (sym known.classes ∙ told)

  rows-are : (seen : List GameAt) (are : AreSeen segments q.query.at seen) (b : Bool) → is_taken q classes ≡ b
      → rows_of_game q key number (slice_get seen number)
      ≡ rows_by (opponent_rating q) key b number classes (seen-here seen are).value.visit
  rows-are seen are b is =
      let own = seen-here seen are in
      ap (rows_of_game q key number) own.at
      ∙ ap (λ (c : Classes). rows_by (opponent_rating q) key (is_taken q c) number c own.value.visit) own.of
      ∙ ap (λ t. rows_by (opponent_rating q) key t number classes own.value.visit) is

  -- the query doesn't take it
  pub row-untaken : is_taken q classes ≡ false → (seen : List GameAt) → AreSeen segments q.query.at seen
      → [] ≡ rows_of_game q key number (slice_get seen number)
  row-untaken is seen are = sym (rows-are seen are false is)

  module _ (one : OneGame) (first : OneVisit) (taken : is_taken q classes ≡ true) (text : List ℕ)
      (text_is : slice_get (texts_of segment.span.batches) place ≡ Some text) (game : Game) (of : IsTextOf text game) (tidy : Position)
      (tidied : IsTidied q.query.at tidy) where
    visit-is : (visit : Option (Option Move)) → ((at : Position) → IsTidied at tidy → FirstVisit at (counted_stages game) visit)
        → (seen : List GameAt) (are : AreSeen segments q.query.at seen) → (seen-here seen are).value.visit ≡ visit
    visit-is visit visits seen are =
        seen-visit segments q.query.at seen are number one first text game visit (seen-here seen are).value (sym known.text ∙ text_is) of
        (visits q.query.at tidied) (seen-here seen are).at

    -- it doesn't come there
    pub row-none : ((at : Position) → IsTidied at tidy → FirstVisit at (counted_stages game) None) → (seen : List GameAt) → AreSeen segments q.query.at seen
        → [] ≡ rows_of_game q key number (slice_get seen number)
    row-none visits seen are =
        sym (rows-are seen are true taken ∙ ap (rows_by (opponent_rating q) key true number classes) (visit-is None visits seen are))

    -- it does
    pub row-some : (next : Option Move) → ((at : Position) → IsTidied at tidy → FirstVisit at (counted_stages game) (Some next))
        → (seen : List GameAt) → AreSeen segments q.query.at seen
        → row_of_single (Some (single_kept (opponent_rating q) key number classes next)) ≡ rows_of_game q key number (slice_get seen number)
    row-some next visits seen are =
        sym (rows-are seen are true taken ∙ ap (rows_by (opponent_rating q) key true number classes) (visit-is (Some next) visits seen are))
