-- The game of a number, in lists that stand beside one another.
use Rattle.std.proofs.Common.{◌≡◌, ℕ, zero, suc, ◌≤◌, inl, inr, List, [], ◌∷◌, ◌++◌, length, map, Option, Some, Result, Ok, Err, refl, sym, ap, subst, ◌∙◌}
use Rattle.std.specs.List.{AllByRecursion, AllZip, slice_get}
use Rattle.std.proofs.lemmas.List.{map-append}
use Rattle.std.proofs.lemmas.List.Concat.{flat_map-append}
use Rattle.std.proofs.lemmas.List.Elements.{recursion_from_All}
use Rattle.std.proofs.lemmas.Option.{none-some, same_Some}
use Rattle.explorer_model.specs.Cuts.{text_limit}
use Rattle.explorer_model.specs.Games.{GameOf}
use Rattle.explorer_model.specs.Journal.{IsBatch}
use Rattle.explorer_model.specs.Visits.{FirstVisit, GameAt, IsGameAt, IsTextOf, Stage, counted_stages, texts_of}
use Rattle.explorer_model.specs.declared.archive.Batch.{Batch}
use Rattle.explorer_model.specs.declared.archive.Classes.{Classes}
use Rattle.explorer_model.specs.declared.archive.Game.{Game}
use Rattle.explorer_model.specs.declared.chess.Move.{Move}
use Rattle.explorer_model.specs.declared.chess.Position.{Position}
use Rattle.explorer_model.specs.declared.fault.GameFault.{GameFault}
use Rattle.explorer_model.proofs.Lists.{zip-append}
use Rattle.explorer_model.proofs.Readings.{Ok-injective}
use Rattle.player_lookup.specs.Seen.{AreSeen, HasGame}
use Rattle.published_index.specs.Cover.{journal_of}
use Rattle.row_sums.specs.Listing.{classes_in}
use Rattle.row_sums.proofs.ListedRows.{in-either}
use Rattle.segment_blocks.specs.Segment.{CountedSpan, IsSegment}
use Rattle.tally_rows.proofs.Members.{IsIn, All-IsIn}
use Rattle.tally_rows.specs.Cover.{game_at}
use Rattle.tally_rows.specs.Tally.{IsTrackOf}
use Rattle.tally_rows.specs.Track.{Track}

-- what the lower crates say
abbrev pub OneGame : Type 0
OneGame = (text : List ℕ) (game other : Result Game GameFault) → GameOf text game → GameOf text other → game ≡ other

abbrev pub OneVisit : Type 0
OneVisit = (at : Position) (stages : List Stage) (v w : Option (Option Move)) → FirstVisit at stages v → FirstVisit at stages w → v ≡ w

-- ---- places

pub get-IsIn : {X : Type 0} (xs : List X) (i : ℕ) (x : X) → slice_get xs i ≡ Some x → IsIn x xs
get-IsIn [] i x is = absurd (none-some x is)
get-IsIn (y ∷ xs) zero x is = inl (sym (same_Some y x is))
get-IsIn (y ∷ xs) (suc i) x is = inr (get-IsIn xs i x is)

-- the partner of what stands at a place
pub record IsPartner {A B : Type 0} (R : A → B → Type 0) (ys : List B) (i : ℕ) (x : A) : Type 0 where
  pub value : B
  pub at : slice_get ys i ≡ Some value
  pub holds : R x value

pub partner : {A B : Type 0} (R : A → B → Type 0) (xs : List A) (ys : List B) (i : ℕ) (x : A) → AllZip R xs ys → slice_get xs i ≡ Some x → IsPartner R ys i x
partner R [] ys i x each is = absurd (none-some x is)
partner R (a ∷ xs) [] i x each is = absurd each
partner R (a ∷ xs) (b ∷ ys) zero x each is = record { value = b; at = refl; holds = subst (λ a. R a b) (same_Some a x is) each.0 }
partner R (a ∷ xs) (b ∷ ys) (suc i) x each is = (let found = partner R xs ys i x each.1 is in record { value = found.value; at = found.at; holds = found.holds })

-- what a value is made of
pub record IsMadeOfOne {A B : Type 0} (f : A → B) (xs : List A) (i : ℕ) (y : B) : Type 0 where
  pub value : A
  pub at : slice_get xs i ≡ Some value
  pub is : f value ≡ y

pub made-of : {A B : Type 0} (f : A → B) (xs : List A) (i : ℕ) (y : B) → slice_get (map f xs) i ≡ Some y → IsMadeOfOne f xs i y
made-of f [] i y is = absurd (none-some y is)
made-of f (x ∷ xs) zero y is = record { value = x; at = refl; is = same_Some (f x) y is }
made-of f (x ∷ xs) (suc i) y is = (let found = made-of f xs i y is in record { value = found.value; at = found.at; is = found.is })

-- ---- the text of a game

-- a segment's texts can be read, and have games
texts-short : (batches : List Batch) → AllByRecursion IsBatch batches → (text : List ℕ) → IsIn text (texts_of batches) → length text ≤ text_limit
texts-short [] each text m = absurd m
texts-short (batch ∷ batches) each text m = elim (in-either batch.texts (texts_of batches) text m) [
  | inl here ↦ All-IsIn (λ t. length t ≤ text_limit) batch.texts each.0.short text here
  | inr later ↦ texts-short batches each.1 text later
]

module _ (segment : CountedSpan) (known : IsSegment segment) (place : ℕ) (text : List ℕ) (is : slice_get (texts_of segment.span.batches) place ≡ Some text) where
  pub text-short : length text ≤ text_limit
  text-short =
      texts-short segment.span.batches (recursion_from_All IsBatch segment.span.batches known.batches) text
      (get-IsIn (texts_of segment.span.batches) place text is)

  pub text-game : HasGame text
  text-game =
      let found = partner IsTextOf (texts_of segment.span.batches) known.tally.games place text known.tally.are_games is in
      record { game = found.value; is = found.holds }

-- ---- the game as it stands to a position

-- what is known of the game of a number among those that are seen
pub record IsSeen (seen : List GameAt) (number : ℕ) (classes : Classes) : Type 0 where
  pub value : GameAt
  pub at : slice_get seen number ≡ Some value
  pub of : value.classes ≡ classes

module _ (segments : List CountedSpan) (at : Position) (seen : List GameAt) (are : AreSeen segments at seen) (number : ℕ) where
  pub seen-classes : (classes : Classes) → slice_get (classes_in segments) number ≡ Some classes → IsSeen seen number classes
  seen-classes classes is =
      let found = made-of (λ (g : GameAt). g.classes) seen number classes (ap (λ l. slice_get l number) (sym are.classes) ∙ is) in
      record { value = found.value; at = found.at; of = found.is }

  -- its visit is that of the game of its text
  pub seen-visit : OneGame → OneVisit → (text : List ℕ) (game : Game) (visit : Option (Option Move)) (value : GameAt)
      → slice_get (texts_of (journal_of segments)) number ≡ Some text → IsTextOf text game → FirstVisit at (counted_stages game) visit
      → slice_get seen number ≡ Some value → value.visit ≡ visit
  seen-visit one first text game visit value text_is of visits here =
      let g = partner IsTextOf (texts_of (journal_of segments)) are.games number text are.are_games text_is in
      let s = partner (IsGameAt at) are.games seen number g.value are.are_games_at g.at in
      let same_game : g.value ≡ game = Ok-injective g.value game (one text (Ok g.value) (Ok game) g.holds of) in
      let same : s.value ≡ value = same_Some s.value value (sym s.at ∙ here) in
      let V : Game → Type 0 = λ h. FirstVisit at (counted_stages h) s.value.visit in
      sym (ap (λ v. v.visit) same) ∙ first at (counted_stages game) s.value.visit visit (subst V same_game s.holds.1) visits

-- ---- all games as they stand to a position

-- what is seen of the games of segments, and in which list
pub record Sight (segments : List CountedSpan) (at : Position) : Type 0 where
  pub seen : List GameAt
  pub are : AreSeen segments at seen

module _ (at : Position) (key : List ℕ)
    (sees : (text : List ℕ) (game : Game) (track : Track) → IsTextOf text game → IsTrackOf game track → IsGameAt at game (game_at key track)) where
  tracks-see : (texts : List (List ℕ)) (games : List Game) (tracks : List Track) → AllZip IsTextOf texts games → AllZip IsTrackOf games tracks
      → AllZip (IsGameAt at) games (map (game_at key) tracks)
  tracks-see [] [] [] of tracked = tt
  tracks-see [] [] (t ∷ tracks) of tracked = absurd tracked
  tracks-see [] (g ∷ games) tracks of tracked = absurd of
  tracks-see (x ∷ texts) [] tracks of tracked = absurd of
  tracks-see (x ∷ texts) (g ∷ games) [] of tracked = absurd tracked
  tracks-see (x ∷ texts) (g ∷ games) (t ∷ tracks) of tracked = (sees x g t of.0 tracked.0, tracks-see texts games tracks of.1 tracked.1)

  tracks-classes : (games : List Game) (tracks : List Track) → AllZip IsTrackOf games tracks
      → map (λ game. game.classes) games ≡ map (λ (s : GameAt). s.classes) (map (game_at key) tracks)
  tracks-classes [] [] each = refl
  tracks-classes [] (t ∷ tracks) each = absurd each
  tracks-classes (g ∷ games) [] each = absurd each
  tracks-classes (g ∷ games) (t ∷ tracks) each = (let rest = tracks-classes games tracks each.1 in λ k. sym each.0.classes k ∷ rest k)

  pub sight : (segments : List CountedSpan) → AllByRecursion IsSegment segments → Sight segments at
  sight [] each = record { seen = []; are = record { games = []; are_games = tt; are_games_at = tt; classes = refl } }
  sight (segment ∷ segments) each =
      let rest = sight segments each.1 in
      let tally = each.0.tally in
      let texts = texts_of segment.span.batches in
      let own : List GameAt = map (game_at key) tally.tracks in
      let both : texts_of (journal_of (segment ∷ segments)) ≡ texts ++ texts_of (journal_of segments) =
      flat_map-append (λ (b : Batch). b.texts) segment.span.batches (journal_of segments) in
      record {
        seen = own ++ rest.seen;
        are = record {
          games = tally.games ++ rest.are.games;
          are_games = subst (λ l. AllZip IsTextOf l (tally.games ++ rest.are.games)) (sym both)
              (zip-append IsTextOf texts (texts_of (journal_of segments)) tally.games rest.are.games tally.are_games rest.are.are_games);
          are_games_at = zip-append (IsGameAt at) tally.games rest.are.games own rest.seen (tracks-see texts tally.games tally.tracks tally.are_games tally.are_tracks) rest.are.are_games_at;
          classes = (λ k. (tally.classes_are ∙ tracks-classes tally.games tally.tracks tally.are_tracks) k ++ rest.are.classes k)
              ∙ sym (map-append (λ (s : GameAt). s.classes) own rest.seen);
        };
      }

-- ---- a text that has a game has no fault

pub no-fault : OneGame → (text : List ℕ) → HasGame text → (fault : GameFault) → GameOf text (Err fault) → ⊥
no-fault one text has fault faulty = absurd-result (one text (Ok has.game) (Err fault) has.is faulty)
  where
    absurd-result : Ok has.game ≡ Err fault → ⊥
    absurd-result e = cc
