-- The segments of a set are parts of its journal, and the tags of their games are sound.
use Rattle.std.proofs.Common.{◌≡◌, ℕ, List, [], ◌∷◌, ◌++◌, map, refl, sym, ap, subst}
use Rattle.std.specs.List.{AllByRecursion, AllZip}
use Rattle.explorer_model.specs.SoundClasses.{AreSoundClasses}
use Rattle.explorer_model.specs.Visits.{IsTextOf, texts_of}
use Rattle.explorer_model.specs.declared.archive.Classes.{Classes}
use Rattle.explorer_model.specs.declared.archive.Game.{Game}
use Rattle.lookup.specs.Parts.{IsPart, journal_of, segment_part}
use Rattle.row_sums.specs.Listing.{classes_in}
use Rattle.segment_blocks.specs.Segment.{CountedSpan, IsSegment}
use Rattle.spill_blobs.specs.Sets.{journal_of as set_journal}

pub set-parts : (set : List CountedSpan) → AllByRecursion IsSegment set → AllByRecursion IsPart (map segment_part set)
set-parts [] each = tt
set-parts (segment ∷ set) each = (record { tally = each.0.tally }, set-parts set each.1)

pub set-batches : (set : List CountedSpan) → journal_of (map segment_part set) ≡ set_journal set
set-batches [] = refl
set-batches (segment ∷ set) = ap (λ l. segment.span.batches ++ l) (set-batches set)

-- ---- tags

abbrev pub SoundGames : Type 0
SoundGames = (text : List ℕ) (game : Game) → IsTextOf text game → AreSoundClasses game.classes

games-sound : SoundGames → (texts : List (List ℕ)) (games : List Game) → AllZip IsTextOf texts games → AllByRecursion AreSoundClasses (map (λ game. game.classes) games)
games-sound sound [] [] of = tt
games-sound sound [] (game ∷ games) of = absurd of
games-sound sound (text ∷ texts) [] of = absurd of
games-sound sound (text ∷ texts) (game ∷ games) of = (sound text game of.0, games-sound sound texts games of.1)

append-sound : (classes more : List Classes) → AllByRecursion AreSoundClasses classes → AllByRecursion AreSoundClasses more → AllByRecursion AreSoundClasses (classes ++ more)
append-sound [] more each rest = rest
append-sound (one ∷ classes) more each rest = (each.0, append-sound classes more each.1 rest)

pub set-sound : SoundGames → (set : List CountedSpan) → AllByRecursion IsSegment set → AllByRecursion AreSoundClasses (classes_in set)
set-sound sound [] each = tt
set-sound sound (segment ∷ set) each =
    append-sound segment.classes (classes_in set)
    (subst (AllByRecursion AreSoundClasses) (sym each.0.tally.classes_are)
    (games-sound sound (texts_of segment.span.batches) each.0.tally.games each.0.tally.are_games))
    (set-sound sound set each.1)
