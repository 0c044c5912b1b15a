-- Spans cover the games of a journal, and parts have spans.
use Rattle.std.proofs.Common.{◌≡◌, ℕ, ◌+◌, List, [], ◌∷◌, ◌++◌, map, length, refl, ap, ◌∙◌, sym, subst, append_assoc}
use Rattle.std.specs.List.{AllByRecursion, AllZip}
use Rattle.explorer_model.specs.declared.archive.Batch.{Batch}
use Rattle.explorer_model.specs.declared.archive.Game.{Game}
use Rattle.explorer_model.specs.Spans.{Span, Adjoin, Covers, batches_of}
use Rattle.explorer_model.specs.Visits.{IsTextOf, AreGamesOf, texts_of}
use Rattle.explorer_model.proofs.Lists.{zip-append}
use Rattle.tally_rows.specs.Recount.{all_of}
use Rattle.tally_rows.specs.Tallied.{Tallied}
use Rattle.tally_rows.specs.Tally.{IsTrackOf}
use Rattle.segment_blocks.specs.Segment.{CountedSpan}
use Rattle.lookup.specs.Parts.{Part, IsPart, games_in, journal_of, segment_part, spans_from, tracks_in}
use Rattle.lookup.specs.FromRows.{AreTallied, texts_in}

-- ---- the games of spans are those of their batches

texts-append : (batches others : List Batch) → texts_of (batches ++ others) ≡ texts_of batches ++ texts_of others
texts-append [] others = refl
texts-append (batch ∷ batches) others =
    ap (λ texts. batch.texts ++ texts) (texts-append batches others)
    ∙ sym (append_assoc batch.texts (texts_of batches) (texts_of others))

pub span-games : (spans : List Span) (games : List (List Game)) → AllZip (AllZip IsTextOf) (texts_in spans) games
    → AreGamesOf (batches_of spans) (all_of games)
span-games [] [] of = tt
span-games [] (g ∷ games) of = absurd of
span-games (span ∷ spans) [] of = absurd of
span-games (span ∷ spans) (g ∷ games) of =
    let Z : List (List ℕ) → Type 0 = λ texts. AllZip IsTextOf texts (g ++ all_of games) in
    subst Z (sym (texts-append span.batches (batches_of spans)))
    (zip-append IsTextOf (texts_of span.batches) (texts_of (batches_of spans)) g (all_of games) of.0 (span-games spans games of.1))

-- ---- parts

games-of : (first : ℕ) (parts : List Part) (each : AllByRecursion IsPart parts)
    → AllZip (AllZip IsTextOf) (texts_in (spans_from first parts)) (games_in parts each)
games-of first [] each = tt
games-of first (part ∷ parts) each = (each.0.tally.are_games, games-of (first + length part.batches) parts each.1)

tracks-of : (parts : List Part) (each : AllByRecursion IsPart parts) → AllZip (AllZip IsTrackOf) (games_in parts each) (tracks_in parts each)
tracks-of [] each = tt
tracks-of (part ∷ parts) each = (each.0.tally.are_tracks, tracks-of parts each.1)

rows-of : (parts : List Part) (each : AllByRecursion IsPart parts) → AllZip Tallied (tracks_in parts each) (map (λ part. part.rows) parts)
rows-of [] each = tt
rows-of (part ∷ parts) each = (each.0.tally.tallied, rows-of parts each.1)

pub tallied : (parts : List Part) (each : AllByRecursion IsPart parts)
    → AreTallied (spans_from 0 parts) (games_in parts each) (tracks_in parts each) (map (λ part. part.rows) parts)
tallied parts each = record { are_games = games-of 0 parts each; are_tracks = tracks-of parts each; tallied = rows-of parts each }

adjoins : (first : ℕ) (parts : List Part) → Adjoin first (spans_from first parts)
adjoins first [] = tt
adjoins first (part ∷ parts) = (refl, adjoins (first + length part.batches) parts)

batches-are : (first : ℕ) (parts : List Part) → batches_of (spans_from first parts) ≡ journal_of parts
batches-are first [] = refl
batches-are first (part ∷ parts) = ap (λ l. part.batches ++ l) (batches-are (first + length part.batches) parts)

pub covers : (parts : List Part) → Covers (spans_from 0 parts) (journal_of parts)
covers parts = record { adjoin = adjoins 0 parts; whole = batches-are 0 parts }

-- ---- segments

pub segments-journal : (segments : List CountedSpan) → journal_of (map segment_part segments) ≡ batches_of (map (λ segment. segment.span) segments)
segments-journal [] = refl
segments-journal (segment ∷ segments) = ap (λ l. segment.span.batches ++ l) (segments-journal segments)
