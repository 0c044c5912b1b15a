-- The games of segments, one segment after another.
use Rattle.std.proofs.Common.{◌≡◌, ℕ, ◌+◌, ◌-◌, ◌<◌, ◌≤◌, List, ◌∷◌, ◌++◌, length, drop, get_or, sym, ap, ◌∙◌, refl, arith}
use Rattle.std.specs.List.{slice_get}
use Rattle.std.proofs.lemmas.List.{drop_all, drop_more, length-append, length-map}
use Rattle.std.proofs.lemmas.List.Concat.{flat_map-append}
use Rattle.std.proofs.lemmas.Slice.Zip.{AllZip-long}
use Rattle.plain_laws.specs.Lists.{get-front}
use Rattle.explorer_model.specs.declared.archive.Batch.{Batch}
use Rattle.explorer_model.specs.Visits.{IsTextOf, texts_of}
use Rattle.player_lookup.specs.Seen.{IsGameIn}
use Rattle.published_index.specs.Cover.{journal_of}
use Rattle.row_sums.specs.Listing.{classes_in}
use Rattle.row_sums.proofs.Places.{get-right}
use Rattle.segment_blocks.specs.Segment.{CountedSpan, IsSegment}

-- the game of a number stands at a place among the games of the segments from one on
pub record IsLeft (segments : List CountedSpan) (number i left : ℕ) : Type 0 where
  pub within : left < length (classes_in (drop i segments))
  pub classes : slice_get (classes_in (drop i segments)) left ≡ slice_get (classes_in segments) number
  pub text : slice_get (texts_of (journal_of (drop i segments))) left ≡ slice_get (texts_of (journal_of segments)) number

pub left-first : (segments : List CountedSpan) (number : ℕ) → number < length (classes_in segments) → IsLeft segments number 0 number
left-first segments number within = record { within = within; classes = refl; text = refl }

-- a segment has a text for each of its games
segment-long : (segment : CountedSpan) → IsSegment segment → length (texts_of segment.span.batches) ≡ length segment.classes
segment-long segment known =
    sym (AllZip-long IsTextOf (texts_of segment.span.batches) known.tally.games known.tally.are_games)
    ∙ sym (ap length known.tally.classes_are ∙ length-map known.tally.games (λ game. game.classes))

module _ (segments : List CountedSpan) (number i left : ℕ) (segment : CountedSpan) (within : i < length segments) (is : segment ≡ get_or segments i segment)
    (known : IsSegment segment) where
  rest : drop i segments ≡ segment ∷ drop (i + 1) segments
  rest = drop_more segments i segment within ∙ ap (λ s. s ∷ drop (i + 1) segments) (sym is)

  classes-are : classes_in (drop i segments) ≡ segment.classes ++ classes_in (drop (i + 1) segments)
  classes-are = ap classes_in rest

  texts-are : texts_of (journal_of (drop i segments)) ≡ texts_of segment.span.batches ++ texts_of (journal_of (drop (i + 1) segments))
  texts-are = ap (λ l. texts_of (journal_of l)) rest ∙ flat_map-append (λ (b : Batch). b.texts) segment.span.batches (journal_of (drop (i + 1) segments))

  pub left-here : left < length segment.classes → IsLeft segments number i left → IsGameIn segments number segment left
  left-here below so = record {
    within = below;
    known = known;
    classes = sym (get-front segment.classes (classes_in (drop (i + 1) segments)) left below) ∙ ap (λ l. slice_get l left) (sym classes-are) ∙ so.classes;
    text = sym (get-front (texts_of segment.span.batches) (texts_of (journal_of (drop (i + 1) segments))) left (omega (arith, below, segment-long segment known)))
        ∙ ap (λ l. slice_get l left) (sym texts-are) ∙ so.text;
  }

  pub left-later : length segment.classes ≤ left → IsLeft segments number i left → IsLeft segments number (i + 1) (left - length segment.classes)
  left-later past so =
      let long = segment-long segment known in
      record {
        within = omega (arith, past, so.within, ap length classes-are, length-append segment.classes (classes_in (drop (i + 1) segments)));
        classes = sym (get-right segment.classes (classes_in (drop (i + 1) segments)) left past) ∙ ap (λ l. slice_get l left) (sym classes-are) ∙ so.classes;
        text = ap (λ n. slice_get (texts_of (journal_of (drop (i + 1) segments))) (left - n)) (sym long)
            ∙ sym (get-right (texts_of segment.span.batches) (texts_of (journal_of (drop (i + 1) segments))) left (omega (arith, past, long)))
            ∙ ap (λ l. slice_get l left) (sym texts-are) ∙ so.text;
      }

pub left-none : (segments : List CountedSpan) (number i left : ℕ) → length segments ≤ i → IsLeft segments number i left → ⊥
left-none segments number i left past so =
    let none : length (classes_in (drop i segments)) ≡ 0 = ap (λ l. length (classes_in l)) (drop_all i segments past) in
    omega (arith, so.within, none)
