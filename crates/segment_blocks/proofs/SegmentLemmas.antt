-- Segments of one batch and of two spans.
use Rattle.std.proofs.Common.{◌≡◌, ℕ, ◌+◌, ◌<◌, ◌^◌, List, [], ◌∷◌, ◌++◌, length, sym, ap, subst, ◌∙◌, append-nil, arith}
use Rattle.std.specs.List.{All}
use Rattle.std.proofs.lemmas.List.{length-map, length-append}
use Rattle.std.proofs.lemmas.List.Elements.{All-nil, All-cons, All-append}
use Rattle.std.proofs.lemmas.Slice.Zip.{AllZip-long}
use Rattle.explorer_model.specs.declared.archive.Batch.{Batch}
use Rattle.explorer_model.specs.Journal.{IsBatch}
use Rattle.explorer_model.specs.Visits.{IsTextOf, texts_of}
use Rattle.tally_rows.specs.Tally.{Counted, IsCounted}
use Rattle.segment_blocks.specs.declared.held_batch.HeldBatch.{HeldBatch}
use Rattle.segment_blocks.specs.HeldBatches.{batch_of, classes_of, all_batches, all_classes, counted_span, StandFrom, IsHeld}
use Rattle.segment_blocks.specs.PackedRows.{Packed, AreBlocksOf}
use Rattle.segment_blocks.specs.Segment.{CanJoin, IsTallyOfBoth}

-- a batch has as many texts as games
pub texts-length : (counted : Counted) → IsCounted counted → length counted.batch.texts ≡ length counted.classes
texts-length counted h =
    sym (AllZip-long IsTextOf counted.batch.texts h.tally.games h.tally.are_games) ∙ sym (length-map h.tally.games (λ g. g.classes))
    ∙ ap length (sym h.tally.classes_are)

module _ (first : ℕ) (held : HeldBatch) (packed : Packed) (counted : Counted) (h : IsCounted counted)
    (start : held.start ≡ 0) (batch : batch_of held ≡ counted.batch) (classes : classes_of held ≡ counted.classes) (rows : packed.rows ≡ counted.rows) where
  all_classes_are : all_classes (held ∷ []) ≡ counted.classes
  all_classes_are = append-nil (classes_of held) ∙ classes

  texts_are : texts_of (all_batches (held ∷ [])) ≡ counted.batch.texts
  texts_are = append-nil (batch_of held).texts ∙ ap (λ (b : Batch). b.texts) batch

  pub IsHeld-one : first + 1 < 2 ^ 32 → (count : ℕ) → count ≡ length counted.classes → AreBlocksOf packed.rows packed.blocks → IsHeld first count (held ∷ []) packed
  IsHeld-one place count is blocks = record {
    segment = record {
      some = omega arith;
      place = place;
      few = omega (arith, ap length all_classes_are, texts-length counted h, h.batch.few);
      batches = All-cons IsBatch (batch_of held) [] (subst IsBatch (sym batch) h.batch) (All-nil IsBatch);
      tally = rw (texts_are, all_classes_are, rows) h.tally;
      blocks = blocks;
    };
    games = is ∙ sym (ap length all_classes_are);
    stand = (
      record {
        start = start;
        aligned = ap (λ (b : Batch). length b.texts) batch ∙ texts-length counted h ∙ sym (ap length classes);
      },
      tt,
    );
  }

module _ (first second : ℕ) (left right new : List HeldBatch) (left_rows right_rows packed : Packed)
    (batches : all_batches new ≡ all_batches left ++ all_batches right)
    (classes : all_classes new ≡ all_classes left ++ all_classes right) where
  pub IsHeld-both : (left_games right_games : ℕ) → IsHeld first left_games left left_rows → IsHeld second right_games right right_rows
      → CanJoin (counted_span first left left_rows) (counted_span second right right_rows)
      → IsTallyOfBoth (counted_span first left left_rows) (counted_span second right right_rows) packed.rows
      → StandFrom 0 new → AreBlocksOf packed.rows packed.blocks → IsHeld first (left_games + right_games) new packed
  IsHeld-both left_games right_games a b spans tally stand blocks = record {
    segment = record {
      some = omega (arith, ap length batches, length-append (all_batches left) (all_batches right), a.segment.some);
      place = omega (arith, ap length batches, length-append (all_batches left) (all_batches right), spans.adjoin, b.segment.place);
      few = omega (arith, ap length classes, length-append (all_classes left) (all_classes right), spans.few);
      batches = subst (All IsBatch) (sym batches) (All-append IsBatch (all_batches left) (all_batches right) a.segment.batches b.segment.batches);
      tally = rw (batches, classes) tally;
      blocks = blocks;
    };
    games = omega (arith, ap length classes, length-append (all_classes left) (all_classes right), a.games, b.games);
    stand = stand;
  }
