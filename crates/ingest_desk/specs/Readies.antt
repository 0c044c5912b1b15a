-- Bridge: batches that are packed before their place is known, and batches that are handed back.
use Rattle.tally_rows.specs.Tally.{Counted, IsCounted}
use Rattle.segment_blocks.specs.Segment.{CountedSpan, IsSegment}
use Rattle.ingest_desk.specs.Registers.{IsSegmentOf}
use Rattle.ingest_desk.specs.declared.handed.HandedBatch.{HandedBatch}
use Rattle.ingest_desk.specs.declared.handed.HandedBatch.TheVariants.{Unpacked, Packed}

-- the segment is that of the tally, at some place
pub record IsReady (tally : Counted) (segment : CountedSpan) : Type 0 where
  pub counted : IsCounted tally
  pub made_of : IsSegmentOf tally segment
  pub counts : IsSegment segment

abbrev pub tally_handed : HandedBatch → Counted
tally_handed (Unpacked tally) = tally
tally_handed (Packed ready) = ready
