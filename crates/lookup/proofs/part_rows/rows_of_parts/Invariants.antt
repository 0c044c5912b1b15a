use Rattle.std.proofs.Common.{◌≡◌, ℕ, ◌+◌, ◌<◌, ◌≤◌, ◌^◌, List, length, take}
use Rattle.std.specs.Prelude.{IfSome}
use Rattle.std.specs.List.{All, AllZip, sum_by}
use Rattle.explorer_model.specs.Tidy.{IsTidyKey}
use Rattle.lookup.specs.Reading.{most_steps, read_steps, AreJudged, AreOfKey, AreRead}
use Rattle.segment_blocks.specs.Segment.{CountedSpan}
use Rattle.spill_blobs.specs.Marks.{marks}
use Rattle.spill_blobs.specs.Sets.{games_in, Holds}
use Rattle.lookup.proofs.part_rows.rows_of_parts.Given as goal

abbrev pub invariant-loop-part : goal.invariant-loop-part
invariant-loop-part g l = record {
  first : l.first ≡ games_in (take l.part l.set);
  read : AreRead l.at 0 (take l.part l.set) l.parts.items;
  same : g.P.Port.port l.port ≡ g.P.Port.port l.fn.port;
  found : (key : List ℕ) → IsTidyKey l.at key → Holds l.set (g.P.Port.port l.fn.port) → AllZip (AreOfKey key) (take l.part l.set) l.parts.items;
  judged : (key : List ℕ) → IsTidyKey l.at key → IfSome (g.P.Port.port l.fn.port).appended (λ told. AreJudged l.at key l.set told l.part);
  cost : (key : List ℕ) (digits : CountedSpan → ℕ) → IsTidyKey l.at key → All (λ segment. length (marks segment.rows) < 2 ^ digits segment) l.set
      → Holds l.set (g.P.Port.port l.fn.port) → l.steps ≤ l.initial.steps + sum_by (read_steps key digits) (take l.part l.set);
  most : (key : List ℕ) (digits : CountedSpan → ℕ) → IsTidyKey l.at key → All (λ segment. length (marks segment.rows) < 2 ^ digits segment) l.set
      → l.steps ≤ l.initial.steps + sum_by (most_steps digits) (take l.part l.set);
}
