use Rattle.std.proofs.Common.{◌≡◌, ◌≤◌, ◌+◌, List, map, length}
use Rattle.explorer_model.specs.Imports.{Candidate, Numbering}
use Rattle.ingest_desk.specs.Clashes.{clashes_from}
use Rattle.import_run.specs.Settling.{id_of}
use Rattle.import_run.proofs.PairLemmas.{Naming}
use Rattle.import_run.proofs.naming.name.Given as goal

abbrev pub invariant-naming : goal.invariant-naming
invariant-naming l = record {
  count : l.at + length l.bytes-iterator.rest.items ≡ length l.fn.texts;
  next_within : l.next ≤ length l.pairs;
  so_far : (candidates : List Candidate) (number : Numbering) → l.fn.texts ≡ map (λ c. c.text) candidates → l.places ≡ map (λ c. c.place) candidates
      → l.pairs ≡ clashes_from 0 number (map id_of candidates) → Naming number candidates l.bytes-iterator.rest.items l.pairs l.at l.next l.refused.items l.rest.items;
}
