-- Counts over one told input and one told file of openings have one ending.
use Rattle.std.proofs.Common.{◌≡◌, ◌⊎◌, ◌∙◌, inl, inr, ℕ, List, Option, None, Some, Result, Ok, Err, refl, sym, ap, subst}
use Rattle.std.specs.Prelude.{◌≢◌}
use Rattle.outside.specs.Stream.{Stream}
use Rattle.explorer_model.specs.declared.query.BadParameter.{BadParameter}
use Rattle.explorer_model.specs.declared.query.Query.{Query}
use Rattle.explorer_model.specs.Openings.{NamedPosition}
use Rattle.host.specs.Hosts.{HostState}
use Rattle.import_run.proofs.VerdictLemmas.{OneGame}
use Rattle.explorer.specs.declared.fault.Fault.{Fault}
use Rattle.explorer.specs.declared.fault.Fault.TheVariants as faults
use Rattle.explorer.specs.Book.{HasBook, LacksBook, NamedBy, StopsAtBook}
use Rattle.explorer.specs.Count.{Counts, CountsFor, CountsOver}
use Rattle.explorer.specs.Laws.{IsTold, IsToldOpenings, OpensWell, WroteAlike}
use Rattle.explorer.specs.Lines.{Ending, Done, Stopped, status_of}
use Rattle.explorer.specs.World.{World, IsFaultless}
use Rattle.explorer.proofs.LawLemmas.{OneAnswer, OneNaming}
use Rattle.explorer.proofs.LawLemmas.NoRoom.{OneAccount}
use Rattle.explorer.proofs.LawLemmas.OneEnding.{FoundNoRoom, OneQuery, WroteBy, counted_alike}
use Rattle.explorer.proofs.LawLemmas.Openings.{OneBook, not_either, one_book, one_fault}

-- the same came to the same
same_wrote : (after other : World) → after ≡ other → WroteAlike after other
same_wrote after other same = record {
  output = ap (λ (w : World). w.output.written) same;
  errors = ap (λ (w : World). w.errors.written) same;
}

-- a fault of the file is none of room
stopped_by : (name : List ℕ) (before after other : World) (fault : Fault) → LacksBook name fault before.host after.host → after ≡ other
    → WroteBy before after other (Stopped fault)
stopped_by name before after other (faults.Full games bytes) lacks same = absurd lacks
stopped_by name before after other faults.Usage lacks same = same_wrote after other same
stopped_by name before after other (faults.BadParameter parameter) lacks same = same_wrote after other same
stopped_by name before after other faults.BadLabel lacks same = same_wrote after other same
stopped_by name before after other faults.SpillFault lacks same = same_wrote after other same
stopped_by name before after other (faults.SpillDamaged part) lacks same = same_wrote after other same
stopped_by name before after other faults.OpeningsTooLong lacks same = same_wrote after other same
stopped_by name before after other (faults.BadOpenings row cause) lacks same = same_wrote after other same
stopped_by name before after other faults.ReadFault lacks same = same_wrote after other same
stopped_by name before after other faults.WriteFault lacks same = same_wrote after other same
stopped_by name before after other faults.DiskFault lacks same = same_wrote after other same
stopped_by name before after other (faults.NotEmpty size) lacks same = same_wrote after other same
stopped_by name before after other faults.NotAStore lacks same = same_wrote after other same
stopped_by name before after other (faults.OtherFormat number) lacks same = same_wrote after other same
stopped_by name before after other (faults.Damaged gate) lacks same = same_wrote after other same
stopped_by name before after other faults.OutOfMemory lacks same = same_wrote after other same
stopped_by name before after other (faults.CannotOpen parameter) lacks same = same_wrote after other same
stopped_by name before after other faults.CannotAccept lacks same = same_wrote after other same
stopped_by name before after other faults.TooMuchInput lacks same = same_wrote after other same

stopped_alike : (openings : Option (List ℕ)) (before after other : World) (ending : Ending) → StopsAtBook openings before after ending → after ≡ other
    → WroteBy before after other ending
stopped_alike None before after other ending stops same = absurd stops
stopped_alike (Some name) before after other ending (fault, is, lacks, only) same =
    subst (λ (e : Ending). WroteBy before after other e) (sym is) (stopped_by name before after other fault lacks same)

-- what was written behind the file was written
wrote_since : (before after other : World) (read : HostState) (ending : Ending) → WroteBy (record before { host = read }) after other ending → WroteBy before after other ending
wrote_since before after other read Done wrote = wrote
wrote_since before after other read (Stopped (faults.Full games bytes)) wrote =
    record { output = wrote.output; lines = wrote.lines; first = wrote.first; second = wrote.second }
wrote_since before after other read (Stopped faults.Usage) wrote = wrote
wrote_since before after other read (Stopped (faults.BadParameter name)) wrote = wrote
wrote_since before after other read (Stopped faults.BadLabel) wrote = wrote
wrote_since before after other read (Stopped faults.SpillFault) wrote = wrote
wrote_since before after other read (Stopped (faults.SpillDamaged part)) wrote = wrote
wrote_since before after other read (Stopped faults.OpeningsTooLong) wrote = wrote
wrote_since before after other read (Stopped (faults.BadOpenings row cause)) wrote = wrote
wrote_since before after other read (Stopped faults.ReadFault) wrote = wrote
wrote_since before after other read (Stopped faults.WriteFault) wrote = wrote
wrote_since before after other read (Stopped faults.DiskFault) wrote = wrote
wrote_since before after other read (Stopped (faults.NotEmpty size)) wrote = wrote
wrote_since before after other read (Stopped faults.NotAStore) wrote = wrote
wrote_since before after other read (Stopped (faults.OtherFormat number)) wrote = wrote
wrote_since before after other read (Stopped (faults.Damaged gate)) wrote = wrote
wrote_since before after other read (Stopped faults.OutOfMemory) wrote = wrote
wrote_since before after other read (Stopped (faults.CannotOpen name)) wrote = wrote
wrote_since before after other read (Stopped faults.CannotAccept) wrote = wrote
wrote_since before after other read (Stopped faults.TooMuchInput) wrote = wrote

told_since : (stream : List ℕ) (before : World) (read : HostState) → IsTold stream before → IsTold stream (record before { host = read })
told_since stream before read told = record {
  input = told.input;
  below = told.below;
  output = told.output;
  errors = told.errors;
  reads = told.reads;
  writes = told.writes;
  reports = told.reports;
}

fine_since : (before after : World) (read : HostState) → IsFaultless before after → IsFaultless (record before { host = read }) after
fine_since before after read fine = record { reads = fine.reads; output = fine.output; errors = fine.errors }

module _ (text stream : List ℕ) (openings : Option (List ℕ)) (before after other : World) (ending ending' : Ending) (game : OneGame)
    (one : OneAccount) (answer : OneAnswer) (one_naming : OneNaming) (book_once : OneBook) (told : IsTold stream before)
    (opens : IsToldOpenings openings before) (well : OpensWell openings before after) (well' : OpensWell openings before other)
    (fine : IsFaultless before after) (fine' : IsFaultless before other) (fed : status_of ending ≢ 9) (fed' : status_of ending' ≢ 9) where
  abbrev BothWrote : Type 0
  BothWrote = (ending ≡ ending') × WroteBy before after other ending

  -- by one book
  by_over : (query : Query) (book : List NamedPosition) (read : HostState) → CountsOver query book (record before { host = read }) after ending
      → CountsOver query book (record before { host = read }) other ending' → BothWrote
  by_over query book read (inl starves) over' = absurd (fed (ap status_of starves.ending_is))
  by_over query book read (inr counts) (inl starves) = absurd (fed' (ap status_of starves.ending_is))
  by_over query book read (inr counts) (inr counts') =
      let both = counted_alike stream book query (record before { host = read }) after other ending ending' game one answer one_naming
      (told_since stream before read told) (fine_since before after read fine) (fine_since before other read fine') counts counts' in
      (both.0, wrote_since before after other read ending both.1)

  by_named : (query : Query) → NamedBy openings (CountsOver query) before after ending → NamedBy openings (CountsOver query) before other ending'
      → BothWrote
  by_named query (inl (book, read, has, over)) (inl (book', read', has', over')) =
      let same = one_book book_once openings book book' before read read' opens has has' in
      let moved = subst (λ (b : List NamedPosition). CountsOver query b (record before { host = read }) after ending) same.0 over in
      let there = subst (λ (h : HostState). CountsOver query book' (record before { host = h }) after ending) same.1 moved in
      by_over query book' read' there over'
  by_named query (inl (book, read, has, over)) (inr stops') =
      absurd (not_either book_once openings book before other read ending' opens well' fed' has stops')
  by_named query (inr stops) (inl (book', read', has', over')) =
      absurd (not_either book_once openings book' before after read' ending opens well fed has' stops)
  by_named query (inr stops) (inr stops') =
      let both = one_fault book_once openings before after other ending ending' opens well well' fed fed' stops stops' in
      (both.0, stopped_alike openings before after other ending stops both.1)

  by_query : (r s : Result Query BadParameter) → r ≡ s → CountsFor openings r before after ending → CountsFor openings s before other ending'
      → BothWrote
  by_query (Err bad) (Ok asked) is counts counts' = cc
  by_query (Ok asked) (Err bad) is counts counts' = cc
  by_query (Err bad) (Err worse) is counts counts' =
      let same : bad ≡ worse = cc in (
        counts.0 ∙ ap (λ (b : BadParameter). Stopped (faults.BadParameter b.name)) same ∙ sym counts'.0,
        subst (λ (e : Ending). WroteBy before after other e) (sym counts.0) (same_wrote after other (counts.1 ∙ sym counts'.1)),
      )
  by_query (Ok asked) (Ok also) is counts counts' =
      let same : asked ≡ also = cc in
      by_named also (subst (λ (q : Query). CountsFor openings (Ok q) before after ending) same counts) counts'

  pub one_ending : OneQuery → Counts text openings before after ending → Counts text openings before other ending' → BothWrote
  one_ending query (inl starves) second = absurd (fed (ap status_of starves.0))
  one_ending query (inr first) (inl starves) = absurd (fed' (ap status_of starves.0))
  one_ending query (inr first) (inr second) = by_query first.0 second.0 (query text first.0 second.0 first.1 second.1) first.2 second.2
