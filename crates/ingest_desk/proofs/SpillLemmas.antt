-- Batches that are counted one after another, and whose rows go to a scratch file.
use Rattle.std.proofs.Common.{◌≡◌, ◌≤◌, ◌+◌, ℕ, List, [], ◌∷◌, ◌++◌, length, Option, None, Some, IfSome, inr, refl, sym, ap, ◌∙◌, subst, arith}
use Rattle.std.specs.List.{All}
use Rattle.std.proofs.lemmas.List.{append_assoc, append-nil, nil_from_length}
use Rattle.explorer_model.specs.declared.archive.Batch.{Batch}
use Rattle.explorer_model.specs.declared.fault.Stop.{Stop}
use Rattle.explorer_model.specs.declared.fault.Stop.TheVariants.{Fault, OutOfMemory}
use Rattle.explorer_model.specs.declared.store.LogFault.TheVariants as logs
use Rattle.explorer_model.specs.Journal.{IsSound, game_count}
use Rattle.explorer_model.specs.StoreFile.{IsStorable, gate_limit, payload_of, store_of}
use Rattle.disk_model.specs.Disk.{DiskState}
use Rattle.manifest.specs.Manifest.{HasJournal}
use Rattle.manifest.proofs.JournalLemmas.{length-more}
use Rattle.outside.specs.Ports.{Scratch}
use Rattle.outside.specs.Stream.{Rises}
use Rattle.record_log.specs.declared.fault.OpenFault.TheVariants as openings
use Rattle.segment_blocks.specs.Segment.{CountedSpan, segment_limit}
use Rattle.spill_blobs.specs.Sets.{games_in, journal_of, IsNotAdded}
use Rattle.spill_blobs.specs.declared.port_fault.PortFault.{PortFault}
use Rattle.spill_blobs.specs.declared.port_fault.PortFault.TheVariants.{ReadFault, Damaged, WriteFault}
use Rattle.ingest_desk.specs.declared.register.Register.{Register}
use Rattle.ingest_desk.specs.Recounts.{HasOneMore, IsUnsoundAt}
use Rattle.ingest_desk.specs.Registers.{IsRegisterOf}
use Rattle.ingest_desk.specs.Openings.{IsWrong}
use Rattle.ingest_desk.specs.Spilling.{AreLone, IsNotSpilled, IsSpillOf, StopsSpilling, fault_of_stop}
use Rattle.ingest_desk.specs.declared.spill_fault.SpillOpenFault.{SpillOpenFault}
use Rattle.ingest_desk.specs.declared.spill_fault.SpillOpenFault.TheVariants.{Store, Port}
use Rattle.ingest_desk.proofs.RecountLemmas.{next_low, next_storable, split_more, unsound_at}
use Rattle.ingest_desk.proofs.RegisterLemmas.{games_more}

-- ---- a set with one segment more

journal-with : (set : List CountedSpan) (segment : CountedSpan) → journal_of (set ++ segment ∷ []) ≡ journal_of set ++ segment.span.batches
journal-with [] segment = append-nil segment.span.batches
journal-with (s ∷ set) segment =
    ap (λ l. s.span.batches ++ l) (journal-with set segment) ∙ sym (append_assoc s.span.batches (journal_of set) segment.span.batches)

games-with : (set : List CountedSpan) (segment : CountedSpan) → games_in (set ++ segment ∷ []) ≡ games_in set + length segment.classes
games-with [] segment = omega arith
games-with (s ∷ set) segment = omega (arith, games-with set segment)

lone-with : (set : List CountedSpan) (segment : CountedSpan) → AreLone set → length segment.span.batches ≡ 1 → AreLone (set ++ segment ∷ [])
lone-with [] segment lone one = (one, tt)
lone-with (s ∷ set) segment lone one = (lone.0, lone-with set segment lone.1 one)

-- ---- batch by batch

-- the journal up to a gate is counted, and the set has a segment of each batch
pub record IsSpilledUpTo (journal : List Batch) (gate : ℕ) (register : Register)
    (set : List CountedSpan) (others : List Batch) : Type 0 where
  pub before : List Batch
  pub split : journal ≡ before ++ others
  pub knows : IsRegisterOf before register
  pub whole : journal_of set ≡ before
  pub games : games_in set ≡ game_count before
  pub lone : AreLone set
  pub place : gate ≡ length (store_of before)

pub spill-begins : (journal : List Batch) (register : Register) (set : List CountedSpan) → set ≡ [] → IsRegisterOf [] register
    → IsSpilledUpTo journal 12 register set journal
spill-begins journal register set none knows =
    subst (λ (s : List CountedSpan). IsSpilledUpTo journal 12 register s journal) (sym none)
    (record { before = []; split = refl; knows = knows; whole = refl; games = refl; lone = tt; place = refl })

module _ (journal : List Batch) (gate : ℕ) (register : Register) (set : List CountedSpan) (others rest : List Batch) (batch : Batch)
    (is : IsSpilledUpTo journal gate register set others) (next : others ≡ batch ∷ rest) where
  pub storable-next : All IsStorable journal → IsStorable batch
  storable-next all = next_storable journal is.before others rest batch gate is.split is.place next all

  pub unsound-next : ¬ IsSound (is.before ++ batch ∷ []) → IsUnsoundAt journal gate
  unsound-next unsound = unsound_at journal is.before others rest batch gate is.split is.place next is.knows.sound unsound

  pub low-next : length (store_of journal) ≤ gate_limit → gate + (5 + length (payload_of batch)) ≤ gate_limit
  low-next low = next_low journal is.before others rest batch gate is.split is.place next low

  module _ (new : Register) (segment : CountedSpan) (more : HasOneMore is.before batch new segment) where
    pub adjoin-next : segment.span.first ≡ length (journal_of set)
    adjoin-next = more.first ∙ ap length (sym is.whole)

    pub few-next : games_in set + length segment.classes ≤ segment_limit
    few-next = omega (arith, more.games, is.games, games_more is.before batch, more.knows.sound.within.0)

    pub spilled-more : (after : List CountedSpan) (further : ℕ) → after ≡ set ++ segment ∷ []
        → further ≡ gate + (5 + length (payload_of batch)) → IsSpilledUpTo journal further new after rest
    spilled-more after further added place = record {
      before = is.before ++ batch ∷ [];
      split = split_more journal is.before others rest batch gate is.split is.place next;
      knows = more.knows;
      whole = ap journal_of added ∙ journal-with set segment ∙ ap (λ bs. journal_of set ++ bs) more.batches ∙ ap (λ bs. bs ++ batch ∷ []) is.whole;
      games = omega (arith, ap games_in added, games-with set segment, more.games, is.games, games_more is.before batch);
      lone = subst AreLone (sym added) (lone-with set segment is.lone (ap length more.batches));
      place = omega (arith, place, is.place, length-more is.before batch);
    }

-- why a batch's rows are not in the file
pub stops-spilling : (journal : List Batch) (stop : Stop PortFault) (piece : List ℕ) (start before after : Scratch)
    → IsNotAdded stop piece before after → before.faults ≡ start.faults → StopsSpilling journal (fault_of_stop stop) start after
stops-spilling journal OutOfMemory piece start before after is same = ap (λ (s : Scratch). s.faults) is ∙ same
stops-spilling journal (Fault (ReadFault first last)) piece start before after is same = absurd is
stops-spilling journal (Fault (Damaged part)) piece start before after is same = absurd is
stops-spilling journal (Fault (WriteFault first last)) piece start before after is same =
    (is.0 ∙ same, is.1, subst (λ (n : ℕ). Rises n after.faults) same is.2.rises)

-- all batches are in the file
pub spilled-all : (journal : List Batch) (gate : ℕ) (register : Register) (set : List CountedSpan) (left : List Batch) → length left ≡ 0
    → IsSpilledUpTo journal gate register set left → IsSpillOf journal set
spilled-all journal gate register set left none is =
    let are : journal ≡ is.before = is.split ∙ ap (λ (l : List Batch). is.before ++ l) (nil_from_length left none) ∙ append-nil is.before in
    record { whole = is.whole ∙ sym are; sound = subst IsSound (sym are) is.knows.sound; lone = is.lone }

-- ---- what an opening answers

wrong-at : (content : Option (List ℕ)) (journal : List Batch) (gate : ℕ) → IfSome content (HasJournal journal) → IsUnsoundAt journal gate
    → IfSome content (IsWrong (logs.Damaged gate))
wrong-at None journal gate read at = tt
wrong-at (Some file) journal gate read at = inr (record { journal = journal; read = read; gate = gate; at = at; is = refl })

pub not-spilled : {D : Type 0} (disk : D → DiskState) (old new : D) (journal : List Batch) (fault : SpillOpenFault) (before after : Scratch)
    → IfSome (disk old).content (HasJournal journal) → (disk new).faults ≡ (disk old).faults → StopsSpilling journal fault before after
    → IsNotSpilled disk fault old new before after
not-spilled disk old new journal (Store (openings.Log (logs.Damaged gate))) before after read same stops =
    (wrong-at (disk old).content journal gate read stops.0, stops.1)
not-spilled disk old new journal (Store (openings.Log logs.NotALog)) before after read same stops = absurd stops
not-spilled disk old new journal (Store (openings.Log (logs.OtherFormat number))) before after read same stops = absurd stops
not-spilled disk old new journal (Store openings.OutOfMemory) before after read same stops = (tt, stops)
not-spilled disk old new journal (Store (openings.DiskFault first last)) before after read same stops = absurd stops
not-spilled disk old new journal (Port fault) before after read same stops = (stops, same)
