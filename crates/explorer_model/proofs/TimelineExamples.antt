-- Timelines worked out by hand.
use Rattle.std.proofs.Common.{◌≡◌, ℕ, List, [], ◌∷◌, ◌++◌, refl}
use Rattle.explorer_model.specs.declared.archive.Batch.{Batch}
use Rattle.explorer_model.specs.Spans.{Span, Covers}
use Rattle.explorer_model.specs.Timeline.{Timeline, Event, Put, Join, Enter, Learn, run, seen_by}

-- a batch of one text of one byte
batch : ℕ → Batch
batch byte = record { label = []; texts = (byte ∷ []) ∷ [] }

span : ℕ → List Batch → Span
span first batches = record { first = first; batches = batches }

-- two passes over a journal of one batch
opening : Timeline
opening = record {
  journal = batch 0 ∷ [];
  cover = span 0 (batch 0 ∷ []) ∷ [];
  passes = (batch 0 ∷ []) ∷ (batch 0 ∷ []) ∷ [];
}

covered-at-the-start : Covers opening.cover opening.journal
unfolding opening span
covered-at-the-start = record { adjoin = (refl, tt); whole = refl }

two-puts : List Event
two-puts = Put (batch 1) ∷ Put (batch 2) ∷ []

a-put-alone-is-seen-by-no-pass : (run opening two-puts).passes ≡ opening.passes
unfolding opening two-puts
a-put-alone-is-seen-by-no-pass = refl

each-put-gets-a-span : (run opening two-puts).cover ≡ span 0 (batch 0 ∷ []) ∷ span 1 (batch 1 ∷ []) ∷ span 2 (batch 2 ∷ []) ∷ []
unfolding opening two-puts span
each-put-gets-a-span = refl

-- the pass that enters sees all, the other one sees what it saw
one-pass-enters : (run opening (two-puts ++ (Enter 1 ∷ []))).passes ≡ (batch 0 ∷ []) ∷ (batch 0 ∷ batch 1 ∷ batch 2 ∷ []) ∷ []
unfolding opening two-puts
one-pass-enters = refl

a-pass-learns-of-two : seen_by 0 (run opening (two-puts ++ (Learn 0 2 ∷ []))) ≡ batch 0 ∷ batch 1 ∷ []
unfolding opening two-puts
a-pass-learns-of-two = refl

-- what is told later of an earlier journal takes nothing away
an-old-note-shortens-nothing : seen_by 0 (run opening (two-puts ++ (Enter 0 ∷ Learn 0 1 ∷ []))) ≡ batch 0 ∷ batch 1 ∷ batch 2 ∷ []
unfolding opening two-puts
an-old-note-shortens-nothing = refl

-- spans 1 and 2 become one, and the journal stays
the-last-two-are-joined : (run opening (two-puts ++ (Join 1 ∷ []))).cover ≡ span 0 (batch 0 ∷ []) ∷ span 1 (batch 1 ∷ batch 2 ∷ []) ∷ []
unfolding opening two-puts span
the-last-two-are-joined = refl

a-join-leaves-the-journal : (run opening (two-puts ++ (Join 0 ∷ []))).journal ≡ batch 0 ∷ batch 1 ∷ batch 2 ∷ []
unfolding opening two-puts
a-join-leaves-the-journal = refl
