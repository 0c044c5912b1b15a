-- One read of a stream that is read ahead.
use Rattle.std.proofs.Common.{◌≡◌, inl, ◌+◌, ◌-◌, ◌^◌, ◌<◌, ℕ, List, [], ◌++◌, take, Option, None, Some, refl, sym, ap, subst, ◌∙◌, arith, length-append}
use Rattle.std.specs.List.{All}
use Rattle.std.proofs.lemmas.List.{append-nil}
use Rattle.outside.specs.Stream.{FailsToGive, Gives, Reads, Rises, Stream}
use Rattle.outside.proofs.StreamLemmas.{reads-none}
use Rattle.explorer_model.specs.Cuts.{Cut}
use Rattle.explorer_model.specs.Journal.{input_limit}
use Rattle.pgn_cut.specs.Cutter.{cuts_of_rest}
use Rattle.pgn_cut.specs.Runs.{IsNew}
use Rattle.import_run.specs.declared.text_group.TextGroup.{TextGroup}
use Rattle.import_run.specs.Grouping.{IsGroupOf}
use Rattle.import_run.specs.declared.ahead.Ahead.{Ahead}
use Rattle.import_run.specs.declared.ahead.ReadEnd.{ReadEnd}
use Rattle.import_run.specs.declared.ahead.ReadEnd.TheVariants.{Ended, Failed}
use Rattle.import_run.specs.Ahead.{CanGoOn, CanTake, CutAhead, EndsAhead, HoldsAhead, HoldsBy, IsUnder, StandsFor, left_by, left_of}
use Rattle.import_run.proofs.AheadLemmas.{stands_cut, while_reading}
use Rattle.import_run.proofs.ReadLemmas.{longer, no_fault, read_failed, read_last, read_more}

-- ---- what may be read yet

pub left_reading : (ahead : Ahead) → ahead.end ≡ None → left_of ahead ≡ (input_limit - ahead.taken) + 4
left_reading ahead is = ap (λ (end : Option ReadEnd). left_by end ahead.taken) is

pub left_ended : (ahead : Ahead) (end : ReadEnd) → ahead.end ≡ Some end → left_of ahead ≡ 0
left_ended ahead end is = ap (λ (end : Option ReadEnd). left_by end ahead.taken) is

-- ---- what the code needs

-- reading ended
pub ready_ended : (label : List ℕ) (new : Ahead) (end : ReadEnd) → new.end ≡ Some end → new.taken < input_limit → CanTake new.group → new.group.label ≡ label → All (IsUnder label) new.whole.items → CanGoOn label new
ready_ended label new end is below takes same under = record { below = below; came = λ none. absurd (none_ended end (sym is ∙ none)); takes = takes; label_is = same; under = under }
  where
    none_ended : (end : ReadEnd) → Some end ≡ None → ⊥
    none_ended end both = cc

pub go_on_own : (label : List ℕ) (ahead : Ahead) → CanGoOn label ahead → CanGoOn ahead.group.label ahead
go_on_own label ahead can = subst (λ (l : List ℕ). CanGoOn l ahead) (sym can.label_is) can

pub go_on_as : (label : List ℕ) (old new : Ahead) → CanGoOn label old → CanGoOn old.group.label new → CanGoOn label new
go_on_as label old new can on = subst (λ (l : List ℕ). CanGoOn l new) can.label_is on

-- nothing was read
pub holds_nothing : (now : Stream) (ahead : Ahead) → ahead.end ≡ None → ahead.taken ≡ 0 → ahead.whole.items ≡ [] → IsNew ahead.cutter → IsGroupOf [] ahead.group → HoldsAhead now now [] ahead
holds_nothing now ahead end taken whole new group =
    let P : List TextGroup → Type 0 = λ l. CutAhead [] [] (cuts_of_rest ahead.cutter) l ahead.group in
    let Q : Option ReadEnd → Type 0 = λ e. HoldsBy e now now [] [] ahead in
    let cut : CutAhead [] [] (cuts_of_rest ahead.cutter) [] ahead.group = record {
      taken = [];
      cut = new;
      begun = λ some. absurd (omega (arith, some));
      has = record { whole = []; held = tt; hand = []; holds = group; all = refl; each = tt; ascend = tt };
    } in
    record { stream = []; reads = reads-none now; long = sym taken; holds = subst Q (sym end) (refl, subst P (sym whole) cut) }

-- ---- one read

module _ (before mid now : Stream) (given : List (List Cut)) (ahead : Ahead) (reading : ahead.end ≡ None) (h : HoldsAhead before mid given ahead) where
  -- it failed
  pub chunk_failed : (first last : ℕ) → first ≡ mid.read_faults → last ≡ now.read_faults → FailsToGive mid now → HoldsAhead before now given (record ahead { end = Some (Failed first last) })
  chunk_failed first last first_is last_is fails =
      let w = while_reading before mid given ahead reading h in
      let R : ℕ → Type 0 = λ n. Rises n now.read_faults in
      let S : ℕ → Type 0 = λ n. Rises first n in
      record {
        stream = h.stream;
        reads = read_failed h.stream before mid now h.reads fails;
        long = h.long;
        holds = (first_is ∙ w.0, last_is, subst S (sym last_is) (subst R (sym first_is) fails.rises), w.1);
      }

  module _ (n : ℕ) (buffer : List ℕ) (gives : Gives n buffer mid now) where
    -- nothing came: the stream has ended
    pub chunk_ended : n ≡ 0 → (new : Ahead) → new.end ≡ Some Ended → new.taken ≡ ahead.taken
        → ((given : List (List Cut)) (stream : List ℕ) → CutAhead given stream (cuts_of_rest ahead.cutter) ahead.whole.items ahead.group → EndsAhead given stream new.whole.items) → HoldsAhead before now given new
    chunk_ended none new end taken all =
        let w = while_reading before mid given ahead reading h in
        let P : Option ReadEnd → Type 0 = λ e. HoldsBy e before now given h.stream new in
        record {
          stream = h.stream;
          reads = read_last h.stream n buffer before mid now none h.reads gives;
          long = h.long ∙ sym taken;
          holds = subst P (sym end) (no_fault n buffer before mid now w.0 gives, gives.ended none, all given h.stream w.1);
        }

    -- memory was wanting for the last cuts
    pub chunk_lacks_last : n ≡ 0 → ahead.taken < 2 ^ 40 → StandsFor before now given
    chunk_lacks_last none below =
        let w = while_reading before mid given ahead reading h in
        let reads = read_last h.stream n buffer before mid now none h.reads gives in
        let same = sym (append-nil h.stream) in
        stands_cut before now given h.stream [] (cuts_of_rest ahead.cutter) ahead.whole.items ahead.group (subst (λ (l : List ℕ). Reads l before now) same reads) (inl (no_fault n buffer before mid now w.0 gives))
        (omega (arith, h.long, below, length-append h.stream [])) w.1

    -- bytes came, and were cut
    pub chunk_fed : (new : Ahead) → new.end ≡ ahead.end → new.taken ≡ ahead.taken + n
        → ((given : List (List Cut)) (past : List ℕ) → CutAhead given past (cuts_of_rest ahead.cutter) ahead.whole.items ahead.group → CutAhead given (past ++ take n buffer) (cuts_of_rest new.cutter) new.whole.items new.group)
        → HoldsAhead before now given new
    chunk_fed new end taken cut =
        let w = while_reading before mid given ahead reading h in
        let P : Option ReadEnd → Type 0 = λ e. HoldsBy e before now given (h.stream ++ take n buffer) new in
        record {
          stream = h.stream ++ take n buffer;
          reads = read_more h.stream n buffer before mid now h.reads gives;
          long = longer ahead.taken n buffer h.stream h.long gives.within ∙ sym taken;
          holds = subst P (sym (end ∙ reading)) (no_fault n buffer before mid now w.0 gives, cut given h.stream w.1);
        }

    -- bytes came, and memory was wanting for their cuts
    pub chunk_lacks : ahead.taken + n < 2 ^ 40 → StandsFor before now given
    chunk_lacks below =
        let w = while_reading before mid given ahead reading h in
        stands_cut before now given h.stream (take n buffer) (cuts_of_rest ahead.cutter) ahead.whole.items ahead.group (read_more h.stream n buffer before mid now h.reads gives) (inl (no_fault n buffer before mid now w.0 gives))
        (omega (arith, longer ahead.taken n buffer h.stream h.long gives.within, below)) w.1

    -- the same, where what is held before the bytes are cut is as before they came
    pub chunk_fed_on : (held new : Ahead) → held ≡ ahead → new.end ≡ held.end → new.taken ≡ held.taken + n
        → ((given : List (List Cut)) (past : List ℕ) → CutAhead given past (cuts_of_rest held.cutter) held.whole.items held.group → CutAhead given (past ++ take n buffer) (cuts_of_rest new.cutter) new.whole.items new.group)
        → HoldsAhead before now given new
    chunk_fed_on held new same end taken cut =
        let P : Ahead → Type 0 = λ a. (given : List (List Cut)) (past : List ℕ) → CutAhead given past (cuts_of_rest a.cutter) a.whole.items a.group → CutAhead given (past ++ take n buffer) (cuts_of_rest new.cutter) new.whole.items new.group in
        chunk_fed new (end ∙ ap (λ (a : Ahead). a.end) same) (taken ∙ ap (λ (a : Ahead). a.taken + n) same) (subst P same cut)
