-- Imports without faults.
use Rattle.std.proofs.Common.{◌≡◌, ⊎_elim, ℕ, ◌+◌, ◌-◌, ◌^◌, ◌<◌, List, [], ◌∷◌, ◌++◌, Option, None, Some, length, refl, sym, ap, subst, ◌∙◌, length-append, arith}
use Rattle.std.specs.Io.KnownBytes.{Consumes, IsAtEnd}
use Rattle.std.proofs.lemmas.List.{append-nil}
use Rattle.std.proofs.lemmas.Option.{none-some}
use Rattle.disk_model.specs.Disk.{DiskState}
use Rattle.outside.specs.Stream.{Reads, Rises, Stream}
use Rattle.explorer_model.specs.declared.archive.Batch.{Batch}
use Rattle.explorer_model.specs.declared.archive.Game.{Game}
use Rattle.explorer_model.specs.declared.fault.Refusal.{Refusal}
use Rattle.explorer_model.specs.Cuts.{Cut, cuts}
use Rattle.explorer_model.specs.Imports.{Accounted, groups}
use Rattle.explorer_model.specs.Visits.{AreGamesOf, texts_of}
use Rattle.ingest_desk.specs.Stored.{Stored}
use Rattle.ingest_desk.specs.declared.report.End.{End}
use Rattle.ingest_desk.specs.declared.report.End.TheVariants as ends
use Rattle.ingest_desk.specs.declared.report.Report.{Report}
use Rattle.import_run.specs.Alone.{DiskFaultsAre, ImportsAlone, stored_in}
use Rattle.import_run.specs.Committing.{Known, Store}
use Rattle.import_run.specs.Ending.{AreSettled, ReadFaultsAre, StandsAt}
use Rattle.import_run.specs.Faultless.{CanEnd, EndsWithoutFault, IsFaultless}
use Rattle.import_run.proofs.AloneLemmas.{same_games}
use Rattle.import_run.specs.SoFar.{AreInGroups, ended_cuts}
use Rattle.import_run.proofs.SameGroups.{same_groups}
use Rattle.import_run.proofs.VerdictLemmas.{OneGame}

pub no_rise : (before after : ℕ) → after ≡ before → before < 2 ^ 64 - 1 → Rises before after → ⊥
no_rise before after same few rises = ⊎_elim (λ rose. omega (arith, rose, same)) (λ greatest. omega (arith, greatest, same, few)) rises.rose

no_longer : (left after : Option (List ℕ)) (bytes stream : List ℕ) → left ≡ Some bytes → Consumes left after stream → length stream < length bytes + 1
no_longer None after bytes stream is next = absurd (none is)
  where
    none : (let o : Option (List ℕ) = None in o) ≡ Some bytes → ⊥
    none e = cc
no_longer (Some xs) None bytes stream is next = absurd next
no_longer (Some xs) (Some ys) bytes stream is next =
    let same : xs ≡ bytes = cc in
    omega (arith, ap length same, ap length next, length-append stream ys)

module _ {D J : Type 0} (label : List ℕ) (disk : D → DiskState) (source source_after : Stream) (before after : Stored D) (can : CanEnd disk source before) (quiet : IsFaultless disk source source_after before after)
    (start : Known) (stream : List ℕ) (reads : Reads stream source source_after) (open_is : start.fault ≡ before.manifest.fault) (batches : List Batch) (refused : List Refusal) where
  ends_by : (end : End J) → StandsAt label end start stream source_after.left batches refused (stored_in after) → ReadFaultsAre end source source_after
      → DiskFaultsAre end (disk before.manifest.disk) (disk after.manifest.disk) → EndsWithoutFault end
  ends_by ends.Whole stands faults calls = tt
  ends_by (ends.Full games bytes note) stands faults calls = tt
  ends_by ends.OutOfMemory stands faults calls = tt
  ends_by (ends.ReadFault first last) stands faults calls =
      no_rise first last (faults.1 ∙ quiet.reads ∙ sym faults.0) (omega (arith, faults.0, can.reads)) faults.2
  ends_by (ends.DiskFault first last mark) stands faults calls =
      no_rise first last (calls.after_is ∙ quiet.calls ∙ sym calls.before_is) (omega (arith, calls.before_is, can.calls)) calls.rises
  ends_by (ends.Closed first last mark) stands faults calls = none-some (first, last) (sym can.sound ∙ sym open_is ∙ stands.1)
  ends_by (ends.TooMuch bytes) stands faults calls =
      omega (arith, stands.1.at, no_longer source.left source_after.left can.bytes stream can.told reads.next, can.below)

pub ends_without_fault : {label : List ℕ} {D J : Type 0} (disk : D → DiskState) (left_since : D → ℕ → List ℕ → Type 0) (source source_after : Stream) (before after : Stored D) (report : Report J)
    → ImportsAlone label disk left_since source before source_after after report → CanEnd disk source before → IsFaultless disk source source_after before after → EndsWithoutFault report.end
ends_without_fault {label} disk left_since source source_after before after report is can quiet =
    ends_by label disk source source_after before after can quiet is.start is.stream is.reads (ap (λ (s : Store). s.fault) is.start_is) is.batches report.refused.items
    report.end is.stands is.read_faults is.disk_faults

-- ---- two imports of one stream

pub all_taken : (left after : Option (List ℕ)) (bytes stream : List ℕ) → left ≡ Some bytes → Consumes left after stream → IsAtEnd after → stream ≡ bytes
all_taken None after bytes stream is next at_end = absurd (none is)
  where
    none : (let o : Option (List ℕ) = None in o) ≡ Some bytes → ⊥
    none e = cc
all_taken (Some xs) None bytes stream is next at_end = absurd next
all_taken (Some xs) (Some ys) bytes stream is next at_end =
    let same : xs ≡ bytes = cc in
    sym (next ∙ ap (λ (l : List ℕ). stream ++ l) at_end ∙ append-nil stream) ∙ same

abbrev pub SameBatches : List ℕ → Type 0
SameBatches label = (stored : List Game) (groups : List (List Cut)) (batches others : List Batch) (refused other : List Refusal) → Accounted label stored groups batches refused → Accounted label stored groups others other → batches ≡ others

abbrev pub SameRefused : List ℕ → Type 0
SameRefused label = (stored : List Game) (groups : List (List Cut)) (batches others : List Batch) (refused other : List Refusal) → Accounted label stored groups batches refused → Accounted label stored groups others other → refused ≡ other

-- whole groups of the same bytes are settled alike
pub same_settled : {label : List ℕ} → SameBatches label → SameRefused label → (start other : Known) (stream : List ℕ) (whole whole' : List (List Cut)) (hand hand' : List Cut) (batches batches' : List Batch) (refused refused' : List Refusal) → other.games ≡ start.games
    → AreInGroups (ended_cuts stream) whole hand → AreInGroups (ended_cuts stream) whole' hand' → AreSettled label start whole batches refused → AreSettled label other whole' batches' refused'
    → (batches ≡ batches') × (refused ≡ refused')
same_settled {label} same_batches same_refused start other stream whole whole' hand hand' batches batches' refused refused' games are are' settled settled' =
    let same = (same_groups (ended_cuts stream) whole' whole hand' hand are' are).0 in
    let G : List Game → Type 0 = λ gs. Accounted label gs whole' batches' refused' in
    let W : List (List Cut) → Type 0 = λ ws. Accounted label start.games ws batches' refused' in
    let b = subst W same (subst G games settled'.accounted) in
    (same_batches start.games whole batches batches' refused refused' settled.accounted b, same_refused start.games whole batches batches' refused refused' settled.accounted b)

pub same_front : (front other : List ℕ) (last last' : ℕ) → front ++ last ∷ [] ≡ other ++ last' ∷ [] → front ≡ other
same_front [] [] last last' e = refl
same_front [] (b ∷ other) last last' e = absurd (omega (arith, ap length e, length-append other (last' ∷ [])))
same_front (b ∷ front) [] last last' e = absurd (omega (arith, ap length e, length-append front (last ∷ [])))
same_front (b ∷ front) (c ∷ other) last last' e =
    let head : b ≡ c = cc in
    let tail : front ++ last ∷ [] ≡ other ++ last' ∷ [] = cc in
    ap (λ (n : ℕ). n ∷ front) head ∙ ap (λ (l : List ℕ). c ∷ l) (same_front front other last last' tail)

module _ {D J : Type 0} {label : List ℕ} (disk : D → DiskState) (left_since : D → ℕ → List ℕ → Type 0) (one : OneGame) (same_batches : SameBatches label) (same_refused : SameRefused label) where
  pub whole_of : (bytes : List ℕ) (source source_after : Stream) (before after : Stored D) (report : Report J) → source.left ≡ Some bytes → (is : ImportsAlone label disk left_since source before source_after after report)
      → report.end ≡ ends.Whole → AreSettled label is.start (groups (cuts bytes)) is.batches report.refused.items
  whole_of bytes source source_after before after report told is whole =
      let P : End J → Type 0 = λ e. StandsAt label e is.start is.stream source_after.left is.batches report.refused.items (stored_in after) in
      let stands = subst P whole is.stands in
      let A : List ℕ → Type 0 = λ s. AreSettled label is.start (groups (cuts s)) is.batches report.refused.items in
      subst A (all_taken source.left source_after.left bytes is.stream told is.reads.next stands.0) stands.2

  pub same_whole : (bytes : List ℕ) (source source_after source_other : Stream) (before after other_after : Stored D) (report other : Report J) → source.left ≡ Some bytes
      → (first : ImportsAlone label disk left_since source before source_after after report) → (second : ImportsAlone label disk left_since source before source_other other_after other)
      → report.end ≡ ends.Whole → other.end ≡ ends.Whole → (first.batches ≡ second.batches) × (report.refused.items ≡ other.refused.items)
  same_whole bytes source source_after source_other before after other_after report other told first second is also =
      let journals : second.start.journal ≡ first.start.journal = ap (λ (s : Store). s.journal) second.start_is ∙ sym (ap (λ (s : Store). s.journal) first.start_is) in
      let G : List Batch → Type 0 = λ j. AreGamesOf j second.start.games in
      let games = same_games one (texts_of first.start.journal) second.start.games first.start.games (subst G journals second.start.are_games) first.start.are_games in
      let A : List Game → Type 0 = λ gs. Accounted label gs (groups (cuts bytes)) second.batches other.refused.items in
      let a = (whole_of bytes source source_after before after report told first is).accounted in
      let b = subst A games (whole_of bytes source source_other before other_after other told second also).accounted in (
        same_batches first.start.games (groups (cuts bytes)) first.batches second.batches report.refused.items other.refused.items a b,
        same_refused first.start.games (groups (cuts bytes)) first.batches second.batches report.refused.items other.refused.items a b,
      )

  same_start : (source source_after source_other : Stream) (before after other_after : Stored D) (report other : Report J) → (first : ImportsAlone label disk left_since source before source_after after report)
      → (second : ImportsAlone label disk left_since source before source_other other_after other) → second.start.games ≡ first.start.games
  same_start source source_after source_other before after other_after report other first second =
      let journals : second.start.journal ≡ first.start.journal = ap (λ (s : Store). s.journal) second.start_is ∙ sym (ap (λ (s : Store). s.journal) first.start_is) in
      let G : List Batch → Type 0 = λ j. AreGamesOf j second.start.games in
      same_games one (texts_of first.start.journal) second.start.games first.start.games (subst G journals second.start.are_games) first.start.are_games

  pub same_cut_off : (source source_after source_other : Stream) (before after other_after : Stored D) (report other : Report J) (a b a' b' : ℕ)
      → (first : ImportsAlone label disk left_since source before source_after after report) → (second : ImportsAlone label disk left_since source before source_other other_after other)
      → first.stream ≡ second.stream → report.end ≡ ends.ReadFault a b → other.end ≡ ends.ReadFault a' b' → (first.batches ≡ second.batches) × (report.refused.items ≡ other.refused.items)
  same_cut_off source source_after source_other before after other_after report other a b a' b' first second streams is also =
      let P : End J → Type 0 = λ e. StandsAt label e first.start first.stream source_after.left first.batches report.refused.items (stored_in after) in
      let Q : End J → Type 0 = λ e. StandsAt label e second.start second.stream source_other.left second.batches other.refused.items (stored_in other_after) in
      let x = subst P is first.stands in
      let y = subst Q also second.stands in
      let S : List ℕ → Type 0 = λ s. AreInGroups (ended_cuts s) y.whole y.hand in
      same_settled same_batches same_refused first.start second.start first.stream x.whole y.whole x.hand y.hand first.batches second.batches report.refused.items other.refused.items
      (same_start source source_after source_other before after other_after report other first second) x.in_groups (subst S (sym streams) y.in_groups) x.settled y.settled

  pub same_too_much : (source source_after source_other : Stream) (before after other_after : Stored D) (report other : Report J) (n n' : ℕ)
      → (first : ImportsAlone label disk left_since source before source_after after report) → (second : ImportsAlone label disk left_since source before source_other other_after other)
      → first.stream ≡ second.stream → report.end ≡ ends.TooMuch n → other.end ≡ ends.TooMuch n' → (first.batches ≡ second.batches) × (report.refused.items ≡ other.refused.items)
  same_too_much source source_after source_other before after other_after report other n n' first second streams is also =
      let P : End J → Type 0 = λ e. StandsAt label e first.start first.stream source_after.left first.batches report.refused.items (stored_in after) in
      let Q : End J → Type 0 = λ e. StandsAt label e second.start second.stream source_other.left second.batches other.refused.items (stored_in other_after) in
      let x = (subst P is first.stands).1 in
      let y = (subst Q also second.stands).1 in
      let fronts = same_front x.front y.front x.last y.last (sym x.front_is ∙ streams ∙ y.front_is) in
      let S : List ℕ → Type 0 = λ s. AreInGroups (ended_cuts s) y.whole y.hand in
      same_settled same_batches same_refused first.start second.start x.front x.whole y.whole x.hand y.hand first.batches second.batches report.refused.items other.refused.items
      (same_start source source_after source_other before after other_after report other first second) x.in_groups (subst S (sym fronts) y.in_groups) x.settled y.settled
