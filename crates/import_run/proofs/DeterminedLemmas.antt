-- Imports of one told stream that ended early come to the same.
use Rattle.std.proofs.Common.{◌≡◌, ◌⊎◌, inl, inr, ℕ, ◌<◌, List, [], ◌∷◌, ◌++◌, length, None, Some, refl, sym, ap, subst, ◌∙◌}
use Rattle.std.proofs.lemmas.Option.{some_pair_parts}
use Rattle.plain_laws.specs.Options.{IsSome-is}
use Rattle.disk_model.specs.Disk.{DiskState}
use Rattle.outside.specs.Stream.{Stream}
use Rattle.explorer_model.specs.declared.archive.Batch.{Batch}
use Rattle.explorer_model.specs.declared.archive.Game.{Game}
use Rattle.explorer_model.specs.Cuts.{Cut, cuts}
use Rattle.explorer_model.specs.Imports.{Accounted, AreExaminations, batch_of, groups}
use Rattle.explorer_model.specs.Journal.{IsSound, byte_count, game_count}
use Rattle.explorer_model.specs.Visits.{AreGamesOf, texts_of}
use Rattle.ingest_desk.specs.Commits.{IsReceiptOf}
use Rattle.ingest_desk.specs.Importers.{call_of, ending_of}
use Rattle.ingest_desk.specs.Reporting.{FindsNoRoom, games_of}
use Rattle.ingest_desk.specs.Stored.{Stored, journal}
use Rattle.ingest_desk.specs.declared.mark.MarkKind.TheVariants as kinds
use Rattle.ingest_desk.specs.Marked.{IsMark, Marked}
use Rattle.ingest_desk.specs.declared.receipt.Receipt.{Receipt}
use Rattle.ingest_desk.specs.declared.report.End.{End}
use Rattle.ingest_desk.specs.declared.report.End.TheVariants as ends
use Rattle.ingest_desk.specs.declared.report.Report.{Report}
use Rattle.import_run.specs.Alone.{ImportsAlone, stored_in}
use Rattle.import_run.specs.Committing.{Store}
use Rattle.import_run.specs.Determined.{AreAlike, IsPlainEnd}
use Rattle.import_run.specs.Ending.{AreSettled, EndsAt, StandsAt, StoresBy}
use Rattle.import_run.specs.Progress.{AreReceiptsOf}
use Rattle.import_run.proofs.AloneLemmas.{same_games}
use Rattle.import_run.proofs.AccountLemmas.{none_or_some}
use Rattle.import_run.proofs.EarlyLemmas.{closed_among, closed_later, found_room, one_longer, same_there, some_text, stored_among, stored_later}
use Rattle.import_run.proofs.GroupLemmas.{texts_in}
use Rattle.import_run.proofs.LawLemmas.{SameBatches, SameRefused, same_whole, whole_of}
use Rattle.import_run.proofs.ReachLemmas.{Compare, GroupsAt, IsTaken, Reaches, compare, groups_at, reaches, taken_of}
use Rattle.import_run.proofs.VerdictLemmas.{OneGame}

-- ---- receipts

one_receipt : {J : Type 0} (journal : List Batch) (batch : Batch) (a b : Receipt J) → IsReceiptOf a journal batch → IsReceiptOf b journal batch → a.note ≡ b.note → a ≡ b
one_receipt journal batch a b is also note =
    let batches = is.batches ∙ sym also.batches in
    let first = is.first ∙ sym also.first in
    let games = is.games ∙ sym also.games in
    λ i. record { batches = batches i; first = first i; games = games i; note = note i }

pub same_receipts : {J : Type 0} (start : List Batch) (batches : List Batch) (first other : List (Receipt J)) → AreReceiptsOf start first batches → AreReceiptsOf start other batches → first ≡ other
same_receipts start [] [] [] a b = refl
same_receipts start [] [] (r ∷ other) a b = absurd b
same_receipts start [] (r ∷ first) other a b = absurd a
same_receipts start (batch ∷ batches) [] other a b = absurd a
same_receipts start (batch ∷ batches) (r ∷ first) [] a b = absurd b
same_receipts start (batch ∷ batches) (r ∷ first) (s ∷ other) a b =
    let head = one_receipt start batch r s a.0 b.0 (a.1 ∙ sym b.1) in
    let tail = same_receipts (start ++ batch ∷ []) batches first other a.2 b.2 in
    λ i. head i ∷ tail i

-- ---- ends

one_mark : (a b a' b' : ℕ) (mark other : Marked) → (a ≡ a') × (b ≡ b') → IsMark kinds.Closed a b None mark → IsMark kinds.Closed a' b' None other → mark ≡ other
one_mark a b a' b' mark other counts one second =
    let kind = one.kind_is ∙ sym second.kind_is in
    let before = one.before_is ∙ counts.0 ∙ sym second.before_is in
    let after = one.after_is ∙ counts.1 ∙ sym second.after_is in
    let failed = one.failed_is ∙ sym second.failed_is in
    λ i. record { kind = kind i; before = before i; after = after i; failed = failed i }

module _ {D J : Type 0} {label : List ℕ} (disk : D → DiskState) (left_since : D → ℕ → List ℕ → Type 0) (one : OneGame) (same_batches : SameBatches label) (same_refused : SameRefused label) (bytes : List ℕ)
    (source source_after source_other : Stream) (before after other_after : Stored D) (report other : Report J) (told : source.left ≡ Some bytes)
    (first : ImportsAlone label disk left_since source before source_after after report) (second : ImportsAlone label disk left_since source before source_other other_after other) where
  stores_are : second.start.journal ≡ first.start.journal
  stores_are = ap (λ (s : Store). s.journal) second.start_is ∙ sym (ap (λ (s : Store). s.journal) first.start_is)

  faults_are : second.start.fault ≡ first.start.fault
  faults_are = ap (λ (s : Store). s.fault) second.start_is ∙ sym (ap (λ (s : Store). s.fault) first.start_is)

  games_are : second.start.games ≡ first.start.games
  games_are =
      let G : List Batch → Type 0 = λ j. AreGamesOf j second.start.games in
      same_games one (texts_of first.start.journal) second.start.games first.start.games (subst G stores_are second.start.are_games) first.start.are_games

  taken : IsTaken bytes first.stream source_after.left
  taken = taken_of source.left source_after.left bytes first.stream told first.reads.next

  taken_other : IsTaken bytes second.stream source_other.left
  taken_other = taken_of source.left source_other.left bytes second.stream told second.reads.next

  alike : first.batches ≡ second.batches → report.refused.items ≡ other.refused.items → AreAlike first.batches second.batches report other
  alike batches refused =
      let R : List Batch → List Batch → Type 0 = λ j b. AreReceiptsOf j other.receipts.items b in
      let S : List Batch → Type 0 = λ b. R first.start.journal b in
      let T : List Batch → Type 0 = λ j. R j second.batches in
      record {
        batches = batches;
        receipts = same_receipts first.start.journal first.batches report.receipts.items other.receipts.items first.receipts (subst S (sym batches) (subst T stores_are second.receipts));
        refused = refused;
      }

  module _ (x : EndsAt label first.start first.stream source_after.left first.batches report.refused.items) (y : EndsAt label second.start second.stream source_other.left second.batches other.refused.items) where
    there : Reaches (cuts bytes) x.ends.done x.ends.next
    there = reaches bytes first.stream source_after.left x.so_far x.ends.done x.ends.next x.ends.rest taken x.are_so_far x.ends.so_far_is

    there_other : Reaches (cuts bytes) y.ends.done y.ends.next
    there_other = reaches bytes second.stream source_other.left y.so_far y.ends.done y.ends.next y.ends.rest taken_other y.are_so_far y.ends.so_far_is

    compared : Compare x.ends.done x.ends.next y.ends.done y.ends.next
    compared = compare (cuts bytes) x.ends.done y.ends.done x.ends.next y.ends.next there there_other

    at_one : x.ends.done ≡ y.ends.done → x.ends.next ≡ y.ends.next → (first.batches ≡ second.batches) × ((report.refused.items ≡ other.refused.items) × (x.left ≡ y.left))
    at_one done next =
        same_there one same_batches same_refused first.start second.start games_are stores_are faults_are x.so_far y.so_far first.batches second.batches report.refused.items other.refused.items x.left y.left x.ends y.ends done next

    -- where both ended with as many batches
    ends_alike : first.start.fault ≡ None → length first.batches ≡ length second.batches → AreAlike first.batches second.batches report other × (x.left ≡ y.left)
    ends_alike is_open long = by compared
      where
        by : Compare x.ends.done x.ends.next y.ends.done y.ends.next → AreAlike first.batches second.batches report other × (x.left ≡ y.left)
        by (inl (done, next)) = let same = at_one done next in (alike same.0 same.1.0, same.1.1)
        by (inr (inl goes)) =
            absurd (one_longer first.batches second.batches x.left
            (stored_later one same_batches same_refused first.start second.start games_are stores_are faults_are x.so_far y.so_far first.batches second.batches report.refused.items other.refused.items x.left y.left x.ends y.ends goes is_open) long)
        by (inr (inr goes)) =
            absurd (one_longer second.batches first.batches y.left
            (stored_later one same_batches same_refused second.start first.start (sym games_are) (sym stores_are) (sym faults_are) y.so_far x.so_far second.batches first.batches other.refused.items report.refused.items y.left x.left y.ends x.ends goes (faults_are ∙ is_open)) (sym long))

    -- where both found no room
    full_alike : (a b a' b' : ℕ) → first.start.fault ≡ None → FindsNoRoom (first.start.journal ++ first.batches) a b x.left → FindsNoRoom (second.start.journal ++ second.batches) a' b' y.left
        → IsSound (first.start.journal ++ first.batches) → IsSound (second.start.journal ++ second.batches) → AreAlike first.batches second.batches report other
    full_alike a b a' b' is_open no_room no_room_other sound sound_other = by compared
      where
        F : List Batch → Type 0
        F = λ j. FindsNoRoom (j ++ second.batches) a' b' y.left

        S : List Batch → Type 0
        S = λ j. IsSound (j ++ second.batches)

        by : Compare x.ends.done x.ends.next y.ends.done y.ends.next → AreAlike first.batches second.batches report other
        by (inl (done, next)) = let same = at_one done next in alike same.0 same.1.0
        by (inr (inl goes)) =
            absurd (found_room first.start.journal first.batches second.batches a b x.left
            (stored_later one same_batches same_refused first.start second.start games_are stores_are faults_are x.so_far y.so_far first.batches second.batches report.refused.items other.refused.items x.left y.left x.ends y.ends goes is_open)
            no_room (subst S stores_are sound_other))
        by (inr (inr goes)) =
            absurd (found_room first.start.journal second.batches first.batches a' b' y.left
            (stored_later one same_batches same_refused second.start first.start (sym games_are) (sym stores_are) (sym faults_are) y.so_far x.so_far second.batches first.batches other.refused.items report.refused.items y.left x.left y.ends x.ends goes (faults_are ∙ is_open))
            (subst F stores_are no_room_other) sound)

    -- where both found a closed store
    closed_alike : (counts : ℕ × ℕ) → first.start.fault ≡ Some counts → AreAlike first.batches second.batches report other
    closed_alike counts is = by compared
      where
        by : Compare x.ends.done x.ends.next y.ends.done y.ends.next → AreAlike first.batches second.batches report other
        by (inl (done, next)) = let same = at_one done next in alike same.0 same.1.0
        by (inr (inl goes)) =
            absurd (closed_later one same_batches same_refused first.start second.start games_are stores_are faults_are x.so_far y.so_far first.batches second.batches report.refused.items other.refused.items x.left y.left x.ends y.ends goes
            (IsSome-is second.start.fault counts (faults_are ∙ is)))
        by (inr (inr goes)) =
            absurd (closed_later one same_batches same_refused second.start first.start (sym games_are) (sym stores_are) (sym faults_are) y.so_far x.so_far second.batches first.batches other.refused.items report.refused.items y.left x.left y.ends x.ends goes
            (IsSome-is first.start.fault counts is))

  -- ---- by the ends

  stands_by : (end : End J) → report.end ≡ end → StandsAt label end first.start first.stream source_after.left first.batches report.refused.items (stored_in after)
  stands_by end is = subst (λ (e : End J). StandsAt label e first.start first.stream source_after.left first.batches report.refused.items (stored_in after)) is first.stands

  stands_by_other : (end : End J) → other.end ≡ end → StandsAt label end second.start second.stream source_other.left second.batches other.refused.items (stored_in other_after)
  stands_by_other end is = subst (λ (e : End J). StandsAt label e second.start second.stream source_other.left second.batches other.refused.items (stored_in other_after)) is second.stands

  sound_full : (a b : ℕ) (note : List Batch) → report.end ≡ ends.Full a b note → IsSound (first.start.journal ++ first.batches)
  sound_full a b note is =
      let stores = subst (λ (e : End J). StoresBy e (first.start.journal ++ first.batches) first.start.fault (stored_in after)) is first.stores in
      subst IsSound stores.0 first.sound

  sound_full_other : (a b : ℕ) (note : List Batch) → other.end ≡ ends.Full a b note → IsSound (second.start.journal ++ second.batches)
  sound_full_other a b note is =
      let stores = subst (λ (e : End J). StoresBy e (second.start.journal ++ second.batches) second.start.fault (stored_in other_after)) is second.stores in
      subst IsSound stores.0 second.sound

  pub same_full : (a b a' b' : ℕ) (note note' : List Batch) → report.end ≡ ends.Full a b note → other.end ≡ ends.Full a' b' note' → AreAlike first.batches second.batches report other × (report.end ≡ other.end)
  same_full a b a' b' note note' is also =
      let x = stands_by (ends.Full a b note) is in
      let y = stands_by_other (ends.Full a' b' note') also in
      let F : List Batch → Type 0 = λ j. FindsNoRoom j a b x.2.0.left in
      let G : List Batch → Type 0 = λ j. FindsNoRoom j a' b' y.2.0.left in
      let same = full_alike x.2.0 y.2.0 a b a' b' x.0 (subst F x.1 x.2.1) (subst G y.1 y.2.1) (sound_full a b note is) (sound_full_other a' b' note' also) in
      let notes : note ≡ note' = x.1 ∙ (λ i. sym stores_are i ++ same.batches i) ∙ sym y.1 in
      let games : a ≡ a' = x.2.1.games_are ∙ ap game_count notes ∙ sym y.2.1.games_are in
      let sizes : b ≡ b' = x.2.1.bytes_are ∙ ap byte_count notes ∙ sym y.2.1.bytes_are in
      (same, is ∙ (λ i. ends.Full (games i) (sizes i) (notes i)) ∙ sym also)

  pub same_closed : (a b a' b' : ℕ) (mark mark' : Marked) → report.end ≡ ends.Closed a b mark → other.end ≡ ends.Closed a' b' mark' → AreAlike first.batches second.batches report other × (report.end ≡ other.end)
  same_closed a b a' b' mark mark' is also =
      let x = stands_by (ends.Closed a b mark) is in
      let y = stands_by_other (ends.Closed a' b' mark') also in
      let counts = some_pair_parts a a' b b' (sym x.1 ∙ sym faults_are ∙ y.1) in
      let marks = one_mark a b a' b' mark mark' counts x.0 y.0 in
      (closed_alike x.2 y.2 (a, b) x.1, is ∙ (λ i. ends.Closed (counts.0 i) (counts.1 i) (marks i)) ∙ sym also)

  -- ---- where the other one settled all of the stream

  module _ (x : EndsAt label first.start first.stream source_after.left first.batches report.refused.items) (ended : other.end ≡ ends.Whole) where
    settled_all : AreSettled label second.start (groups (cuts bytes)) second.batches other.refused.items
    settled_all = whole_of disk left_since one same_batches same_refused bytes source source_other before other_after other told second ended

    some_text_there : 0 < texts_in x.ends.next
    some_text_there = by (none_or_some (texts_in x.ends.next))
      where
        by : (texts_in x.ends.next ≡ 0) ⊎ (0 < texts_in x.ends.next) → 0 < texts_in x.ends.next
        by (inl none) = absurd (some_text one same_batches same_refused first.start x.so_far first.batches report.refused.items x.left x.ends [] [] none)
        by (inr some) = some

    among : GroupsAt (cuts bytes) x.ends.done x.ends.next
    among = groups_at (cuts bytes) x.ends.done x.ends.next (reaches bytes first.stream source_after.left x.so_far x.ends.done x.ends.next x.ends.rest taken x.are_so_far x.ends.so_far_is) some_text_there

    not_full : (a b : ℕ) → first.start.fault ≡ None → FindsNoRoom (first.start.journal ++ first.batches) a b x.left → ⊥
    not_full a b is_open no_room =
        let A : List Game → Type 0 = λ g. Accounted label g (groups (cuts bytes)) second.batches other.refused.items in
        let B : List (List Cut) → Type 0 = λ gs. Accounted label first.start.games gs second.batches other.refused.items in
        let accounted = subst B among.is (subst A games_are settled_all.accounted) in
        let has = stored_among one same_batches same_refused first.start x.so_far first.batches report.refused.items x.left x.ends among.extra among.rest second.batches other.refused.items among.none accounted is_open in
        let stores = subst (λ (e : End J). StoresBy e (second.start.journal ++ second.batches) second.start.fault (stored_in other_after)) ended second.stores in
        let S : List Batch → Type 0 = λ j. IsSound (j ++ second.batches) in
        found_room first.start.journal first.batches second.batches a b x.left has no_room (subst S stores_are (subst IsSound stores.0 second.sound))

    not_closed : (counts : ℕ × ℕ) → first.start.fault ≡ Some counts → ⊥
    not_closed counts is =
        let B : List (List Cut) → Type 0 = λ gs. AreExaminations gs settled_all.accounted.examinations in
        closed_among one same_batches same_refused first.start x.so_far first.batches report.refused.items x.left x.ends among.extra among.rest among.none
        settled_all.accounted.examinations (subst B among.is settled_all.accounted.are_examinations)
        (settled_all.closed (IsSome-is second.start.fault counts (faults_are ∙ is))) (IsSome-is first.start.fault counts is)

  pub same_disk_fault : (a b a' b' : ℕ) (mark mark' : Marked) → report.end ≡ ends.DiskFault a b mark → other.end ≡ ends.DiskFault a' b' mark' → length first.batches ≡ length second.batches → AreAlike first.batches second.batches report other × (after.failed ≡ other_after.failed)
  same_disk_fault a b a' b' mark mark' is also long =
      let x = stands_by (ends.DiskFault a b mark) is in
      let y = stands_by_other (ends.DiskFault a' b' mark') also in
      let both = ends_alike x.2.0 y.2.0 x.1 long in
      (both.0, x.2.2 ∙ ap (batch_of label) both.1 ∙ sym y.2.2)

  pub not_full_and_whole : (a b : ℕ) (note : List Batch) → report.end ≡ ends.Full a b note → other.end ≡ ends.Whole → ⊥
  not_full_and_whole a b note is also =
      let x = stands_by (ends.Full a b note) is in
      let F : List Batch → Type 0 = λ j. FindsNoRoom j a b x.2.0.left in
      not_full x.2.0 also a b x.0 (subst F x.1 x.2.1)

  pub not_closed_and_whole : (a b : ℕ) (mark : Marked) → report.end ≡ ends.Closed a b mark → other.end ≡ ends.Whole → ⊥
  not_closed_and_whole a b mark is also =
      let x = stands_by (ends.Closed a b mark) is in
      not_closed x.2 also (a, b) x.1

  pub not_full_and_closed : (a b a' b' : ℕ) (note : List Batch) (mark : Marked) → report.end ≡ ends.Full a b note → other.end ≡ ends.Closed a' b' mark → ⊥
  not_full_and_closed a b a' b' note mark is also =
      let x = stands_by (ends.Full a b note) is in
      let y = stands_by_other (ends.Closed a' b' mark) also in
      no_counts (a', b') (sym y.1 ∙ faults_are ∙ x.0)
    where
      no_counts : (counts : ℕ × ℕ) → Some counts ≡ None → ⊥
      no_counts counts e = cc

  pub whole_alike : report.end ≡ ends.Whole → other.end ≡ ends.Whole → AreAlike first.batches second.batches report other × (report.end ≡ other.end)
  whole_alike is also =
      let same = same_whole disk left_since one same_batches same_refused bytes source source_after source_other before after other_after report other told first second is also in
      (alike same.0 same.1, is ∙ sym also)

-- ---- ends that the stream and the store decide

module _ {D J : Type 0} {label : List ℕ} (disk : D → DiskState) (left_since : D → ℕ → List ℕ → Type 0) (one : OneGame) (same_batches : SameBatches label) (same_refused : SameRefused label) (bytes : List ℕ)
    (source source_after source_other : Stream) (before after other_after : Stored D) (report other : Report J) (told : source.left ≡ Some bytes)
    (first : ImportsAlone label disk left_since source before source_after after report) (second : ImportsAlone label disk left_since source before source_other other_after other) where
  by_ends : (end end' : End J) → report.end ≡ end → other.end ≡ end' → IsPlainEnd end → IsPlainEnd end' → AreAlike first.batches second.batches report other × (report.end ≡ other.end)
  by_ends ends.Whole ends.Whole is also p q = whole_alike disk left_since one same_batches same_refused bytes source source_after source_other before after other_after report other told first second is also
  by_ends (ends.Full a b note) (ends.Full a' b' note') is also p q =
      same_full disk left_since one same_batches same_refused bytes source source_after source_other before after other_after report other told first second a b a' b' note note' is also
  by_ends (ends.Closed a b mark) (ends.Closed a' b' mark') is also p q =
      same_closed disk left_since one same_batches same_refused bytes source source_after source_other before after other_after report other told first second a b a' b' mark mark' is also
  by_ends (ends.Full a b note) ends.Whole is also p q =
      absurd (not_full_and_whole disk left_since one same_batches same_refused bytes source source_after source_other before after other_after report other told first second a b note is also)
  by_ends ends.Whole (ends.Full a b note) is also p q =
      absurd (not_full_and_whole disk left_since one same_batches same_refused bytes source source_other source_after before other_after after other report told second first a b note also is)
  by_ends (ends.Closed a b mark) ends.Whole is also p q =
      absurd (not_closed_and_whole disk left_since one same_batches same_refused bytes source source_after source_other before after other_after report other told first second a b mark is also)
  by_ends ends.Whole (ends.Closed a b mark) is also p q =
      absurd (not_closed_and_whole disk left_since one same_batches same_refused bytes source source_other source_after before other_after after other report told second first a b mark also is)
  by_ends (ends.Full a b note) (ends.Closed a' b' mark) is also p q =
      absurd (not_full_and_closed disk left_since one same_batches same_refused bytes source source_after source_other before after other_after report other told first second a b a' b' note mark is also)
  by_ends (ends.Closed a' b' mark) (ends.Full a b note) is also p q =
      absurd (not_full_and_closed disk left_since one same_batches same_refused bytes source source_other source_after before other_after after other report told second first a b a' b' note mark also is)
  by_ends (ends.ReadFault a b) end' is also p q = absurd p
  by_ends (ends.DiskFault a b mark) end' is also p q = absurd p
  by_ends (ends.TooMuch n) end' is also p q = absurd p
  by_ends ends.OutOfMemory end' is also p q = absurd p
  by_ends end (ends.ReadFault a b) is also p q = absurd q
  by_ends end (ends.DiskFault a b mark) is also p q = absurd q
  by_ends end (ends.TooMuch n) is also p q = absurd q
  by_ends end ends.OutOfMemory is also p q = absurd q

  pub one_end : IsPlainEnd report.end → IsPlainEnd other.end → AreAlike first.batches second.batches report other × (report.end ≡ other.end)
  one_end plain also = by_ends report.end other.end refl refl plain also

  pub one_call : IsPlainEnd report.end → IsPlainEnd other.end → call_of bytes report ≡ call_of bytes other
  one_call plain also =
      let same = one_end plain also in
      λ i. record { body = bytes; ending = ending_of (same.1 i); games = games_of (same.0.receipts i) }
