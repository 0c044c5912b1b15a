-- An import without faults of new games alone stores all of them.
use Rattle.std.proofs.Common.{◌≡◌, ◌⊎◌, inl, inr, ℕ, ◌+◌, ◌<◌, List, [], ◌∷◌, ◌++◌, length, map, sum_by, None, refl, sym, ap, subst, ◌∙◌, append_assoc, length-append, arith}
use Rattle.std.specs.List.{AllByRecursion, AllZip, cons_option}
use Rattle.std.proofs.lemmas.Grind.{flat_map-append}
use Rattle.std.proofs.lemmas.List.{append-nil, length-map}
use Rattle.std.proofs.lemmas.List.Sums.{sum_by-append, sum_by-cons}
use Rattle.disk_model.specs.Disk.{DiskState}
use Rattle.outside.specs.Stream.{Stream}
use Rattle.explorer_model.specs.declared.archive.Batch.{Batch}
use Rattle.explorer_model.specs.declared.archive.Game.{Game}
use Rattle.explorer_model.specs.declared.archive.Placed.{Placed}
use Rattle.explorer_model.specs.Cuts.{Cut, cuts}
use Rattle.explorer_model.specs.Imports.{Candidate, IsExaminationOf, batch_of, groups, verdicts_in_turn}
use Rattle.explorer_model.specs.Journal.{AreWithin, HaveDifferentIds, byte_count, game_count}
use Rattle.explorer_model.specs.Visits.{AreGamesOf, texts_of}
use Rattle.explorer_model.proofs.Lists.{zip-append}
use Rattle.ingest_desk.proofs.RecountLemmas.{classes_of}
use Rattle.ingest_desk.specs.Stored.{Stored, journal}
use Rattle.ingest_desk.specs.declared.report.End.{End}
use Rattle.ingest_desk.specs.declared.report.End.TheVariants as ends
use Rattle.ingest_desk.specs.declared.report.Report.{Report}
use Rattle.import_run.specs.Alone.{ImportsAlone, stored_in}
use Rattle.import_run.specs.Committing.{Store}
use Rattle.import_run.specs.Ending.{StandsAt, StoresBy}
use Rattle.import_run.specs.Faultless.{CanEnd, EndsWithoutFault, FindRoom, HasNewGames, IsFaultless, StoresAll}
use Rattle.import_run.specs.Progress.{games_after}
use Rattle.import_run.specs.SoFar.{IsWhole}
use Rattle.import_run.proofs.AccountLemmas.{batches_behind, none_or_some}
use Rattle.import_run.proofs.AloneLemmas.{same_games}
use Rattle.import_run.proofs.EarlyLemmas.{batches-append, candidate_bytes, left_behind}
use Rattle.import_run.proofs.GroupLemmas.{all_cuts, groups_first, groups_one, some_cuts, texts-append, texts_in, texts_whole}
use Rattle.import_run.proofs.LawLemmas.{ends_without_fault}
use Rattle.import_run.proofs.NewGameLemmas.{all_stored, as_cuts, bytes_of, front_of}
use Rattle.import_run.proofs.ReachLemmas.{IsTaken, Reaches, reaches, taken_all, taken_of}
use Rattle.import_run.proofs.ReportLemmas.{all_cuts-last}
use Rattle.import_run.proofs.SoFarLemmas.{in_groups}
use Rattle.import_run.proofs.VerdictLemmas.{OneGame}

-- ---- the groups of cuts have all of them

hand_flat : (hand : List Cut) → texts_in hand < 512 → all_cuts (groups hand) ≡ hand
unfolding groups
hand_flat [] few = refl
hand_flat (cut ∷ hand) few = ap all_cuts (groups_one (cut ∷ hand) (omega arith) (omega (arith, few))) ∙ append-nil (cut ∷ hand)

flat_by : (whole : List (List Cut)) (hand : List Cut) → AllByRecursion IsWhole whole → texts_in hand < 512 → all_cuts (groups (all_cuts whole ++ hand)) ≡ all_cuts whole ++ hand
flat_by [] hand each few = hand_flat hand few
flat_by (group ∷ whole) hand each few =
    let rest = all_cuts whole ++ hand in
    let P : List Cut → Type 0 = λ l. all_cuts (groups l) ≡ l in
    subst P (sym (append_assoc group (all_cuts whole) hand)) (by rest (flat_by whole hand each.1 few) (none_or_some (texts_in rest)))
  where
    by : (rest : List Cut) → all_cuts (groups rest) ≡ rest → (texts_in rest ≡ 0) ⊎ (0 < texts_in rest) → all_cuts (groups (group ++ rest)) ≡ group ++ rest
    by rest later (inr some) = ap all_cuts (groups_first group rest each.0 some) ∙ ap (λ (l : List Cut). group ++ l) later
    by rest later (inl none) =
        let texts : texts_in (group ++ rest) ≡ 512 = omega (arith, texts-append group rest, texts_whole group each.0, none) in
        ap all_cuts (groups_one (group ++ rest) (some_cuts (group ++ rest) (omega (arith, texts))) (omega (arith, texts))) ∙ append-nil (group ++ rest)

flat_groups : (cs : List Cut) → all_cuts (groups cs) ≡ cs
flat_groups cs =
    let in_them = in_groups cs in
    let P : List Cut → Type 0 = λ l. all_cuts (groups l) ≡ l in
    subst P (sym in_them.are.all) (flat_by in_them.whole in_them.hand in_them.are.each in_them.are.few)

-- ---- how much is stored

abbrev size_in : List (List ℕ) → ℕ
size_in texts = sum_by (λ (text : List ℕ). length text) texts

size_of_all : (texts : List Placed) → size_in (bytes_of texts) ≡ sum_by (λ (text : Placed). length text.bytes) texts
size_of_all [] = refl
size_of_all (text ∷ texts) =
    omega (
      arith,
      sum_by-cons (λ (bytes : List ℕ). length bytes) text.bytes (bytes_of texts),
      sum_by-cons (λ (x : Placed). length x.bytes) text texts,
      size_of_all texts,
    )

texts_behind : (front batches : List Batch) → texts_of (front ++ batches) ≡ texts_of front ++ texts_of batches
texts_behind front batches = flat_map-append (λ (b : Batch). b.texts) front batches

last_texts : (label : List ℕ) (left : List Candidate) → texts_of (cons_option (batch_of label left) []) ≡ map (λ (c : Candidate). c.text) left
last_texts label [] = refl
last_texts label (c ∷ left) = append-nil (map (λ (c : Candidate). c.text) (c ∷ left))

-- some of the texts find room where all of them do
within_all : (journal batches : List Batch) (left : List Candidate) (texts some more : List Placed) → FindRoom journal texts → texts ≡ some ++ more → texts_of batches ++ map (λ (c : Candidate). c.text) left ≡ bytes_of some
    → AreWithin (game_count (journal ++ batches) + length left) (byte_count (journal ++ batches) + sum_by (λ (c : Candidate). length c.text) left)
within_all journal batches left texts some more room split all =
    let f : Candidate → List ℕ = λ c. c.text in
    let g : Placed → List ℕ = λ text. text.bytes in
    let size : Placed → ℕ = λ text. length text.bytes in
    let behind = texts_behind journal batches in
    let games = ap length behind ∙ length-append (texts_of journal) (texts_of batches) in
    let count = sym (length-append (texts_of batches) (map f left)) ∙ ap length all ∙ length-map some g in
    let bytes = ap size_in behind ∙ sum_by-append (λ (text : List ℕ). length text) (texts_of journal) (texts_of batches) in
    let sizes = sym (sum_by-append (λ (text : List ℕ). length text) (texts_of batches) (map f left)) ∙ ap size_in all ∙ size_of_all some in
    let fewer = ap length split ∙ length-append some more in
    let less = ap (sum_by size) split ∙ sum_by-append size some more in (
      omega (arith, games, count, length-map left f, fewer, room.0),
      omega (arith, bytes, sizes, candidate_bytes left, less, room.1),
    )

module _ {D J : Type 0} {label : List ℕ} (disk : D → DiskState) (left_since : D → ℕ → List ℕ → Type 0) (one : OneGame) (source source_after : Stream) (before after : Stored D) (report : Report J) (stored : List Game)
    (is : ImportsAlone label disk left_since source before source_after after report) (can : CanEnd disk source before) (quiet : IsFaultless disk source source_after before after) (are : AreGamesOf (journal before) stored)
    (new : HasNewGames stored can.bytes) (room : FindRoom (journal before) new.texts) where
  journal_is : is.start.journal ≡ journal before
  journal_is = ap (λ (s : Store). s.journal) is.start_is

  is_open : is.start.fault ≡ None
  is_open = ap (λ (s : Store). s.fault) is.start_is ∙ can.sound

  games_is : stored ≡ is.start.games
  games_is =
      let G : List Batch → Type 0 = λ j. AreGamesOf j is.start.games in
      same_games one (texts_of (journal before)) stored is.start.games are (subst G journal_is is.start.are_games)

  different : HaveDifferentIds (classes_of (is.start.games ++ new.games))
  different =
      let H : List Game → Type 0 = λ g. HaveDifferentIds (classes_of (g ++ new.games)) in
      subst H games_is new.different

  taken : IsTaken can.bytes is.stream source_after.left
  taken = taken_of source.left source_after.left can.bytes is.stream can.told is.reads.next

  whole_by : report.end ≡ ends.Whole → StoresAll {J = J} ends.Whole (journal before) new.texts report.refused.items (journal after)
  whole_by ended =
      let stands = subst (λ (e : End J). StandsAt label e is.start is.stream source_after.left is.batches report.refused.items (stored_in after)) ended is.stands in
      let stores = subst (λ (e : End J). StoresBy e (is.start.journal ++ is.batches) is.start.fault (stored_in after)) ended is.stores in
      let accounted = stands.2.accounted in
      let bytes = taken_all can.bytes is.stream source_after.left taken stands.0 in
      let all : all_cuts (groups (cuts is.stream)) ≡ as_cuts new.texts = flat_groups (cuts is.stream) ∙ ap cuts (sym bytes) ∙ new.all in
      let done = all_stored label one is.start.games (groups (cuts is.stream)) accounted.examinations new.texts new.games accounted.are_examinations all new.are_games different in (
        accounted.yields.refused_are ∙ done.none_refused,
        ap texts_of stores.0 ∙ texts_behind is.start.journal is.batches ∙ (λ i. texts_of (journal_is i) ++ texts_of (accounted.yields.batches_are i))
            ∙ ap (λ (l : List (List ℕ)). texts_of (journal before) ++ l) done.texts_are,
      )

  never_full : (a b : ℕ) (note : List Batch) → report.end ≡ ends.Full a b note → ⊥
  unfolding verdicts_in_turn
  never_full a b note ended =
      let stands = subst (λ (e : End J). StandsAt label e is.start is.stream source_after.left is.batches report.refused.items (stored_in after)) ended is.stands in
      let x = stands.2.0 in
      let none = stands.2.1 in
      let e = x.ends in
      let at : Reaches (cuts can.bytes) e.done e.next = reaches can.bytes is.stream source_after.left x.so_far e.done e.next e.rest taken x.are_so_far e.so_far_is in
      let all : (all_cuts e.done ++ e.next) ++ at.more ≡ as_cuts new.texts = append_assoc (all_cuts e.done) e.next at.more ∙ sym at.is ∙ new.all in
      let front = front_of (all_cuts e.done ++ e.next) at.more new.texts new.games is.start.games all new.are_games different in
      let earlier = e.settled.accounted.examinations in
      let each = zip-append (AllZip IsExaminationOf) e.done (e.next ∷ []) earlier (e.examinations ∷ []) e.settled.accounted.are_examinations (e.are_examinations, tt) in
      let done = all_stored label one is.start.games (e.done ++ e.next ∷ []) (earlier ++ e.examinations ∷ []) front.some front.first each (all_cuts-last e.done e.next ∙ front.front_is) front.first_are front.different in
      let left_is = left_behind one is.start x.so_far is.batches report.refused.items x.left e is_open in
      let last : batches_behind label (games_after is.start.games earlier) (e.examinations ∷ []) ≡ cons_option (batch_of label x.left) [] = ap (λ (cs : List Candidate). cons_option (batch_of label cs) []) (sym left_is) in
      let batches : batches_behind label is.start.games (earlier ++ e.examinations ∷ []) ≡ is.batches ++ cons_option (batch_of label x.left) [] =
      batches-append label is.start.games earlier (e.examinations ∷ []) ∙ (λ i. sym e.settled.accounted.yields.batches_are i ++ last i) in
      let texts : texts_of is.batches ++ map (λ (c : Candidate). c.text) x.left ≡ bytes_of front.some =
      ap (λ (l : List (List ℕ)). texts_of is.batches ++ l) (sym (last_texts label x.left)) ∙ sym (ap texts_of batches ∙ texts_behind is.batches (cons_option (batch_of label x.left) [])) ∙ done.texts_are in
      let R : List Batch → Type 0 = λ j. FindRoom j new.texts in
      let within = within_all is.start.journal is.batches x.left new.texts front.some front.more (subst R (sym journal_is) room) front.is texts in
      let games = none.games_are ∙ ap game_count stands.1 in
      let bytes = none.bytes_are ∙ ap byte_count stands.1 in
      none.passes (omega (arith, games, within.0), omega (arith, bytes, within.1))

  by_end : (end : End J) → report.end ≡ end → EndsWithoutFault end → StoresAll end (journal before) new.texts report.refused.items (journal after)
  by_end ends.Whole ended fine = whole_by ended
  by_end (ends.Full a b note) ended fine = absurd (never_full a b note ended)
  by_end ends.OutOfMemory ended fine = tt
  by_end (ends.ReadFault a b) ended fine = absurd fine
  by_end (ends.DiskFault a b mark) ended fine = absurd fine
  by_end (ends.Closed a b mark) ended fine = absurd fine
  by_end (ends.TooMuch n) ended fine = absurd fine

  pub all_new_stored : StoresAll report.end (journal before) new.texts report.refused.items (journal after)
  all_new_stored = by_end report.end refl (ends_without_fault disk left_since source source_after before after report is can quiet)
