-- A group of an import that finds no room is not stored behind the groups before it.
use Rattle.std.proofs.Common.{◌≡◌, ℕ, ◌+◌, ◌≤◌, List, [], ◌∷◌, ◌++◌, map, filter_map, length, sum_by, Option, None, Some, refl, sym, ap, ap₂, subst, ◌∙◌, append_assoc, length-append, arith}
use Rattle.std.specs.List.{AllByRecursion, AllZip, cons_option}
use Rattle.std.proofs.lemmas.List.{append-nil}
use Rattle.std.proofs.lemmas.List.Sums.{sum_by-append, sum_by-cons}
use Rattle.std.proofs.lemmas.Grind.{flat_map-append}
use Rattle.explorer_model.specs.declared.archive.Batch.{Batch}
use Rattle.explorer_model.specs.declared.archive.Game.{Game}
use Rattle.explorer_model.specs.declared.fault.Refusal.{Refusal}
use Rattle.explorer_model.specs.Cuts.{Cut}
use Rattle.explorer_model.specs.Labels.{no_label}
use Rattle.explorer_model.specs.Imports.{Accounted, AreExaminations, Candidate, Examination, IsExaminationOf, Verdict, batch_of, candidates, groups, numbers_of, refusals, verdicts, verdicts_behind, verdicts_in_turn}
use Rattle.explorer_model.specs.Journal.{IsWithin, byte_count, game_count}
use Rattle.explorer_model.specs.Visits.{AreGamesOf, texts_of}
use Rattle.explorer_model.proofs.Lists.{zip-append}
use Rattle.ingest_desk.specs.Reporting.{FindsNoRoom}
use Rattle.import_run.specs.Committing.{Known}
use Rattle.import_run.specs.Ending.{EndsIn}
use Rattle.import_run.specs.Progress.{and_games, games_after}
use Rattle.import_run.specs.Rounds.{stored_by}
use Rattle.import_run.specs.Settling.{kept, lost}
use Rattle.import_run.specs.SoFar.{IsWhole}
use Rattle.import_run.proofs.AccountLemmas.{alike, batches_behind, refused_behind}
use Rattle.import_run.proofs.AloneLemmas.{same_games}
use Rattle.import_run.proofs.GroupLemmas.{all_cuts, texts_in}
use Rattle.import_run.proofs.LawLemmas.{SameBatches, SameRefused}
use Rattle.import_run.proofs.TurnLemmas.{batch_in}
use Rattle.import_run.proofs.VerdictLemmas.{OneGame}
use Rattle.import_run.proofs.EarlyLemmas.{after_groups, batches-append}

-- ---- accounts

-- groups behind stored games have one account
pub record OneAccount : Type 0 where
  pub batches : (label : List ℕ) → SameBatches label
  pub refused : (label : List ℕ) → SameRefused label

-- a batch under this label
abbrev labelled : List ℕ → Batch → Batch
labelled label batch = record batch { label = label }

-- batches under a label are those under none, with the label
batches_labelled : (label : List ℕ) (groups : List (List Verdict)) → filter_map (batch_in label) groups ≡ map (labelled label) (filter_map (batch_in no_label) groups)
batches_labelled label [] = refl
batches_labelled label (group ∷ groups) = by (candidates group) (batches_labelled label groups)
  where
    by : (cs : List Candidate) → filter_map (batch_in label) groups ≡ map (labelled label) (filter_map (batch_in no_label) groups)
        → cons_option (batch_of label cs) (filter_map (batch_in label) groups) ≡ map (labelled label) (cons_option (batch_of no_label cs) (filter_map (batch_in no_label) groups))
    by [] rest = rest
    by (first ∷ more) rest =
        let batch : Batch = record { label = label; texts = map (λ (candidate : Candidate). candidate.text) (first ∷ more) } in
        ap (λ (l : List Batch). batch ∷ l) rest

unlabelled : (label : List ℕ) (stored : List Game) (groups : List (List Cut)) (batches : List Batch) (refused : List Refusal) → (a : Accounted label stored groups batches refused)
    → Accounted no_label stored groups (batches_behind no_label stored a.examinations) refused
unlabelled label stored groups batches refused a = record { examinations = a.examinations; are_examinations = a.are_examinations; yields = record { batches_are = refl; refused_are = a.yields.refused_are } }

-- they have one under each label, where they have one under none
pub accounts_from : SameBatches no_label → SameRefused no_label → OneAccount
accounts_from one_batches one_refused = record {
  batches = λ label stored groups batches others refused other a b.
      a.yields.batches_are ∙ batches_labelled label (verdicts_in_turn stored a.examinations)
      ∙ ap (map (labelled label)) (one_batches stored groups (batches_behind no_label stored a.examinations) (batches_behind no_label stored b.examinations) refused other
      (unlabelled label stored groups batches refused a) (unlabelled label stored groups others other b))
      ∙ sym (batches_labelled label (verdicts_in_turn stored b.examinations)) ∙ sym b.yields.batches_are;
  refused = λ label stored groups batches others refused other a b.
      one_refused stored groups (batches_behind no_label stored a.examinations) (batches_behind no_label stored b.examinations) refused other
      (unlabelled label stored groups batches refused a) (unlabelled label stored groups others other b);
}

module _ (label : List ℕ) where
  pub accounted_by : (stored : List Game) (groups : List (List Cut)) (examinations : List (List Examination)) → AreExaminations groups examinations
      → Accounted label stored groups (batches_behind label stored examinations) (refused_behind stored examinations)
  accounted_by stored groups examinations each = record { examinations = examinations; are_examinations = each; yields = record { batches_are = refl; refused_are = refl } }

  abbrev one_batch : List Game → List Examination → List Batch
  one_batch stored group = cons_option (batch_of label (candidates (verdicts_behind (numbers_of stored) group))) []

  single : (stored : List Game) (group : List Examination) → batches_behind label stored (group ∷ []) ≡ one_batch stored group
  unfolding verdicts_in_turn
  single stored group = refl

  single_refused : (stored : List Game) (group : List Examination) → refused_behind stored (group ∷ []) ≡ refusals (verdicts_behind (numbers_of stored) group)
  unfolding verdicts_in_turn
  single_refused stored group = append-nil (refusals (verdicts_behind (numbers_of stored) group))

  cons_more : (batch : Option Batch) (rest : List Batch) → cons_option batch rest ≡ cons_option batch [] ++ rest
  cons_more None rest = refl
  cons_more (Some batch) rest = refl

  first_batch : (stored : List Game) (group : List Examination) (rest : List (List Examination)) → batches_behind label stored (group ∷ rest) ≡ one_batch stored group ++ batches_behind label (and_games stored group) rest
  unfolding verdicts_in_turn
  first_batch stored group rest = cons_more (batch_of label (candidates (verdicts_behind (numbers_of stored) group))) (batches_behind label (and_games stored group) rest)

  zip_front : (first more : List (List Cut)) (ys : List (List Examination)) → AllZip (AllZip IsExaminationOf) (first ++ more) ys
      → (front : List (List Examination)) × (back : List (List Examination)) × (ys ≡ front ++ back) × AllZip (AllZip IsExaminationOf) first front × AllZip (AllZip IsExaminationOf) more back
  zip_front [] more ys each = ([], ys, refl, tt, each)
  zip_front (group ∷ first) more [] each = absurd each
  zip_front (group ∷ first) more (y ∷ ys) each =
      let later = zip_front first more ys each.1 in
      (y ∷ later.0, later.1, ap (λ (l : List (List Examination)). y ∷ l) later.2, (each.0, later.3), later.4)

  -- ---- counts

  texts_long : (list : List Candidate) → length (map (λ (candidate : Candidate). candidate.text) list) ≡ length list
  texts_long [] = refl
  texts_long (first ∷ rest) = omega (arith, texts_long rest)

  abbrev candidate_bytes : List Candidate → ℕ
  candidate_bytes list = sum_by (λ (candidate : Candidate). length candidate.text) list

  texts_bytes : (list : List Candidate) → sum_by (λ (text : List ℕ). length text) (map (λ (candidate : Candidate). candidate.text) list) ≡ candidate_bytes list
  texts_bytes [] = refl
  texts_bytes (first ∷ rest) =
      sum_by-cons (λ (text : List ℕ). length text) first.text (map (λ (candidate : Candidate). candidate.text) rest)
      ∙ ap (λ (n : ℕ). length first.text + n) (texts_bytes rest)
      ∙ sym (sum_by-cons (λ (candidate : Candidate). length candidate.text) first rest)

  games-append : (a b : List Batch) → game_count (a ++ b) ≡ game_count a + game_count b
  games-append a b = ap (λ (l : List (List ℕ)). length l) (flat_map-append _ a b) ∙ length-append (texts_of a) (texts_of b)

  bytes-append : (a b : List Batch) → byte_count (a ++ b) ≡ byte_count a + byte_count b
  bytes-append a b = ap (sum_by (λ (text : List ℕ). length text)) (flat_map-append _ a b) ∙ sum_by-append (λ (text : List ℕ). length text) (texts_of a) (texts_of b)

  games_of_one : (list : List Candidate) → game_count (cons_option (batch_of label list) []) ≡ length list
  games_of_one [] = refl
  games_of_one (first ∷ rest) = ap (λ (l : List (List ℕ)). length l) (append-nil (map (λ (candidate : Candidate). candidate.text) (first ∷ rest))) ∙ texts_long (first ∷ rest)

  bytes_of_one : (list : List Candidate) → byte_count (cons_option (batch_of label list) []) ≡ candidate_bytes list
  bytes_of_one [] = refl
  bytes_of_one (first ∷ rest) =
      ap (sum_by (λ (text : List ℕ). length text)) (append-nil (map (λ (candidate : Candidate). candidate.text) (first ∷ rest))) ∙ texts_bytes (first ∷ rest)

  -- ---- a group that finds no room in an open store

  module _ (one : OneGame) (accounts : OneAccount) (start : Known) (is_open : start.fault ≡ None) (so_far : List (List Cut)) (batches : List Batch) (refused : List Refusal) (left : List Candidate)
      (ends : EndsIn label start so_far batches refused left) where
    -- what is stored before it
    front_batches : (front : List (List Examination)) → AreExaminations ends.done front → batches_behind label start.games front ≡ batches
    front_batches front each =
        accounts.batches label start.games ends.done (batches_behind label start.games front) batches (refused_behind start.games front) ends.earlier (accounted_by start.games ends.done front each) ends.settled.accounted

    known_games : AreGamesOf (start.journal ++ batches) ends.known.games
    known_games = let P : List Batch → Type 0 = λ j. AreGamesOf j ends.known.games in subst P ends.journal_is ends.known.are_games

    front_games : (front : List (List Examination)) → AreExaminations ends.done front → games_after start.games front ≡ ends.known.games
    front_games front each =
        let P : List Batch → Type 0 = λ b. AreGamesOf (start.journal ++ b) (games_after start.games front) in
        same_games one (texts_of (start.journal ++ batches)) (games_after start.games front) ends.known.games
        (subst P (front_batches front each) (after_groups label start.journal start.games ends.done front start.are_games each)) known_games

    -- its candidates that are left, and its refusals, are those behind what is stored
    none_known : ends.known.fault ≡ None
    none_known = ends.fault_is ∙ is_open

    left_is : left ≡ candidates (verdicts_behind (numbers_of ends.known.games) ends.examinations)
    left_is =
        let P : Option (ℕ × ℕ) → Type 0 = λ f. left ≡ kept (stored_by f ends.known.games) (verdicts ends.examinations) in
        subst P none_known ends.left_are

    pub lost_is : lost (stored_by ends.known.fault ends.known.games) (verdicts ends.examinations) ≡ refused_behind ends.known.games (ends.examinations ∷ [])
    lost_is =
        let P : Option (ℕ × ℕ) → Type 0 = λ f. lost (stored_by f ends.known.games) (verdicts ends.examinations) ≡ refused_behind ends.known.games (ends.examinations ∷ []) in
        subst P (sym none_known) (sym (single_refused ends.known.games ends.examinations))

    batch_is : (group : List Examination) → AllZip IsExaminationOf ends.next group → one_batch ends.known.games group ≡ cons_option (batch_of label left) []
    batch_is group each =
        sym (single ends.known.games group)
        ∙ accounts.batches label ends.known.games (ends.next ∷ []) (batches_behind label ends.known.games (group ∷ [])) (batches_behind label ends.known.games (ends.examinations ∷ [])) (refused_behind ends.known.games (group ∷ []))
        (refused_behind ends.known.games (ends.examinations ∷ [])) (accounted_by ends.known.games (ends.next ∷ []) (group ∷ []) (each, tt)) (accounted_by ends.known.games (ends.next ∷ []) (ends.examinations ∷ []) (ends.are_examinations, tt))
        ∙ single ends.known.games ends.examinations ∙ ap (λ (cs : List Candidate). cons_option (batch_of label cs) []) (sym left_is)

    module _ (games bytes : ℕ) (no_room : FindsNoRoom (start.journal ++ batches) games bytes left) where
      over : (others last : List Batch) → others ≡ (batches ++ cons_option (batch_of label left) []) ++ last → IsWithin (start.journal ++ others) → ⊥
      over others last is within =
          let more = cons_option (batch_of label left) [] in
          let all : start.journal ++ others ≡ ((start.journal ++ batches) ++ more) ++ last =
          ap (λ (l : List Batch). start.journal ++ l) (is ∙ append_assoc batches more last) ∙ sym (append_assoc start.journal batches (more ++ last))
          ∙ sym (append_assoc (start.journal ++ batches) more last) in
          let games_all = ap game_count all ∙ games-append ((start.journal ++ batches) ++ more) last in
          let bytes_all = ap byte_count all ∙ bytes-append ((start.journal ++ batches) ++ more) last in
          no_room.passes (
            omega (arith, no_room.games_are, games_all, games-append (start.journal ++ batches) more, games_of_one left, within.0),
            omega (arith, no_room.bytes_are, bytes_all, bytes-append (start.journal ++ batches) more, bytes_of_one left, within.1),
          )

      -- no batches of it behind those before are within the limits
      behind : (front : List (List Examination)) (group : List Examination) (back : List (List Examination)) (others : List Batch) → AreExaminations ends.done front → AllZip IsExaminationOf ends.next group
          → others ≡ batches_behind label start.games (front ++ group ∷ back) → IsWithin (start.journal ++ others) → ⊥
      behind front group back others each here is within =
          let games = games_after start.games front in
          let rest = batches_behind label (and_games games group) back in
          let group_is : one_batch games group ≡ cons_option (batch_of label left) [] = ap (λ (g : List Game). one_batch g group) (front_games front each) ∙ batch_is group here in
          over others rest
          (is ∙ batches-append label start.games front (group ∷ back)
          ∙ ap₂ (λ (a : List Batch) (b : List Batch). a ++ b) (front_batches front each) (first_batch games group back ∙ ap (λ (l : List Batch). l ++ rest) group_is)
          ∙ sym (append_assoc batches (cons_option (batch_of label left) []) rest))
          within

      pub not_stored : (more : List (List Cut)) (others : List Batch) (other : List Refusal) → Accounted label start.games (ends.done ++ ends.next ∷ more) others other → IsWithin (start.journal ++ others) → ⊥
      not_stored more others other stored within =
          let parts = zip_front ends.done (ends.next ∷ more) stored.examinations stored.are_examinations in
          by_back parts.0 parts.1 parts.2 parts.3 parts.4
        where
          by_back : (front back : List (List Examination)) → stored.examinations ≡ front ++ back → AreExaminations ends.done front → AreExaminations (ends.next ∷ more) back → ⊥
          by_back front [] is each here = absurd here
          by_back front (group ∷ back) is each here = behind front group back others each here.0 (stored.yields.batches_are ∙ ap (λ (l : List (List Examination)). batches_behind label start.games l) is) within

      -- nor at the end of a stream, where the cuts behind it are of the last group
      pub not_ended : (closed : List (List Cut)) (hand : List Cut) (tail : List (List Cut)) (back : List (List Examination)) (others : List Batch) (other : List Refusal) → closed ++ hand ∷ [] ≡ ends.done ++ ends.next ∷ tail
          → AllByRecursion IsWhole closed → texts_in hand ≤ 512 → AreExaminations tail back → Accounted label start.games (groups (all_cuts closed ++ hand)) others other → IsWithin (start.journal ++ others) → ⊥
      not_ended closed hand tail back others other all whole few each stored within =
          let front = ends.settled.accounted.examinations in
          let examined = zip-append (AllZip IsExaminationOf) ends.done (ends.next ∷ tail) front (ends.examinations ∷ back) ends.settled.accounted.are_examinations (ends.are_examinations, each) in
          let P : List (List Cut) → Type 0 = λ l. AreExaminations l (front ++ ends.examinations ∷ back) in
          let same = alike label start.games closed hand (front ++ ends.examinations ∷ back) whole few (subst P (sym all) examined) in
          let is = accounts.batches label start.games (groups (all_cuts closed ++ hand)) others (batches_behind label start.games same.others) other (refused_behind start.games same.others) stored (accounted_by start.games (groups (all_cuts closed ++ hand)) same.others same.are) in
          behind front ends.examinations back others ends.settled.accounted.are_examinations ends.are_examinations (is ∙ same.batches) within
