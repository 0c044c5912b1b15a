-- One more group is settled.
use Rattle.std.proofs.Common.{◌≡◌, ◌⊎◌, inl, inr, ℕ, List, [], ◌∷◌, ◌++◌, map, Option, None, Some, Ok, refl, sym, ap, ◌∙◌, subst, append_assoc}
use Rattle.std.proofs.lemmas.List.{append-nil}
use Rattle.std.specs.List.{AllByRecursion, AllZip, cons_option}
use Rattle.std.specs.Prelude.{IsSome, is_none}
use Rattle.explorer_model.specs.declared.archive.Batch.{Batch}
use Rattle.explorer_model.specs.declared.archive.Game.{Game}
use Rattle.explorer_model.specs.declared.fault.Refusal.{Refusal}
use Rattle.explorer_model.specs.Cuts.{Cut}
use Rattle.explorer_model.specs.Imports.{Accounted, Candidate, Examination, IsExaminationOf, Verdict, batch_of, candidates, numbers_of, refusals, verdict_behind, verdicts, verdicts_behind}
use Rattle.explorer_model.specs.Visits.{AreGamesOf}
use Rattle.ingest_desk.specs.Causes.{Cause, IsClosed, cause}
use Rattle.ingest_desk.specs.Commits.{IsReceiptOf}
use Rattle.ingest_desk.specs.declared.receipt.Receipt.{Receipt}
use Rattle.tally_rows.specs.Tally.{Counted}
use Rattle.import_run.specs.Committing.{Known, Store}
use Rattle.import_run.specs.Progress.{AreReceiptsOf, HasNoCandidate, Progress, and_games}
use Rattle.import_run.specs.Rounds.{IsBatchOf, MayHaveMore, Settles, stored_by}
use Rattle.import_run.proofs.HandLemmas.{lacks_still}
use Rattle.import_run.specs.Settling.{AreRead, id_of, kept}
use Rattle.import_run.proofs.TurnLemmas.{games-after, games_more, one_more}
use Rattle.import_run.proofs.VerdictLemmas.{fewer_read, fresh, kept-left, same_settled, settled_none}

read_kept : (games : List Game) (cuts : List Cut) (examinations : List Examination) → AllZip IsExaminationOf cuts examinations → AreRead (kept (numbers_of games) (verdicts examinations))
read_kept games cuts examinations each =
    let P : List Candidate → Type 0 = λ cs. AreRead cs in
    subst P (sym (kept-left (numbers_of games) (verdicts examinations))) (fewer_read (λ c. is_none (numbers_of games (id_of c))) (candidates (verdicts examinations)) (fresh cuts [] examinations each).1)

no_kept : (label : List ℕ) (cs : List Candidate) → batch_of label cs ≡ None → cs ≡ []
no_kept label [] e = refl
no_kept label (c ∷ cs) e = absurd (some_none _ e)
  where
    some_none : (b : Batch) → Some b ≡ None → ⊥
    some_none b e = cc

pub by_batch : (label : List ℕ) (journal : List Batch) (games : List Game) (cuts : List Cut) (examinations : List Examination) → AreGamesOf journal games → AllZip IsExaminationOf cuts examinations
    → (o : Option Batch) → batch_of label (candidates (verdicts_behind (numbers_of games) examinations)) ≡ o → AreGamesOf (journal ++ cons_option o []) (and_games games examinations)
by_batch label journal games cuts examinations are each None is =
    let P : List Game → Type 0 = λ g. AreGamesOf (journal ++ []) g in
    let Q : List Batch → Type 0 = λ j. AreGamesOf j games in
    subst P (sym (ap (λ (cs : List Candidate). games ++ map (λ c. c.game) cs) (no_kept label (candidates (verdicts_behind (numbers_of games) examinations)) is) ∙ append-nil games)) (subst Q (sym (append-nil journal)) are)
by_batch label journal games cuts examinations are each (Some batch) is =
    games_more label journal games (candidates (verdicts_behind (numbers_of games) examinations)) batch are (read_kept games cuts examinations each) is

-- where nobody is judged, or the store is not closed, the stored games judge
same_behind : (fault : Option (ℕ × ℕ)) (games : List Game) (vs : List Verdict) → (fault ≡ None) ⊎ (kept (stored_by fault games) vs ≡ []) → map (verdict_behind (stored_by fault games)) vs ≡ map (verdict_behind (numbers_of games)) vs
same_behind None games vs why = refl
same_behind (Some f) games vs (inl is_open) = absurd (some_none f is_open)
  where
    some_none : (f : ℕ × ℕ) → Some f ≡ None → ⊥
    some_none f e = cc
same_behind (Some f) games vs (inr none) =
    let R : List Candidate → Type 0 = λ cs. AllByRecursion (λ c. stored_by (Some f) games (id_of c) ≡ numbers_of games (id_of c)) cs in
    let empty : candidates vs ≡ [] = sym (ap candidates (settled_none vs)) ∙ none in
    same_settled (stored_by (Some f) games) (numbers_of games) vs (subst R (sym empty) tt)

-- in a closed store no candidate is kept only where there is none
none_kept : (fault : Option (ℕ × ℕ)) (games : List Game) (vs : List Verdict) → IsSome fault → kept (stored_by fault games) vs ≡ [] → candidates vs ≡ []
none_kept None games vs some none = cc
none_kept (Some f) games vs some none = sym (ap candidates (settled_none vs)) ∙ none

is_some_by : (fault now : Option (ℕ × ℕ)) → now ≡ fault → IsSome fault → IsSome now
is_some_by fault now is some = subst (λ (o : Option (ℕ × ℕ)). IsSome o) (sym is) some

none_some : (fault : Option (ℕ × ℕ)) → IsSome fault → fault ≡ None → ⊥
none_some None some is = cc
none_some (Some f) some is = cc

none_more : (groups : List (List Examination)) (group : List Examination) → AllByRecursion HasNoCandidate groups → HasNoCandidate group → AllByRecursion HasNoCandidate (groups ++ group ∷ [])
none_more [] group none last = (last, tt)
none_more (first ∷ groups) group none last = (none.0, none_more groups group none.1 last)

module _ {J : Type 0} where
  receipts_more : (journal : List Batch) (receipts : List (Receipt J)) (batches : List Batch) (receipt : Receipt J) (batch : Batch) → AreReceiptsOf journal receipts batches
      → IsReceiptOf receipt (journal ++ batches) batch → receipt.note ≡ (journal ++ batches) ++ batch ∷ [] → AreReceiptsOf journal (receipts ++ receipt ∷ []) (batches ++ batch ∷ [])
  receipts_more journal [] [] receipt batch are is note =
      let P : List Batch → Type 0 = λ j. IsReceiptOf receipt j batch in
      let Q : List Batch → Type 0 = λ j. receipt.note ≡ j ++ batch ∷ [] in
      (subst P (append-nil journal) is, subst Q (append-nil journal) note, tt)
  receipts_more journal [] (b ∷ batches) receipt batch are is note = absurd are
  receipts_more journal (r ∷ receipts) [] receipt batch are is note = absurd are
  receipts_more journal (r ∷ receipts) (b ∷ batches) receipt batch are is note =
      let P : List Batch → Type 0 = λ j. IsReceiptOf receipt j batch in
      let Q : List Batch → Type 0 = λ j. receipt.note ≡ j ++ batch ∷ [] in
      let same = sym (append_assoc journal (b ∷ []) batches) in
      (are.0, are.1, receipts_more (journal ++ b ∷ []) receipts batches receipt batch are.2 (subst P same is) (subst Q same note))

not_closed : (fault : Option (ℕ × ℕ)) (games : List Game) (journal : List Batch) (tally : Counted) → cause fault games journal tally ≡ None → fault ≡ None
not_closed None games journal tally is = refl
not_closed (Some f) games journal tally is = absurd (some_none (IsClosed f.0 f.1) is)
  where
    some_none : (x : Cause) → Some x ≡ None → ⊥
    some_none x e = cc

module _ {J : Type 0} {label : List ℕ} (start : Known) (groups : List (List Cut)) (receipts receipts' : List (Receipt J)) (refused refused' : List Refusal) (told told' : Option Store) (cuts : List Cut) (p : Progress label start groups receipts refused told) where
  -- the batch of the group, or none
  step : (examinations : List Examination) → AllZip IsExaminationOf cuts examinations → (IsSome start.fault → HasNoCandidate examinations) → refused' ≡ refused ++ refusals (verdicts_behind (numbers_of p.known.games) examinations)
      → (o : Option Batch) → batch_of label (candidates (verdicts_behind (numbers_of p.known.games) examinations)) ≡ o → AreReceiptsOf start.journal receipts' (p.batches ++ cons_option o [])
      → told' ≡ Some (record { journal = p.known.journal ++ cons_option o []; fault = p.known.fault; failed = p.known.failed })
      → Progress label start (groups ++ cuts ∷ []) receipts' refused' told'
  unfolding one_more
  step examinations each closed refused_is o is receipts_are still =
      let more = one_more start.games groups p.batches refused p.accounted cuts examinations each in
      let B : List Game → Option Batch = λ g. batch_of label (candidates (verdicts_behind (numbers_of g) examinations)) in
      let R : List Game → List Refusal = λ g. refusals (verdicts_behind (numbers_of g) examinations) in
      let acc : Accounted label start.games (groups ++ cuts ∷ []) (p.batches ++ cons_option o []) refused' = record {
        examinations = p.accounted.examinations ++ examinations ∷ [];
        are_examinations = more.are_examinations;
        yields = record {
          batches_are = ap (λ (o : Option Batch). p.batches ++ cons_option o []) (sym is ∙ ap B p.games) ∙ more.yields.batches_are;
          refused_are = refused_is ∙ ap (λ (g : List Game). refused ++ R g) p.games ∙ more.yields.refused_are;
        };
      } in
      record {
        batches = p.batches ++ cons_option o [];
        accounted = acc;
        receipts_are = receipts_are;
        known = record { journal = p.known.journal ++ cons_option o []; fault = p.known.fault; failed = p.known.failed; games = and_games p.known.games examinations; are_games = by_batch label p.known.journal p.known.games cuts examinations p.known.are_games each o is };
        still = still;
        journal = ap (λ (j : List Batch). j ++ cons_option o []) p.journal ∙ append_assoc start.journal p.batches (cons_option o []);
        games = ap (λ (g : List Game). and_games g examinations) p.games ∙ sym (games-after start.games p.accounted.examinations examinations);
        fault = p.fault;
        closed = λ some. none_more p.accounted.examinations examinations (p.closed some) (closed some);
      }

  pub no_batch : (here : List Refusal) → Settles {J = J} label p.known cuts here None told' → refused' ≡ refused ++ here → receipts' ≡ receipts
      → Progress label start (groups ++ cuts ∷ []) receipts' refused' told'
  no_batch here s refused_is receipts_is =
      let vs = verdicts s.examinations in
      let a = s.answered in
      let same = same_behind p.known.fault p.known.games vs (inr a.0) in
      let Q : List (Receipt J) → List Batch → Type 0 = λ r b. AreReceiptsOf start.journal r b in
      let C : List (Receipt J) → Type 0 = λ r. AreReceiptsOf start.journal r (p.batches ++ []) in
      let D : List Batch → Type 0 = λ b. AreReceiptsOf start.journal receipts b in
      step s.examinations s.are_examinations (λ some. none_kept p.known.fault p.known.games vs (is_some_by start.fault p.known.fault p.fault some) a.0)
      (refused_is ∙ ap (λ (l : List Refusal). refused ++ l) (s.refused_are ∙ ap refusals same))
      None (ap (λ (v : List Verdict). batch_of label (candidates v)) (sym same) ∙ ap (batch_of label) a.0)
      (subst C (sym receipts_is) (subst D (sym (append-nil p.batches)) p.receipts_are))
      (a.1 ∙ ap (λ (j : List Batch). Some (record { journal = j; fault = p.known.fault; failed = p.known.failed })) (sym (append-nil p.known.journal)))

  pub one_batch : (here : List Refusal) (receipt : Receipt J) → Settles label p.known cuts here (Some (Ok receipt)) told' → refused' ≡ refused ++ here
      → receipts' ≡ receipts ++ receipt ∷ [] → Progress label start (groups ++ cuts ∷ []) receipts' refused' told'
  one_batch here receipt s refused_is receipts_is =
      let vs = verdicts s.examinations in
      let a = s.answered in
      let commits = a.2 in
      let same = same_behind p.known.fault p.known.games vs (inl (not_closed p.known.fault p.known.games p.known.journal a.0 commits.by.0.refused)) in
      let C : List (Receipt J) → Type 0 = λ r. AreReceiptsOf start.journal r (p.batches ++ a.0.batch ∷ []) in
      let I : List Batch → Type 0 = λ j. IsReceiptOf receipt j a.0.batch in
      step s.examinations s.are_examinations (λ some. absurd (none_some p.known.fault (is_some_by start.fault p.known.fault p.fault some) (not_closed p.known.fault p.known.games p.known.journal a.0 commits.by.0.refused)))
      (refused_is ∙ ap (λ (l : List Refusal). refused ++ l) (s.refused_are ∙ ap refusals same))
      (Some a.0.batch) (ap (λ (v : List Verdict). batch_of label (candidates v)) (sym same) ∙ a.1.batch)
      (subst C (sym receipts_is) (receipts_more start.journal receipts p.batches receipt a.0.batch p.receipts_are (subst I p.journal commits.by.1)
      (commits.by.2 ∙ commits.by.0.stores ∙ ap (λ (j : List Batch). j ++ a.0.batch ∷ []) p.journal)))
      (commits.still ∙ (λ i. Some (record { journal = commits.by.0.stores i; fault = commits.by.0.fault i; failed = commits.by.0.fails i })))

-- ---- want of memory

module _ {J : Type 0} where
  pub lacks_none : {label : List ℕ} (known : Known) (cuts : List Cut) (refused : List Refusal) (told' : Option Store) → Settles {J = J} label known cuts refused None told' → MayHaveMore label known (cuts ∷ []) told'
  lacks_none {label} known cuts refused told' s = lacks_still label known (cuts ∷ []) told' s.answered.1

  pub lacks_one : {label : List ℕ} (known : Known) (cuts : List Cut) (refused : List Refusal) (receipt : Receipt J) (told' : Option Store) → Settles label known cuts refused (Some (Ok receipt)) told' → MayHaveMore label known (cuts ∷ []) told'
  lacks_one {label} known cuts refused receipt told' s =
      let a = s.answered in
      let batch : IsBatchOf label known cuts a.0.batch = record { examinations = s.examinations; are_examinations = s.are_examinations; batch_is = a.1.batch } in
      record { new = a.2.new; still = a.2.still; fault = a.2.by.0.fault; journal = inr (a.0.batch, batch, a.2.by.0.stores) }
