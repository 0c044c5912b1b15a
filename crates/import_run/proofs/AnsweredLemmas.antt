-- A list of commits and their answers: what it tells of a store that is known, and what it tells whoever else stores there.
use Rattle.std.proofs.Common.{◌≡◌, ◌∙◌, ◌<◌, ℕ, Bool, List, [], ◌∷◌, ◌++◌, append-nil, append_assoc, Option, None, Some, Result, Ok, Err, refl, sym, ap, subst}
use Rattle.std.specs.List.{AllByRecursion, Contains, cons_option}
use Rattle.std.specs.Prelude.{IfSome, IsErrAnd, MatchOption, ⊤}
use Rattle.std.proofs.lemmas.List.Elements.{All-contains, All-from_recursion}
use Rattle.plain_laws.specs.Lists.{each-append}
use Rattle.explorer_model.specs.declared.archive.Batch.{Batch}
use Rattle.explorer_model.specs.declared.archive.Game.{Game}
use Rattle.explorer_model.specs.declared.fault.Refusal.{Refusal}
use Rattle.explorer_model.specs.Cuts.{Cut}
use Rattle.explorer_model.specs.Imports.{Numbering, numbers_of, verdicts}
use Rattle.explorer_model.specs.Timeline.{IsPrefix}
use Rattle.published_index.specs.Places.{Drawing}
use Rattle.tally_rows.specs.Tally.{Counted}
use Rattle.ingest_desk.specs.Causes.{HasIds, IsClosed, cause}
use Rattle.ingest_desk.specs.declared.clashing.Clashing.{Clashing}
use Rattle.ingest_desk.specs.declared.fault.CommitFault.{CommitFault}
use Rattle.ingest_desk.specs.declared.fault.CommitFault.TheVariants as faults
use Rattle.ingest_desk.specs.declared.receipt.Receipt.{Receipt}
use Rattle.import_run.specs.declared.settle.Done.{Done}
use Rattle.import_run.specs.declared.settle.Round.{Round}
use Rattle.import_run.specs.declared.settle.Round.TheVariants.{Again, Ended}
use Rattle.import_run.specs.declared.text_group.TalliedGroup.{TalliedGroup}
use Rattle.import_run.specs.Answered.{Allows, Clashes, Committed, DrawsEach, Ran, Runs, Tells, note_of, notes_of}
use Rattle.import_run.specs.Beside.{AnswersFor, AnswersTo, AreNamed, SettlesBeside}
use Rattle.import_run.specs.Settled.{AreNoted, GroupCommits, IsCommittedBy, commits_in}
use Rattle.import_run.specs.Committing.{AreKnown, Commits, IsClash, Known, Store, store_of}
use Rattle.import_run.specs.Draws.{DrawsAsAnswered, DrawsFew, DrawsPlace}
use Rattle.import_run.specs.Grouping.{Ascend, IsTallied}
use Rattle.import_run.specs.Hand.{InHand}
use Rattle.import_run.specs.Rounds.{AnswerDecided, Comes, ComesOnce, GroupBy, IsDecided, LacksFor, LacksOnce, MayHaveMore, Rounds, Settles, answer_in, handed_in, size_of, stored_by}
use Rattle.import_run.specs.Settling.{kept}
use Rattle.import_run.proofs.DrawLemmas.{few-answered, few-none}
use Rattle.import_run.proofs.HandLemmas.{AreRight, lacks_commit, lacks_still, settles, settles_none}

-- ---- lists of commits

last_of : {A : Type 0} (P : A → Type 0) (xs : List A) (x : A) → AllByRecursion P (xs ++ x ∷ []) → P x
last_of P [] x all = all.0
last_of P (y ∷ xs) x all = last_of P xs x all.1

module _ {J : Type 0} where
  pub tells_both : (a b c : Option Store) (xs ys : List (Committed J)) → Tells a xs b → Tells b ys c → Tells a (xs ++ ys) c
  tells_both a b c [] ys same later = subst (λ s. Tells s ys c) same later
  tells_both a b c (x ∷ xs) ys earlier later = (earlier.0, earlier.1, tells_both earlier.0 b c xs ys earlier.2 later)

  pub draws_both : (a b c : Drawing) (xs ys : List (Committed J)) → DrawsEach a xs b → DrawsEach b ys c → DrawsEach a (xs ++ ys) c
  draws_both a b c [] ys same later = subst (λ d. DrawsEach d ys c) same later
  draws_both a b c (x ∷ xs) ys earlier later = (earlier.0, earlier.1, draws_both earlier.0 b c xs ys earlier.2 later)

  pub notes_both : (xs ys : List (Committed J)) → notes_of (xs ++ ys) ≡ notes_of xs ++ notes_of ys
  notes_both [] ys = refl
  notes_both (x ∷ xs) ys = ap (λ (l : List (List Batch)). note_of x.answer ++ l) (notes_both xs ys) ∙ sym (append_assoc (note_of x.answer) (notes_of xs) (notes_of ys))

  pub notes_grow : (xs ys : List (Committed J)) → IsPrefix (notes_of xs) (notes_of (xs ++ ys))
  notes_grow xs ys = record { rest = notes_of ys; is = notes_both xs ys }

  -- nothing was committed yet
  abbrev pub runs_none : (notes notes' : List (List Batch)) (told : Option Store) (drawing : Drawing) → notes' ≡ notes → Runs J notes notes' told told drawing drawing
  runs_none notes notes' told drawing same = record {
    clashes = [];
    last = None;
    ran = record { tells = refl; allows = tt; draws = refl };
    clashed = tt;
    noted = same ∙ sym (append-nil notes);
  }

  module _ {told told' : Option Store} {drawing drawing' : Drawing} (handed : Counted) (answer : Result (Receipt J) (CommitFault J)) where
    pub ran_one : ((known : Known) → told ≡ Some (store_of known) → Commits answer known handed told') → IsClash answer handed → AnswersTo answer handed → DrawsPlace answer drawing drawing'
        → Ran (record { handed = handed; answer = answer } ∷ []) told told' drawing drawing'
    ran_one commits clash answers draws = record {
      tells = (told', commits, refl);
      allows = (record { clash = clash; answers = answers }, tt);
      draws = (drawing', draws, refl);
    }

  module _ {notes : List (List Batch)} (notes' : List (List Batch)) {told told' : Option Store} {drawing drawing' : Drawing} (commit : Committed J) where
    abbrev pub runs_last : Ran (commit ∷ []) told told' drawing drawing' → notes' ≡ notes → Runs J notes notes' told told' drawing drawing'
    runs_last ran same = record { clashes = []; last = Some commit; ran = ran; clashed = tt; noted = same ∙ sym (append-nil notes) }

    abbrev pub runs_clash : Clashes commit.answer → Ran (commit ∷ []) told told' drawing drawing' → notes' ≡ notes ++ note_of commit.answer → Runs J notes notes' told told' drawing drawing'
    runs_clash clash ran is = record {
      clashes = commit ∷ [];
      last = None;
      ran = ran;
      clashed = (clash, tt);
      noted = is ∙ ap (λ (l : List (List Batch)). notes ++ l) (sym (append-nil (note_of commit.answer)));
    }

  module _ {E : Type 0} {notes notes' : List (List Batch)} {told told' : Option Store} {drawing drawing' : Drawing} where
    -- the commit of a tally was decided
    pub once_ended : (answer : Result (Receipt J) (CommitFault J)) (done : Done J) (counted : Counted) (places : List ℕ) → Ran (record { handed = counted; answer = answer } ∷ []) told told' drawing drawing' → notes' ≡ notes
        → IsDecided answer → done.answer ≡ Some answer → ComesOnce {E = E} (Ok (Ended done)) counted places done.refused.items notes notes' told told' drawing drawing'
    once_ended answer done counted places ran same never is = record {
      runs = runs_last notes' (record { handed = counted; answer = answer }) ran same;
      comes = record { none = refl; handed = refl; answer = is; decided = subst (λ a. AnswerDecided a) (sym is) never; refused_are = refl };
    }

    -- some ids are stored, and the rest is tallied again
    pub once_again : (state : TalliedGroup) (counted : Counted) (places : List ℕ) (refused : List Refusal) (commit : Committed J) → Clashes commit.answer → Ran (commit ∷ []) told told' drawing drawing'
        → notes' ≡ notes ++ note_of commit.answer → IfSome state.tally (λ next. InHand next state.places.items) → size_of state.tally < size_of (Some counted)
        → ((label : List ℕ) (cuts : List Cut) (before : List (Committed J)) → Rounds label cuts (Some counted) places refused before
        → Rounds label cuts state.tally state.places.items state.refused.items (before ++ commit ∷ []))
        → ComesOnce {J = J} {E = E} (Ok (Again state)) counted places refused notes notes' told told' drawing drawing'
    once_again state counted places refused commit clash ran noted hand fewer rounds = record {
      runs = runs_clash notes' commit clash ran noted;
      comes = record { none = refl; hand = hand; fewer = fewer; rounds = rounds };
    }

    -- memory was wanting before a commit
    pub once_before : (result : Result (Round J) E) (Q : E → Type 0) (counted : Counted) (places : List ℕ) (refused : List Refusal) → told' ≡ told → drawing' ≡ drawing
        → notes' ≡ notes → IsErrAnd result Q → ComesOnce result counted places refused notes notes' told told' drawing drawing'
    once_before (Ok round) Q counted places refused same also noted is = absurd is
    once_before (Err fault) Q counted places refused same also noted is = record {
      runs = record { clashes = []; last = None; ran = record { tells = same; allows = tt; draws = also }; clashed = tt; noted = noted ∙ sym (append-nil notes) };
      comes = tt;
    }

    -- memory was wanting behind one that clashed
    pub once_behind : (result : Result (Round J) E) (Q : E → Type 0) (counted : Counted) (places : List ℕ) (refused : List Refusal) (commit : Committed J) → Clashes commit.answer
        → Ran (commit ∷ []) told told' drawing drawing' → notes' ≡ notes ++ note_of commit.answer → IsErrAnd result Q → ComesOnce result counted places refused notes notes' told told' drawing drawing'
    once_behind (Ok round) Q counted places refused commit clash ran noted is = absurd is
    once_behind (Err fault) Q counted places refused commit clash ran noted is = record { runs = runs_clash notes' commit clash ran noted; comes = tt }

    -- memory was wanting for a commit
    pub once_for : (fault : E) (stored : Bool) (counted : Counted) (places : List ℕ) (refused : List Refusal) → Ran {J = J} (record { handed = counted; answer = Err (faults.OutOfMemory stored) } ∷ []) told told' drawing drawing'
        → notes' ≡ notes → ComesOnce {J = J} (Err fault) counted places refused notes notes' told told' drawing drawing'
    once_for fault stored counted places refused ran noted = record {
      runs = runs_last notes' (record { handed = counted; answer = Err (faults.OutOfMemory stored) }) ran noted;
      comes = record { none = refl; lacking = tt; handed = refl };
    }

  module _ {a b c : List (List Batch)} {t u v : Option Store} {d e f : Drawing} where
    -- behind clashes there are more commits
    abbrev pub runs_both : (x : Runs J a b t u d e) → x.last ≡ None → (y : Runs J b c u v e f) → Runs J a c t v d f
    runs_both x none y =
        let rest : List (Committed J) = cons_option y.last [] in
        let front : Ran x.clashes t u d e = subst (λ (l : List (Committed J)). Ran l t u d e) (ap (λ (o : Option (Committed J)). x.clashes ++ cons_option o []) none ∙ append-nil x.clashes) x.ran in
        record {
          clashes = x.clashes ++ y.clashes;
          last = y.last;
          ran = subst (λ (l : List (Committed J)). Ran l t v d f) (sym (append_assoc x.clashes y.clashes rest))
              (record {
                tells = tells_both t u v x.clashes (y.clashes ++ rest) front.tells y.ran.tells;
                allows = each-append Allows x.clashes (y.clashes ++ rest) front.allows y.ran.allows;
                draws = draws_both d e f x.clashes (y.clashes ++ rest) front.draws y.ran.draws;
              });
          clashed = each-append (λ (commit : Committed J). Clashes commit.answer) x.clashes y.clashes x.clashed y.clashed;
          noted = y.noted ∙ ap (λ (l : List (List Batch)). l ++ notes_of y.clashes) x.noted ∙ append_assoc a (notes_of x.clashes) (notes_of y.clashes)
              ∙ ap (λ (l : List (List Batch)). a ++ l) (sym (notes_both x.clashes y.clashes));
        }

untold : (known : Known) → (let o : Option Store = None in o) ≡ Some (store_of known) → ⊥
untold known e = cc

-- the same where no store is known
pub ran_untold : {J : Type 0} {told' : Option Store} {drawing drawing' : Drawing} (handed : Counted) (answer : Result (Receipt J) (CommitFault J)) → IsClash answer handed → AnswersTo answer handed → DrawsPlace answer drawing drawing'
    → Ran (record { handed = handed; answer = answer } ∷ []) None told' drawing drawing'
ran_untold handed answer clash answers draws = ran_one handed answer (λ known e. absurd (untold known e)) clash answers draws

-- Between two commits of a group.
pub record Between (J : Type 0) (tallied state : TalliedGroup) (notes notes' : List (List Batch)) (told told' : Option Store) (drawing drawing' : Drawing) : Type 0 where
  pub runs : Runs J notes notes' told told' drawing drawing'
  pub none : runs.last ≡ None
  pub rounds : (label : List ℕ) (cuts : List Cut) → Ascend cuts → IsTallied label cuts tallied
      → Rounds label cuts state.tally state.places.items state.refused.items runs.clashes

module _ {J : Type 0} {tallied state : TalliedGroup} {a b : List (List Batch)} {t u : Option Store} {d e : Drawing} (w : Between J tallied state a b t u d e) where
  group_of : (tally : Option Counted) → state.tally ≡ tally → (clashes : List (Committed J)) → clashes ≡ w.runs.clashes → (label : List ℕ) (cuts : List Cut) → Ascend cuts → IsTallied label cuts tallied
      → GroupBy label cuts tally state.refused.items clashes
  group_of tally is clashes same label cuts ascend holds =
      subst (λ (l : List (Committed J)). GroupBy label cuts tally state.refused.items l) (sym same)
      (subst (λ (o : Option Counted). GroupBy label cuts o state.refused.items w.runs.clashes) is (w.rounds label cuts ascend holds).by)

  -- nothing is left
  pub settled_none : {E : Type 0} → state.tally ≡ None → Comes {J = J} {E = E} (Ok (record { answer = None; refused = state.refused })) tallied a b t u d e
  settled_none is = record {
    runs = w.runs;
    comes = record {
      answer = ap answer_in (sym w.none);
      decided = tt;
      group = group_of (handed_in w.runs.last) (is ∙ ap handed_in (sym w.none)) w.runs.clashes refl;
    };
  }

  behind_none : (clashes : List (Committed J)) → clashes ≡ [] → w.runs.clashes ++ clashes ≡ w.runs.clashes
  behind_none clashes none = ap (λ (l : List (Committed J)). w.runs.clashes ++ l) none ∙ append-nil w.runs.clashes

  lacks_for : (counted : Counted) → state.tally ≡ Some counted → (last : Option (Committed J)) (clashes : List (Committed J)) → MatchOption last ⊤ (LacksOnce counted clashes) → MatchOption last ⊤ (LacksFor tallied (w.runs.clashes ++ clashes))
  lacks_for counted is None clashes l = tt
  lacks_for counted is (Some commit) clashes l = record {
    lacking = l.lacking;
    refused = state.refused.items;
    group = group_of (Some commit.handed) (is ∙ ap Some (sym l.handed)) (w.runs.clashes ++ clashes) (behind_none clashes l.none);
  }

  module _ {E : Type 0} {c : List (List Batch)} {v : Option Store} {f : Drawing} (counted : Counted) (is : state.tally ≡ Some counted) where
    pub between_more : (next : TalliedGroup) → ComesOnce {J = J} {E = E} (Ok (Again next)) counted state.places.items state.refused.items b c u v e f → Between J tallied next a c t v d f
    between_more next round = record {
      runs = runs_both w.runs w.none round.runs;
      none = round.comes.none;
      rounds = λ label cuts ascend holds. round.comes.rounds label cuts w.runs.clashes
          (subst (λ (o : Option Counted). Rounds label cuts o state.places.items state.refused.items w.runs.clashes) is (w.rounds label cuts ascend holds));
    }

    pub settled_ended : (done : Done J) → ComesOnce {E = E} (Ok (Ended done)) counted state.places.items state.refused.items b c u v e f → Comes {E = E} (Ok done) tallied a c t v d f
    settled_ended done round =
        let r = round.comes in
        let all = w.runs.clashes ++ round.runs.clashes in
        record {
          runs = runs_both w.runs w.none round.runs;
          comes = record {
            answer = r.answer;
            decided = r.decided;
            group = λ label cuts ascend holds. subst (λ (l : List Refusal). GroupBy label cuts (handed_in round.runs.last) l all) (sym r.refused_are)
                (group_of (handed_in round.runs.last) (is ∙ sym r.handed) all (behind_none round.runs.clashes r.none) label cuts ascend holds);
          };
        }

    pub settled_lacks : (result : Result (Done J) E) (Q : E → Type 0) (fault : E) → IsErrAnd result Q → ComesOnce {J = J} (Err fault) counted state.places.items state.refused.items b c u v e f → Comes result tallied a c t v d f
    settled_lacks (Ok done) Q fault never round = absurd never
    settled_lacks (Err why) Q fault never round = record {
      runs = runs_both w.runs w.none round.runs;
      comes = lacks_for counted is round.runs.last round.runs.clashes round.comes;
    }

-- ---- a store that is known

-- the journal has its games, and it is open
abbrev IsItsJournal : Known → List Batch → Type 0
IsItsJournal known journal = AreKnown known journal × (known.fault ≡ None)

closed_clash : (f : ℕ × ℕ) (pairs : List Clashing) → Some (IsClosed f.0 f.1) ≡ Some (HasIds pairs) → ⊥
closed_clash f pairs e = cc

is_open : (fault : Option (ℕ × ℕ)) (games : List Game) (journal : List Batch) (tally : Counted) (pairs : List Clashing) → cause fault games journal tally ≡ Some (HasIds pairs) → fault ≡ None
is_open None games journal tally pairs is = refl
is_open (Some f) games journal tally pairs is = absurd (closed_clash f pairs is)

-- what the clashes name is stored
are_right : (known : Known) (journals : List (List Batch)) (number : Numbering) → AllByRecursion (IsItsJournal known) journals → AreNamed journals number → AreRight known number
are_right known journals number all named id n e =
    let at = named id n e in
    let its = All-contains (IsItsJournal known) journals at.0 (All-from_recursion (IsItsJournal known) journals all) at.1 in
    subst (λ (f : Option (ℕ × ℕ)). stored_by f known.games id ≡ Some n) (sym its.1) (ap (λ (g : List Game). numbers_of g id) (sym (its.0 at.2 at.3)) ∙ at.4)

module _ {J : Type 0} (known : Known) where
  -- a clash leaves it as it was
  clash_keeps : (handed : Counted) (answer : Result (Receipt J) (CommitFault J)) (next : Option Store) → Clashes answer → Commits answer known handed next
      → (next ≡ Some (store_of known)) × AllByRecursion (IsItsJournal known) (note_of answer)
  clash_keeps handed (Ok receipt) next clash c = absurd clash
  clash_keeps handed (Err (faults.Closed before after mark)) next clash c = absurd clash
  clash_keeps handed (Err (faults.Full games bytes note)) next clash c = absurd clash
  clash_keeps handed (Err (faults.DiskFault before after mark)) next clash c = absurd clash
  clash_keeps handed (Err (faults.OutOfMemory stored)) next clash c = absurd clash
  clash_keeps handed (Err (faults.Clash back pairs note)) next clash c = (
    c.still ∙ (λ i. Some (record { journal = c.by.0.stores i; fault = c.by.0.fault i; failed = c.by.0.fails i })),
    ((c.by.2, is_open known.fault known.games known.journal handed pairs.items c.by.0.refused), tt),
  )

  -- what is told behind clashes
  pub record Behind (rest : List (Committed J)) (notes : List (List Batch)) (after : Option Store) : Type 0 where
    pub told : Option Store
    pub still : told ≡ Some (store_of known)
    pub tells : Tells told rest after
    pub journals : AllByRecursion (IsItsJournal known) notes

  clashes_keep : (clashes rest : List (Committed J)) (told after : Option Store) → told ≡ Some (store_of known) → AllByRecursion (λ commit. Clashes commit.answer) clashes
      → Tells told (clashes ++ rest) after → Behind rest (notes_of clashes) after
  clashes_keep [] rest told after still clashed tells = record { told = told; still = still; tells = tells; journals = tt }
  clashes_keep (commit ∷ clashes) rest told after still clashed tells =
      let one = clash_keeps commit.handed commit.answer tells.0 clashed.0 (tells.1 known still) in
      let more = clashes_keep clashes rest tells.0 after one.0 clashed.1 tells.2 in
      record { told = more.told; still = more.still; tells = more.tells; journals = each-append (IsItsJournal known) (note_of commit.answer) (notes_of clashes) one.1 more.journals }

  module _ {label : List ℕ} (cuts : List Cut) (group : GroupCommits J) (g : IsCommittedBy label cuts group) {told : Option Store} (told' : Option Store)
      (tells : Tells told (commits_in group) told') (still : told ≡ Some (store_of known)) where
    -- Alone the answers are those of commits to the store that is known.
    pub group_alone : AnswerDecided (answer_in group.last) → Settles label known cuts group.refused (answer_in group.last) told'
    group_alone decided = by group.last g.by decided (clashes_keep group.clashes (cons_option group.last []) told told' still g.clashed tells)
      where
        by : (last : Option (Committed J)) → GroupBy label cuts (handed_in last) group.refused group.clashes → AnswerDecided (answer_in last)
            → Behind (cons_option last []) (notes_of group.clashes) told' → Settles label known cuts group.refused (answer_in last) told'
        by None b never h = settles_none known cuts group.refused group.clashes b told' (are_right known (notes_of group.clashes) b.number h.journals b.named) (h.tells ∙ h.still)
        by (Some commit) b never h =
            settles known cuts group.refused commit.handed group.clashes b commit.answer told' (are_right known (notes_of group.clashes) b.number h.journals b.named) never
            (subst (λ (t : Option Store). Commits commit.answer known commit.handed t) (sym h.tells.2) (h.tells.1 known h.still))

  module _ {label : List ℕ} (cuts : List Cut) (tallied : TalliedGroup) (ascend : Ascend cuts) (holds : IsTallied label cuts tallied)
      {notes notes' : List (List Batch)} {told told' : Option Store} {drawing drawing' : Drawing} (runs : Runs J notes notes' told told' drawing drawing') (still : told ≡ Some (store_of known)) where
    -- memory was wanting, and the store is as it was, or has the batch
    pub lacked_alone : MatchOption runs.last ⊤ (LacksFor tallied runs.clashes) → MayHaveMore label known (cuts ∷ []) told'
    lacked_alone lacks = by runs.last lacks (clashes_keep runs.clashes (cons_option runs.last []) told told' still runs.clashed runs.ran.tells)
      where
        by : (last : Option (Committed J)) → MatchOption last ⊤ (LacksFor tallied runs.clashes) → Behind (cons_option last []) (notes_of runs.clashes) told' → MayHaveMore label known (cuts ∷ []) told'
        by None l h = lacks_still label known (cuts ∷ []) told' (h.tells ∙ h.still)
        by (Some commit) l h =
            let b = l.group label cuts ascend holds in
            lacks_commit known cuts l.refused commit.handed runs.clashes b commit.answer told' (are_right known (notes_of runs.clashes) b.number h.journals b.named) l.lacking
            (subst (λ (t : Option Store). Commits commit.answer known commit.handed t) (sym h.tells.2) (h.tells.1 known h.still))

-- ---- whoever else stores there

-- Beside others each has what a desk allows.
pub group_beside : {J : Type 0} {label : List ℕ} (cuts : List Cut) (group : GroupCommits J) (notes : List (List Batch)) → IsCommittedBy label cuts group → AllByRecursion Allows (commits_in group)
    → AreNoted notes (notes_of group.clashes) → SettlesBeside label cuts group.refused (answer_in group.last) notes
group_beside {J} {label} cuts group notes g allows noted = record {
  examinations = g.by.examinations;
  are_examinations = g.by.are_examinations;
  number = g.by.number;
  named = λ id n e.
      let N : List Batch → Type 0 = λ journal. Contains notes journal in
      let at = g.by.named id n e in
      (at.0, All-contains N (notes_of group.clashes) at.0 (All-from_recursion N (notes_of group.clashes) noted) at.1, at.2, at.3, at.4);
  refused_are = g.by.refused_are;
  answered = by group.last g.by allows;
}
  where
    by : (last : Option (Committed J)) (b : GroupBy label cuts (handed_in last) group.refused group.clashes) → AllByRecursion Allows (group.clashes ++ cons_option last [])
        → AnswersFor label (kept b.number (verdicts b.examinations)) (answer_in last)
    by None b all = b.made
    by (Some commit) b all = (commit.handed, b.made, (last_of Allows group.clashes commit all).answers)

module _ {J : Type 0} {notes notes' : List (List Batch)} {told told' : Option Store} {drawing drawing' : Drawing} (runs : Runs J notes notes' told told' drawing drawing') where
  pub notes_of_group : IsPrefix notes notes'
  notes_of_group = record { rest = notes_of runs.clashes; is = runs.noted }

  -- ---- what is drawn

  clash_draws : (answer : Result (Receipt J) (CommitFault J)) (old new : Drawing) → Clashes answer → DrawsPlace answer old new → new ≡ old
  clash_draws (Ok receipt) old new clash draws = absurd clash
  clash_draws (Err (faults.Closed before after mark)) old new clash draws = draws
  clash_draws (Err (faults.Clash handed pairs note)) old new clash draws = draws
  clash_draws (Err (faults.Full games bytes note)) old new clash draws = draws
  clash_draws (Err (faults.DiskFault before after mark)) old new clash draws = draws
  clash_draws (Err (faults.OutOfMemory stored)) old new clash draws = absurd clash

  drawn_behind : (clashes rest : List (Committed J)) (old new : Drawing) → AllByRecursion (λ commit. Clashes commit.answer) clashes → DrawsEach old (clashes ++ rest) new → DrawsEach old rest new
  drawn_behind [] rest old new clashed draws = draws
  drawn_behind (commit ∷ clashes) rest old new clashed draws =
      subst (λ (d : Drawing). DrawsEach d rest new) (clash_draws commit.answer old draws.0 clashed.0 draws.1) (drawn_behind clashes rest draws.0 new clashed.1 draws.2)

  drawn : DrawsEach drawing (cons_option runs.last []) drawing'
  drawn = drawn_behind runs.clashes (cons_option runs.last []) drawing drawing' runs.clashed runs.ran.draws

  answer_draws : (last : Option (Committed J)) → DrawsEach drawing (cons_option last []) drawing' → DrawsAsAnswered (answer_in last) drawing drawing'
  answer_draws None draws = draws
  answer_draws (Some commit) draws = subst (λ (d : Drawing). DrawsPlace commit.answer drawing d) (sym draws.2) draws.1

  pub draws_answered : (answer : Option (Result (Receipt J) (CommitFault J))) → answer ≡ answer_in runs.last → DrawsAsAnswered answer drawing drawing'
  draws_answered answer is = subst (λ a. DrawsAsAnswered a drawing drawing') (sym is) (answer_draws runs.last drawn)

  pub draws_one : DrawsFew 1 drawing drawing'
  draws_one = by (answer_in runs.last) (answer_draws runs.last drawn)
    where
      by : (answer : Option (Result (Receipt J) (CommitFault J))) → DrawsAsAnswered answer drawing drawing' → DrawsFew 1 drawing drawing'
      by None draws = few-none 1 drawing drawing' draws
      by (Some answer) draws = few-answered answer drawing drawing' draws

-- ---- a group that was settled

module _ {J E : Type 0} {tallied : TalliedGroup} {notes notes' : List (List Batch)} {told told' : Option Store} {drawing drawing' : Drawing} where
  module _ (label : List ℕ) (done : Done J) (c : Comes {E = E} (Ok done) tallied notes notes' told told' drawing drawing') where
    abbrev pub comes_commits : GroupCommits J
    comes_commits = record { refused = done.refused.items; clashes = c.runs.clashes; last = c.runs.last }

    pub comes_committed : (cuts : List Cut) → Ascend cuts → IsTallied label cuts tallied → IsCommittedBy label cuts comes_commits
    comes_committed cuts ascend holds = record { by = c.comes.group label cuts ascend holds; clashed = c.runs.clashed }

    pub comes_alone : (answer : Option (Result (Receipt J) (CommitFault J))) → done.answer ≡ answer → (known : Known) (cuts : List Cut) → Ascend cuts → IsTallied label cuts tallied → told ≡ Some (store_of known)
        → Settles label known cuts done.refused.items answer told'
    comes_alone answer is known cuts ascend holds still =
        subst (λ a. Settles label known cuts done.refused.items a told') (sym c.comes.answer ∙ is)
        (group_alone known cuts comes_commits (comes_committed cuts ascend holds) told' c.runs.ran.tells still (subst (λ a. AnswerDecided a) c.comes.answer c.comes.decided))

  pub comes_lacking : (label : List ℕ) (fault : E) → Comes {J = J} (Err fault) tallied notes notes' told told' drawing drawing'
      → (known : Known) (cuts : List Cut) → Ascend cuts → IsTallied label cuts tallied → told ≡ Some (store_of known) → MayHaveMore label known (cuts ∷ []) told'
  comes_lacking label fault c known cuts ascend holds is = lacked_alone known cuts tallied ascend holds c.runs is c.comes

  pub comes_drawn : (done : Done J) → Comes {E = E} (Ok done) tallied notes notes' told told' drawing drawing' → DrawsAsAnswered done.answer drawing drawing'
  comes_drawn done c = draws_answered c.runs done.answer c.comes.answer
