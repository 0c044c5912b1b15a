-- Groups that are settled by their commits: alone the commits are those to the store that is known, beside others each has what a desk allows.
use Rattle.std.proofs.Common.{◌≡◌, ◌∙◌, ◌<◌, arith, ℕ, List, [], ◌∷◌, ◌++◌, Option, None, Some, Result, Ok, Err, refl, sym, ap, subst, append_assoc}
use Rattle.std.specs.List.{AllByRecursion, AllZip, Contains, cons_option}
use Rattle.std.proofs.lemmas.Grind.{flat_map-append}
use Rattle.std.proofs.lemmas.List.{append-nil}
use Rattle.std.proofs.lemmas.List.Elements.{All-nil, Contains-append_right}
use Rattle.plain_laws.specs.Lists.{each-append, each-behind, each-front}
use Rattle.explorer_model.specs.declared.archive.Batch.{Batch}
use Rattle.explorer_model.specs.declared.archive.Game.{Game}
use Rattle.explorer_model.specs.declared.fault.Refusal.{Refusal}
use Rattle.explorer_model.specs.Cuts.{Cut}
use Rattle.explorer_model.specs.Imports.{Accounted, verdicts_in_turn}
use Rattle.explorer_model.specs.Timeline.{IsPrefix}
use Rattle.explorer_model.proofs.Lists.{zip-append}
use Rattle.ingest_desk.specs.declared.fault.CommitFault.{CommitFault}
use Rattle.ingest_desk.specs.declared.receipt.Receipt.{Receipt}
use Rattle.published_index.specs.Places.{Drawing}
use Rattle.import_run.specs.declared.open_import.OpenImport.{OpenImport}
use Rattle.import_run.specs.declared.open_import.Stopped.{Stopped}
use Rattle.import_run.specs.declared.settle.Done.{Done}
use Rattle.import_run.specs.declared.text_group.TalliedGroup.{TalliedGroup}
use Rattle.import_run.specs.Answered.{Allows, Clashes, Committed, Tells, note_of, notes_of}
use Rattle.import_run.specs.Beside.{ProgressBeside, SettlesBeside, StopsBeside, last_batches}
use Rattle.import_run.specs.Committing.{Known, Store, store_of}
use Rattle.import_run.specs.Grouping.{Ascend, IsTallied}
use Rattle.import_run.specs.Importing.{IsEndOf, StopsAt}
use Rattle.import_run.specs.Progress.{Progress}
use Rattle.import_run.specs.Rounds.{AnswerDecided, Comes, Settles, answer_in}
use Rattle.import_run.specs.Settled.{AreNoted, GoesOn, GroupCommits, IsCommittedBy, IsSettledBy, IsSettledSo, IsStoppedBy, TellOfMore, commits_in, commits_of, receipt_of, receipts_of, refused_of}
use Rattle.import_run.proofs.AnsweredLemmas.{comes_commits, comes_committed, group_alone, group_beside, notes_both, notes_of_group, tells_both}
use Rattle.import_run.proofs.BesideLemmas.{none_beside, one_beside, stops_beside}
use Rattle.import_run.proofs.NextLemmas.{no_batch, one_batch}
use Rattle.import_run.proofs.RepeatLemmas.{contains-more}

-- ---- lists of commits

module _ {J : Type 0} where
  tells_parts : (old new : Option Store) (xs ys : List (Committed J)) → Tells old (xs ++ ys) new → (mid : Option Store) × Tells old xs mid × Tells mid ys new
  tells_parts old new [] ys tells = (old, refl, tells)
  tells_parts old new (x ∷ xs) ys tells =
      let rest = tells_parts tells.0 new xs ys tells.2 in
      (rest.0, (tells.0, tells.1, rest.1), rest.2)

  receipts_both : (xs ys : List (Committed J)) → receipts_of (xs ++ ys) ≡ receipts_of xs ++ receipts_of ys
  receipts_both [] ys = refl
  receipts_both (x ∷ xs) ys = ap (λ (l : List (Receipt J)). receipt_of x.answer ++ l) (receipts_both xs ys) ∙ sym (append_assoc (receipt_of x.answer) (receipts_of xs) (receipts_of ys))

  no_receipt : (answer : Result (Receipt J) (CommitFault J)) → Clashes answer → receipt_of answer ≡ []
  no_receipt (Ok receipt) clash = absurd clash
  no_receipt (Err fault) clash = refl

  clashes_none : (clashes rest : List (Committed J)) → AllByRecursion (λ commit. Clashes commit.answer) clashes → receipts_of (clashes ++ rest) ≡ receipts_of rest
  clashes_none [] rest each = refl
  clashes_none (x ∷ xs) rest each = ap (λ (l : List (Receipt J)). l ++ receipts_of (xs ++ rest)) (no_receipt x.answer each.0) ∙ clashes_none xs rest each.1

  -- the receipt of an answer, if it is one
  abbrev pub receipt_in : Option (Result (Receipt J) (CommitFault J)) → List (Receipt J)
  receipt_in None = []
  receipt_in (Some answer) = receipt_of answer

  last_receipt : (last : Option (Committed J)) → receipts_of (cons_option last []) ≡ receipt_in (answer_in last)
  last_receipt None = refl
  last_receipt (Some commit) = append-nil (receipt_of commit.answer)

  group_receipts : {label : List ℕ} {cuts : List Cut} (group : GroupCommits J) → IsCommittedBy label cuts group → receipts_of (commits_in group) ≡ receipt_in (answer_in group.last)
  group_receipts group is = clashes_none group.clashes (cons_option group.last []) is.clashed ∙ last_receipt group.last

  decided_on : (answer : Option (Result (Receipt J) (CommitFault J))) → GoesOn answer → AnswerDecided answer
  decided_on None on = tt
  decided_on (Some (Ok receipt)) on = tt
  decided_on (Some (Err fault)) on = absurd on

  -- ---- receipts that tell of more and more

  more_last : (least : ℕ) (receipts : List (Receipt J)) (receipt : Receipt J) → TellOfMore least receipts → last_batches least receipts < receipt.batches → TellOfMore least (receipts ++ receipt ∷ [])
  more_last least [] receipt more above = (above, tt)
  more_last least (r ∷ receipts) receipt more above = (more.0, more_last r.batches receipts receipt more.1 above)

  more_front : (least : ℕ) (receipts rest : List (Receipt J)) → TellOfMore least (receipts ++ rest) → TellOfMore least receipts
  more_front least [] rest more = tt
  more_front least (r ∷ receipts) rest more = (more.0, more_front r.batches receipts rest more.1)

  more_behind : (least : ℕ) (receipts rest : List (Receipt J)) → TellOfMore least (receipts ++ rest) → TellOfMore (last_batches least receipts) rest
  more_behind least [] rest more = more
  more_behind least (r ∷ receipts) rest more = more_behind r.batches receipts rest more.1

-- ---- alone

unfoldable accounted_none : (label : List ℕ) (stored : List Game) → Accounted label stored [] [] []
unfolding verdicts_in_turn
accounted_none label stored = record { examinations = []; are_examinations = tt; yields = record { batches_are = refl; refused_are = refl } }

progress_none : {J : Type 0} (label : List ℕ) (known : Known) (told : Option Store) → told ≡ Some (store_of known) → Progress {J = J} label known [] [] [] told
unfolding accounted_none
progress_none label known told still = record {
  batches = [];
  accounted = accounted_none label known.games;
  receipts_are = tt;
  known = known;
  still = still;
  journal = sym (append-nil known.journal);
  games = refl;
  fault = refl;
  closed = λ some. tt;
}

module _ {J : Type 0} {label : List ℕ} (start : Known) where
  one_alone : (done : List (List Cut)) (receipts : List (Receipt J)) (refused : List Refusal) (told told' : Option Store) (cuts : List Cut) (group : GroupCommits J) → Progress label start done receipts refused told
      → IsSettledBy label cuts group → Tells told (commits_in group) told' → Progress label start (done ++ cuts ∷ []) (receipts ++ receipts_of (commits_in group)) (refused ++ group.refused) told'
  one_alone done receipts refused told told' cuts group p is tells =
      by (answer_in group.last) is.goes_on (group_receipts group is.committed)
      (group_alone p.known cuts group is.committed told' tells p.still (decided_on (answer_in group.last) is.goes_on))
    where
      by : (answer : Option (Result (Receipt J) (CommitFault J))) → GoesOn answer → receipts_of (commits_in group) ≡ receipt_in answer → Settles label p.known cuts group.refused answer told'
          → Progress label start (done ++ cuts ∷ []) (receipts ++ receipts_of (commits_in group)) (refused ++ group.refused) told'
      by None on are s =
          no_batch start done receipts (receipts ++ receipts_of (commits_in group)) refused (refused ++ group.refused) told told' cuts p group.refused s refl (ap (λ (l : List (Receipt J)). receipts ++ l) are ∙ append-nil receipts)
      by (Some (Ok receipt)) on are s =
          one_batch start done receipts (receipts ++ receipts_of (commits_in group)) refused (refused ++ group.refused) told told' cuts p group.refused receipt s refl (ap (λ (l : List (Receipt J)). receipts ++ l) are)
      by (Some (Err fault)) on are s = absurd on

  all_alone : (groups done : List (List Cut)) (receipts : List (Receipt J)) (refused : List Refusal) (told told' : Option Store) (by : List (GroupCommits J)) → Progress label start done receipts refused told
      → AllZip (IsSettledBy label) groups by → Tells told (commits_of by) told' → Progress label start (done ++ groups) (receipts ++ receipts_of (commits_of by)) (refused ++ refused_of by) told'
  all_alone [] done receipts refused told told' [] p each tells =
      let P : List (List Cut) → Type 0 = λ l. Progress label start l (receipts ++ []) (refused ++ []) told' in
      let Q : List (Receipt J) → Type 0 = λ l. Progress label start done l (refused ++ []) told' in
      let R : List Refusal → Type 0 = λ l. Progress label start done receipts l told' in
      let T : Option Store → Type 0 = λ t. Progress label start done receipts refused t in
      subst P (sym (append-nil done)) (subst Q (sym (append-nil receipts)) (subst R (sym (append-nil refused)) (subst T (sym tells) p)))
  all_alone [] done receipts refused told told' (group ∷ by) p each tells = absurd each
  all_alone (cuts ∷ groups) done receipts refused told told' [] p each tells = absurd each
  all_alone (cuts ∷ groups) done receipts refused told told' (group ∷ by) p each tells =
      let parts = tells_parts told told' (commits_in group) (commits_of by) tells in
      let one = one_alone done receipts refused told parts.0 cuts group p each.0 parts.1 in
      let all = all_alone groups (done ++ cuts ∷ []) (receipts ++ receipts_of (commits_in group)) (refused ++ group.refused) parts.0 told' by one each.1 parts.2 in
      let P : List (List Cut) → Type 0 = λ l. Progress label start l (receipts ++ receipts_of (commits_of (group ∷ by))) (refused ++ refused_of (group ∷ by)) told' in
      let Q : List (Receipt J) → Type 0 = λ l. Progress label start ((done ++ cuts ∷ []) ++ groups) l (refused ++ refused_of (group ∷ by)) told' in
      let R : List Refusal → Type 0 = λ l. Progress label start ((done ++ cuts ∷ []) ++ groups) ((receipts ++ receipts_of (commits_in group)) ++ receipts_of (commits_of by)) l told' in
      subst P (append_assoc done (cuts ∷ []) groups)
      (subst Q (append_assoc receipts (receipts_of (commits_in group)) (receipts_of (commits_of by)) ∙ ap (λ (l : List (Receipt J)). receipts ++ l) (sym (receipts_both (commits_in group) (commits_of by))))
      (subst R (append_assoc refused group.refused (refused_of by)) all))

-- ---- beside others

beside_none : {J : Type 0} (label : List ℕ) (clashes : List (List Batch)) → ProgressBeside {J = J} label [] [] [] clashes
unfolding verdicts_in_turn
beside_none label clashes = record {
  batches = [];
  are_receipts = tt;
  accounted = record { examinations = []; are_examinations = tt; numbers = []; one_each = refl; yields = record { batches_are = refl; refused_are = refl } };
  repeats = All-nil _;
}

module _ {J : Type 0} {label : List ℕ} (clashes : List (List Batch)) where
  one_beside_more : (done : List (List Cut)) (receipts : List (Receipt J)) (refused : List Refusal) (cuts : List Cut) (group : GroupCommits J) → ProgressBeside label done receipts refused clashes
      → IsSettledBy label cuts group → AllByRecursion Allows (commits_in group) → TellOfMore (last_batches 0 receipts) (receipts_of (commits_in group)) → AreNoted clashes (notes_of group.clashes)
      → ProgressBeside label (done ++ cuts ∷ []) (receipts ++ receipts_of (commits_in group)) (refused ++ group.refused) clashes
  one_beside_more done receipts refused cuts group p is allows more noted =
      by (answer_in group.last) is.goes_on (group_receipts group is.committed) (group_beside cuts group clashes is.committed allows noted)
    where
      by : (answer : Option (Result (Receipt J) (CommitFault J))) → GoesOn answer → receipts_of (commits_in group) ≡ receipt_in answer → SettlesBeside label cuts group.refused answer clashes
          → ProgressBeside label (done ++ cuts ∷ []) (receipts ++ receipts_of (commits_in group)) (refused ++ group.refused) clashes
      by None on are s = none_beside done receipts (receipts ++ receipts_of (commits_in group)) refused group.refused clashes cuts p s (ap (λ (l : List (Receipt J)). receipts ++ l) are ∙ append-nil receipts)
      by (Some (Ok receipt)) on are s =
          let above = subst (λ (l : List (Receipt J)). TellOfMore (last_batches 0 receipts) l) are more in
          one_beside done receipts (receipts ++ receipts_of (commits_in group)) refused group.refused clashes cuts p receipt s above.0 (ap (λ (l : List (Receipt J)). receipts ++ l) are)
      by (Some (Err fault)) on are s = absurd on

  all_beside : (groups done : List (List Cut)) (receipts : List (Receipt J)) (refused : List Refusal) (by : List (GroupCommits J)) → ProgressBeside label done receipts refused clashes
      → AllZip (IsSettledBy label) groups by → AllByRecursion Allows (commits_of by) → TellOfMore 0 (receipts ++ receipts_of (commits_of by)) → AreNoted clashes (notes_of (commits_of by))
      → ProgressBeside label (done ++ groups) (receipts ++ receipts_of (commits_of by)) (refused ++ refused_of by) clashes
  all_beside [] done receipts refused [] p each allows more noted =
      let P : List (List Cut) → Type 0 = λ l. ProgressBeside label l (receipts ++ []) (refused ++ []) clashes in
      let Q : List (Receipt J) → Type 0 = λ l. ProgressBeside label done l (refused ++ []) clashes in
      let R : List Refusal → Type 0 = λ l. ProgressBeside label done receipts l clashes in
      subst P (sym (append-nil done)) (subst Q (sym (append-nil receipts)) (subst R (sym (append-nil refused)) p))
  all_beside [] done receipts refused (group ∷ by) p each allows more noted = absurd each
  all_beside (cuts ∷ groups) done receipts refused [] p each allows more noted = absurd each
  all_beside (cuts ∷ groups) done receipts refused (group ∷ by) p each allows more noted =
      let A = λ (journal : List Batch). Contains clashes journal in
      let mine = receipts_of (commits_in group) in
      let rest = receipts_of (commits_of by) in
      let join = append_assoc receipts mine rest ∙ ap (λ (l : List (Receipt J)). receipts ++ l) (sym (receipts_both (commits_in group) (commits_of by))) in
      let told_of : TellOfMore 0 ((receipts ++ mine) ++ rest) = subst (λ (l : List (Receipt J)). TellOfMore 0 l) (sym join) more in
      let here : TellOfMore (last_batches 0 receipts) (mine ++ rest) = more_behind 0 receipts (mine ++ rest) (subst (λ (l : List (Receipt J)). TellOfMore 0 l) (append_assoc receipts mine rest) told_of) in
      let notes = subst (λ (l : List (List Batch)). AreNoted clashes l) (notes_both (commits_in group) (commits_of by)) noted in
      let own = subst (λ (l : List (List Batch)). AreNoted clashes l) (notes_both group.clashes (cons_option group.last [])) (each-front A (notes_of (commits_in group)) (notes_of (commits_of by)) notes) in
      let one = one_beside_more done receipts refused cuts group p each.0 (each-front Allows (commits_in group) (commits_of by) allows) (more_front (last_batches 0 receipts) mine rest here)
      (each-front A (notes_of group.clashes) (notes_of (cons_option group.last [])) own) in
      let all = all_beside groups (done ++ cuts ∷ []) (receipts ++ mine) (refused ++ group.refused) by one each.1 (each-behind Allows (commits_in group) (commits_of by) allows) told_of
      (each-behind A (notes_of (commits_in group)) (notes_of (commits_of by)) notes) in
      let P : List (List Cut) → Type 0 = λ l. ProgressBeside label l (receipts ++ receipts_of (commits_of (group ∷ by))) (refused ++ refused_of (group ∷ by)) clashes in
      let Q : List (Receipt J) → Type 0 = λ l. ProgressBeside label ((done ++ cuts ∷ []) ++ groups) l (refused ++ refused_of (group ∷ by)) clashes in
      let R : List Refusal → Type 0 = λ l. ProgressBeside label ((done ++ cuts ∷ []) ++ groups) ((receipts ++ mine) ++ rest) l clashes in
      subst P (append_assoc done (cuts ∷ []) groups) (subst Q join (subst R (append_assoc refused group.refused (refused_of by)) all))

-- ---- the laws

module _ {J : Type 0} {start : Option Store} {groups : List (List Cut)} {import : OpenImport J} {told : Option Store} (s : IsSettledSo start groups import told) where
  -- Alone the groups are accounted as commits to the store that is known.
  pub settled_alone : (known : Known) → start ≡ Some (store_of known) → Progress import.group.label known groups import.receipts.items import.refused.items told
  settled_alone known is =
      let P : List Refusal → Type 0 = λ l. Progress import.group.label known groups import.receipts.items l told in
      let Q : List (Receipt J) → Type 0 = λ l. Progress import.group.label known groups l (refused_of s.by) told in
      subst P (sym s.refused) (subst Q (sym s.receipts) (all_alone known groups [] [] [] start told s.by (progress_none import.group.label known start is) s.each s.tells))

  -- Beside others they are accounted by what a desk allows.
  pub settled_beside : ProgressBeside import.group.label groups import.receipts.items import.refused.items import.clashes.items
  settled_beside =
      let P : List Refusal → Type 0 = λ l. ProgressBeside import.group.label groups import.receipts.items l import.clashes.items in
      let Q : List (Receipt J) → Type 0 = λ l. ProgressBeside import.group.label groups l (refused_of s.by) import.clashes.items in
      subst P (sym s.refused) (subst Q (sym s.receipts)
      (all_beside import.clashes.items groups [] [] [] s.by (beside_none import.group.label import.clashes.items) s.each s.allows (subst (λ (l : List (Receipt J)). TellOfMore 0 l) s.receipts s.more) s.notes))

module _ {J : Type 0} {label : List ℕ} {next : List Cut} {notes : List (List Batch)} {before : Option Store} {stopped : Stopped J} {told : Option Store} (s : IsStoppedBy label next notes before stopped told) where
  pub stop_alone : (known : Known) → before ≡ Some (store_of known) → StopsAt label known next stopped told
  stop_alone known is =
      let decided = subst (λ a. AnswerDecided a) (sym s.answer) s.decided in
      let P = λ (a : Option (Result (Receipt J) (CommitFault J))). Settles label known next stopped.refused.items a told in
      let Q : List Refusal → Type 0 = λ l. Settles label known next l (answer_in s.by.last) told in
      record {
        fault = s.fault;
        is_end = s.is_end;
        decided = s.decided;
        settled = subst P s.answer (subst Q (sym s.refused) (group_alone known next s.by s.committed told s.tells is decided));
      }

  pub stop_beside : StopsBeside label next notes stopped
  stop_beside =
      let P = λ (a : Option (Result (Receipt J) (CommitFault J))). SettlesBeside label next stopped.refused.items a notes in
      let Q : List Refusal → Type 0 = λ l. SettlesBeside label next l (answer_in s.by.last) notes in
      stops_beside next notes s.fault stopped (subst P s.answer (subst Q (sym s.refused) (group_beside next s.by notes s.committed s.allows s.noted))) s.decided s.is_end

-- ---- what is settled

pub settled_none : {J : Type 0} (start : Option Store) (import : OpenImport J) → import.receipts.items ≡ [] → import.refused.items ≡ [] → IsSettledSo start [] import start
settled_none {J} start import receipts refused = record {
  by = [];
  each = tt;
  tells = refl;
  allows = tt;
  receipts = receipts;
  more = subst (λ (l : List (Receipt J)). TellOfMore 0 l) (sym receipts) tt;
  refused = refused;
  notes = tt;
}

noted_more : (old new journals : List (List Batch)) → IsPrefix old new → AreNoted old journals → AreNoted new journals
noted_more old new [] grew noted = tt
noted_more old new (journal ∷ journals) grew noted = (contains-more old new grew journal noted.0, noted_more old new journals grew noted.1)

-- where the import has more notes, or another group in hand
pub settled_grown : {J : Type 0} {start : Option Store} {groups : List (List Cut)} {old : OpenImport J} (new : OpenImport J) {told : Option Store} → new.group.label ≡ old.group.label → new.receipts.items ≡ old.receipts.items
    → new.refused.items ≡ old.refused.items → IsPrefix old.clashes.items new.clashes.items → IsSettledSo start groups old told → IsSettledSo start groups new told
settled_grown {J} {start} {groups} {old} new {told} label_is receipts refused grew s = record {
  by = s.by;
  each = subst (λ (l : List ℕ). AllZip (IsSettledBy l) groups s.by) (sym label_is) s.each;
  tells = s.tells;
  allows = s.allows;
  receipts = receipts ∙ s.receipts;
  more = subst (λ (l : List (Receipt J)). TellOfMore 0 l) (sym receipts) s.more;
  refused = refused ∙ s.refused;
  notes = noted_more old.clashes.items new.clashes.items (notes_of (commits_of s.by)) grew s.notes;
}

pub same_settled : {J : Type 0} (start : Option Store) (groups : List (List Cut)) (old new : OpenImport J) (told : Option Store) → new.group.label ≡ old.group.label → new.receipts.items ≡ old.receipts.items → new.refused.items ≡ old.refused.items
    → new.clashes.items ≡ old.clashes.items → IsSettledSo start groups old told → IsSettledSo start groups new told
same_settled start groups old new told label_is receipts refused clashes s = settled_grown new label_is receipts refused (record { rest = []; is = clashes ∙ sym (append-nil old.clashes.items) }) s

-- ---- one more group

noted_self : (front journals : List (List Batch)) → AreNoted (front ++ journals) journals
noted_self front [] = tt
noted_self front (journal ∷ journals) = (
  Contains-append_right front (journal ∷ journals) journal (0, omega arith, refl),
  subst (λ (l : List (List Batch)). AreNoted l journals) (append_assoc front (journal ∷ []) journals) (noted_self (front ++ journal ∷ []) journals),
)

module _ {J : Type 0} where
  last_noted : (notes : List (List Batch)) (last : Option (Committed J)) → GoesOn (answer_in last) → AreNoted notes (notes_of (cons_option last []))
  last_noted notes None on = tt
  last_noted notes (Some commit) on = by commit.answer on
    where
      by : (answer : Result (Receipt J) (CommitFault J)) → GoesOn (Some answer) → AreNoted notes (note_of answer ++ [])
      by (Ok receipt) on = tt
      by (Err fault) on = absurd on

module _ {J E : Type 0} {tallied : TalliedGroup} {notes notes' : List (List Batch)} {told told' : Option Store} {drawing drawing' : Drawing} (hand : List Cut) (done : Done J)
    (c : Comes {E = E} (Ok done) tallied notes notes' told told' drawing drawing') where
  own_noted : AreNoted notes' (notes_of c.runs.clashes)
  own_noted = subst (λ (l : List (List Batch)). AreNoted l (notes_of c.runs.clashes)) (sym c.runs.noted) (noted_self notes (notes_of c.runs.clashes))

  -- the last commit of a group ended the import
  pub settled_stopped : {label : List ℕ} → Ascend hand → IsTallied label hand tallied → (fault : CommitFault J) (stopped : Stopped J) → done.answer ≡ Some (Err fault) → IsEndOf fault stopped.end → stopped.refused ≡ done.refused
      → IsStoppedBy label hand notes' told stopped told'
  settled_stopped {label} ascend holds fault stopped is is_end refused = record {
    by = comes_commits label done c;
    committed = comes_committed label done c hand ascend holds;
    fault = fault;
    answer = sym c.comes.answer ∙ is;
    decided = subst (λ a. AnswerDecided a) is c.comes.decided;
    is_end = is_end;
    refused = ap (λ r. r.items) refused;
    tells = c.runs.ran.tells;
    allows = c.runs.ran.allows;
    noted = own_noted;
  }

module _ {J E : Type 0} {start : Option Store} {closed : List (List Cut)} (old new : OpenImport J) {told told' : Option Store} (s : IsSettledSo start closed old told) {tallied : TalliedGroup} {drawing drawing' : Drawing} (hand : List Cut) (done : Done J)
    (c : Comes {E = E} (Ok done) tallied old.clashes.items new.clashes.items told told' drawing drawing') (ascend : Ascend hand) (holds : IsTallied old.group.label hand tallied) (label_is : new.group.label ≡ old.group.label) where
  abbrev group : GroupCommits J
  group = comes_commits old.group.label done c

  -- a group more is settled
  more_settled : (answer : Option (Result (Receipt J) (CommitFault J))) → done.answer ≡ answer → GoesOn answer → new.refused.items ≡ old.refused.items ++ done.refused.items → new.receipts.items ≡ old.receipts.items ++ receipt_in answer
      → TellOfMore 0 new.receipts.items → IsSettledSo start (closed ++ hand ∷ []) new told'
  more_settled answer is on refused receipts more =
      let A = λ (journal : List Batch). Contains new.clashes.items journal in
      let N = λ (l : List (List Batch)). AreNoted new.clashes.items l in
      let last : answer_in c.runs.last ≡ answer = sym c.comes.answer ∙ is in
      let goes = subst (λ a. GoesOn a) (sym last) on in
      let committed = comes_committed old.group.label done c hand ascend holds in
      let both : commits_of (s.by ++ group ∷ []) ≡ commits_of s.by ++ commits_in group =
      flat_map-append (λ (g : GroupCommits J). commits_in g) s.by (group ∷ []) ∙ ap (λ (l : List (Committed J)). commits_of s.by ++ l) (append-nil (commits_in group)) in
      let mine = subst N (sym (notes_both c.runs.clashes (cons_option c.runs.last []))) (each-append A (notes_of c.runs.clashes) (notes_of (cons_option c.runs.last [])) (own_noted hand done c) (last_noted new.clashes.items c.runs.last goes)) in
      let earlier = noted_more old.clashes.items new.clashes.items (notes_of (commits_of s.by)) (notes_of_group c.runs) s.notes in
      record {
        by = s.by ++ group ∷ [];
        each = subst (λ (l : List ℕ). AllZip (IsSettledBy l) (closed ++ hand ∷ []) (s.by ++ group ∷ [])) (sym label_is)
            (zip-append (IsSettledBy old.group.label) closed (hand ∷ []) s.by (group ∷ []) s.each (record { committed = committed; goes_on = goes }, tt));
        tells = subst (λ (l : List (Committed J)). Tells start l told') (sym both) (tells_both start told told' (commits_of s.by) (commits_in group) s.tells c.runs.ran.tells);
        allows = subst (λ (l : List (Committed J)). AllByRecursion Allows l) (sym both) (each-append Allows (commits_of s.by) (commits_in group) s.allows c.runs.ran.allows);
        receipts = receipts ∙ ap (λ (l : List (Receipt J)). l ++ receipt_in answer) s.receipts
            ∙ ap (λ (l : List (Receipt J)). receipts_of (commits_of s.by) ++ l) (sym (group_receipts group committed ∙ ap receipt_in last))
            ∙ sym (ap receipts_of both ∙ receipts_both (commits_of s.by) (commits_in group));
        more = more;
        refused = refused ∙ ap (λ (l : List Refusal). l ++ done.refused.items) s.refused
            ∙ sym (flat_map-append (λ (g : GroupCommits J). g.refused) s.by (group ∷ []) ∙ ap (λ (l : List Refusal). refused_of s.by ++ l) (append-nil done.refused.items));
        notes = subst N (sym (ap notes_of both ∙ notes_both (commits_of s.by) (commits_in group))) (each-append A (notes_of (commits_of s.by)) (notes_of (commits_in group)) earlier mine);
      }

  -- nothing of it was left
  pub settled_more : done.answer ≡ None → new.refused.items ≡ old.refused.items ++ done.refused.items → new.receipts.items ≡ old.receipts.items → IsSettledSo start (closed ++ hand ∷ []) new told'
  settled_more is refused receipts =
      more_settled None is tt refused (receipts ∙ sym (append-nil old.receipts.items)) (subst (λ (l : List (Receipt J)). TellOfMore 0 l) (sym receipts) s.more)

  -- the rest of it is stored
  pub settled_stored : (receipt : Receipt J) → done.answer ≡ Some (Ok receipt) → new.refused.items ≡ old.refused.items ++ done.refused.items → new.receipts.items ≡ old.receipts.items ++ receipt ∷ []
      → last_batches 0 old.receipts.items < receipt.batches → IsSettledSo start (closed ++ hand ∷ []) new told'
  settled_stored receipt is refused receipts above =
      more_settled (Some (Ok receipt)) is tt refused receipts (subst (λ (l : List (Receipt J)). TellOfMore 0 l) (sym receipts) (more_last 0 old.receipts.items receipt s.more above))
