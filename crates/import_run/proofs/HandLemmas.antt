-- From one commit of a group to the next.
use Rattle.std.proofs.Common.{◌≡◌, ◌<◌, ◌≤◌, ◌+◌, inl, inr, ℕ, Bool, true, false, cond, List, [], ◌∷◌, ◌++◌, length, map, filter, get_or, Option, None, Some, option_map, Result, Ok, Err, refl, sym, ap, ◌∙◌, subst, arith, zero, suc, add-one}
use Rattle.std.proofs.lemmas.List.{length-map}
use Rattle.std.specs.List.{All, AllByRecursion, AllZip}
use Rattle.std.specs.Option.{option_or}
use Rattle.std.specs.Prelude.{OnErr, is_none}
use Rattle.plain_laws.specs.Options.{some-none}
use Rattle.arrayvec.specs.ArrayVec.{ArrayVec}
use Rattle.explorer_model.specs.declared.archive.Batch.{Batch}
use Rattle.explorer_model.specs.declared.archive.Game.{Game}
use Rattle.explorer_model.specs.declared.archive.Placed.{Placed}
use Rattle.explorer_model.specs.declared.fault.Refusal.{Refusal}
use Rattle.explorer_model.specs.Cuts.{Cut}
use Rattle.explorer_model.specs.Imports.{Candidate, Numbering, batch_of, candidates, numbers_of, refusals, verdicts}
use Rattle.explorer_model.specs.Timeline.{IsPrefix}
use Rattle.tally_rows.specs.Tally.{Counted}
use Rattle.batch_tally.specs.Tallying.{IsExaminationOfText, IsTallying, IsTallyMade}
use Rattle.batch_tally.specs.declared.tallying.Tallying.{Tallying}
use Rattle.ingest_desk.specs.Causes.{Cause, HasIds, HasNoRoom, IsClosed, cause, cause_by}
use Rattle.ingest_desk.specs.Clashes.{and_clash, clashes_from, clashes_of, ids_of}
use Rattle.ingest_desk.specs.declared.clashing.Clashing.{Clashing}
use Rattle.ingest_desk.specs.declared.fault.CommitFault.{CommitFault}
use Rattle.ingest_desk.specs.declared.fault.CommitFault.TheVariants as faults
use Rattle.ingest_desk.specs.declared.receipt.Receipt.{Receipt}
use Rattle.import_run.specs.declared.text_group.TalliedGroup.{TalliedGroup}
use Rattle.import_run.specs.Answered.{Committed, notes_of}
use Rattle.import_run.specs.Beside.{AreNamed}
use Rattle.import_run.specs.Committing.{Commits, CommitsTo, Known, Store, cause_in, store_of}
use Rattle.import_run.specs.Grouping.{Ascend, IsTallied, merged}
use Rattle.import_run.specs.Hand.{InHand}
use Rattle.import_run.specs.Labelling.{CountsUnder, IsTallyUnder, under}
use Rattle.import_run.specs.Rounds.{GroupBy, IsBatchOf, IsDecided, IsLacking, IsStill, MayHaveMore, MayStore, Rounds, Settles, size_of, stored_by}
use Rattle.import_run.specs.Settling.{AreRead, Fresh, id_of, kept, left_by, lost, named_by, placed}
use Rattle.import_run.proofs.LabelLemmas.{counts_own, made_under}
use Rattle.import_run.proofs.RepeatLemmas.{named-grow}
use Rattle.import_run.proofs.VerdictLemmas.{OneGame, again, ascends, exact, fewer_fresh, fewer_read, found, fresh, kept-left, kept_found, merged_lost, same_settled, settled_none}

-- ---- the tally of candidates

pub batch_texts : (label : List ℕ) (cs : List Candidate) (batch : Batch) → batch_of label cs ≡ Some batch → batch.texts ≡ map (λ c. c.text) cs
batch_texts label [] batch e = absurd (none_some batch e)
  where
    none_some : (b : Batch) → None ≡ Some b → ⊥
    none_some b e = cc
batch_texts label (c ∷ cs) batch e = ap (λ (b : Batch). b.texts) (sym (same_some _ _ e))
  where
    same_some : (a b : Batch) → Some a ≡ Some b → a ≡ b
    same_some a b e = cc

classes_ids : (cs : List Candidate) → ids_of (map (λ c. c.game.classes) cs) ≡ map id_of cs
classes_ids [] = refl
classes_ids (c ∷ cs) = ap (λ (l : List (List ℕ)). id_of c ∷ l) (classes_ids cs)

pub counted_ids : {label : List ℕ} (cs : List Candidate) (counted : Counted) → CountsUnder label cs counted → ids_of counted.classes ≡ map id_of cs
counted_ids {label} cs counted counts = ap ids_of counts.counts.classes ∙ classes_ids cs

pub size_is : (label : List ℕ) (cs : List Candidate) (tally : Option Counted) → IsTallyUnder label cs tally → size_of tally ≡ length cs
size_is label cs None made = ap length (sym made)
size_is label cs (Some counted) made = ap length (batch_texts label cs counted.batch made.batch) ∙ length-map cs (λ (c : Candidate). c.text)

pub size_made : (label : List ℕ) (cs : List Candidate) (made tally : Option Counted) → IsTallyMade cs made → tally ≡ option_map (under label) made → size_of tally ≡ length cs
size_made label cs made tally is same = size_is label cs tally (made_under label cs made tally is same)

-- ---- the rest is shorter

left_le : (number : Numbering) (cs : List Candidate) → length (left_by number cs) ≤ length cs
left_le number [] = omega arith
left_le number (c ∷ cs) = by_number (number (id_of c)) (left_le number cs)
  where
    by_number : (o : Option ℕ) → length (left_by number cs) ≤ length cs → length (cond (is_none o) (c ∷ left_by number cs) (left_by number cs)) ≤ length (c ∷ cs)
    by_number None le = omega (arith, le)
    by_number (Some n) le = omega (arith, le)

pub left_lt : (number : Numbering) (at : ℕ) (cs : List Candidate) → (clashes_from at number (map id_of cs) ≡ [] → ⊥) → length (left_by number cs) < length cs
left_lt number at [] some = absurd (some refl)
left_lt number at (c ∷ cs) some = by_number (number (id_of c)) some (left_lt number (at + 1) cs) (left_le number cs)
  where
    by_number : (o : Option ℕ) → (and_clash at o (clashes_from (at + 1) number (map id_of cs)) ≡ [] → ⊥) → ((clashes_from (at + 1) number (map id_of cs) ≡ [] → ⊥) → length (left_by number cs) < length cs)
        → length (left_by number cs) ≤ length cs → length (cond (is_none o) (c ∷ left_by number cs) (left_by number cs)) < length (c ∷ cs)
    by_number None some later le = omega (arith, later some)
    by_number (Some n) some later le = omega (arith, le)

short_rec : (P : List ℕ → Type 0) (cs : List Candidate) → All P (map (λ c. c.text) cs) → AllByRecursion (λ c. P c.text) cs
short_rec P [] all = tt
short_rec P (c ∷ cs) all = (all 0 c.text (omega arith), short_rec P cs (λ k d lt. let h : P (get_or (map (λ (c : Candidate). c.text) (c ∷ cs)) (k + 1) d) = all (k + 1) d (omega arith) in rw add-one at h))

short_left : (P : List ℕ → Type 0) (p : Candidate → Bool) (cs : List Candidate) → AllByRecursion (λ c. P c.text) cs → AllByRecursion (λ c. P c.text) (filter p cs)
short_left P p [] h = tt
short_left P p (c ∷ cs) h = by_test (p c) (short_left P p cs h.1)
  where
    by_test : (b : Bool) → AllByRecursion (λ c. P c.text) (filter p cs) → AllByRecursion (λ c. P c.text) (cond b (c ∷ filter p cs) (filter p cs))
    by_test true later = (h.0, later)
    by_test false later = later

short_all : (P : List ℕ → Type 0) (cs : List Candidate) → AllByRecursion (λ c. P c.text) cs → All (λ (t : Placed). P t.bytes) (map placed cs)
short_all P [] h k d lt = absurd (omega (arith, lt))
short_all P (c ∷ cs) h zero d lt = h.0
short_all P (c ∷ cs) h (suc k) d lt = short_all P cs h.1 k d (omega (arith, lt))

pub short : (P : List ℕ → Type 0) (number : Numbering) (cs : List Candidate) → All P (map (λ c. c.text) cs) → All (λ (t : Placed). P t.bytes) (map placed (left_by number cs))
short P number cs all = short_all P (left_by number cs) (short_left P (λ c. is_none (number (id_of c))) cs (short_rec P cs all))

-- ---- rounds

by_both : (o p : Option ℕ) (n : ℕ) (P : Type 0) → (o ≡ Some n → P) → (p ≡ Some n → P) → option_or o p ≡ Some n → P
by_both None p n P from then e = then e
by_both (Some m) p n P from then e = from e

-- what was named before, or is named in the journal of one clash more
found_named : (stored number : Numbering) (clashes clashes' : List (List Batch)) → IsPrefix clashes clashes' → AreNamed clashes stored → AreNamed clashes' number → AreNamed clashes' (found stored number)
found_named stored number clashes clashes' grew named more id n e =
    by_both (stored id) (number id) n _ (λ here. named-grow clashes clashes' stored grew named id n here) (λ there. more id n there) e

module _ {J : Type 0} where
  -- the candidates that are kept are in hand
  pub hand : {label : List ℕ} (cuts : List Cut) (counted : Counted) (places : List ℕ) (refused : List Refusal) (clashes : List (Committed J)) → Rounds label cuts (Some counted) places refused clashes → InHand counted places
  hand {label} cuts counted places refused clashes r =
      let b = r.by in
      let all = fresh cuts [] b.examinations b.are_examinations in
      let same = kept-left b.number (verdicts b.examinations) in
      let P : List Candidate → Type 0 = λ cs. AreRead cs in
      let Q : List Candidate → Type 0 = λ cs. Fresh [] cs in
      record {
        candidates = kept b.number (verdicts b.examinations);
        counts = counts_own label (kept b.number (verdicts b.examinations)) counted b.made;
        places_are = r.places_are;
        read = subst P (sym same) (fewer_read (λ c. is_none (b.number (id_of c))) (candidates (verdicts b.examinations)) all.1);
        fresh = subst Q (sym same) (fewer_fresh (λ c. is_none (b.number (id_of c))) [] (candidates (verdicts b.examinations)) all.0);
      }

  -- some more ids were found to be stored
  pub more : {label : List ℕ} → OneGame → (cuts : List Cut) (counted : Counted) (places : List ℕ) (refused : List Refusal) (clashes clashes' : List (Committed J)) (r : Rounds label cuts (Some counted) places refused clashes)
      (number : Numbering) (named refused' : List Refusal) (rest : List Placed) (next : Tallying) (tally : Option Counted)
      → IsPrefix (notes_of clashes) (notes_of clashes') → AreNamed (notes_of clashes') number
      → named ≡ named_by number (kept r.by.number (verdicts r.by.examinations)) → rest ≡ map placed (left_by number (kept r.by.number (verdicts r.by.examinations)))
      → refused' ≡ merged refused named → IsTallying rest next → tally ≡ option_map (under label) next.tally
      → Rounds label cuts tally next.places.items refused' clashes'
  unfolding hand
  more {label} one cuts counted places refused clashes clashes' r number named refused' rest next tally grew theirs named_are rest_are refused_are made tally_is =
      let b = r.by in
      let cs = kept b.number (verdicts b.examinations) in
      let h = hand cuts counted places refused clashes r in
      let left = left_by number cs in
      let each : AllZip IsExaminationOfText (map placed left) made.examinations = let P : List Placed → Type 0 = λ l. AllZip IsExaminationOfText l made.examinations in subst P rest_are made.are_examinations in
      let both = again one left made.examinations (fewer_read (λ c. is_none (number (id_of c))) cs h.read) (fewer_fresh (λ c. is_none (number (id_of c))) [] cs h.fresh) each in
      let now_kept : candidates (verdicts made.examinations) ≡ kept (found b.number number) (verdicts b.examinations) = both.0 ∙ sym (kept_found b.number number (verdicts b.examinations)) in
      let P : List Candidate → Type 0 = λ cs. IsTallyUnder label cs tally in
      record {
        ascend = r.ascend;
        by = record {
          examinations = b.examinations;
          are_examinations = b.are_examinations;
          number = found b.number number;
          named = found_named b.number number (notes_of clashes) (notes_of clashes') grew b.named theirs;
          refused_are = refused_are ∙ ap (λ l. merged l named) b.refused_are ∙ ap (merged (lost b.number (verdicts b.examinations))) named_are
              ∙ merged_lost b.number number 0 (verdicts b.examinations) (ascends 0 cuts [] b.examinations r.ascend b.are_examinations);
          made = subst P now_kept (made_under label (candidates (verdicts made.examinations)) next.tally tally made.tally tally_is);
        };
        places_are = made.places ∙ ap (map (λ (c : Candidate). c.place)) now_kept;
      }

  -- the group as it was tallied first
  pub first : {label : List ℕ} (cuts : List Cut) (made : TalliedGroup) → Ascend cuts → IsTallied label cuts made → Rounds {J = J} label cuts made.tally made.places.items made.refused.items []
  first {label} cuts made ascend is =
      let none : Numbering = λ id. None in
      let same = settled_none (verdicts is.examinations) in
      let P : List Candidate → Type 0 = λ cs. IsTallyUnder label cs made.tally in
      record {
        ascend = ascend;
        by = record {
          examinations = is.examinations;
          are_examinations = is.are_examinations;
          number = none;
          named = λ id n found. absurd (none_some n found);
          refused_are = is.refused ∙ ap refusals (sym same);
          made = subst P (ap candidates (sym same)) is.tally;
        };
        places_are = is.places ∙ ap (λ fs. map (λ (c : Candidate). c.place) (candidates fs)) (sym same);
      }
    where
      none_some : (n : ℕ) → (let o : Option ℕ = None in o) ≡ Some n → ⊥
      none_some n e = cc

-- ---- what is known of the store

none_ids : (pairs : List Clashing) → (let none : Option Cause = None in none) ≡ Some (HasIds pairs) → ⊥
none_ids pairs e = cc

closed_ids : (before after : ℕ) (pairs : List Clashing) → Some (IsClosed before after) ≡ Some (HasIds pairs) → ⊥
closed_ids before after pairs e = cc

room_ids : (games bytes : ℕ) (pairs : List Clashing) → Some (HasNoRoom games bytes) ≡ Some (HasIds pairs) → ⊥
room_ids games bytes pairs e = cc

module _ {J : Type 0} where
  pub decided : (fault : CommitFault J) → ((handed : Counted) (pairs : ArrayVec Clashing) (note : List Batch) → fault ≡ faults.Clash handed pairs note → ⊥)
      → ((stored : Bool) → fault ≡ faults.OutOfMemory stored → ⊥) → IsDecided {J = J} (Err fault)
  decided (faults.Closed before after mark) clash memory = tt
  decided (faults.Clash handed pairs note) clash memory = clash handed pairs note refl
  decided (faults.Full games bytes note) clash memory = tt
  decided (faults.DiskFault before after mark) clash memory = tt
  decided (faults.OutOfMemory stored) clash memory = memory stored refl

  -- a commit that is decided found no ids
  no_ids : (known : Known) (tally : Counted) (new : Store) (answer : Result (Receipt J) (CommitFault J)) → IsDecided answer → CommitsTo known tally new answer
      → (pairs : List Clashing) → cause_in known tally ≡ Some (HasIds pairs) → ⊥
  no_ids known tally new (Ok receipt) never by pairs is = absurd (none_ids pairs (sym by.0.refused ∙ is))
  no_ids known tally new (Err (faults.Closed before after mark)) never by pairs is = absurd (closed_ids before after pairs (sym by.0.refused ∙ is))
  no_ids known tally new (Err (faults.Clash handed named note)) never by pairs is = absurd never
  no_ids known tally new (Err (faults.Full games bytes note)) never by pairs is = absurd (room_ids games bytes pairs (sym by.0.refused ∙ is))
  no_ids known tally new (Err (faults.DiskFault before after mark)) never by pairs is = absurd (none_ids pairs (sym by.0.refused ∙ is))
  no_ids known tally new (Err (faults.OutOfMemory stored)) never by pairs is = absurd never

no_pairs : (pairs : List Clashing) (journal : List Batch) (tally : Counted) → ((ids : List Clashing) → cause_by pairs journal tally.batch ≡ Some (HasIds ids) → ⊥) → pairs ≡ []
no_pairs [] journal tally never = refl
no_pairs (p ∷ pairs) journal tally never = absurd (never (p ∷ pairs) refl)

none_head : (at : ℕ) (o : Option ℕ) (rest : List Clashing) → and_clash at o rest ≡ [] → o ≡ None
none_head at None rest e = refl
none_head at (Some n) rest e = cc

none_rest : (at : ℕ) (o : Option ℕ) (rest : List Clashing) → and_clash at o rest ≡ [] → rest ≡ []
none_rest at None rest e = e
none_rest at (Some n) rest e = cc

pub kept_none : (number : Numbering) (at : ℕ) (cs : List Candidate) → clashes_from at number (map id_of cs) ≡ [] → AllByRecursion (λ c. number (id_of c) ≡ None) cs
kept_none number at [] none = tt
kept_none number at (c ∷ cs) none =
    (none_head at (number (id_of c)) (clashes_from (at + 1) number (map id_of cs)) none, kept_none number (at + 1) cs (none_rest at (number (id_of c)) (clashes_from (at + 1) number (map id_of cs)) none))

all_none : (cs : List Candidate) → AllByRecursion (λ c. (let o : Option ℕ = None in o) ≡ None) cs
all_none [] = tt
all_none (c ∷ cs) = (refl, all_none cs)

closed_clash : (f : ℕ × ℕ) (pairs : List Clashing) → Some (IsClosed f.0 f.1) ≡ Some (HasIds pairs) → ⊥
closed_clash f pairs e = cc

-- where nothing is against a tally, none of its ids is stored
no_clashes : (games : List Game) (journal : List Batch) (counted : Counted) → cause None games journal counted ≡ None → clashes_of (numbers_of games) counted.classes ≡ []
no_clashes games journal counted nothing = by (clashes_of (numbers_of games) counted.classes) nothing
  where
    by : (pairs : List Clashing) → cause_by pairs journal counted.batch ≡ None → pairs ≡ []
    by [] e = refl
    by (pair ∷ pairs) e = absurd (some-none _ e)

unnamed : {label : List ℕ} (fault : Option (ℕ × ℕ)) (games : List Game) (journal : List Batch) (counted : Counted) (cs : List Candidate) → CountsUnder label cs counted → cause fault games journal counted ≡ None
    → AllByRecursion (λ c. stored_by fault games (id_of c) ≡ None) cs
unnamed {label} (Some f) games journal counted cs counts nothing = all_none cs
unnamed {label} None games journal counted cs counts nothing =
    kept_none (numbers_of games) 0 cs (ap (clashes_from 0 (numbers_of games)) (sym (counted_ids cs counted counts)) ∙ no_clashes games journal counted nothing)

kept_unnamed : {label : List ℕ} (fault : Option (ℕ × ℕ)) (games : List Game) (journal : List Batch) (counted : Counted) (cs : List Candidate) → CountsUnder label cs counted
    → ((ids : List Clashing) → cause fault games journal counted ≡ Some (HasIds ids) → ⊥) → AllByRecursion (λ c. stored_by fault games (id_of c) ≡ None) cs
kept_unnamed {label} (Some f) games journal counted cs counts never = all_none cs
kept_unnamed {label} None games journal counted cs counts never =
    kept_none (numbers_of games) 0 cs (ap (clashes_from 0 (numbers_of games)) (sym (counted_ids cs counted counts)) ∙ no_pairs (clashes_of (numbers_of games) counted.classes) journal counted never)

-- each number that was found is that of a stored game
abbrev pub AreRight : Known → Numbering → Type 0
AreRight known number = (id : List ℕ) (n : ℕ) → number id ≡ Some n → stored_by known.fault known.games id ≡ Some n

module _ {J : Type 0} where
  -- ---- the end of a group

  pub settles : {label : List ℕ} (known : Known) (cuts : List Cut) (refused : List Refusal) (counted : Counted) (clashes : List (Committed J)) (b : GroupBy label cuts (Some counted) refused clashes)
      (answer : Result (Receipt J) (CommitFault J)) (now' : Option Store) → AreRight known b.number → IsDecided answer
      → Commits answer known counted now' → Settles label known cuts refused (Some answer) now'
  settles {label} known cuts refused counted clashes b answer now' right never commits =
      let N = stored_by known.fault known.games in
      let none = kept_unnamed known.fault known.games known.journal counted (kept b.number (verdicts b.examinations)) b.made (no_ids known counted commits.new answer never commits.by) in
      let same = same_settled b.number N (verdicts b.examinations) (exact b.number N (verdicts b.examinations) right none) in
      let P : List Candidate → Type 0 = λ cs. CountsUnder label cs counted in
      record {
        examinations = b.examinations;
        are_examinations = b.are_examinations;
        refused_are = b.refused_are ∙ ap refusals same;
        answered = (counted, subst P (ap candidates same) b.made, commits);
      }

  pub settles_none : {label : List ℕ} (known : Known) (cuts : List Cut) (refused : List Refusal) (clashes : List (Committed J)) (b : GroupBy label cuts None refused clashes) (now : Option Store) → AreRight known b.number
      → IsStill known now → Settles {J = J} label known cuts refused None now
  settles_none {label} known cuts refused clashes b now right still =
      let N = stored_by known.fault known.games in
      let R : List Candidate → Type 0 = λ cs. AllByRecursion (λ c. N (id_of c) ≡ None) cs in
      let same = same_settled b.number N (verdicts b.examinations) (exact b.number N (verdicts b.examinations) right (subst R (sym b.made) tt)) in
      record {
        examinations = b.examinations;
        are_examinations = b.are_examinations;
        refused_are = b.refused_are ∙ ap refusals same;
        answered = (sym (ap candidates same) ∙ b.made, still);
      }

  -- ---- want of memory

  pub lacks_commit : {label : List ℕ} (known : Known) (cuts : List Cut) (refused : List Refusal) (counted : Counted) (clashes : List (Committed J)) (b : GroupBy label cuts (Some counted) refused clashes)
      (answer : Result (Receipt J) (CommitFault J)) (now' : Option Store) → AreRight known b.number → IsLacking answer → Commits answer known counted now' → MayHaveMore label known (cuts ∷ []) now'
  lacks_commit {label} known cuts refused counted clashes b (Ok receipt) now' right lacking commits = absurd lacking
  lacks_commit {label} known cuts refused counted clashes b (Err (faults.Closed before after mark)) now' right lacking commits = absurd lacking
  lacks_commit {label} known cuts refused counted clashes b (Err (faults.Clash handed pairs note)) now' right lacking commits = absurd lacking
  lacks_commit {label} known cuts refused counted clashes b (Err (faults.Full games bytes note)) now' right lacking commits = absurd lacking
  lacks_commit {label} known cuts refused counted clashes b (Err (faults.DiskFault before after mark)) now' right lacking commits = absurd lacking
  lacks_commit {label} known cuts refused counted clashes b (Err (faults.OutOfMemory true)) now' right lacking commits =
      let N = stored_by known.fault known.games in
      let none = unnamed known.fault known.games known.journal counted (kept b.number (verdicts b.examinations)) b.made commits.by.refused in
      let same = same_settled b.number N (verdicts b.examinations) (exact b.number N (verdicts b.examinations) right none) in
      let batch : IsBatchOf label known cuts counted.batch = record {
        examinations = b.examinations;
        are_examinations = b.are_examinations;
        batch_is = ap (batch_of label) (sym (ap candidates same)) ∙ b.made.batch;
      } in
      record { new = commits.new; still = commits.still; fault = commits.by.fault; journal = inr (counted.batch, batch, commits.by.stores) }
  lacks_commit {label} known cuts refused counted clashes b (Err (faults.OutOfMemory false)) now' right lacking commits = record { new = commits.new; still = commits.still; fault = commits.by.fault; journal = inl commits.by.stores }

pub on_err : {T E : Type 0} (result : Result T E) {P : Type 0} → P → OnErr result P
on_err (Ok t) p = tt
on_err (Err e) p = p

stores_nothing : (label : List ℕ) (known : Known) (groups : List (List Cut)) → MayStore label known groups known.journal
stores_nothing label known [] = refl
stores_nothing label known (next ∷ groups) = inl refl

-- of more groups the batch of the first may be stored too
pub stores_more : (label : List ℕ) (known : Known) (groups more : List (List Cut)) (journal : List Batch) → MayStore label known groups journal → MayStore label known (groups ++ more) journal
stores_more label known [] [] journal is = is
stores_more label known [] (next ∷ more) journal is = inl is
stores_more label known (next ∷ groups) more journal is = is

pub lacks_still : (label : List ℕ) (known : Known) (groups : List (List Cut)) (now : Option Store) → IsStill known now → MayHaveMore label known groups now
lacks_still label known groups now still = record { new = store_of known; still = still; fault = refl; journal = stores_nothing label known groups }
