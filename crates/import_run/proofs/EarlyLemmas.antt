-- Imports of one stream that ended early, at a group of it.
use Rattle.std.proofs.Common.{◌≡◌, ℕ, ◌+◌, Result, List, [], ◌∷◌, ◌++◌, length, map, filter_map, sum_by, Option, None, Some, refl, sym, ap, subst, ◌∙◌, append_assoc, length-append, arith}
use Rattle.std.specs.List.{AllByRecursion, AllZip, cons_option}
use Rattle.std.specs.Prelude.{IsSome}
use Rattle.std.proofs.lemmas.Grind.{flat_map-append}
use Rattle.std.proofs.lemmas.List.{append-nil, length-map}
use Rattle.std.proofs.lemmas.List.Elements.{filter_map-append}
use Rattle.std.proofs.lemmas.List.Sums.{sum_by-append, sum_by-cons}
use Rattle.plain_laws.specs.Options.{some-none}
use Rattle.explorer_model.specs.declared.archive.Batch.{Batch}
use Rattle.explorer_model.specs.declared.archive.Game.{Game}
use Rattle.explorer_model.specs.declared.fault.Refusal.{Refusal}
use Rattle.explorer_model.specs.declared.fault.GameFault.{GameFault}
use Rattle.explorer_model.specs.Cuts.{Cut, Preamble, Text, TooLong}
use Rattle.explorer_model.specs.Imports.{Accounted, AreExaminations, Candidate, Examination, IsExaminationOf, Read, Verdict, batch_of, candidates, numbers_of, verdicts, verdicts_behind, verdicts_in_turn}
use Rattle.explorer_model.specs.Journal.{IsSound, byte_count, game_count}
use Rattle.explorer_model.specs.Visits.{AreGamesOf, texts_of}
use Rattle.explorer_model.proofs.Lists.{one-zip}
use Rattle.ingest_desk.specs.Reporting.{FindsNoRoom}
use Rattle.import_run.specs.Committing.{Known}
use Rattle.import_run.specs.Ending.{EndsIn}
use Rattle.import_run.specs.Progress.{HasNoCandidate, and_games, games_after}
use Rattle.import_run.specs.Rounds.{stored_by}
use Rattle.import_run.specs.Settling.{kept, lost}
use Rattle.import_run.proofs.AccountLemmas.{alone_refused, batches_behind, behind_refused, candidates_more, no_candidates, refused_behind, unread, with_refused}
use Rattle.import_run.proofs.AloneLemmas.{same_games}
use Rattle.import_run.proofs.GroupLemmas.{texts_in}
use Rattle.import_run.proofs.HandLemmas.{batch_texts}
use Rattle.import_run.proofs.LawLemmas.{SameBatches, SameRefused}
use Rattle.import_run.proofs.NextLemmas.{by_batch}
use Rattle.import_run.proofs.ReachLemmas.{GoesOnWith}
use Rattle.import_run.proofs.TurnLemmas.{batch_in}
use Rattle.import_run.proofs.VerdictLemmas.{OneGame, settled_none}

-- ---- examinations

one_examination : OneGame → (cut : Cut) (first other : Examination) → IsExaminationOf cut first → IsExaminationOf cut other → first ≡ other
one_examination one (Text text) first other a b =
    let game = one text.bytes a.0 b.0 a.1 b.1 in
    a.2 ∙ ap (λ (g : Result Game GameFault). Read (record { place = text.place; text = text.bytes; game = g })) game ∙ sym b.2
one_examination one (TooLong place long) first other a b = a ∙ sym b
one_examination one (Preamble place) first other a b = a ∙ sym b

one_group : OneGame → (cuts : List Cut) (first other : List Examination) → AllZip IsExaminationOf cuts first → AllZip IsExaminationOf cuts other → first ≡ other
one_group one cuts first other a b = one-zip IsExaminationOf (one_examination one) cuts first other a b

one_groups : OneGame → (groups : List (List Cut)) (first other : List (List Examination)) → AreExaminations groups first → AreExaminations groups other → first ≡ other
one_groups one groups first other a b = one-zip (AllZip IsExaminationOf) (one_group one) groups first other a b

-- ---- groups in turn

turns-append : (stored : List Game) (first more : List (List Examination)) → verdicts_in_turn stored (first ++ more) ≡ verdicts_in_turn stored first ++ verdicts_in_turn (games_after stored first) more
unfolding verdicts_in_turn
turns-append stored [] more = refl
turns-append stored (group ∷ first) more = ap (λ (l : List (List Verdict)). verdicts_behind (numbers_of stored) group ∷ l) (turns-append (and_games stored group) first more)

pub batches-append : (label : List ℕ) (stored : List Game) (first more : List (List Examination)) → batches_behind label stored (first ++ more) ≡ batches_behind label stored first ++ batches_behind label (games_after stored first) more
batches-append label stored first more =
    ap (filter_map (batch_in label)) (turns-append stored first more)
    ∙ filter_map-append (batch_in label) (verdicts_in_turn stored first) (verdicts_in_turn (games_after stored first) more)

-- groups that are accounted behind the same games have the same batches, and the same is refused
pub one_batches : OneGame → (label : List ℕ) → SameBatches label
one_batches one label stored groups batches others refused other a b =
    a.yields.batches_are
    ∙ ap (batches_behind label stored) (one_groups one groups a.examinations b.examinations a.are_examinations b.are_examinations)
    ∙ sym b.yields.batches_are

pub one_refused : OneGame → (label : List ℕ) → SameRefused label
one_refused one label stored groups batches others refused other a b =
    a.yields.refused_are
    ∙ ap (refused_behind stored) (one_groups one groups a.examinations b.examinations a.are_examinations b.are_examinations)
    ∙ sym b.yields.refused_are

one_before : (journal batches : List Batch) (o : Option Batch) → (journal ++ cons_option o []) ++ batches ≡ journal ++ cons_option o batches
one_before journal batches None = ap (λ (l : List Batch). l ++ batches) (append-nil journal)
one_before journal batches (Some batch) = append_assoc journal (batch ∷ []) batches

-- the games of the journal with the batches of groups
pub after_groups : (label : List ℕ) (journal : List Batch) (games : List Game) (groups : List (List Cut)) (examinations : List (List Examination)) → AreGamesOf journal games → AreExaminations groups examinations
    → AreGamesOf (journal ++ batches_behind label games examinations) (games_after games examinations)
unfolding verdicts_in_turn
after_groups label journal games [] [] are each = subst (λ (j : List Batch). AreGamesOf j games) (sym (append-nil journal)) are
after_groups label journal games [] (group ∷ examinations) are each = absurd each
after_groups label journal games (cuts ∷ groups) [] are each = absurd each
after_groups label journal games (cuts ∷ groups) (group ∷ examinations) are each =
    let o = batch_of label (candidates (verdicts_behind (numbers_of games) group)) in
    let more = batches_behind label (and_games games group) examinations in
    let last = games_after (and_games games group) examinations in
    let here = by_batch label journal games cuts group are each.0 o refl in
    subst (λ (j : List Batch). AreGamesOf j last) (one_before journal more o)
    (after_groups label (journal ++ cons_option o []) (and_games games group) groups examinations here each.1)

-- two lists that are paired with one behind the other
record SplitZip {A B : Type 0} (R : A → B → Type 0) (xs : List A) (y : A) (ys : List A) (zs : List B) : Type 0 where
  front : List B
  at : B
  rest : List B
  is : zs ≡ front ++ at ∷ rest
  before : AllZip R xs front
  here : R y at

split_zip : {A B : Type 0} (R : A → B → Type 0) (xs : List A) (y : A) (ys : List A) (zs : List B) → AllZip R (xs ++ y ∷ ys) zs → SplitZip R xs y ys zs
split_zip R [] y ys [] zip = absurd zip
split_zip R [] y ys (z ∷ zs) zip = record { front = []; at = z; rest = zs; is = refl; before = tt; here = zip.0 }
split_zip R (x ∷ xs) y ys [] zip = absurd zip
split_zip {A} {B} R (x ∷ xs) y ys (z ∷ zs) zip =
    let later = split_zip R xs y ys zs zip.1 in
    let onto : List B → List B = λ l. z ∷ l in
    record { front = z ∷ later.front; at = later.at; rest = later.rest; is = ap onto later.is; before = (zip.0, later.before); here = later.here }

record Halves {A B : Type 0} (R : A → B → Type 0) (xs ys : List A) (zs : List B) : Type 0 where
  first : List B
  second : List B
  is : zs ≡ first ++ second
  first_are : AllZip R xs first
  second_are : AllZip R ys second

halves : {A B : Type 0} (R : A → B → Type 0) (xs ys : List A) (zs : List B) → AllZip R (xs ++ ys) zs → Halves R xs ys zs
halves R [] ys zs zip = record { first = []; second = zs; is = refl; first_are = tt; second_are = zip }
halves R (x ∷ xs) ys [] zip = absurd zip
halves {A} {B} R (x ∷ xs) ys (z ∷ zs) zip =
    let later = halves R xs ys zs zip.1 in
    let onto : List B → List B = λ l. z ∷ l in
    record { first = z ∷ later.first; second = later.second; is = ap onto later.is; first_are = (zip.0, later.first_are); second_are = later.second_are }

-- ---- what a journal has with one batch more

more_games : (journal : List Batch) (batch : Batch) (more : List Batch) → game_count (journal ++ batch ∷ more) ≡ game_count journal + (length batch.texts + game_count more)
more_games journal batch more =
    ap length (flat_map-append (λ (b : Batch). b.texts) journal (batch ∷ more))
    ∙ omega (arith, length-append (texts_of journal) (batch.texts ++ texts_of more), length-append batch.texts (texts_of more))

abbrev size_in : List (List ℕ) → ℕ
size_in texts = sum_by (λ (text : List ℕ). length text) texts

more_bytes : (journal : List Batch) (batch : Batch) (more : List Batch) → byte_count (journal ++ batch ∷ more) ≡ byte_count journal + (size_in batch.texts + byte_count more)
more_bytes journal batch more =
    ap size_in (flat_map-append (λ (b : Batch). b.texts) journal (batch ∷ more))
    ∙ omega (arith, sum_by-append (λ (text : List ℕ). length text) (texts_of journal) (batch.texts ++ texts_of more), sum_by-append (λ (text : List ℕ). length text) batch.texts (texts_of more))

pub candidate_bytes : (left : List Candidate) → size_in (map (λ (c : Candidate). c.text) left) ≡ sum_by (λ (c : Candidate). length c.text) left
candidate_bytes [] = refl
candidate_bytes (c ∷ left) =
    omega (
      arith,
      sum_by-cons (λ (text : List ℕ). length text) c.text (map (λ (x : Candidate). x.text) left),
      sum_by-cons (λ (x : Candidate). length x.text) c left,
      candidate_bytes left,
    )

candidate_count : (left : List Candidate) → length (map (λ (c : Candidate). c.text) left) ≡ length left
candidate_count left = length-map left (λ (c : Candidate). c.text)

-- the batches go on with one of these candidates
pub record HasBatchOf (batches others : List Batch) (left : List Candidate) : Type 0 where
  pub batch : Batch
  pub more : List Batch
  pub is : others ≡ batches ++ batch ∷ more
  pub texts : batch.texts ≡ map (λ (c : Candidate). c.text) left

-- it is no batch that finds no room
pub found_room : (journal batches others : List Batch) (games bytes : ℕ) (left : List Candidate) → HasBatchOf batches others left → FindsNoRoom (journal ++ batches) games bytes left → IsSound (journal ++ others) → ⊥
found_room journal batches others games bytes left has none sound =
    let all : journal ++ others ≡ (journal ++ batches) ++ has.batch ∷ has.more = ap (λ (l : List Batch). journal ++ l) has.is ∙ sym (append_assoc journal batches (has.batch ∷ has.more)) in
    let games_are = ap game_count all ∙ more_games (journal ++ batches) has.batch has.more in
    let bytes_are = ap byte_count all ∙ more_bytes (journal ++ batches) has.batch has.more in
    let count = ap length has.texts ∙ candidate_count left in
    let size = ap size_in has.texts ∙ candidate_bytes left in
    none.passes (omega (arith, games_are, sound.within.0, none.games_are, count), omega (arith, bytes_are, sound.within.1, none.bytes_are, size))

pub one_longer : (batches others : List Batch) (left : List Candidate) → HasBatchOf batches others left → length batches ≡ length others → ⊥
one_longer batches others left has same = omega (arith, ap length has.is, length-append batches (has.batch ∷ has.more), same)

-- ---- two ends

some_batch : (label : List ℕ) (cs : List Candidate) → (cs ≡ [] → ⊥) → (batch : Batch) × (batch_of label cs ≡ Some batch)
some_batch label [] some = absurd (some refl)
some_batch label (c ∷ cs) some = (_, refl)

kept_open : (fault : Option (ℕ × ℕ)) (games : List Game) (vs : List Verdict) → fault ≡ None → kept (stored_by fault games) vs ≡ kept (numbers_of games) vs
kept_open None games vs none = refl
kept_open (Some counts) games vs none = absurd (some-none counts none)

kept_closed : (fault : Option (ℕ × ℕ)) (games : List Game) (vs : List Verdict) → IsSome fault → kept (stored_by fault games) vs ≡ candidates vs
kept_closed None games vs some = cc
kept_closed (Some counts) games vs some = ap candidates (settled_none vs)

at_place : (first : List (List Examination)) (group : List Examination) (more : List (List Examination)) → AllByRecursion HasNoCandidate (first ++ group ∷ more) → HasNoCandidate group
at_place [] group more none = none.0
at_place (other ∷ first) group more none = at_place first group more none.1

-- what is left of the group is what the games judge that are stored by then
pub left_behind : {label : List ℕ} → OneGame → (start : Known) (so_far : List (List Cut)) (batches : List Batch) (refused : List Refusal) (left : List Candidate) (e : EndsIn label start so_far batches refused left) → start.fault ≡ None
    → left ≡ candidates (verdicts_behind (numbers_of (games_after start.games e.settled.accounted.examinations)) e.examinations)
left_behind {label} one start so_far batches refused left e is_open =
    let earlier = e.settled.accounted.examinations in
    let stored = games_after start.games earlier in
    let G : List Batch → Type 0 = λ j. AreGamesOf j stored in
    let behind : batches_behind label start.games earlier ≡ batches = sym e.settled.accounted.yields.batches_are in
    let are : AreGamesOf (start.journal ++ batches) stored =
    subst G (ap (λ (l : List Batch). start.journal ++ l) behind) (after_groups label start.journal start.games e.done earlier start.are_games e.settled.accounted.are_examinations) in
    let games : e.known.games ≡ stored = same_games one (texts_of e.known.journal) e.known.games stored e.known.are_games (subst G (sym e.journal_is) are) in
    e.left_are ∙ kept_open e.known.fault e.known.games (verdicts e.examinations) (e.fault_is ∙ is_open) ∙ ap (λ (g : List Game). kept (numbers_of g) (verdicts e.examinations)) games

module _ {label : List ℕ} (one : OneGame) (same_batches : SameBatches label) (same_refused : SameRefused label) where
  -- a group behind which cuts without a text stand
  module _ (start : Known) (so_far : List (List Cut)) (batches : List Batch) (refused : List Refusal) (left : List Candidate) (e : EndsIn label start so_far batches refused left)
      (extra : List Cut) (rest : List (List Cut)) where
    -- it was stored among others
    pub stored_among : (batches' : List Batch) (refused' : List Refusal) → texts_in extra ≡ 0 → Accounted label start.games (e.done ++ (e.next ++ extra) ∷ rest) batches' refused' → start.fault ≡ None → HasBatchOf batches batches' left
    unfolding verdicts_in_turn
    stored_among batches' refused' none accounted is_open =
        let parts = split_zip (AllZip IsExaminationOf) e.done (e.next ++ extra) rest accounted.examinations accounted.are_examinations in
        let both = halves IsExaminationOf e.next extra parts.at parts.here in
        let front : e.settled.accounted.examinations ≡ parts.front = one_groups one e.done e.settled.accounted.examinations parts.front e.settled.accounted.are_examinations parts.before in
        let here : e.examinations ≡ both.first = one_group one e.next e.examinations both.first e.are_examinations both.first_are in
        let no = unread extra both.second none both.second_are in
        let stored = games_after start.games e.settled.accounted.examinations in
        let behind : batches_behind label start.games e.settled.accounted.examinations ≡ batches = sym e.settled.accounted.yields.batches_are in
        let left_is = left_behind one start so_far batches refused left e is_open in
        let some = some_batch label left e.some_left in
        let last = batches_behind label (and_games (games_after start.games parts.front) parts.at) parts.rest in
        let more : candidates (verdicts_behind (numbers_of stored) parts.at) ≡ candidates (verdicts_behind (numbers_of stored) e.examinations) =
        ap (λ (l : List Examination). candidates (verdicts_behind (numbers_of stored) l)) both.is ∙ ap candidates (behind_refused (numbers_of stored) both.first both.second no.0 no.1)
        ∙ candidates_more (verdicts_behind (numbers_of stored) both.first) no.0 ∙ ap (λ (l : List Examination). candidates (verdicts_behind (numbers_of stored) l)) (sym here) in
        let made : batch_of label (candidates (verdicts_behind (numbers_of (games_after start.games parts.front)) parts.at)) ≡ Some some.0 =
        ap (λ (l : List (List Examination)). batch_of label (candidates (verdicts_behind (numbers_of (games_after start.games l)) parts.at))) (sym front) ∙ ap (batch_of label) (more ∙ sym left_is) ∙ some.1 in
        record {
          batch = some.0;
          more = last;
          is = accounted.yields.batches_are ∙ ap (batches_behind label start.games) parts.is ∙ batches-append label start.games parts.front (parts.at ∷ parts.rest)
              ∙ ap (λ (l : List Batch). l ++ batches_behind label (games_after start.games parts.front) (parts.at ∷ parts.rest)) (ap (batches_behind label start.games) (sym front) ∙ behind)
              ∙ ap (λ (o : Option Batch). batches ++ cons_option o last) made;
          texts = batch_texts label left some.0 some.1;
        }

    -- a closed store has no such group
    pub closed_among : texts_in extra ≡ 0 → (examinations : List (List Examination)) → AreExaminations (e.done ++ (e.next ++ extra) ∷ rest) examinations → AllByRecursion HasNoCandidate examinations → IsSome start.fault → ⊥
    closed_among none examinations are each some =
        let parts = split_zip (AllZip IsExaminationOf) e.done (e.next ++ extra) rest examinations are in
        let both = halves IsExaminationOf e.next extra parts.at parts.here in
        let here : e.examinations ≡ both.first = one_group one e.next e.examinations both.first e.are_examinations both.first_are in
        let no = unread extra both.second none both.second_are in
        let N : List (List Examination) → Type 0 = λ l. AllByRecursion HasNoCandidate l in
        let empty : candidates (verdicts parts.at) ≡ [] = at_place parts.front parts.at parts.rest (subst N parts.is each) in
        let less : candidates (verdicts parts.at) ≡ candidates (verdicts both.first) =
        ap (λ (l : List Examination). candidates (verdicts l)) both.is ∙ ap candidates (with_refused both.first both.second no.0 no.1) ∙ candidates_more (verdicts both.first) no.0 in
        let known_closed : IsSome e.known.fault = subst (λ (o : Option (ℕ × ℕ)). IsSome o) (sym e.fault_is) some in
        e.some_left (e.left_are ∙ kept_closed e.known.fault e.known.games (verdicts e.examinations) known_closed ∙ ap (λ (l : List Examination). candidates (verdicts l)) here ∙ sym less ∙ empty)

    -- a group of which something is left has a text
    pub some_text : texts_in e.next ≡ 0 → ⊥
    some_text none =
        let no = unread e.next e.examinations none e.are_examinations in
        let number = stored_by e.known.fault e.known.games in
        e.some_left (e.left_are ∙ ap candidates (alone_refused number e.examinations no.0 no.1) ∙ no_candidates no.0)

  module _ (start start' : Known) (games_are : start'.games ≡ start.games) (journal_are : start'.journal ≡ start.journal) (faults_are : start'.fault ≡ start.fault)
      (so_far so_far' : List (List Cut)) (batches batches' : List Batch) (refused refused' : List Refusal) (left left' : List Candidate) (e : EndsIn label start so_far batches refused left) (f : EndsIn label start' so_far' batches' refused' left') where
    -- at one group
    pub same_there : e.done ≡ f.done → e.next ≡ f.next → (batches ≡ batches') × ((refused ≡ refused') × (left ≡ left'))
    same_there done next =
        let A : List Game → Type 0 = λ g. Accounted label g f.done batches' f.earlier in
        let B : List (List Cut) → Type 0 = λ d. Accounted label start.games d batches' f.earlier in
        let accounted = subst B (sym done) (subst A games_are f.settled.accounted) in
        let bs = same_batches start.games e.done batches batches' e.earlier f.earlier e.settled.accounted accounted in
        let rs = same_refused start.games e.done batches batches' e.earlier f.earlier e.settled.accounted accounted in
        let journals : f.known.journal ≡ e.known.journal = f.journal_is ∙ (λ i. journal_are i ++ sym bs i) ∙ sym e.journal_is in
        let G : List Batch → Type 0 = λ j. AreGamesOf j f.known.games in
        let games = same_games one (texts_of e.known.journal) e.known.games f.known.games e.known.are_games (subst G journals f.known.are_games) in
        let faults : e.known.fault ≡ f.known.fault = e.fault_is ∙ sym faults_are ∙ sym f.fault_is in
        let Z : List Cut → Type 0 = λ cuts. AllZip IsExaminationOf cuts f.examinations in
        let examinations = one_group one e.next e.examinations f.examinations e.are_examinations (subst Z (sym next) f.are_examinations) in (
          bs,
          (
            e.refused_are ∙ (λ i. rs i ++ lost (stored_by (faults i) (games i)) (verdicts (examinations i))) ∙ sym f.refused_are,
            e.left_are ∙ (λ i. kept (stored_by (faults i) (games i)) (verdicts (examinations i))) ∙ sym f.left_are,
          ),
        )

    -- the group was stored by the other import
    pub stored_later : GoesOnWith f.done e.done e.next → start.fault ≡ None → HasBatchOf batches batches' left
    stored_later goes is_open =
        let A : List Game → Type 0 = λ g. Accounted label g f.done batches' f.earlier in
        let B : List (List Cut) → Type 0 = λ d. Accounted label start.games d batches' f.earlier in
        let C : List Cut → Type 0 = λ group. Accounted label start.games (e.done ++ group ∷ goes.rest) batches' f.earlier in
        let accounted = subst C (sym (append-nil e.next)) (subst B goes.is (subst A games_are f.settled.accounted)) in
        stored_among start so_far batches refused left e [] goes.rest batches' f.earlier refl accounted is_open

    -- no group of a closed store has a candidate
    pub closed_later : GoesOnWith f.done e.done e.next → IsSome start'.fault → ⊥
    closed_later goes some =
        let N : List (List Cut) → Type 0 = λ d. AreExaminations d f.settled.accounted.examinations in
        let C : List Cut → Type 0 = λ group. AreExaminations (e.done ++ group ∷ goes.rest) f.settled.accounted.examinations in
        let are = subst C (sym (append-nil e.next)) (subst N goes.is f.settled.accounted.are_examinations) in
        let known_closed : IsSome start.fault = subst (λ (o : Option (ℕ × ℕ)). IsSome o) faults_are some in
        closed_among start so_far batches refused left e [] goes.rest refl f.settled.accounted.examinations are (f.settled.closed some) known_closed
