-- Batches that are tallied: when all their texts are accepted, and what is counted then.
use Rattle.std.proofs.Common.{◌≡◌, suc, false, cond, List, [], ◌∷◌, ◌++◌, map, get_or, find, Option, None, Some, Result, Ok, refl, sym, ap, ◌∙◌, subst, arith}
use Rattle.std.proofs.lemmas.List.Elements.{recursion_from_All}
use Rattle.std.specs.List.{AllByRecursion, AllZip}
use Rattle.std.specs.Prelude.{bytes_eq}
use Rattle.std.proofs.lemmas.Option.{same_Some}
use Rattle.plain_laws.specs.Lists.{cons-nil, each-push}
use Rattle.explorer_model.specs.declared.archive.Batch.{Batch}
use Rattle.explorer_model.specs.declared.archive.Classes.{Classes}
use Rattle.explorer_model.specs.declared.archive.Game.{Game}
use Rattle.explorer_model.specs.declared.archive.Placed.{Placed}
use Rattle.explorer_model.specs.declared.fault.GameFault.{GameFault}
use Rattle.explorer_model.specs.Labels.{no_label}
use Rattle.explorer_model.specs.Imports.{Accepted, Candidate, Examination, Read, Refused, Verdict, and_candidate, batch_of, candidates, has_id_of, refusals, Replayed, verdict_by, verdict_of, verdicts, verdicts_from}
use Rattle.explorer_model.specs.Journal.{HaveDifferentIds}
use Rattle.explorer_model.specs.Visits.{IsTextOf}
use Rattle.tally_rows.specs.Tally.{Counted}
use Rattle.batch_tally.specs.declared.tallying.Tallying.{Tallying}
use Rattle.batch_tally.specs.Tallying.{IsExaminationOfText, IsTallying, IsTallyMade}
use Rattle.batch_tally.proofs.Candidates.{replayed-is}
use Rattle.ingest_desk.proofs.IdLemmas.{other_bytes}
use Rattle.ingest_desk.proofs.RegisterLemmas.{OneGame}

-- ---- what holds of each item

each_weaker : {X : Type 0} (P Q : X → Type 0) → ((x : X) → P x → Q x) → (xs : List X)
    → AllByRecursion P xs → AllByRecursion Q xs
each_weaker P Q weaker [] each = tt
each_weaker P Q weaker (x ∷ xs) each = (weaker x each.0, each_weaker P Q weaker xs each.1)

each_unmapped : (P : Classes → Type 0) (games : List Game)
    → AllByRecursion P (map (λ (game : Game). game.classes) games)
    → AllByRecursion (λ (game : Game). P game.classes) games
each_unmapped P [] each = tt
each_unmapped P (game ∷ games) each = (each.0, each_unmapped P games each.1)

-- ---- ids that differ

abbrev pub HasOtherId : Game → Game → Type 0
HasOtherId game other = bytes_eq game.classes.id.bytes other.classes.id.bytes ≡ false

abbrev pub Differ : List Game → Type 0
Differ [] = Unit {0}
Differ (game ∷ games) = AllByRecursion (HasOtherId game) games × Differ games

pub differ_of : (games : List Game) → HaveDifferentIds (map (λ (game : Game). game.classes) games)
    → Differ games
differ_of [] different = tt
differ_of (game ∷ games) different =
    let id = game.classes.id.bytes in
    let P : Classes → Type 0 = λ c. bytes_eq id c.id.bytes ≡ false in
    let classes = map (λ (game : Game). game.classes) games in (
      each_unmapped P games
          (recursion_from_All P classes
          (λ k d lt. other_bytes id (get_or classes k d).id.bytes
          (λ same. different 0 (suc k) d (omega arith) (omega (arith, lt)) (sym same)))),
      differ_of games
          (λ i j d lt below. different (suc i) (suc j) d (omega (arith, lt)) (omega (arith, below))),
    )

fresh : (earlier : List Candidate) (game : Game)
    → AllByRecursion (λ (c : Candidate). HasOtherId c.game game) earlier
    → find (has_id_of game) earlier ≡ None
fresh [] game apart = refl
fresh (c ∷ earlier) game apart =
    ap (λ b. cond b (Some c) (find (has_id_of game) earlier)) apart.0 ∙ fresh earlier game apart.1

-- ---- all texts are accepted

abbrev AreApart : List Game → Candidate → Type 0
AreApart games c = AllByRecursion (HasOtherId c.game) games

accepted_all : OneGame → (texts : List Placed) (examinations : List Examination)
    (games : List Game) (earlier : List Candidate)
    → AllZip IsExaminationOfText texts examinations
    → AllZip IsTextOf (map (λ (text : Placed). text.bytes) texts) games
    → AllByRecursion (AreApart games) earlier → Differ games
    → refusals (verdicts_from earlier examinations) ≡ []
unfolding verdicts_from
accepted_all one [] [] games earlier are texts_are apart differ = refl
accepted_all one [] (e ∷ es) games earlier are texts_are apart differ = absurd are
accepted_all one (t ∷ ts) [] games earlier are texts_are apart differ = absurd are
accepted_all one (t ∷ ts) (e ∷ es) [] earlier are texts_are apart differ = absurd texts_are
accepted_all one (t ∷ ts) (e ∷ es) (game ∷ games) earlier are texts_are apart differ =
    let as_read : Result Game GameFault → Examination =
    λ r. Read (record { place = t.place; text = t.bytes; game = r }) in
    let found : are.0.0 ≡ Ok game = one t.bytes are.0.0 (Ok game) are.0.1 texts_are.0 in
    let read : e ≡ as_read (Ok game) = are.0.2 ∙ ap as_read found in
    let c : Candidate = record { place = t.place; text = t.bytes; game = game } in
    let heads = each_weaker (AreApart (game ∷ games)) (λ (c : Candidate). HasOtherId c.game game)
    (λ c all. all.0) earlier apart in
    let tails = each_weaker (AreApart (game ∷ games)) (AreApart games) (λ c all. all.1) earlier apart in
    let verdict : verdict_of earlier e ≡ Accepted c =
    ap (verdict_of earlier) read
    ∙ ap (λ o. verdict_by o t.place t.bytes game) (fresh earlier game heads) in
    ap (λ v. refusals (v ∷ verdicts_from (and_candidate earlier v) es)) verdict
    ∙ accepted_all one ts es games (earlier ++ c ∷ []) are.1 texts_are.1
    (each-push (AreApart games) earlier c tails differ.0) differ.1

-- no text of a batch is refused where each has a game and the ids differ
pub none_refused : OneGame → (texts : List Placed) (tallying : Tallying) (games : List Game)
    → IsTallying texts tallying
    → AllZip IsTextOf (map (λ (text : Placed). text.bytes) texts) games
    → HaveDifferentIds (map (λ (game : Game). game.classes) games) → tallying.refused.items ≡ []
none_refused one texts tallying games is texts_are different =
    is.refused
    ∙ accepted_all one texts is.examinations games [] is.are_examinations texts_are tt
    (differ_of games different)

-- ---- what is counted where no text is refused

abbrev TextsKept : List Placed → List Examination → Type 0
TextsKept texts examinations =
    (earlier : List Candidate) → refusals (verdicts_from earlier examinations) ≡ []
    → map (λ (c : Candidate). c.text) (candidates (verdicts_from earlier examinations))
    ≡ map (λ (text : Placed). text.bytes) texts

kept_step : (t : Placed) (ts : List Placed) (e : Examination) (es : List Examination)
    (earlier : List Candidate) (v : Verdict) → verdict_of earlier e ≡ v
    → IsExaminationOfText t e → TextsKept ts es
    → refusals (v ∷ verdicts_from (and_candidate earlier v) es) ≡ []
    → map (λ (c : Candidate). c.text) (candidates (v ∷ verdicts_from (and_candidate earlier v) es))
    ≡ t.bytes ∷ map (λ (text : Placed). text.bytes) ts
kept_step t ts e es earlier (Accepted c) verdict is kept none =
    let replayed : Replayed = record { place = t.place; text = t.bytes; game = is.0 } in
    let text : c.text ≡ t.bytes =
    (replayed-is earlier replayed c (ap (verdict_of earlier) (sym is.2) ∙ verdict)).text_is in
    ap (λ x. x ∷ map (λ (c : Candidate). c.text) (candidates (verdicts_from (earlier ++ c ∷ []) es))) text
    ∙ ap (λ xs. t.bytes ∷ xs) (kept (earlier ++ c ∷ []) none)
kept_step t ts e es earlier (Refused r) verdict is kept none = absurd (cons-nil r _ none)

texts_kept : (texts : List Placed) (examinations : List Examination)
    → AllZip IsExaminationOfText texts examinations → TextsKept texts examinations
unfolding verdicts_from
texts_kept [] [] are earlier none = refl
texts_kept [] (e ∷ es) are earlier none = absurd are
texts_kept (t ∷ ts) [] are earlier none = absurd are
texts_kept (t ∷ ts) (e ∷ es) are earlier none =
    kept_step t ts e es earlier (verdict_of earlier e) refl are.0 (texts_kept ts es are.1) none

none_batch : (b : Batch) → Path (Option Batch) None (Some b) → ⊥
none_batch b e = cc

batch_texts : (cs : List Candidate) (batch : Batch) → batch_of no_label cs ≡ Some batch
    → batch.texts ≡ map (λ (c : Candidate). c.text) cs
batch_texts [] batch e = absurd (none_batch batch e)
batch_texts (c ∷ cs) batch e = ap (λ (b : Batch). b.texts) (sym (same_Some _ batch e))

-- the whole batch is counted
pub counts_all : (texts : List Placed) (tallying : Tallying) (counted : Counted)
    → IsTallying texts tallying → tallying.refused.items ≡ [] → tallying.tally ≡ Some counted
    → counted.batch.texts ≡ map (λ (text : Placed). text.bytes) texts
counts_all texts tallying counted is none made =
    let all = candidates (verdicts is.examinations) in
    let counts = subst (IsTallyMade all) made is.tally in
    batch_texts all counted.batch counts.batch
    ∙ texts_kept texts is.examinations is.are_examinations [] (sym is.refused ∙ none)

-- there is a text where nothing is counted, or none is refused
pub counts_none : (texts : List Placed) (tallying : Tallying) → IsTallying texts tallying
    → tallying.refused.items ≡ [] → tallying.tally ≡ None
    → map (λ (text : Placed). text.bytes) texts ≡ []
counts_none texts tallying is none made =
    let all = candidates (verdicts is.examinations) in
    let empty : all ≡ [] = subst (IsTallyMade all) made is.tally in
    sym (texts_kept texts is.examinations is.are_examinations [] (sym is.refused ∙ none))
    ∙ ap (map (λ (c : Candidate). c.text)) empty
