-- A group in hand is closed, and what was settled before stays.
use Rattle.std.proofs.Common.{◌≡◌, ◌∙◌, ◌+◌, ◌-◌, ◌<◌, ◌≤◌, ℕ, List, [], ◌∷◌, ◌++◌, length, map, Option, None, Some, refl, sym, ap, subst, arith, zero, suc}
use Rattle.std.specs.Prelude.{slice_get, vec_capacity, vec_len}
use Rattle.std.specs.List.{AllZip, Contains}
use Rattle.std.proofs.lemmas.List.{append-nil, length-map}
use Rattle.std.proofs.lemmas.List.Elements.{Contains-append_right}
use Rattle.explorer_model.specs.declared.archive.Batch.{Batch}
use Rattle.explorer_model.specs.declared.archive.Game.{Game}
use Rattle.explorer_model.specs.declared.fault.Refusal.{Refusal}
use Rattle.explorer_model.specs.Cuts.{Cut}
use Rattle.explorer_model.specs.Imports.{Accepted, Candidate, Examination, IsExaminationOf, Numbering, Refused, Verdict, and_candidate, candidates, numbers_of, refusals, verdict_behind, verdict_if_stored, verdict_of, verdicts, verdicts_from}
use Rattle.explorer_model.specs.Timeline.{IsPrefix}
use Rattle.explorer_model.specs.Visits.{AreGamesOf}
use Rattle.ingest_desk.specs.declared.receipt.Receipt.{Receipt}
use Rattle.import_run.specs.declared.open_import.OpenImport.{OpenImport}
use Rattle.import_run.specs.declared.open_import.Stopped.{Stopped}
use Rattle.import_run.specs.declared.text_group.TalliedGroup.{TalliedGroup}
use Rattle.import_run.specs.Beside.{AreNamed, last_batches}
use Rattle.import_run.specs.Committing.{Known, Store, store_of}
use Rattle.import_run.specs.Grouping.{IsTallied}
use Rattle.import_run.specs.Rounds.{MayHaveMore}
use Rattle.import_run.specs.Settling.{lost}
use Rattle.import_run.specs.Settled.{IsSettledSo, IsStoppedBy}
use Rattle.import_run.specs.Taking.{LacksBehind, StopsBehind}
use Rattle.import_run.proofs.SettledLemmas.{settled_grown}

-- ---- notes of clashes

pub notes_same : (old new : List (List Batch)) → new ≡ old → IsPrefix old new
notes_same old new is = record { rest = []; is = is ∙ sym (append-nil old) }

-- what is stored in the journal of a clash is named by its note
pub clash_names : (old new : List (List Batch)) (note : List Batch) (games : List Game) → new ≡ old ++ note ∷ [] → AreGamesOf note games → AreNamed new (numbers_of games)
clash_names old new note games is are id n e =
    let P : List (List Batch) → Type 0 = λ l. Contains l note in
    (note, subst P (sym is) (Contains-append_right old (note ∷ []) note (0, omega arith, refl)), games, are, e)

-- ---- what stays settled

module _ {J : Type 0} (start : Option Store) (groups : List (List Cut)) (old new : OpenImport J) (receipts : new.receipts.items ≡ old.receipts.items) (refused : new.refused.items ≡ old.refused.items)
    (label_is : new.group.label ≡ old.group.label) (grew : IsPrefix old.clashes.items new.clashes.items) (told told' : Option Store) (next : List Cut) (s : IsSettledSo start groups old told) where
  pub lacks_behind : ((known : Known) → told ≡ Some (store_of known) → MayHaveMore old.group.label known (next ∷ []) told') → LacksBehind start groups (next ∷ []) new told'
  lacks_behind lacks = record {
    before = told;
    settled = settled_grown new label_is receipts refused grew s;
    lacks = λ known is. let M : List ℕ → Type 0 = λ l. MayHaveMore l known (next ∷ []) told' in subst M (sym label_is) (lacks known is);
  }

  pub stops_behind : (stopped : Stopped J) → IsStoppedBy new.group.label next new.clashes.items told stopped told' → vec_len new.refused + length stopped.refused.items ≤ vec_capacity new.refused → StopsBehind start groups next new stopped told'
  stops_behind stopped stops room = record { before = told; settled = settled_grown new label_is receipts refused grew s; stops = stops; room = room }

-- ---- vectors and numbers

pub extended : {A : Type 0} (new front back old items : List A) → new ≡ front ++ back → front ≡ old → back ≡ items → new ≡ old ++ items
extended new front back old items is same also = is ∙ ap (λ l. l ++ back) same ∙ ap (λ l. old ++ l) also

pub above_last : (a b x y : ℕ) → b < a → a ≡ x → b ≡ y → y < x
above_last a b x y above here there = omega (arith, above, here, there)

-- ---- the last receipt

module _ {J : Type 0} where
  nothing_some : (r : Receipt J) → Some r ≡ None → ⊥
  nothing_some r e = cc

  last_at : (none : ℕ) (rs : List (Receipt J)) (r : Receipt J) (k : ℕ) → suc k ≡ length rs → Some r ≡ slice_get rs k → r.batches ≡ last_batches none rs
  last_at none [] r k long is = absurd (nothing_some r is)
  last_at none (x ∷ []) r zero long is = let same : r ≡ x = cc in ap (λ (r : Receipt J). r.batches) same
  last_at none (x ∷ []) r (suc k) long is = absurd (omega (arith, long))
  last_at none (x ∷ y ∷ rs) r zero long is = absurd (omega (arith, long))
  last_at none (x ∷ y ∷ rs) r (suc k) long is = last_at x.batches (y ∷ rs) r k (omega (arith, long)) is

  pub last_is : (rs : List (Receipt J)) (r : Receipt J) → Some r ≡ slice_get rs (length rs - 1) → r.batches ≡ last_batches 0 rs
  last_is [] r is = absurd (nothing_some r is)
  last_is (x ∷ rs) r is = last_at 0 (x ∷ rs) r (length (x ∷ rs) - 1) (omega arith) is

-- ---- how many refusals a group has

refusals_le : (stored : Numbering) (vs : List Verdict) → length (lost stored vs) ≤ length vs
refusals_le stored [] = omega arith
refusals_le stored (Refused refusal ∷ vs) = let rest = refusals_le stored vs in omega (arith, rest)
refusals_le stored (Accepted c ∷ vs) = by (stored c.game.classes.id.bytes) (refusals_le stored vs)
  where
    by : (o : Option ℕ) → length (lost stored vs) ≤ length vs → length (refusals (verdict_if_stored o c ∷ map (verdict_behind stored) vs)) ≤ suc (length vs)
    by None rest = omega (arith, rest)
    by (Some n) rest = omega (arith, rest)

pub verdicts_length : (earlier : List Candidate) (examinations : List Examination) → length (verdicts_from earlier examinations) ≡ length examinations
unfolding verdicts_from
verdicts_length earlier [] = refl
verdicts_length earlier (e ∷ examinations) = ap suc (verdicts_length (and_candidate earlier (verdict_of earlier e)) examinations)

pub examined_length : (cuts : List Cut) (examinations : List Examination) → AllZip IsExaminationOf cuts examinations → length examinations ≡ length cuts
examined_length [] [] each = refl
examined_length [] (e ∷ examinations) each = absurd each
examined_length (cut ∷ cuts) [] each = absurd each
examined_length (cut ∷ cuts) (e ∷ examinations) each = ap suc (examined_length cuts examinations each.1)

parts : (vs : List Verdict) → length (candidates vs) + length (refusals vs) ≡ length vs
parts [] = refl
parts (Refused refusal ∷ vs) = let rest = parts vs in omega (arith, rest)
parts (Accepted c ∷ vs) = let rest = parts vs in omega (arith, rest)

-- a group has at most as many refusals as it has cuts, of which each is a candidate or refused first
pub few_left : (label : List ℕ) (cuts : List Cut) (tallied : TalliedGroup) (examinations : List Examination) (stored : Numbering) → IsTallied label cuts tallied → AllZip IsExaminationOf cuts examinations
    → length (lost stored (verdicts examinations)) ≤ length tallied.places.items + length tallied.refused.items
few_left label cuts tallied examinations stored is each =
    let all = parts (verdicts is.examinations) in
    let places = ap (λ (l : List ℕ). length l) is.places ∙ length-map (candidates (verdicts is.examinations)) (λ (c : Candidate). c.place) in
    let refused = ap (λ (l : List Refusal). length l) is.refused in
    let same = examined_length cuts is.examinations is.are_examinations in
    let others = examined_length cuts examinations each in
    omega (arith, all, places, refused, same, others, refusals_le stored (verdicts examinations), verdicts_length [] examinations, verdicts_length [] is.examinations)
