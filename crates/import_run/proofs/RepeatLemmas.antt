-- What is refused as a repeat is one of a game in the journal of a clash.
use Rattle.std.proofs.Common.{◌≡◌, ℕ, ◌+◌, Bool, true, false, cond, List, [], ◌∷◌, ◌++◌, map, Option, None, Some, Result, Ok, Err, refl, sym, subst, suc, arith, find}
use Rattle.std.specs.Prelude.{slice_get, bytes_eq}
use Rattle.std.specs.List.{AllByRecursion, AllZip, Contains}
use Rattle.std.proofs.lemmas.List.Elements.{All-from_recursion, All-weaker, Contains-append_left, Contains-append_right}
use Rattle.std.proofs.lemmas.Slice.Eq.{bytes_eq-Decides}
use Rattle.std.proofs.lemmas.Option.{none-some}
use Rattle.explorer_model.specs.declared.archive.Batch.{Batch}
use Rattle.explorer_model.specs.declared.archive.Game.{Game}
use Rattle.explorer_model.specs.declared.archive.Placed.{Placed}
use Rattle.explorer_model.specs.declared.fault.GameFault.{GameFault}
use Rattle.explorer_model.specs.declared.fault.Refusal.{Refusal}
use Rattle.explorer_model.specs.declared.fault.Why.{Why}
use Rattle.explorer_model.specs.declared.fault.Why.TheVariants as causes
use Rattle.explorer_model.specs.Cuts.{Cut, Text, TooLong, Preamble}
use Rattle.explorer_model.specs.Games.{GameOf}
use Rattle.explorer_model.specs.Imports.{Candidate, Examination, IsExaminationOf, Numbering, Verdict, and_candidate, has_id_of, number_from, refusals, verdict_behind, verdict_by, verdict_if_stored, verdict_of, verdict_of_game, verdicts, verdicts_from}
use Rattle.explorer_model.specs.Timeline.{IsPrefix}
use Rattle.explorer_model.specs.Visits.{IsTextOf, texts_of}
use Rattle.ingest_desk.specs.Reporting.{RepeatsBy}
use Rattle.import_run.specs.Beside.{AreNamed, AreRepeats}
use Rattle.import_run.specs.Settling.{lost}

-- ---- the game of a number

some_first : (first n : ℕ) → Some first ≡ Some n → n ≡ first
some_first first n e = cc

-- the text and the game of a number that some id has
pub record IsFound (texts : List (List ℕ)) (id : List ℕ) (first n : ℕ) : Type 0 where
  pub place : ℕ
  pub at : n ≡ first + place
  pub text : List ℕ
  pub stands : slice_get texts place ≡ Some text
  pub game : Game
  pub is_game : IsTextOf text game
  pub has_id : bytes_eq game.classes.id.bytes id ≡ true

found-from : (texts : List (List ℕ)) (games : List Game) (id : List ℕ) (first n : ℕ) → AllZip IsTextOf texts games → number_from first id games ≡ Some n → IsFound texts id first n
found-from [] [] id first n are e = absurd (none-some n e)
found-from [] (game ∷ games) id first n are e = absurd are
found-from (text ∷ texts) [] id first n are e = absurd are
found-from (text ∷ texts) (game ∷ games) id first n are e = by_id (bytes_eq game.classes.id.bytes id) refl e (found-from texts games id (first + 1) n are.1)
  where
    by_id : (b : Bool) → bytes_eq game.classes.id.bytes id ≡ b → cond b (Some first) (number_from (first + 1) id games) ≡ Some n
        → (number_from (first + 1) id games ≡ Some n → IsFound texts id (first + 1) n) → IsFound (text ∷ texts) id first n
    by_id true is e later = record {
      place = 0;
      at = (let here = some_first first n e in omega (arith, here));
      text = text;
      stands = refl;
      game = game;
      is_game = are.0;
      has_id = is;
    }
    by_id false is e later =
        let l = later e in
        record {
          place = suc l.place;
          at = (let there = l.at in omega (arith, there));
          text = l.text;
          stands = l.stands;
          game = l.game;
          is_game = l.is_game;
          has_id = l.has_id;
        }

-- ---- what repeats a game goes on to

pub repeats-grow : (cuts cuts' : List Cut) (clashes clashes' : List (List Batch)) (place : ℕ) (why : Why) → ((cut : Cut) → Contains cuts cut → Contains cuts' cut)
    → ((journal : List Batch) → Contains clashes journal → Contains clashes' journal) → RepeatsBy cuts clashes place why → RepeatsBy cuts' clashes' place why
repeats-grow cuts cuts' clashes clashes' place causes.Preamble wider more r = tt
repeats-grow cuts cuts' clashes clashes' place (causes.TooLong n) wider more r = tt
repeats-grow cuts cuts' clashes clashes' place (causes.Game fault) wider more r = tt
repeats-grow cuts cuts' clashes clashes' place (causes.Twice first) wider more r = tt
repeats-grow cuts cuts' clashes clashes' place (causes.Repeated number) wider more r =
    let game = r.2 in (
      r.0,
      more r.0 r.1,
      record {
        text = game.text;
        stands = wider (Text (record { place = place; bytes = game.text })) game.stands;
        game = game.game;
        is_game = game.is_game;
        earlier_text = game.earlier_text;
        stored = game.stored;
        earlier = game.earlier;
        is_earlier = game.is_earlier;
        same_id = game.same_id;
      },
    )

pub contains-more : {A : Type 0} (front whole : List A) → IsPrefix front whole → (x : A) → Contains front x → Contains whole x
contains-more {A} front whole p x c =
    let P : List A → Type 0 = λ l. Contains l x in
    subst P (sym p.is) (Contains-append_left front p.rest x c)

pub all-repeats-grow : (cuts cuts' : List Cut) (clashes clashes' : List (List Batch)) (refused : List Refusal) → ((cut : Cut) → Contains cuts cut → Contains cuts' cut)
    → IsPrefix clashes clashes' → AreRepeats cuts clashes refused → AreRepeats cuts' clashes' refused
all-repeats-grow cuts cuts' clashes clashes' refused wider more each =
    All-weaker (λ r. RepeatsBy cuts clashes r.place r.why) (λ r. RepeatsBy cuts' clashes' r.place r.why)
    (λ r. repeats-grow cuts cuts' clashes clashes' r.place r.why wider (contains-more clashes clashes' more)) refused each

pub named-grow : (clashes clashes' : List (List Batch)) (number : Numbering) → IsPrefix clashes clashes' → AreNamed clashes number → AreNamed clashes' number
named-grow clashes clashes' number more named id n e =
    let at = named id n e in
    (at.0, contains-more clashes clashes' more at.0 at.1, at.2, at.3, at.4)

-- ---- the refusals of a group

module _ (all : List Cut) (clashes : List (List Batch)) (number : Numbering) (named : AreNamed clashes number) where
  abbrev Good : Refusal → Type 0
  Good r = RepeatsBy all clashes r.place r.why

  abbrev GoodOf : List Verdict → Type 0
  GoodOf vs = AllByRecursion Good (refusals (map (verdict_behind number) vs))

  repeat : (text : Placed) (game : Game) (n : ℕ) → Contains all (Text text) → GameOf text.bytes (Ok game) → number game.classes.id.bytes ≡ Some n → RepeatsBy all clashes text.place (causes.Repeated n)
  repeat text game n stands is e =
      let at = named game.classes.id.bytes n e in
      let f = found-from (texts_of at.0) at.2 game.classes.id.bytes 0 n at.3 at.4 in
      let P : ℕ → Type 0 = λ k. slice_get (texts_of at.0) k ≡ Some f.text in
      let place : f.place ≡ n = (let there = f.at in omega (arith, there)) in (
        at.0,
        at.1,
        record {
          text = text.bytes;
          stands = stands;
          game = game;
          is_game = is;
          earlier_text = f.text;
          stored = subst P place f.stands;
          earlier = f.game;
          is_earlier = f.is_game;
          same_id = sym ((bytes_eq-Decides f.game.classes.id.bytes game.classes.id.bytes).0 f.has_id);
        },
      )

  by_number : (text : Placed) (game : Game) (o : Option ℕ) (rest : List Verdict) → number game.classes.id.bytes ≡ o → Contains all (Text text) → GameOf text.bytes (Ok game)
      → AllByRecursion Good (refusals rest)
      → AllByRecursion Good (refusals (verdict_if_stored o (record { place = text.place; text = text.bytes; game = game }) ∷ rest))
  by_number text game None rest e stands is later = later
  by_number text game (Some n) rest e stands is later = (repeat text game n stands is e, later)

  by_first : (earlier : List Candidate) (text : Placed) (game : Game) (o : Option Candidate) (examinations : List Examination) → Contains all (Text text) → GameOf text.bytes (Ok game)
      → ((e : List Candidate) → GoodOf (verdicts_from e examinations))
      → GoodOf (verdict_by o text.place text.bytes game ∷ verdicts_from (and_candidate earlier (verdict_by o text.place text.bytes game)) examinations)
  by_first earlier text game None examinations stands is later =
      let c : Candidate = record { place = text.place; text = text.bytes; game = game } in
      by_number text game (number game.classes.id.bytes) (map (verdict_behind number) (verdicts_from (earlier ++ c ∷ []) examinations)) refl stands is (later (earlier ++ c ∷ []))
  by_first earlier text game (Some first) examinations stands is later = (tt, later earlier)

  by_game : (earlier : List Candidate) (text : Placed) (game : Result Game GameFault) (examinations : List Examination) → Contains all (Text text) → GameOf text.bytes game
      → ((e : List Candidate) → GoodOf (verdicts_from e examinations))
      → GoodOf (verdict_of_game earlier text.place text.bytes game ∷ verdicts_from (and_candidate earlier (verdict_of_game earlier text.place text.bytes game)) examinations)
  by_game earlier text (Err fault) examinations stands is later = (tt, later earlier)
  by_game earlier text (Ok game) examinations stands is later = by_first earlier text game (find (has_id_of game) earlier) examinations stands is later

  repeats-from : (cuts : List Cut) (earlier : List Candidate) (examinations : List Examination) → ((cut : Cut) → Contains cuts cut → Contains all cut) → AllZip IsExaminationOf cuts examinations
      → GoodOf (verdicts_from earlier examinations)
  unfolding verdicts_from
  repeats-from [] earlier [] within each = tt
  repeats-from [] earlier (examination ∷ examinations) within each = absurd each
  repeats-from (cut ∷ cuts) earlier [] within each = absurd each
  repeats-from (cut ∷ cuts) earlier (examination ∷ examinations) within each =
      by_cut cut (within cut (0, omega arith, refl)) each.0 (λ e. repeats-from cuts e examinations (λ x c. within x (Contains-append_right (cut ∷ []) cuts x c)) each.1)
    where
      by_cut : (cut : Cut) → Contains all cut → IsExaminationOf cut examination → ((e : List Candidate) → GoodOf (verdicts_from e examinations))
          → GoodOf (verdict_of earlier examination ∷ verdicts_from (and_candidate earlier (verdict_of earlier examination)) examinations)
      by_cut (Text text) stands is later =
          let P : Examination → Type 0 = λ examination. GoodOf (verdict_of earlier examination ∷ verdicts_from (and_candidate earlier (verdict_of earlier examination)) examinations) in
          subst P (sym is.2) (by_game earlier text is.0 examinations stands is.1 later)
      by_cut (TooLong place long) stands is later =
          let P : Examination → Type 0 = λ examination. GoodOf (verdict_of earlier examination ∷ verdicts_from (and_candidate earlier (verdict_of earlier examination)) examinations) in
          subst P (sym is) (tt, later earlier)
      by_cut (Preamble place) stands is later =
          let P : Examination → Type 0 = λ examination. GoodOf (verdict_of earlier examination ∷ verdicts_from (and_candidate earlier (verdict_of earlier examination)) examinations) in
          subst P (sym is) (tt, later earlier)

pub repeats : (cuts : List Cut) (clashes : List (List Batch)) (number : Numbering) (examinations : List Examination) → AreNamed clashes number → AllZip IsExaminationOf cuts examinations
    → AreRepeats cuts clashes (lost number (verdicts examinations))
repeats cuts clashes number examinations named each =
    All-from_recursion (λ r. RepeatsBy cuts clashes r.place r.why) (lost number (verdicts examinations)) (repeats-from cuts clashes number named cuts [] examinations (λ x c. c) each)
