-- One more group is accounted behind stored games.
use Rattle.std.proofs.Common.{◌≡◌, ℕ, List, [], ◌∷◌, ◌++◌, map, filter_map, Option, Some, refl, sym, ap, ◌∙◌, subst}
use Rattle.std.proofs.lemmas.List.{append-nil}
use Rattle.std.proofs.lemmas.List.Elements.{filter_map-append}
use Rattle.std.proofs.lemmas.Grind.{flat_map-append}
use Rattle.std.specs.List.{AllZip, cons_option, flat_map}
use Rattle.ingest_desk.proofs.RegisterLemmas.{texts_more}
use Rattle.explorer_model.specs.declared.archive.Batch.{Batch}
use Rattle.explorer_model.specs.declared.archive.Game.{Game}
use Rattle.explorer_model.specs.declared.fault.Refusal.{Refusal}
use Rattle.explorer_model.specs.Cuts.{Cut}
use Rattle.explorer_model.specs.Imports.{Accounted, Candidate, Examination, IsExaminationOf, Verdict, batch_of, candidates, numbers_of, refusals, verdicts_behind, verdicts_in_turn}
use Rattle.explorer_model.specs.Visits.{AreGamesOf, IsTextOf, texts_of}
use Rattle.explorer_model.proofs.Lists.{zip-append}
use Rattle.import_run.specs.Progress.{and_games, games_after}
use Rattle.import_run.specs.Settling.{AreRead}
use Rattle.import_run.proofs.HandLemmas.{batch_texts}

pub games-after : (stored : List Game) (groups : List (List Examination)) (group : List Examination) → games_after stored (groups ++ group ∷ []) ≡ and_games (games_after stored groups) group
games-after stored [] group = refl
games-after stored (g ∷ groups) group = games-after (and_games stored g) groups group

pub turn-more : (stored : List Game) (groups : List (List Examination)) (group : List Examination)
    → verdicts_in_turn stored (groups ++ group ∷ []) ≡ verdicts_in_turn stored groups ++ verdicts_behind (numbers_of (games_after stored groups)) group ∷ []
unfolding verdicts_in_turn
turn-more stored [] group = refl
turn-more stored (g ∷ groups) group = ap (λ (l : List (List Verdict)). verdicts_behind (numbers_of stored) g ∷ l) (turn-more (and_games stored g) groups group)

abbrev pub batch_in : List ℕ → List Verdict → Option Batch
batch_in label group = batch_of label (candidates group)

unfoldable pub one_more : {label : List ℕ} (stored : List Game) (groups : List (List Cut)) (batches : List Batch) (refused : List Refusal) (done : Accounted label stored groups batches refused) (cuts : List Cut) (examinations : List Examination)
    → AllZip IsExaminationOf cuts examinations
    → Accounted label stored (groups ++ cuts ∷ []) (batches ++ cons_option (batch_of label (candidates (verdicts_behind (numbers_of (games_after stored done.examinations)) examinations))) [])
    (refused ++ refusals (verdicts_behind (numbers_of (games_after stored done.examinations)) examinations))
one_more {label} stored groups batches refused done cuts examinations each =
    let here = verdicts_behind (numbers_of (games_after stored done.examinations)) examinations in
    let so_far = verdicts_in_turn stored done.examinations in
    let turn = turn-more stored done.examinations examinations in
    record {
      examinations = done.examinations ++ examinations ∷ [];
      are_examinations = zip-append (AllZip IsExaminationOf) groups (cuts ∷ []) done.examinations (examinations ∷ []) done.are_examinations (each, tt);
      yields = record {
        batches_are = ap (λ (l : List Batch). l ++ cons_option (batch_of label (candidates here)) []) done.yields.batches_are
            ∙ sym (ap (filter_map (batch_in label)) turn ∙ filter_map-append (batch_in label) so_far (here ∷ []));
        refused_are = ap (λ (l : List Refusal). l ++ refusals here) done.yields.refused_are
            ∙ sym (ap (flat_map refusals) turn ∙ flat_map-append refusals so_far (here ∷ []) ∙ ap (λ (l : List Refusal). flat_map refusals so_far ++ l) (append-nil (refusals here)));
      };
    }

-- ---- the games of the journal with the batch of some candidates

read_zip : (cs : List Candidate) → AreRead cs → AllZip IsTextOf (map (λ c. c.text) cs) (map (λ c. c.game) cs)
read_zip [] read = tt
read_zip (c ∷ cs) read = (read.0, read_zip cs read.1)

pub games_more : (label : List ℕ) (journal : List Batch) (games : List Game) (cs : List Candidate) (batch : Batch) → AreGamesOf journal games → AreRead cs → batch_of label cs ≡ Some batch
    → AreGamesOf (journal ++ batch ∷ []) (games ++ map (λ c. c.game) cs)
games_more label journal games cs batch are read is =
    let more = map (λ (c : Candidate). c.game) cs in
    let P : List (List ℕ) → Type 0 = λ texts. AllZip IsTextOf (texts_of journal ++ texts) (games ++ more) in
    let Q : List (List ℕ) → Type 0 = λ texts. AllZip IsTextOf texts (games ++ more) in
    subst Q (sym (texts_more journal batch)) (subst P (sym (batch_texts label cs batch is)) (zip-append IsTextOf (texts_of journal) (map (λ c. c.text) cs) games more are (read_zip cs read)))
