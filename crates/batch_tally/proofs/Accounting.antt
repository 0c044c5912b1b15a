-- Groups of cuts have one accounting.
use Rattle.std.proofs.Common.{◌≡◌, ℕ, List, Result, sym, ap, ◌∙◌}
use Rattle.std.specs.Prelude.{filter_map}
use Rattle.std.specs.List.{AllZip, flat_map}
use Rattle.explorer_model.specs.declared.archive.Batch.{Batch}
use Rattle.explorer_model.specs.declared.archive.Game.{Game}
use Rattle.explorer_model.specs.declared.fault.GameFault.{GameFault}
use Rattle.explorer_model.specs.declared.fault.Refusal.{Refusal}
use Rattle.explorer_model.specs.Cuts.{Cut, Text, TooLong, Preamble}
use Rattle.explorer_model.specs.Games.{GameOf}
use Rattle.explorer_model.specs.Labels.{no_label}
use Rattle.explorer_model.specs.Imports.{Examination, Read, IsExaminationOf, AreExaminations, Verdict, Yields, batch_of, candidates, refusals}
use Rattle.explorer_model.proofs.Lists.{one-zip}

-- a text has one game
abbrev pub OneGame : Type 0
OneGame = (text : List ℕ) (game other : Result Game GameFault) → GameOf text game → GameOf text other → game ≡ other

one-examination : OneGame → (cut : Cut) (examination other : Examination)
    → IsExaminationOf cut examination → IsExaminationOf cut other → examination ≡ other
one-examination one (Text text) examination other first second =
    let game = one text.bytes first.0 second.0 first.1 second.1 in
    first.2 ∙ ap (λ game. Read (record { place = text.place; text = text.bytes; game = game })) game ∙ sym second.2
one-examination one (TooLong place length) examination other first second = first ∙ sym second
one-examination one (Preamble place) examination other first second = first ∙ sym second

pub one-examinations : OneGame → (groups : List (List Cut)) (examinations others : List (List Examination))
    → AreExaminations groups examinations → AreExaminations groups others → examinations ≡ others
one-examinations one groups examinations others =
    one-zip (AllZip IsExaminationOf) (one-zip IsExaminationOf (one-examination one)) groups examinations others

-- what verdicts yield is one thing
abbrev batches_yielded : List (List Verdict) → List Batch
batches_yielded groups = filter_map (λ group. batch_of no_label (candidates group)) groups

abbrev refused_yielded : List (List Verdict) → List Refusal
refused_yielded groups = flat_map refusals groups

module _ (judge : List (List Examination) → List (List Verdict)) (first second : List (List Examination))
    (batches others : List Batch) (refused other : List Refusal) where
  pub same-batches : first ≡ second → Yields no_label (judge first) batches refused → Yields no_label (judge second) others other → batches ≡ others
  same-batches same a b = a.batches_are ∙ ap (λ e. batches_yielded (judge e)) same ∙ sym b.batches_are

  pub same-refused : first ≡ second → Yields no_label (judge first) batches refused → Yields no_label (judge second) others other → refused ≡ other
  same-refused same a b = a.refused_are ∙ ap (λ e. refused_yielded (judge e)) same ∙ sym b.refused_are
