-- A stream that is cut and imported chunk by chunk.
use Rattle.std.proofs.Common.{◌≡◌, ℕ, ◌+◌, ◌-◌, ◌<◌, ◌≤◌, List, [], ◌∷◌, ◌++◌, length, take, drop, Option, None, Some, refl, sym, ap, subst, ◌∙◌, append_assoc, length-append, arith}
use Rattle.std.specs.Prelude.{IsSome}
use Rattle.std.specs.List.{flat_map}
use Rattle.std.proofs.lemmas.List.{append-nil, take_all, take_rest, take-append-drop}
use Rattle.std.proofs.Math.Seq.{take-add}
use Rattle.explorer_model.specs.Cuts.{Cut, Text, cuts}
use Rattle.pgn_cut.specs.Cut.{cuts_in}
use Rattle.pgn_cut.specs.Cutter.{IsAtStart, StandsAtStart, cuts_from_stage, cuts_of_rest}
use Rattle.pgn_cut.specs.Text.{cuts_of_text}
use Rattle.pgn_cut.specs.declared.cut.Cut as given
use Rattle.pgn_cut.specs.declared.cutter.Cutter.{Cutter}
use Rattle.pgn_cut.specs.declared.cutter.Stage.{Stage}
use Rattle.pgn_cut.specs.declared.cutter.Stage.TheVariants.{Mark, Before, Within}
use Rattle.import_run.specs.declared.open_import.OpenImport.{OpenImport}
use Rattle.import_run.specs.declared.open_import.Stopped.{Stopped}
use Rattle.import_run.specs.Committing.{Store}
use Rattle.import_run.specs.Grouping.{Ascend}
use Rattle.import_run.specs.Taking.{CutSoFar, LacksSoFar, LacksWithin, StopsSoFar, StopsWithin}
use Rattle.import_run.proofs.PlaceLemmas.{ascend_front, ascend_of_stream}

-- ---- what was cut

regroup : (past first next rest : List ℕ) → (past ++ first) ++ (next ++ rest) ≡ (past ++ (first ++ next)) ++ rest
regroup past first next rest = sym (append_assoc (past ++ first) next rest) ∙ ap (λ (l : List ℕ). l ++ rest) (append_assoc past first next)

-- one more call of the cutter
pub next_cut : (past bytes : List ℕ) (at taken : ℕ) (done more : List Cut) (old new : List ℕ → List Cut) → ((rest : List ℕ) → done ++ old rest ≡ cuts ((past ++ take at bytes) ++ rest))
    → ((rest : List ℕ) → more ++ new rest ≡ old (take taken (take (length bytes - at) (drop at bytes)) ++ rest)) → (rest : List ℕ) → (done ++ more) ++ new rest ≡ cuts ((past ++ take (at + taken) bytes) ++ rest)
next_cut past bytes at taken done more old new so_far cut rest =
    append_assoc done more (new rest)
    ∙ ap (λ (l : List Cut). done ++ l) (cut rest)
    ∙ ap (λ (l : List ℕ). done ++ old (take taken l ++ rest)) (take_rest bytes at)
    ∙ so_far (take taken (drop at bytes) ++ rest)
    ∙ ap cuts (regroup past (take at bytes) (take taken (drop at bytes)) rest ∙ ap (λ (l : List ℕ). (past ++ l) ++ rest) (sym (take-add at taken bytes)))

-- the same, up to the end of all bytes
pub cut_of_all : (past bytes : List ℕ) (k : ℕ) (done : List Cut) (after : List ℕ → List Cut) → ((rest : List ℕ) → done ++ after rest ≡ cuts ((past ++ take k bytes) ++ rest))
    → (rest : List ℕ) → done ++ after (drop k bytes ++ rest) ≡ cuts ((past ++ bytes) ++ rest)
cut_of_all past bytes k done after cut rest = cut (drop k bytes ++ rest) ∙ ap cuts (regroup past (take k bytes) (drop k bytes) rest ∙ ap (λ (l : List ℕ). (past ++ l) ++ rest) (take-append-drop k bytes))

pub cut_ascends : (done : List Cut) (after : List ℕ → List Cut) (bytes : List ℕ) → ((rest : List ℕ) → done ++ after rest ≡ cuts (bytes ++ rest)) → Ascend done
cut_ascends done after bytes cut = ascend_front 0 done (after []) (ascend_of_stream done (after []) (bytes ++ []) (cut []))

-- the last call of the cutter
pub whole_cuts : (stream : List ℕ) (after : List ℕ → List Cut) (done last : List Cut) → ((rest : List ℕ) → done ++ after rest ≡ cuts (stream ++ rest)) → last ≡ after [] → done ++ last ≡ cuts stream
whole_cuts stream after done last cut is = ap (λ (l : List Cut). done ++ l) is ∙ cut [] ∙ ap cuts (append-nil stream)

-- ---- a cut that has begun

-- where a text has begun there is a cut to come
stage_opens : (stage : Stage) → StandsAtStart stage → (rest : List ℕ) → 0 < length (cuts_from_stage stage rest)
unfolding cuts_of_text
stage_opens (Mark prefix) at rest = absurd at
stage_opens (Before front) at rest = absurd at
stage_opens (Within text) at rest = omega arith

-- once a cut has come, there is one more to come
pub opens_more : (cut : Option given.Cut) (new : Cutter) (taken : List Cut) (old : List ℕ → List Cut) (chunk : List ℕ) → ((rest : List ℕ) → cuts_in cut ++ cuts_of_rest new rest ≡ old (chunk ++ rest))
    → (IsSome cut → IsAtStart new) → (0 < length taken → (rest : List ℕ) → 0 < length (old rest)) → 0 < length (taken ++ cuts_in cut) → (rest : List ℕ) → 0 < length (cuts_of_rest new rest)
opens_more None new taken old chunk cut stops begun some rest =
    let before = begun (omega (arith, length-append taken [], some)) (chunk ++ rest) in
    let same = ap (λ (l : List Cut). length l) (cut rest) in
    omega (arith, before, same)
opens_more (Some one) new taken old chunk cut stops begun some rest = stage_opens new.stage (stops refl) rest

-- ---- what was cut so far

module _ {J : Type 0} (start : Option Store) (told : Option Store) where
  pub cut_bytes : (bytes bytes' : List ℕ) (after : List ℕ → List Cut) (import : OpenImport J) → bytes ≡ bytes' → CutSoFar start bytes after import told → CutSoFar start bytes' after import told
  cut_bytes bytes bytes' after import same so_far = subst (λ (l : List ℕ). CutSoFar start l after import told) same so_far

  pub cut_whole : (past bytes : List ℕ) (at : ℕ) (after : List ℕ → List Cut) (import : OpenImport J) → length bytes ≤ at → CutSoFar start (past ++ take at bytes) after import told → CutSoFar start (past ++ bytes) after import told
  cut_whole past bytes at after import all so_far = cut_bytes _ _ after import (ap (λ (l : List ℕ). past ++ l) (take_all at bytes all)) so_far

  -- a group that is whole ended the import, and the rest of the bytes is not cut
  pub stops_within : (past bytes : List ℕ) (k : ℕ) (taken : List Cut) (cut : Option given.Cut) (new : Cutter) (import : OpenImport J) (stopped : Stopped J)
      → ((rest : List ℕ) → (taken ++ cuts_in cut) ++ cuts_of_rest new rest ≡ cuts ((past ++ take k bytes) ++ rest))
      → ((rest : List ℕ) → 0 < length (cuts_of_rest new rest)) → StopsSoFar start (taken ++ cuts_in cut) import stopped told → StopsWithin start (past ++ bytes) import stopped told
  stops_within past bytes k taken cut new import stopped so_far begun stops = record {
    taken = taken ++ cuts_in cut;
    more = cuts_of_rest new (drop k bytes ++ []);
    cut = cut_of_all past bytes k (taken ++ cuts_in cut) (cuts_of_rest new) so_far [] ∙ ap cuts (append-nil (past ++ bytes));
    some = begun (drop k bytes ++ []);
    stops = stops;
  }

  -- memory was wanting, and the rest of the bytes is not cut
  pub lacks_within : (past bytes : List ℕ) (k : ℕ) (taken : List Cut) (after : List ℕ → List Cut) (import : OpenImport J)
      → ((rest : List ℕ) → taken ++ after rest ≡ cuts ((past ++ take k bytes) ++ rest))
      → (0 < length taken → (rest : List ℕ) → 0 < length (after rest)) → LacksSoFar start taken import told → LacksWithin start (past ++ bytes) import told
  lacks_within past bytes k taken after import so_far begun lacks = record {
    taken = taken;
    more = after (drop k bytes ++ []);
    cut = cut_of_all past bytes k taken after so_far [] ∙ ap cuts (append-nil (past ++ bytes));
    begun = λ some. begun some (drop k bytes ++ []);
    lacks = lacks;
  }

  -- a cut has come where a group is whole
  pub some_taken : (taken : List Cut) (import : OpenImport J) (stopped : Stopped J) → StopsSoFar start taken import stopped told → 0 < length taken
  some_taken taken import stopped so_far =
      let all = ap (λ (l : List Cut). length l) so_far.all in
      let next = ap (λ (l : List Cut). length l) so_far.whole.ends in
      omega (arith, all, next, length-append (flat_map (λ (group : List Cut). group) so_far.closed) so_far.next, length-append so_far.whole.front (Text so_far.whole.text ∷ []))

pub one_cut : (cut : Option given.Cut) → length (cuts_in cut) ≤ 1
one_cut None = omega arith
one_cut (Some one) = omega arith
