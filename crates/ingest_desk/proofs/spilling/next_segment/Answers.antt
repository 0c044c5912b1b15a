use Rattle.std.proofs.Common.{ℕ, [], ◌∷◌, ◌++◌, ◌∙◌, subst, arith}
use Rattle.std.proofs.lemmas.Bool.{MatchBool-at_true}
use Rattle.explorer_model.specs.Journal.{IsSound}
use Rattle.ingest_desk.specs.Recounts.{HasOneMore, IsAloneAt}
use Rattle.ingest_desk.proofs.RegisterLemmas.{fewer_batches}
use Rattle.ingest_desk.proofs.spilling.next_segment.Goals as goal

pub segment_at-requires-clause-place : goal.segment_at-requires-clause-place
segment_at-requires-clause-place g c =
    let journal = c.requires.knows.0 in
    let is = c.requires.knows.1 in
    omega (arith, c.batches-place.ensures, is.batches, fewer_batches journal is.sound, is.sound.within.0)

pub returns-in_default : goal.returns-in_default
returns-in_default g c = λ journal is. (rw c.in_default.is at c.in_ok-segment.ensures) journal is.sound

pub takes_in-requires-clause-counted : goal.takes_in-requires-clause-counted
takes_in-requires-clause-counted g c =
    (c.batches-place.result, c.args.batch, rw c.in-Some.is at c.in_ok-segment.ensures)

pub returns-then-branch : goal.returns-then-branch
returns-then-branch g c = λ journal is.
    let alone = rw c.in-Some.is at c.in_ok-segment.ensures in
    let at = subst (λ (n : ℕ). IsAloneAt n c.args.batch c.in-Some.segment) (c.batches-place.ensures ∙ is.batches) alone in
    MatchBool-at_true (HasOneMore journal c.args.batch c.takes_in.new.register c.in-Some.segment) (¬ IsSound (journal ++ c.args.batch ∷ []))
    c.if-branch.true (c.in_ok-takes_in.ensures journal c.args.batch is at)
