use Rattle.std.proofs.Common.{[], ◌∷◌, ◌++◌, length, sym, subst}
use Rattle.std.proofs.lemmas.Bool.{MatchBool-at_true}
use Rattle.explorer_model.specs.Journal.{IsSound}
use Rattle.segment_blocks.specs.Segment.{CountedSpan}
use Rattle.ingest_desk.specs.Recounts.{HasOneMore, IsAloneAt}
use Rattle.ingest_desk.proofs.recount.put_in_if_sound.Goals as goal

pub returns-in_default : goal.returns-in_default
returns-in_default c = λ journal batch is found.
    (rw c.in_default.is at found) journal is.sound

pub takes_in-requires-clause-counted : goal.takes_in-requires-clause-counted
takes_in-requires-clause-counted c =
    let given = rw c.in-Some.is at c.requires.counted in
    (given.0, given.1, subst (IsAloneAt given.0 given.1) (sym c.deref.ensures) given.2)

pub returns-then-branch : goal.returns-then-branch
returns-then-branch c = λ journal batch is found.
    let alone = rw c.in-Some.is at found in
    let more = MatchBool-at_true (HasOneMore journal batch c.takes_in.new.register c.deref.result.now) (¬ IsSound (journal ++ batch ∷ [])) c.if-branch.true
    (c.in_ok-takes_in.ensures journal batch is (subst (IsAloneAt (length journal) batch) (sym c.deref.ensures) alone)) in
    subst (λ (s : CountedSpan). HasOneMore journal batch c.takes_in.new.register s) c.deref.ensures more
