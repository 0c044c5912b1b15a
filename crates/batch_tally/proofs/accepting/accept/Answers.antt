use Rattle.std.proofs.Common.{true, sym, ap, subst, ◌∙◌, map, List, arith}
use Rattle.std.specs.List.{All}
use Rattle.std.proofs.lemmas.List.{length-set, nil_from_length}
use Rattle.std.proofs.lemmas.List.Elements.{All-push}
use Rattle.explorer_model.specs.Imports.{verdict_of}
use Rattle.batch_tally.specs.declared.accepting.Accepted.{Accepted}
use Rattle.batch_tally.specs.Accepting.{candidate_as, IsCounted}
use Rattle.batch_tally.specs.Reading.{examination_as, HasCount}
use Rattle.batch_tally.proofs.Completing.{first-left, short-rest}
use Rattle.batch_tally.proofs.MarkLemmas.{id_marked_more}
use Rattle.batch_tally.proofs.Verdicts.{one-accepted, one-refused, ends-accepted, ends-refused, words-more}
use Rattle.batch_tally.proofs.accepting.accept.Goals as goal

pub judge-requires-clause-counted : goal.judge-requires-clause-counted
judge-requires-clause-counted c = first-left HasCount _ _ _ c.in-Some.ensures.steps.0 c.loop-reading.invariant.counts

pub loop-reading-preserved-in-Continue-branch-4 : goal.loop-reading-preserved-in-Continue-branch-4
loop-reading-preserved-in-Continue-branch-4 c = record {
  sorting = one-accepted _ _ _ _ _ _ _ _ c.in-Some.ensures.steps.0 c.in_ok-push-in-Accepted-2.ensures.items
      (c.in-Accepted.ensures.verdict ∙ ap (λ l. verdict_of (map candidate_as l) (examination_as c.in-Some.reading)) c.as_slice.ensures.value)
      c.loop-reading.invariant.sorting;
  counted = subst (λ (l : List Accepted). All IsCounted l) (sym c.in_ok-push-in-Accepted-2.ensures.items)
      (All-push IsCounted c.loop-reading.accepted.items _ c.loop-reading.invariant.counted c.in-Accepted.ensures.counted);
  words = words-more _ _ _ _ _ _ c.loop-reading.invariant.words c.in_ok-push-in-Accepted.ensures.items c.id_word-word.ensures c.in_ok-push-in-Accepted-2.ensures.items;
  marks = id_marked_more c.loop-reading.marks _ _ c.id_word-word.result c.id_mark_of.result c.in_ok-push-in-Accepted.ensures.items c.id_mark_of.ensures.value
      (omega (arith, c.id_mark_of.ensures.small, c.loop-reading.invariant.wide)) c.loop-reading.invariant.marks;
  wide = length-set c.loop-reading.marks c.id_mark_of.result true ∙ c.loop-reading.invariant.wide;
  counts = short-rest HasCount _ _ _ c.in-Some.ensures.steps.0 c.loop-reading.invariant.counts;
}

pub loop-reading-preserved : goal.loop-reading-preserved
loop-reading-preserved c = record {
  sorting = one-refused _ _ _ _ _ _ _ _ c.in-Some.ensures.steps.0 c.in_ok-push-in-Refused.ensures.items
      (c.in-Refused.ensures.verdict ∙ ap (λ l. verdict_of (map candidate_as l) (examination_as c.in-Some.reading)) c.as_slice.ensures.value)
      c.loop-reading.invariant.sorting;
  counted = c.loop-reading.invariant.counted;
  words = c.loop-reading.invariant.words;
  marks = c.loop-reading.invariant.marks;
  wide = c.loop-reading.invariant.wide;
  counts = short-rest HasCount _ _ _ c.in-Some.ensures.steps.0 c.loop-reading.invariant.counts;
}

pub returns-clause-counted : goal.returns-clause-counted
returns-clause-counted c = c.loop-reading.invariant.counted

pub returns-clause-accepted : goal.returns-clause-accepted
returns-clause-accepted c =
    ends-accepted _ _ _ _ (nil_from_length _ (sym c.loop-reading.reading-iterator.rest.ok.0 ∙ c.in-None.ensures.steps.0)) c.loop-reading.invariant.sorting

pub returns-clause-refused : goal.returns-clause-refused
returns-clause-refused c =
    ends-refused _ _ _ _ (nil_from_length _ (sym c.loop-reading.reading-iterator.rest.ok.0 ∙ c.in-None.ensures.steps.0)) c.loop-reading.invariant.sorting
