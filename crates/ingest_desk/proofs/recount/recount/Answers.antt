use Rattle.std.proofs.Common.{rules, List, [], ◌∷◌, ◌++◌, length, map, sym, ap, ◌∙◌, subst, arith}
use Rattle.std.proofs.lemmas.List.{length-map, map-append}
use Rattle.std.specs.Arc.{arc_value}
use Rattle.explorer_model.specs.Journal.{game_count}
use Rattle.published_index.specs.Cover.{IsList, journal_of}
use Rattle.ingest_desk.specs.declared.counting.CountedBatch.{CountedBatch}
use Rattle.ingest_desk.specs.Recounts.{AllFrom, IsCountedAt}
use Rattle.ingest_desk.proofs.CountingLemmas.{begins, journal-behind, list-behind, low-behind, next-in, reached, reaches-more, some-alone, stops-there}
use Rattle.ingest_desk.proofs.recount.recount.Goals as goal

pub loop-size-init : goal.loop-size-init
loop-size-init g c =
    begins c.args.journal.items c.new-register.result _ _ (ap (map arc_value) c.new-segments.ensures.items) c.new-register.ensures
    (subst (λ (l : List CountedBatch). AllFrom IsCountedAt 0 c.args.journal.items l) (search rules) c.in_ok-items.ensures)

pub put_in_if_sound-requires-clause-counted : goal.put_in_if_sound-requires-clause-counted
put_in_if_sound-requires-clause-counted g c =
    let l = c.loop-size in
    let is = l.invariant in
    let one = c.in-Some.field-0 in
    let next = next-in c.args.journal.items l.gate l.register _ _ _ one is c.in-Some.ensures.steps.0 in
    some-alone arc_value (length is.so_far.before) next.batch one.segment next.at.segment

pub returns-in_default : goal.returns-in_default
returns-in_default g c =
    let l = c.loop-size in
    let is = l.invariant in
    let one = c.in-Some.field-0 in
    let first = c.in-Some.ensures.steps.0 in
    let next = next-in c.args.journal.items l.gate l.register _ _ _ one is first in
    stops-there c.args.journal.items l.gate l.register _ _ _ one is first
    (rw c.in_default.is at (c.in_ok-segment.ensures is.so_far.before next.batch is.so_far.knows next.at.segment))

pub join_due-requires-clause-list : goal.join_due-requires-clause-list
join_due-requires-clause-list g c = λ κs within.
    let l = c.loop-size in
    let is = l.invariant in
    let one = c.in-Some.field-0 in
    let first = c.in-Some.ensures.steps.0 in
    let next = next-in c.args.journal.items l.gate l.register _ _ _ one is first in
    let segment = c.in-Some-2.segment in
    let more = rw c.in-Some-2.is at (c.in_ok-segment.ensures is.so_far.before next.batch is.so_far.knows next.at.segment) in
    let items = c.push_reserved.ensures.items ∙ ap (λ xs. xs ++ segment ∷ []) c.in_ok-reserve.ensures.items in
    subst IsList (sym (ap (map arc_value) items ∙ map-append arc_value l.segments.items (segment ∷ [])))
    (list-behind c.args.journal.items l.gate l.register _ _ _ one is first c.put_in_if_sound.new.register (arc_value segment) more)

pub join_due-requires-clause-within : goal.join_due-requires-clause-within
join_due-requires-clause-within g c = λ κs within.
    let l = c.loop-size in
    let is = l.invariant in
    let one = c.in-Some.field-0 in
    let first = c.in-Some.ensures.steps.0 in
    let next = next-in c.args.journal.items l.gate l.register _ _ _ one is first in
    let segment = c.in-Some-2.segment in
    let more = rw c.in-Some-2.is at (c.in_ok-segment.ensures is.so_far.before next.batch is.so_far.knows next.at.segment) in
    let items = c.push_reserved.ensures.items ∙ ap (λ xs. xs ++ segment ∷ []) c.in_ok-reserve.ensures.items in
    let all = ap (map arc_value) items ∙ map-append arc_value l.segments.items (segment ∷ []) in
    let whole = ap journal_of all
    ∙ journal-behind c.args.journal.items l.gate l.register _ _ _ one is first c.put_in_if_sound.new.register (arc_value segment) more in
    omega (arith, ap game_count whole, more.knows.sound.within.0)

pub overflow_add-gate : goal.overflow_add-gate
overflow_add-gate g c =
    let l = c.loop-size in
    let low = low-behind c.args.journal.items l.gate l.register _ _ _ c.in-Some.field-0 l.invariant c.in-Some.ensures.steps.0 c.requires.low in
    omega (arith, low)

pub overflow_add-gate-in-loop-size : goal.overflow_add-gate-in-loop-size
overflow_add-gate-in-loop-size g c =
    let l = c.loop-size in
    let low = low-behind c.args.journal.items l.gate l.register _ _ _ c.in-Some.field-0 l.invariant c.in-Some.ensures.steps.0 c.requires.low in
    omega (arith, low)

pub loop-size-preserved : goal.loop-size-preserved
loop-size-preserved g c =
    let l = c.loop-size in
    let is = l.invariant in
    let one = c.in-Some.field-0 in
    let first = c.in-Some.ensures.steps.0 in
    let next = next-in c.args.journal.items l.gate l.register _ _ _ one is first in
    let segment = c.in-Some-2.segment in
    let more = rw c.in-Some-2.is at (c.in_ok-segment.ensures is.so_far.before next.batch is.so_far.knows next.at.segment) in
    let items = c.push_reserved.ensures.items ∙ ap (λ xs. xs ++ segment ∷ []) c.in_ok-reserve.ensures.items in
    let all = ap (map arc_value) items ∙ map-append arc_value l.segments.items (segment ∷ []) in
    let joined = c.in_ok-join_due.ensures in
    reaches-more c.args.journal.items l.gate l.register _ _ _ one is first c.put_in_if_sound.new.register (arc_value segment) more
    (map arc_value c.join_due.new.segments.items) joined.list (joined.journal ∙ ap journal_of all)
    (omega (arith, joined.few, length-map c.join_due.new.segments.items arc_value))

pub returns : goal.returns
returns g c =
    let l = c.loop-size in
    reached c.args.journal.items l.gate _ l.size-iterator.rest.items
    (sym l.size-iterator.rest.ok.0 ∙ c.in-None.ensures.steps.0) l.invariant
