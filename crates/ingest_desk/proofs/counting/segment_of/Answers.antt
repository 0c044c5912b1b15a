use Rattle.std.proofs.Common.{◌≡◌, [], map, length, sym, ap, ◌∙◌, arith}
use Rattle.explorer_model.specs.declared.archive.Placed.{Placed}
use Rattle.tally_rows.specs.Tally.{Counted}
use Rattle.ingest_desk.proofs.RecountLemmas.{counted_batch, none_in, none_refused_of, some_in}
use Rattle.ingest_desk.proofs.TallyingLemmas.{counts_none}
use Rattle.ingest_desk.proofs.counting.segment_of.Goals as goal

pub returns-then-not-is_empty : goal.returns-then-not-is_empty
returns-then-not-is_empty c = λ batch storable label tallied journal front sound.
    let refused = c.args.tallying.refused in
    some_in refused.items _ (omega (arith, refused.ok.0))
    (sym c.is_empty.ensures ∙ c.if-not-is_empty.true)
    (none_refused_of c.game_is_determined.ensures journal batch front tallied.texts c.args.tallying tallied.same tallied.is sound)

pub returns-in_default : goal.returns-in_default
returns-in_default c = λ batch storable label tallied journal front sound.
    let refused = c.args.tallying.refused in
    let none = none_in refused.items _ (omega (arith, refused.ok.0)) (sym c.is_empty.ensures ∙ c.if-not-is_empty.false) in
    let empty : map (λ (text : Placed). text.bytes) tallied.texts ≡ [] =
    counts_none tallied.texts c.args.tallying tallied.is none c.in_default.is in
    absurd (omega (arith, storable.texts.0, ap length (sym tallied.same ∙ empty)))

pub returns : goal.returns
returns c = λ batch storable label tallied.
    let refused = c.args.tallying.refused in
    let none = none_in refused.items _ (omega (arith, refused.ok.0)) (sym c.is_empty.ensures ∙ c.if-not-is_empty.false) in
    let tally = c.labelled-counted.result in
    record {
      tally = tally;
      counted = c.batch-batch.ensures.counted;
      batch_is = ap (λ (t : Counted). t.batch) c.labelled-counted.ensures
          ∙ counted_batch tallied.texts c.args.tallying c.in-Some.counted batch c.args.label label tallied.same tallied.is none c.in-Some.is;
      made_of = record { batches = c.in_ok-of.ensures.batches; classes = c.in_ok-of.ensures.classes };
      first = λ below. c.in_ok-of.ensures.first;
    }
