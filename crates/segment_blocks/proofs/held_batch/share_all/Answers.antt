use Rattle.std.proofs.Common.{◌≡◌, ◌+◌, [], ◌∷◌, ◌++◌, take, length, refl, sym, ap, subst, ◌∙◌, append_assoc, arith}
use Rattle.std.proofs.lemmas.Option.{slice_get_read}
use Rattle.std.proofs.lemmas.List.{take_more, map-append, length-append}
use Rattle.std.proofs.lemmas.List.Concat.{flat_map-append}
use Rattle.explorer_model.specs.declared.archive.Batch.{Batch}
use Rattle.segment_blocks.specs.HeldBatches.{batch_of, classes_of, all_batches, all_classes, StandFrom}
use Rattle.segment_blocks.proofs.HeldLemmas.{games_before-within, stand-at, stand-push}
use Rattle.segment_blocks.proofs.held_batch.share_all.Goals as goal

pub share-requires : goal.share-requires
share-requires c =
    let more = c.args.more.now in
    let i = c.loop-held.held-index in
    let h = c.held-item.result in
    let here = slice_get_read more (length more) i h refl c.loop-held-test.true c.held-item.is in
    omega (arith, (stand-at 0 more i h c.requires.more_stand here).start, games_before-within more i, c.requires.fit)

pub loop-held-preserved : goal.loop-held-preserved
loop-held-preserved c =
    let more = c.args.more.now in
    let i = c.loop-held.held-index in
    let h = c.held-item.result in
    let here = slice_get_read more (length more) i h refl c.loop-held-test.true c.held-item.is in
    let there = stand-at 0 more i h c.requires.more_stand here in
    let first = c.args.batches.now.items in
    let old = c.loop-held.batches.items in
    let new = c.in_ok-share.field-0 in
    let told = c.in_ok-share.ensures in
    let items : c.push.new.self.items ≡ old ++ new ∷ [] = c.in_ok-push.ensures.items in
    let taken : take (i + 1) more ≡ take i more ++ h ∷ [] =
    take_more more i h c.loop-held-test.true ∙ ap (λ r. take i more ++ r ∷ []) (sym c.held-item.is) in
    record {
      within = omega (arith, c.loop-held-test.true);
      batches = ap all_batches items ∙ map-append batch_of old (new ∷ [])
          ∙ (λ j. c.loop-held.invariant.batches j ++ told.batch j ∷ [])
          ∙ append_assoc (all_batches first) (all_batches (take i more)) (batch_of h ∷ [])
          ∙ ap (λ l. all_batches first ++ l) (sym (map-append batch_of (take i more) (h ∷ [])) ∙ ap all_batches (sym taken));
      classes = ap all_classes items ∙ flat_map-append classes_of old (new ∷ [])
          ∙ (λ j. c.loop-held.invariant.classes j ++ (told.classes j ++ []))
          ∙ append_assoc (all_classes first) (all_classes (take i more)) (classes_of h ++ [])
          ∙ ap (λ l. all_classes first ++ l) (sym (flat_map-append classes_of (take i more) (h ∷ [])) ∙ ap all_classes (sym taken));
      stand = subst (StandFrom 0) (sym items)
          (stand-push 0 old new c.loop-held.invariant.stand
          (record {
            start = omega (
              arith,
              told.start,
              there.start,
              c.requires.behind,
              ap length c.loop-held.invariant.classes,
              length-append (all_classes first) (all_classes (take i more)),
            );
            aligned = ap (λ (b : Batch). length b.texts) told.batch ∙ there.aligned ∙ sym (ap length told.classes);
          }));
    }
