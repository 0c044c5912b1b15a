use Rattle.std.proofs.Common.{sym, ◌∙◌, true≢false}
use Rattle.spill_blobs.proofs.SoundLemmas.{legal-moves, recents-below, sound-by, tops-below}
use Rattle.spill_blobs.proofs.sound_rows.are_sound.Goals as goal
use Rattle.spill_blobs.proofs.sound_rows.are_sound.Goals.{then-not-are_in_order-via-then-not-are_in_order, then-not-are_in_order-via-else-not-are_in_order+then-not-is_each_sound}

pub returns-then-not-are_in_order : goal.returns-then-not-are_in_order
returns-then-not-are_in_order c = (
  λ h. absurd (true≢false (sym h)),
  λ sound. absurd (elim c.then-not-are_in_order.branch [
    | then-not-are_in_order-via-then-not-are_in_order w ↦ true≢false (sym (c.are_in_order.ensures.1 sound.ordered) ∙ w.if-not-are_in_order.true)
    | then-not-are_in_order-via-else-not-are_in_order+then-not-is_each_sound w ↦
        true≢false (sym ((w.is_each_sound.ensures c.args.at.now
        (legal-moves c.of_valid-board.result c.args.at.now w.legal.result.items w.as_slice.result.now c.of_valid-board.ensures w.as_slice.ensures.value w.legal.ensures.each)
        c.requires.keyed).1 sound.each) ∙ w.if-not-is_each_sound.true)
  ]),
)

pub are_tops_different-requires : goal.are_tops_different-requires
are_tops_different-requires c =
    let legal = legal-moves c.of_valid-board.result c.args.at.now c.legal.result.items c.as_slice.result.now c.of_valid-board.ensures c.as_slice.ensures.value
    c.legal.ensures.each in
    tops-below c.args.at.now c.args.n c.args.rows.now ((c.is_each_sound.ensures c.args.at.now legal c.requires.keyed).0 c.if-not-is_each_sound.false)

pub are_recents_different-requires : goal.are_recents_different-requires
are_recents_different-requires c =
    let legal = legal-moves c.of_valid-board.result c.args.at.now c.legal.result.items c.as_slice.result.now c.of_valid-board.ensures c.as_slice.ensures.value
    c.legal.ensures.each in
    recents-below c.args.at.now c.args.n c.args.rows.now ((c.is_each_sound.ensures c.args.at.now legal c.requires.keyed).0 c.if-not-is_each_sound.false)

pub returns : goal.returns
returns c =
    let legal = legal-moves c.of_valid-board.result c.args.at.now c.legal.result.items c.as_slice.result.now c.of_valid-board.ensures c.as_slice.ensures.value
    c.legal.ensures.each in
    sound-by c.args.at.now c.args.n c.args.rows.now c.are_recents_different.result (c.are_in_order.ensures.0 c.if-not-are_in_order.false)
    ((c.is_each_sound.ensures c.args.at.now legal c.requires.keyed).0 c.if-not-is_each_sound.false) (c.are_at_most.ensures.0 c.if-not-are_at_most.false)
    (c.in_ok-are_tops_different.ensures.0 c.if-not-branch.false) c.are_recents_different.ensures
