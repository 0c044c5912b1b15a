use Rattle.std.proofs.Common.{◌≡◌, ◌-◌, ◌++◌, length, take, drop, ap, ◌∙◌, arith}
use Rattle.std.proofs.lemmas.List.{length-take-le}
use Rattle.segment_blocks.proofs.KeyRoomLemmas.{key-put}
use Rattle.segment_blocks.proofs.key_room.put_last.Goals as goal

pub returns : goal.returns
returns c =
    let bytes = c.args.bytes.now in
    let tails = c.args.tails.now in
    let s = c.args.mark.now.shared in
    let own = c.copy_from_slice.new.self in
    let own_is : own ≡ take (34 - s) tails = c.copy_from_slice.ensures.after ∙ ap (λ k. take (34 - k) tails) c.from-shared.ensures in
    let long : length own ≡ 34 - s = ap length own_is ∙ length-take-le (34 - s) tails c.requires in
    ap (λ k. take 34 (take k bytes ++ (own ++ drop (34 - k) (drop k bytes)))) c.from-shared.ensures
    ∙ key-put bytes s c.args.mark.now.in_key tails own (drop (34 - s) (drop s bytes)) (34 - s) (omega (arith, c.told-bytes)) own_is (omega arith) (omega (arith, long))
