use Rattle.std.proofs.Common.{◌≡◌, ◌+◌, ◌-◌, ◌++◌, length, take, drop, ap, ◌∙◌, arith}
use Rattle.std.proofs.lemmas.List.{length-take-le, length-drop}
use Rattle.segment_blocks.proofs.KeyRoomLemmas.{key-put}
use Rattle.segment_blocks.proofs.key_room.put_behind.Goals as goal

pub copy_from_slice-requires : goal.copy_from_slice-requires
copy_from_slice-requires c =
    let bytes = c.args.bytes.now in
    let s = c.from-shared.result in
    let room : length (drop s bytes) ≡ length bytes - s = length-drop s bytes in
    length-take-le (s + 34 - s) (drop s bytes) (omega (arith, room, c.told-bytes, c.from-shared.ensures, c.args.mark.now.in_key))
    ∙ omega (arith, length-take-le 34 c.args.tails.now (omega (arith, c.if-tails-lt-KEY.false)))

pub returns : goal.returns
returns c =
    let bytes = c.args.bytes.now in
    let tails = c.args.tails.now in
    let s = c.args.mark.now.shared in
    let own = c.copy_from_slice.new.self in
    let own_is : own ≡ take 34 tails = c.copy_from_slice.ensures.after in
    let long : length own ≡ 34 = ap length own_is ∙ length-take-le 34 tails (omega (arith, c.if-tails-lt-KEY.false)) in
    ap (λ k. take 34 (take k bytes ++ (own ++ drop (k + 34 - k) (drop k bytes)))) c.from-shared.ensures
    ∙ key-put bytes s c.args.mark.now.in_key tails own (drop (s + 34 - s) (drop s bytes)) 34 (omega (arith, c.told-bytes)) own_is (omega arith) (omega (arith, long))
