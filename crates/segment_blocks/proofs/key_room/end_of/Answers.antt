use Rattle.std.proofs.Common.{◌≡◌, ◌+◌, ◌-◌, take, drop, sym, subst, arith}
use Rattle.std.proofs.lemmas.List.{length-take-le}
use Rattle.segment_blocks.proofs.KeyRoomLemmas.{end-of_key}
use Rattle.segment_blocks.proofs.key_room.end_of.Goals as goal

pub returns-clause-end : goal.returns-clause-end
returns-clause-end c =
    let bytes = c.args.bytes.now in
    let from = c.args.from in
    subst (λ k. take (34 - from) (take (k + 34 - k) (drop k bytes)) ≡ drop from (take 34 bytes)) (sym c.from-from.ensures)
    (end-of_key bytes from c.requires (from + 34 - from) (omega arith))

pub returns-clause-long : goal.returns-clause-long
returns-clause-long c = length-take-le 34 c.args.bytes.now (omega (arith, c.told-bytes))
