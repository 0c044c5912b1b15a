use Rattle.std.proofs.Common.{length, ap, ◌∙◌}
use Rattle.std.proofs.lemmas.List.{take_at}
use Rattle.segment_blocks.proofs.key_room.widen_key.Goals as goal

pub returns : goal.returns
returns c =
    let key = c.copy_from_slice.new.self in
    take_at key _ 34 (ap length c.copy_from_slice.ensures.after ∙ c.told-key) ∙ c.copy_from_slice.ensures.after
