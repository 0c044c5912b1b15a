use Rattle.std.proofs.Common.{◌-◌, ◌*◌, length, arith}
use Rattle.std.proofs.lemmas.List.{take-replicate}
use Rattle.spill_blobs.proofs.BytesLemmas.{list-put}
use Rattle.spill_blobs.proofs.row_bytes.put_list.Goals as goal

pub returns-clause-bytes : goal.returns-clause-bytes
returns-clause-bytes c =
    list-put c.args.bytes.now.items c.push.new.self.items c.put_entries.new.bytes.items _ _ c.args.entries.now c.requires c.in_ok-push.ensures.items c.in_ok-put_entries.ensures.bytes
    c.in_ok-extend_from_slice.ensures.items (take-replicate (8 * (4 - length c.args.entries.now)) 32 0 (omega arith))
