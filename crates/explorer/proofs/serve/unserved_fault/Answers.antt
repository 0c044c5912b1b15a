use Rattle.std.proofs.Common.{string_bytes, refl, sym, ap, ◌∙◌}
use Rattle.explorer.proofs.ServeLemmas.HostCalls.{name_is}
use Rattle.explorer.proofs.serve.unserved_fault.Goals as goal

pub returns-in-NoFile : goal.returns-in-NoFile
returns-in-NoFile c = rw c.in-NoFile.is (
  c.swap_remove.result,
  refl,
  ap string_bytes c.swap_remove.ensures.value
      ∙ sym (name_is string_bytes c.args.order.files.items c.in-NoFile.at c.swap_remove.result (rw c.in-NoFile.is at c.requires)),
)

pub returns-in-NoAddress : goal.returns-in-NoAddress
returns-in-NoAddress c = rw c.in-NoAddress.is (c.args.order.address, refl, refl)
