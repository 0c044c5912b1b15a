use Rattle.std.proofs.Common.{refl, string_bytes}
use Rattle.explorer.specs.Create.{Makes}
use Rattle.explorer.proofs.StoreLemmas.{uses}
use Rattle.explorer.proofs.create.create.Goals as goal

pub returns-in-Ok-write : goal.returns-in-Ok-write
returns-in-Ok-write g c =
    let hands = rw c.as_str.ensures.value at c.in-Ok.ensures.hands in
    let takes = rw c.as_str-in-Ok-make_store.ensures.value at c.close.ensures in
    λ input errors. record {
      made = uses (string_bytes c.args.store) Makes _ _ _ _ _ c.make_store.ensures.sized hands c.in-Ok-make_store.ensures.made takes;
      wrote = c.in-Ok-write.ensures.takes;
      rest = refl;
    }

pub returns : goal.returns
returns g c =
    let hands = rw c.as_str.ensures.value at c.in-Ok.ensures.hands in
    let takes = rw c.as_str-in-Ok-make_store.ensures.value at c.close.ensures in
    λ input errors. record {
      made = uses (string_bytes c.args.store) Makes _ _ _ _ _ c.make_store.ensures.sized hands c.in-Ok-make_store.ensures.made takes;
      wrote = c.in-Err-write.ensures.fails;
      rest = refl;
    }
