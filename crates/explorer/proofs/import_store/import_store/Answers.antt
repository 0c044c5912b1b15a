use Rattle.std.proofs.Common.{inl, inr, refl}
use Rattle.explorer.proofs.import_store.import_store.Goals as goal

pub returns-in_default : goal.returns-in_default
returns-in_default g c = λ input.
    inl (rw c.as_bytes.ensures.value at c.in_default.ensures.none, refl, refl)

pub returns : goal.returns
returns g c = λ input.
    let is = rw c.as_bytes.ensures.value at c.in-Some.ensures.some in
    inr (is.1, rw is.0 at (c.import_labelled.ensures input))
