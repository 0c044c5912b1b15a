-- An index of no game covers a front of each journal.
use Rattle.std.proofs.Common.{◌≡◌, List, [], refl, sym, subst}
use Rattle.explorer_model.specs.declared.archive.Batch.{Batch}
use Rattle.explorer_model.specs.Timeline.{IsPrefix}

pub covers-none : (batches seen : List Batch) → batches ≡ [] → IsPrefix batches seen
covers-none batches seen none =
    let front : IsPrefix [] seen = record { rest = seen; is = refl } in
    subst (λ (front : List Batch). IsPrefix front seen) (sym none) front
