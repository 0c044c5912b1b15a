use Rattle.std.proofs.Common.{◌≡◌, ◌∙◌, List, reverse, ap, refl, sym}
use Rattle.std.proofs.lemmas.List.Elements.{All-push}
use Rattle.disk_model.specs.Memory.{is_synced, FitsIn}
use Rattle.disk_model.specs.declared.call.DiskCall.{DiskCall}
use Rattle.disk_model.specs.declared.call.DiskCall.TheVariants.{Synced}
use Rattle.disk_model.proofs.MemoryCalls.{pushed, no_more, content-synced, stays-synced, elapses-synced, durable-synced, durable-already}
use Rattle.disk_model.proofs.memory.MemDiskDisk.sync.Goals as goal

pub invariant_of-self-then-not-ends_in_sync : goal.invariant_of-self-then-not-ends_in_sync
invariant_of-self-then-not-ends_in_sync c =
    let is = pushed c.self.inside.calls.items _ _ Synced refl c.push_reserved.ensures.items in
    let was = c.self.invariant in (
      content-synced _ _ is ∙ was.0,
      was.1,
      was.2,
      rw c.push_reserved.ensures.items (All-push (FitsIn c.self.inside.room) c.self.inside.calls.items Synced was.3 tt),
      no_more _ _ _ _ is,
    )

pub returns-then-not-ends_in_sync-clause-done : goal.returns-then-not-ends_in_sync-clause-done
returns-then-not-ends_in_sync-clause-done c =
    let is = pushed c.self.inside.calls.items _ _ Synced refl c.push_reserved.ensures.items in
    rw (← c.self.view_is) (stays-synced _ _ _ is)

pub returns-then-not-ends_in_sync-clause-durable : goal.returns-then-not-ends_in_sync-clause-durable
returns-then-not-ends_in_sync-clause-durable c =
    let is = pushed c.self.inside.calls.items _ _ Synced refl c.push_reserved.ensures.items in
    durable-synced _ _ is

pub returns-then-not-ends_in_sync-clause-crash : goal.returns-then-not-ends_in_sync-clause-crash
returns-then-not-ends_in_sync-clause-crash c =
    let is = pushed c.self.inside.calls.items _ _ Synced refl c.push_reserved.ensures.items in
    rw (← c.self.view_is) (elapses-synced _ _ is)

pub returns-else-not-ends_in_sync-clause-durable : goal.returns-else-not-ends_in_sync-clause-durable
returns-else-not-ends_in_sync-clause-durable c =
    let calls : is_synced (reverse c.self.inside.calls.items) ≡ is_synced (reverse c.deref.result.now) =
    ap (λ (l : List DiskCall). is_synced (reverse l)) (sym c.deref.ensures.value) in
    durable-already _ (calls ∙ sym c.if-not-ends_in_sync.ensures)
