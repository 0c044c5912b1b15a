use Rattle.std.proofs.Common.{◌∙◌, refl, reverse, subst, sym}
use Rattle.std.proofs.lemmas.List.Elements.{All-push}
use Rattle.disk_model.specs.Memory.{FitsIn, IsImage}
use Rattle.disk_model.specs.declared.call.DiskCall.TheVariants.{Synced}
use Rattle.disk_model.proofs.CrashLemmas.{image-left}
use Rattle.disk_model.proofs.MemoryCalls.{pushed, no_more, content-synced, left-synced}
use Rattle.disk_model.proofs.memory.MemDisk.crashed.Goals as goal

pub invariant_of-result : goal.invariant_of-result
invariant_of-result c =
    let is = pushed _ _ _ Synced refl c.push_reserved.ensures.items in
    let was = c.leave.ensures in (
      content-synced _ _ is ∙ was.content,
      was.room.0,
      was.room.1,
      rw c.push_reserved.ensures.items (All-push (FitsIn c.self.inside.room) c.leave.new.calls.items Synced was.fit tt),
      no_more _ _ _ _ is,
    )

pub returns-clause-left : goal.returns-clause-left
returns-clause-left c =
    let is = pushed _ _ _ Synced refl c.push_reserved.ensures.items in
    let was = c.leave.ensures in
    let calls = reverse c.self.inside.calls.items in
    let image = subst (IsImage calls) (sym was.left) (image-left c.args.number calls) in
    rw (← c.self.view_is) (left-synced _ _ _ _ _ is was.content image c.clear.ensures)

pub returns-clause-chosen : goal.returns-clause-chosen
returns-clause-chosen c =
    let is = pushed _ _ _ Synced refl c.push_reserved.ensures.items in
    let was = c.leave.ensures in
    rw (← c.self.view_is) (content-synced _ _ is ∙ was.content ∙ was.left)
