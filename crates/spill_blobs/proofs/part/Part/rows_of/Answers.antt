use Rattle.std.proofs.Common.{◌≡◌, ℕ, ◌+◌, ◌-◌, ◌*◌, ◌<◌, ◌^◌, length, sym, subst}
use Rattle.spill_blobs.specs.Ends.{ComesTo}
use Rattle.spill_blobs.specs.Index.{Begins}
use Rattle.spill_blobs.specs.Marks.{place_in}
use Rattle.spill_blobs.specs.Parts.{Spilled}
use Rattle.spill_blobs.specs.RowBlocks.{block_size}
use Rattle.spill_blobs.proofs.CostLemmas.{reads-from}
use Rattle.spill_blobs.proofs.part.Part.rows_of.Goals as goal

pub returns-clause-comes : goal.returns-clause-comes
returns-clause-comes g c =
    let s = c.self.inside in
    let passed = c.place_of-passed.result in
    let place : passed ≡ place_in c.args.key.now s.was.value.rows =
    subst (λ (p : Spilled). passed ≡ place_in c.args.key.now p.segment.rows) (sym c.self.view_is) c.place_of-passed.ensures.place in
    rw (← c.self.view_is)
    (subst (λ (n : ℕ). ComesTo c.args.key.now (s.start + block_size * n) (s.count - n) c.walk.result (g.P.Port.port c.args.port.now) (g.P.Port.port c.walk.new.port))
    place c.walk.ensures.comes)

pub returns-clause-begins : goal.returns-clause-begins
returns-clause-begins g c =
    subst (λ (n : ℕ). Begins c.args.key.now c.args.self.now.segment.rows n) c.place_of-passed.ensures.place c.place_of-passed.ensures.begins

pub returns-clause-reads : goal.returns-clause-reads
returns-clause-reads g c =
    let s = c.self.inside in
    let passed = c.place_of-passed.result in
    let place : passed ≡ place_in c.args.key.now s.was.value.rows =
    subst (λ (p : Spilled). passed ≡ place_in c.args.key.now p.segment.rows) (sym c.self.view_is) c.place_of-passed.ensures.place in
    rw (← c.self.view_is)
    (λ digits fits. reads-from c.args.key.now s.start s.count passed (place_in c.args.key.now s.was.value.rows) digits (g.P.Port.port c.args.port.now)
    c.args.steps.now c.place_of-passed.new.steps c.walk.new.steps place
    (c.place_of-passed.ensures.cost digits (subst (λ (p : Spilled). length p.keys < 2 ^ digits) c.self.view_is fits)) c.walk.ensures.reads)
