use Rattle.std.proofs.Common.{refl, sym, rules}
use Rattle.std.specs.Fork.{GivesJob}
use Rattle.side_by_side.proofs.SlotLemmas.{one-given}
use Rattle.side_by_side.proofs.each.take_each.Goals as goal

pub f-requires : goal.f-requires
f-requires g c =
    let waiting = c.in-Some.waiting in
    c.requires waiting.number waiting.job waiting.is_job.0 (sym (waiting.is_job.1 waiting.job))

pub loop-preserved : goal.loop-preserved
loop-preserved g c =
    let waiting = c.in-Some.waiting in
    one-given (λ k one. GivesJob g.F.Fn c.args.f.now g.B.Given.jobs one.0 one.1) c.loop.taken.items c.push.new.self.items (waiting.number, c.f.result) _
    c.in_ok-push-in-Some.ensures.items refl
    (record { job = waiting.job; job_read = sym (waiting.is_job.1 waiting.job); job_is = waiting.is_job.1; call = search rules })
    c.loop.invariant
