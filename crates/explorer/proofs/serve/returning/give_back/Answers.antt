use Rattle.std.proofs.Common.{rules, ◌≡◌, ◌+◌, ◌∷◌, ◌++◌, [], List, None, map, string_bytes, length, refl, sym, ap, subst, ◌∙◌, arith}
use Rattle.host.specs.Hosts.{HostCall}
use Rattle.ingest_desk.specs.Stored.{Stored, journal}
use Rattle.explorer.specs.declared.serve.workers.Worker.{Worker}
use Rattle.explorer.specs.Serve.Workers.{AreNamed, CanReturn, GivenBack, HasTaken, IsTold, call_of, calls_of, drawings_in, name_at}
use Rattle.explorer.proofs.ServeLemmas.Drawers.{took-last, took-none}
use Rattle.explorer.proofs.ServeLemmas.WorkerLists.{calls-last, can-front, can-last, given-last, known-all, known-more, known-none, named-front, named-last}
use Rattle.explorer.proofs.serve.returning.give_back.Goals as goal
use Rattle.explorer.proofs.serve.returning.give_back.Goals.{After-len, In_default}
use Rattle.explorer.proofs.serve.returning.give_back.Given.{Over}

-- the worker that was taken off stood behind the others
place : (g : Over) (c : After-len g) → c.len.result ≡ 0 + length c.pop.new.self.items
place g c = omega (arith, c.len.ensures, c.pop.new.self.ok.0)

-- the calls for the list are those for the others, and those for the worker behind
calls : (g : Over) (c : After-len g)
    → calls_of g.H.File.Source.source g.H.Door.Door.door (map string_bytes c.args.names.now) 0 c.loop-worker.list.items
    ≡ calls_of g.H.File.Source.source g.H.Door.Door.door (map string_bytes c.args.names.now) 0 c.pop.new.self.items
    ++ call_of g.H.File.Source.source g.H.Door.Door.door (name_at (map string_bytes c.args.names.now) c.len.result) c.in-Some.worker
calls g c =
    ap (λ (ws : List (Worker g.row.H-File.Denot g.row.H-Door.Denot g.row.J.Denot)). calls_of g.H.File.Source.source g.H.Door.Door.door (map string_bytes c.args.names.now) 0 ws) c.in-Some.ensures.items
    ∙ calls-last g.H.File.Source.source g.H.Door.Door.door (map string_bytes c.args.names.now) 0 c.len.result c.pop.new.self.items c.in-Some.worker (place g c)

out-all : (g : Over) (c : After-len g) → CanReturn
    (calls_of g.H.File.Source.source g.H.Door.Door.door (map string_bytes c.args.names.now) 0 c.pop.new.self.items
    ++ call_of g.H.File.Source.source g.H.Door.Door.door (name_at (map string_bytes c.args.names.now) c.len.result) c.in-Some.worker)
    (g.H.Host.host c.loop-worker.host)
out-all g c = subst (λ (cs : List HostCall). CanReturn cs (g.H.Host.host c.loop-worker.host)) (calls g c) c.loop-worker.invariant.out

named-all : (g : Over) (c : After-len g) → AreNamed (map string_bytes c.args.names.now) 0 (c.pop.new.self.items ++ c.in-Some.worker ∷ [])
named-all g c =
    subst (λ (ws : List (Worker g.row.H-File.Denot g.row.H-Door.Denot g.row.J.Denot)). AreNamed (map string_bytes c.args.names.now) 0 ws) c.in-Some.ensures.items
    c.loop-worker.invariant.named

-- no worker is left at the end
left-none : (g : Over) (c : In_default g) → c.loop-worker.list.items ≡ []
left-none g c = search rules

pub loop-worker-init : goal.loop-worker-init
loop-worker-init g c = record {
  named = c.requires.named;
  out = c.requires.out;
  same = refl;
  drawn = λ end taken. taken;
  back = λ end given. given;
  known = known-none c.args.list.items None (journal c.args.cabinet.now.ingest);
}

pub take_back-last-requires-clause-named : goal.take_back-last-requires-clause-named
take_back-last-requires-clause-named g c κs within =
    let at = (goal.at.take_back-last-requires-clause-named g c).After-len in
    named-last (map string_bytes c.args.names.now) 0 c.len.result c.pop.new.self.items c.in-Some.worker (place g at) (named-all g at)

pub take_back-last-requires-clause-out : goal.take_back-last-requires-clause-out
take_back-last-requires-clause-out g c κs within =
    let at = (goal.at.take_back-last-requires-clause-out g c).After-len in
    can-last (calls_of g.H.File.Source.source g.H.Door.Door.door (map string_bytes c.args.names.now) 0 c.pop.new.self.items) _
    (g.H.Host.host c.loop-worker.host) (out-all g at)

pub loop-worker-preserved : goal.loop-worker-preserved
loop-worker-preserved g c =
    let at = (goal.at.loop-worker-preserved g c).After-len in
    let source = g.H.File.Source.source in
    let door = g.H.Door.Door.door in
    let names = map string_bytes c.args.names.now in
    let rest = c.pop.new.self.items in
    record {
      named = named-front names 0 rest c.in-Some.worker (named-all g at);
      out = can-front source door (calls_of source door names 0 rest) (name_at names c.len.result) c.in-Some.worker
          (g.H.Host.host c.loop-worker.host) (g.H.Host.host c.take_back-last.new.host) (out-all g at) c.take_back-last.ensures.back;
      same = c.take_back-last.ensures.same ∙ c.loop-worker.invariant.same;
      drawn = λ end taken. c.loop-worker.invariant.drawn end
          (took-last c.loop-worker.list.items rest c.in-Some.worker c.loop-worker.cabinet.drawer c.take_back-last.new.cabinet.drawer end
          c.in-Some.ensures.items c.take_back-last.ensures.drawn taken);
      back = λ end given. c.loop-worker.invariant.back end
          (subst (λ (ws : List (Worker g.row.H-File.Denot g.row.H-Door.Denot g.row.J.Denot)). GivenBack source door names 0 ws (g.H.Host.host c.loop-worker.host) end) (sym c.in-Some.ensures.items)
          (given-last source door names 0 c.len.result rest c.in-Some.worker (g.H.Host.host c.loop-worker.host)
          (g.H.Host.host c.take_back-last.new.host) end (place g at) c.take_back-last.ensures.back given));
      known = known-more c.args.list.items c.loop-worker.list.items rest c.in-Some.worker c.loop-worker.last c.take_back-last.result
          (journal c.args.cabinet.now.ingest) c.in-Some.ensures.items c.take_back-last.ensures.kept c.take_back-last.ensures.found
          (λ heard. subst (λ (i : Stored g.row.H-Disk.Denot). IsTold (journal i) c.in-Some.worker) c.loop-worker.invariant.same
          (c.take_back-last.ensures.told heard))
          c.loop-worker.invariant.known;
    }

pub returns-clause-drawn : goal.returns-clause-drawn
returns-clause-drawn g c =
    let none = left-none g (goal.at.returns-clause-drawn g c).In_default in
    let drawer = c.loop-worker.cabinet.drawer in
    c.loop-worker.invariant.drawn drawer
    (subst (λ (ws : List (Worker g.row.H-File.Denot g.row.H-Door.Denot g.row.J.Denot)). HasTaken (drawings_in ws) drawer drawer) (sym none)
    (took-none drawer))

pub returns-clause-told : goal.returns-clause-told
returns-clause-told g c =
    known-all c.args.list.items c.loop-worker.list.items c.loop-worker.last (journal c.args.cabinet.now.ingest)
    (left-none g (goal.at.returns-clause-told g c).In_default) c.loop-worker.invariant.known
