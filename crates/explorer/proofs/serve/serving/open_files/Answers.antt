use Rattle.std.proofs.Common.{rules, ◌++◌, ◌∷◌, [], None, List, ℕ, map, take, string_bytes, sym, ap, subst, ◌∙◌, arith}
use Rattle.std.proofs.lemmas.Grind.{common_steps}
use Rattle.host.specs.Hosts.{HandsFile}
use Rattle.explorer.specs.Serve.Workers.{FilesOut}
use Rattle.explorer.specs.declared.serve.workers.FileWork.{FileWork}
use Rattle.explorer.specs.declared.serve.workers.Worker.{Worker}
use Rattle.explorer.specs.declared.serve.workers.Worker.TheVariants.{File}
use Rattle.explorer.proofs.ServeLemmas.Handed.{files-out-more, files-refused, take-one-more}
use Rattle.explorer.proofs.serve.serving.open_files.Goals as goal

pub returns-in-Err-clause-refused : goal.returns-in-Err-clause-refused
returns-in-Err-clause-refused g c = λ is.
    files-refused string_bytes g.H.File.Source.source c.args.names.now c.loop-name.name-index c.name-item.result c.as_str.result.now
    c.loop-name.list.items (g.H.Host.host c.args.host.now) (g.H.Host.host c.loop-name.host) (g.H.Host.host c.file.new.self)
    (search rules) (omega (arith, c.loop-name.invariant.count, c.loop-name.list.ok.0)) (c.as_str.ensures.value ∙ ap string_bytes c.name-item.is) c.loop-name.invariant.out c.in-Err.ensures.refuses

pub loop-name-preserved : goal.loop-name-preserved
loop-name-preserved g c =
    let names = map string_bytes c.args.names.now in
    let name = c.as_str.ensures.value ∙ ap string_bytes c.name-item.is in
    let file : FileWork g.row.H-File.Denot g.row.J.Denot = record { source = c.in-Ok.source; drawer = c.lend.result; report = None } in
    let workers : List (Worker g.row.H-File.Denot g.row.H-Door.Denot g.row.J.Denot) = c.loop-name.list.items ++ File file ∷ [] in
    let old = g.H.Host.host c.args.host.now in
    let new = g.H.Host.host c.file.new.self in
    let out = files-out-more g.H.File.Source.source (take c.loop-name.name-index names) _ c.loop-name.list.items file
    old (g.H.Host.host c.loop-name.host) new c.loop-name.invariant.out
    (subst (λ (n : List ℕ). HandsFile n (g.H.File.Source.source c.in-Ok.source) (g.H.Host.host c.loop-name.host) new) name c.in-Ok.ensures.hands) c.lend.ensures.drawer in
    let next = subst (λ (front : List (List ℕ)). FilesOut g.H.File.Source.source front workers old new)
    (sym (take-one-more string_bytes c.args.names.now c.loop-name.name-index c.name-item.result (search rules))) out in
    record {
      count = grind (arith, common_steps);
      room = grind (arith, common_steps);
      lent = record {
        parts = omega (arith, c.lend.ensures.left, c.loop-name.invariant.lent.parts);
        drawn = c.lend.ensures.drawn ∙ c.loop-name.invariant.lent.drawn;
      };
      same = c.lend.ensures.same ∙ c.loop-name.invariant.same;
      out = rw c.push_reserved.ensures.items next;
    }

pub lend-requires : goal.lend-requires
lend-requires g c =
    omega (arith, c.requires.parts, c.loop-name.invariant.lent.parts, c.loop-name-test.true)
