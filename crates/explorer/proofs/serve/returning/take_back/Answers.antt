use Rattle.std.proofs.Common.{◌≡◌, List, ℕ, sym, ap, subst, ◌∙◌, map, string_bytes}
use Rattle.host.specs.Hosts.{AFile, IsOut, TakesFile}
use Rattle.explorer.specs.Serve.Workers.{name_at}
use Rattle.explorer.proofs.ServeLemmas.Drawers.{took-none, took-one}
use Rattle.explorer.proofs.ServeLemmas.HostCalls.{door_is_out, file_is_out, name_is}
use Rattle.explorer.proofs.serve.returning.take_back.Goals as goal
use Rattle.explorer.proofs.serve.returning.take_back.Goals.{After-as_str}
use Rattle.explorer.proofs.serve.returning.take_back.Given.{Over}

-- the name that the file is given back under stands at the place
named : (g : Over) (c : After-as_str g) → name_at (map string_bytes c.args.names.now) c.args.at ≡ c.as_str.result.now
named g c =
    name_is string_bytes c.args.names.now c.args.at c.index-names-at.result (rw c.in-File.is at c.requires.named).0
    ∙ sym (c.as_str.ensures.value ∙ ap string_bytes c.index-names-at.is)

pub close_file-requires : goal.close_file-requires
close_file-requires g c =
    subst (λ (n : List ℕ). IsOut (AFile n) (g.H.Host.host c.args.host.now))
    (named g (goal.at.close_file-requires g c).After-as_str)
    (file_is_out _ _ (g.H.Host.host c.args.host.now) (rw c.in-File.is at c.requires.out))

pub returns-in-File-clause-back : goal.returns-in-File-clause-back
returns-in-File-clause-back g c = rw c.in-File.is
    (subst (λ (n : List ℕ). TakesFile n (g.H.File.Source.source c.in-File.file.source) (g.H.Host.host c.args.host.now) (g.H.Host.host c.close_file.new.self))
    (sym (named g (goal.at.returns-in-File-clause-back g c).After-as_str)) c.close_file.ensures)

pub close_door-requires : goal.close_door-requires
close_door-requires g c = door_is_out _ (g.H.Host.host c.args.host.now) (rw c.in-Reader.is at c.requires.out)

pub returns-in-File-clause-drawn : goal.returns-in-File-clause-drawn
returns-in-File-clause-drawn g c = rw c.in-File.is
    (took-one c.in-File.file.drawer c.args.cabinet.now.drawer c.take.new.self.drawer c.take.ensures.drawer)

pub returns-in-Merger-clause-drawn : goal.returns-in-Merger-clause-drawn
returns-in-Merger-clause-drawn g c = rw c.in-Merger.is (took-none c.args.cabinet.now.drawer)
