use Rattle.std.proofs.Common.{[]}
use Rattle.std.proofs.lemmas.List.Elements.{All-from_recursion}
use Rattle.explorer_model.specs.StoreFile.{IsStorable}
use Rattle.manifest.proofs.JournalLemmas.{holds-journal}
use Rattle.manifest.proofs.creating.create.Goals as goal

pub returns-clause-holds_none : goal.returns-clause-holds_none
returns-clause-holds_none g c =
    holds-journal g.D.Disk.disk g.D.Disk.left_since [] c.in_ok-log.log (All-from_recursion IsStorable [] tt)
    c.in_ok-log.ensures.created.is_format c.in_ok-log.ensures.created.holds_none
