use Rattle.std.proofs.Common.{[], rules}
use Rattle.import_run.proofs.SettledLemmas.{settled_none}
use Rattle.import_run.proofs.UnderwayLemmas.{underway_closed}
use Rattle.import_run.proofs.underway.Underway.new.Goals as goal

pub returns-clause-starts : goal.returns-clause-starts
returns-clause-starts g c = λ now start.
    underway_closed now now start (record { import = c.new.result; counted = c.new-2.result; ahead = c.new-ahead.result }) start [] (search rules) (settled_none start c.new.result c.new.ensures.receipts c.new.ensures.refused) (c.new-ahead.ensures.holds now)
