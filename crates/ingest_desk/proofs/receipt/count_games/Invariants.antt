use Rattle.std.proofs.Common.{◌≡◌, take}
use Rattle.ingest_desk.specs.Reporting.{games_of}
use Rattle.ingest_desk.proofs.receipt.count_games.Given as goal

abbrev pub invariant-loop-receipt : goal.invariant-loop-receipt
invariant-loop-receipt g l = l.games ≡ games_of (take l.receipt-index l.receipts)
