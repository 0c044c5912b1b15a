use Rattle.std.proofs.Common.{◌≡◌, ℕ, ◌<◌, true, get_or}
use Rattle.pgn_lex.specs.Bytes.{is_of}
use Rattle.pgn_lex.proofs.bytes.run_len.Given as goal

abbrev pub invariant-loop-at : goal.invariant-loop-at
invariant-loop-at l = (k : ℕ) → k < l.at → is_of l.class (get_or l.bytes k 0) ≡ true
