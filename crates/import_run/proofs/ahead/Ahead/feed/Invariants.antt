use Rattle.std.proofs.Common.{◌≡◌, ◌+◌, ◌-◌, ◌≤◌, ◌++◌, ℕ, List, take, length}
use Rattle.std.specs.List.{All}
use Rattle.explorer_model.specs.Cuts.{Cut}
use Rattle.pgn_cut.specs.Cutter.{came, cuts_of_rest}
use Rattle.import_run.specs.Ahead.{CanTake, CutAhead, IsUnder}
use Rattle.import_run.proofs.ahead.Ahead.feed.Given as goal

abbrev pub invariant-feeding : goal.invariant-feeding
invariant-feeding l = record {
  within : l.at ≤ length l.bytes;
  so_far : came l.self.cutter ≡ came l.fn.self.cutter + l.at;
  ready : CanTake l.self.group;
  label : l.self.group.label ≡ l.fn.self.group.label;
  under : All (IsUnder l.fn.self.group.label) l.fn.self.whole.items → All (IsUnder l.fn.self.group.label) l.self.whole.items;
  cut : (given : List (List Cut)) (past : List ℕ) → CutAhead given past (cuts_of_rest l.fn.self.cutter) l.fn.self.whole.items l.fn.self.group
      → CutAhead given (past ++ take l.at l.bytes) (cuts_of_rest l.self.cutter) l.self.whole.items l.self.group;
  few : length l.self.whole.items ≤ length l.fn.self.whole.items + l.at;
  taken : l.self.taken ≡ l.fn.self.taken;
  end : l.self.end ≡ l.fn.self.end;
}

abbrev pub decreases-feeding : goal.decreases-feeding
decreases-feeding l = length l.bytes - l.at
