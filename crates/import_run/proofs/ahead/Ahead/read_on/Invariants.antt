use Rattle.std.proofs.Common.{◌≡◌, ◌+◌, ◌≤◌, ◌<◌, ◌⊎◌, List, [], None, false, length}
use Rattle.outside.specs.Stream.{Stream}
use Rattle.explorer_model.specs.Cuts.{Cut}
use Rattle.explorer_model.specs.Journal.{input_limit}
use Rattle.import_run.specs.Ahead.{CanGoOn, HoldsAhead, left_of}
use Rattle.import_run.proofs.ahead.Ahead.read_on.Given as goal

abbrev pub invariant-reading : goal.invariant-reading
invariant-reading g l = record {
  ready : CanGoOn l.fn.self.group.label l.self;
  holds : (before : Stream) (given : List (List Cut)) → HoldsAhead before (g.S.Source.source l.fn.source) given l.fn.self → HoldsAhead before (g.S.Source.source l.source) given l.self;
  less : l.counting ≡ false → l.fn.self.whole.items ≡ [] → l.fn.self.end ≡ None → l.fn.self.taken + 1 < input_limit
      → (l.self ≡ l.fn.self) ⊎ (left_of l.self < left_of l.fn.self);
  few : length l.self.whole.items + left_of l.self ≤ length l.fn.self.whole.items + left_of l.fn.self;
}

abbrev pub decreases-reading : goal.decreases-reading
decreases-reading g l = left_of l.self
