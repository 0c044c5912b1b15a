use Rattle.std.proofs.Common.{◌≡◌, ◌≤◌, ℕ, List, length, map, take, Bor}
use Rattle.httparse.specs.Spans.{header_bytes}
use Rattle.http_wire.specs.Fields.{values_in}
use Rattle.http_wire.proofs.fields.values.Given as goal

abbrev pub invariant-loop-field : goal.invariant-loop-field
invariant-loop-field l = record {
  few : length l.values.items ≤ l.field-index;
  values : map (λ (value : Bor (List ℕ)). value.now) l.values.items
      ≡ values_in l.name (map (header_bytes l.text) (take l.field-index l.fields));
}
