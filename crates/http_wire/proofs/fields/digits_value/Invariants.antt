use Rattle.std.proofs.Common.{◌≡◌, ◌<◌, ◌^◌, drop, true}
use Rattle.std.specs.Str.{all_ascii_digits}
use Rattle.std.specs.Str.Parse.{digits_value_after, digits_value}
use Rattle.http_wire.proofs.fields.digits_value.Given as goal

abbrev pub invariant-loop-byte : goal.invariant-loop-byte
invariant-loop-byte l =
    (all_ascii_digits (drop l.byte-index l.text) ≡ true)
    × (digits_value_after 10 l.number (drop l.byte-index l.text) ≡ digits_value 10 l.text)
    × (l.number < 10 ^ l.byte-index)
