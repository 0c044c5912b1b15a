use Rattle.std.proofs.Common.{◌≡◌, ◌-◌, drop}
use Rattle.explorer_model.specs.Fen.{fields}
use Rattle.fen_uci.proofs.fields.field.Given as goal

abbrev pub invariant-loop-earlier : goal.invariant-loop-earlier
invariant-loop-earlier l = fields l.rest ≡ drop (l._earlier - 1) (fields l.fn.text)
