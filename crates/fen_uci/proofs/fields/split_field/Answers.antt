use Rattle.fen_uci.proofs.Splitting.{first_field}
use Rattle.fen_uci.proofs.fields.split_field.Goals as goal

pub returns-clause-first : goal.returns-clause-first
returns-clause-first c =
    (first_field c.args.text.now c.trim_spaces.result.now _ _ c.trim_spaces.ensures.same c.trim_spaces.ensures.trimmed c.split_before.ensures.joined c.split_before.ensures.free
    c.split_before.ensures.stops).0

pub returns-clause-rest : goal.returns-clause-rest
returns-clause-rest c =
    (first_field c.args.text.now c.trim_spaces.result.now _ _ c.trim_spaces.ensures.same c.trim_spaces.ensures.trimmed c.split_before.ensures.joined c.split_before.ensures.free
    c.split_before.ensures.stops).1
