use Rattle.explorer_model.specs.declared.notation.SanForm.TheVariants.{Named, Castling}
use Rattle.san_codec.proofs.Sources.{answers_legal}
use Rattle.san_codec.proofs.board_reader.read_on.Goals as goal

pub returns-in-Castling-clause-legal : goal.returns-in-Castling-clause-legal
returns-in-Castling-clause-legal c = answers_legal c.args.board.now (Castling c.in-Castling.side) c.read_castling.result c.read_castling.ensures

pub returns-in-Named-clause-legal : goal.returns-in-Named-clause-legal
returns-in-Named-clause-legal c = answers_legal c.args.board.now (Named c.in-Named.named) c.read_named.result c.read_named.ensures
