use Rattle.import_tests.proofs.NewIndexes.{covers-none}
use Rattle.import_tests.proofs.tests.players.by_two.Goals as goal

pub replies_so-requires-after_bounds : goal.replies_so-requires-after_bounds
replies_so-requires-after_bounds g c κs within = covers-none _ _ c.new-ones.ensures

pub replies_so-requires-2-after_bounds : goal.replies_so-requires-2-after_bounds
replies_so-requires-2-after_bounds g c κs within = covers-none _ _ c.new-twos.ensures
