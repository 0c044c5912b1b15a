use Rattle.import_tests.proofs.NewIndexes.{covers-none}
use Rattle.import_tests.proofs.tests.doors.serve_two_links.Goals as goal

pub serve_door-end-requires-after_bounds : goal.serve_door-end-requires-after_bounds
serve_door-end-requires-after_bounds g c κs within = covers-none _ _ c.new-players.ensures
