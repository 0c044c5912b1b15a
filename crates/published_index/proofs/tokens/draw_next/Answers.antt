use Rattle.std.proofs.Common.{rules}
use Rattle.published_index.proofs.PlaceLemmas.{draws}
use Rattle.published_index.proofs.tokens.draw_next.Goals as goal

pub load_as-requires : goal.load_as-requires
load_as-requires g c = (search rules, (search rules, (c.requires.own, draws _ _ c.requires.keeps c.requires.some)))
