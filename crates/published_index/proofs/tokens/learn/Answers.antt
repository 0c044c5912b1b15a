use Rattle.std.proofs.Common.{rules, arith}
use Rattle.published_index.proofs.PlaceLemmas.{learns}
use Rattle.published_index.proofs.tokens.learn.Goals as goal

pub load_as-requires : goal.load_as-requires
load_as-requires g c = (search rules, (search rules, (c.requires.own, learns _ _ c.requires.keeps (omega (arith, c.requires.whole)))))
