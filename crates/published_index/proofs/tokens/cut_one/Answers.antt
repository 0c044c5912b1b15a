use Rattle.std.proofs.Common.{rules}
use Rattle.published_index.proofs.PlaceLemmas.{ones}
use Rattle.published_index.proofs.tokens.cut_one.Goals as goal

pub split_pass-cut-requires : goal.split_pass-cut-requires
split_pass-cut-requires c = (search rules, (search rules, (c.requires.own, ones _ _ c.requires.drawer c.requires.some)))
