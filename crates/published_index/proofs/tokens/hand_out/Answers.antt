use Rattle.std.proofs.Common.{rules}
use Rattle.published_index.proofs.PlaceLemmas.{backs}
use Rattle.published_index.proofs.tokens.hand_out.Goals as goal

pub split_pass-handed-requires : goal.split_pass-handed-requires
split_pass-handed-requires c = (search rules, (search rules, (c.requires.own, backs _ _ c.requires.some)))
