use Rattle.std.proofs.Common.{refl}
use Rattle.san_codec.proofs.Rivals.{not_false}
use Rattle.san_codec.proofs.writer.piece_start.Goals as goal

pub returns-then-not-has_rival : goal.returns-then-not-has_rival
returns-then-not-has_rival c = λ o rivals. not_false (c.if-not-has_rival.ensures.1 (o, rivals))

pub returns-then-not-has_rival_on_file : goal.returns-then-not-has_rival_on_file
returns-then-not-has_rival_on_file c =
    (c.if-not-has_rival.ensures.0 refl, λ o rivals. not_false (c.if-not-has_rival_on_file.ensures.1 (o, rivals)))

pub returns-then-not-has_rival_on_rank : goal.returns-then-not-has_rival_on_rank
returns-then-not-has_rival_on_rank c =
    (c.if-not-has_rival_on_file.ensures.0 refl, λ o rivals. not_false (c.if-not-has_rival_on_rank.ensures.1 (o, rivals)))

pub returns : goal.returns
returns c = (c.if-not-has_rival_on_file.ensures.0 refl, c.if-not-has_rival_on_rank.ensures.0 refl)
