use Rattle.std.proofs.lemmas.Bool.Decides.{Decides-eqb}
use Rattle.explorer_model.proofs.EnPassant.{agree-some, agree-none}
use Rattle.chess_reference.proofs.legal.is_square_equal.Goals as goal

pub returns-in-Some-Some : goal.returns-in-Some-Some
returns-in-Some-Some c =
    agree-some c.args.a c.args.b c.in-Some-Some.a c.in-Some-Some.b _ c.in-Some-Some.is-0 c.in-Some-Some.is-1 (Decides-eqb _ _)

pub returns-in-None-Some : goal.returns-in-None-Some
returns-in-None-Some c = (
  λ no. absurd (let isnt = no in cc),
  λ agree. absurd (agree-none c.args.a c.args.b _ c.in-None-Some.is-0 c.in-None-Some.is-1 agree),
)

pub returns-in-Some-None : goal.returns-in-Some-None
returns-in-Some-None c = (
  λ no. absurd (let isnt = no in cc),
  λ agree. absurd (agree-none c.args.b c.args.a _ c.in-Some-None.is-1 c.in-Some-None.is-0 (λ s. ((agree s).1, (agree s).0))),
)
