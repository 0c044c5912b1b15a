use Rattle.std.proofs.Common.{ℕ, ◌==◌, length, Option, ap, ◌∙◌}
use Rattle.std.specs.Option.{unwrap_or}
use Rattle.explorer_model.specs.Items.{Shape, Blank, remark_of}
use Rattle.pgn_lex.proofs.Runs.{unwrap_or-position}
use Rattle.pgn_lex.proofs.items.remark.Goals as goal

pub returns : goal.returns
unfolding remark_of
returns c = ap (λ (more : ℕ). let shape : Shape = record { kind = Blank; more = more } in shape)
    (c.unwrap_or-more.ensures ∙ ap (λ (found : Option ℕ). unwrap_or found (length c.args.rest.now)) c.find.ensures.place ∙ unwrap_or-position (λ b. b == 10) c.args.rest.now)
