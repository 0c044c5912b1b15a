use Rattle.std.proofs.Common.{refl, ap, ◌∙◌, ◌/◌}
use Rattle.explorer_model.specs.Counting.{total}
use Rattle.row_sums.specs.Listing.{shown_game}
use Rattle.lookup.proofs.lines.line_of.Goals as goal

pub returns : goal.returns
returns g c = record {
  next = refl;
  san = c.in_ok-san_of.ensures;
  average = c.average_of.ensures ∙ ap (λ sum. sum.ratings / total sum.totals) c.requires.sum;
  totals = ap (λ sum. sum.totals) c.requires.sum;
  game = c.in_ok-only_game.ensures
      ∙ ap (λ sum. shown_game (g.G.Games.classes c.args.games.now) c.args.sum.now.next sum.shown) c.requires.sum;
}
