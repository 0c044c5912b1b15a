use Rattle.std.specs.Prelude.{◌+◌}
use Rattle.std.proofs.Common.{◌∙◌, ap, arith}
use Rattle.pgn_cut.specs.Text.{TextState}
use Rattle.pgn_cut.proofs.Cutters.{front_then_text, rest_count}
use Rattle.pgn_cut.proofs.cutter.feed_front.Goals as goal

pub returns-in_ok-fed-in-Start : goal.returns-in_ok-fed-in-Start
returns-in_ok-fed-in-Start c =
    let piece = c.args.piece.now in
    let fed = c.in_ok-fed-in-Start.ensures in
    let start = c.in-Start.ensures in
    let text = c.in_ok-text-in-Start.ensures in
    let place = ap (λ (t : TextState). t.place + t.count) text in
    let rest = rest_count piece c.in-Start.taken in record {
      cuts = λ rest. fed.cuts rest ∙ front_then_text c.args.front piece c.in-Start.taken c.in-Start.preamble start c.in_default.is _ text c.in_ok-fed-in-Start.fed.taken rest;
      some = λ _. omega (arith, start.some);
      taken = omega (arith, fed.taken, rest, start.within);
      whole = λ none. omega (arith, fed.whole none, rest, start.within);
      stops = fed.stops;
      came = omega (arith, fed.came, place, start.behind);
      held = fed.small;
    }
