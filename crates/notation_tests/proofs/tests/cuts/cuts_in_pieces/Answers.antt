use Rattle.std.specs.Prelude.{◌≡◌, ℕ, ◌+◌, [], ◌∷◌, ◌++◌, Option, drop, map}
use Rattle.std.proofs.Common.{◌∙◌, ap, subst}
use Rattle.explorer_model.specs.Cuts.{cuts}
use Rattle.pgn_cut.specs.Cut.{meaning, cuts_in}
use Rattle.pgn_cut.specs.Cutter.{cuts_of_rest}
use Rattle.pgn_cut.specs.declared.cut.Cut.{Cut}
use Rattle.pgn_cut.proofs.Cutters.{one_cut_more, fed_on, taken_within}
use Rattle.notation_tests.proofs.tests.cuts.cuts_in_pieces.Goals as goal

pub loop-at-preserved-in-Continue-branch-2 : goal.loop-at-preserved-in-Continue-branch-2
loop-at-preserved-in-Continue-branch-2 c =
    let fed = c.in_ok-fed.ensures in
    let stream = c.args.stream.now in
    let found = c.loop-at.found.items in
    let more = cuts_of_rest c.feed.new.self (drop (c.loop-at.at + c.in_ok-fed.fed.taken) stream) in
    let all = fed_on (map meaning found) c.in_ok-fed.fed.cut c.feed.new.self c.loop-at.cutter stream c.loop-at.at _ c.in_ok-fed.fed.taken (cuts stream)
    fed.cuts fed.taken c.loop-at.invariant.2 in (
      taken_within stream c.loop-at.at _ c.in_ok-fed.fed.taken c.loop-at.invariant.0 fed.taken,
      fed.came ∙ ap (λ (x : ℕ). x + c.in_ok-fed.fed.taken) c.loop-at.invariant.1,
      rw (c.in_ok-push.ensures.items ∙ ap (λ (x : Cut). found ++ x ∷ []) c.in-Some.cut-is)
          (one_cut_more found c.in-Some.cut more (cuts stream) (subst (λ (o : Option Cut). map meaning found ++ (cuts_in o ++ more) ≡ cuts stream) c.in-Some.is all)),
    )

pub loop-at-preserved : goal.loop-at-preserved
loop-at-preserved c =
    let fed = c.in_ok-fed.ensures in
    let stream = c.args.stream.now in
    let found = c.loop-at.found.items in
    let more = cuts_of_rest c.feed.new.self (drop (c.loop-at.at + c.in_ok-fed.fed.taken) stream) in
    let all = fed_on (map meaning found) c.in_ok-fed.fed.cut c.feed.new.self c.loop-at.cutter stream c.loop-at.at _ c.in_ok-fed.fed.taken (cuts stream)
    fed.cuts fed.taken c.loop-at.invariant.2 in (
      taken_within stream c.loop-at.at _ c.in_ok-fed.fed.taken c.loop-at.invariant.0 fed.taken,
      fed.came ∙ ap (λ (x : ℕ). x + c.in_ok-fed.fed.taken) c.loop-at.invariant.1,
      subst (λ (o : Option Cut). map meaning found ++ (cuts_in o ++ more) ≡ cuts stream) c.in_default.is all,
    )
