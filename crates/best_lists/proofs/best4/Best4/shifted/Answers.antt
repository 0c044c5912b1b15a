use Rattle.std.proofs.Common.{◌≡◌, map, ap, ◌∙◌}
use Rattle.std.proofs.lemmas.List.{take_all}
use Rattle.best_lists.specs.Entry.{moved_by}
use Rattle.best_lists.proofs.Entries.{best-moved}
use Rattle.best_lists.proofs.best4.Best4.shifted.Goals as goal

pub invariant_of-result : goal.invariant_of-result
invariant_of-result g c =
    let by = c.args.by in
    let loop = c.loop-entry in
    let all = take_all loop.entry-index _ c.loop-entry-test.false in
    let moved : loop.entries.items ≡ map (moved_by by) c.args.self.now =
    loop.invariant.moved ∙ ap (map (moved_by by)) (all ∙ c.entries-entry-items.ensures.entries) in
    rw moved (best-moved g.met.O.Ranking.keeps_when_moved by 4 c.args.self.now
    ∙ ap (map (moved_by by)) c.entries-entry-items.ensures.own_best)
