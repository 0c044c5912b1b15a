use Rattle.std.proofs.Common.{[], ◌∷◌, ◌++◌, map, Some, None, sym, ap, ◌∙◌, append-nil}
use Rattle.row_sums.specs.Hits.{hit_as}
use Rattle.row_sums.specs.Listing.{list_of, listed_where}
use Rattle.row_sums.proofs.Places.{found-next}
use Rattle.row_sums.proofs.listing.listed_in.Goals as goal
use Rattle.row_sums.proofs.listing.listed_in.Goals.{in-Some+in_ok-push, in_default}

pub loop-entry-preserved : goal.loop-entry-preserved
loop-entry-preserved g c =
    let next =
    found-next (λ entry. listed_where (list_of c.args.list) (g.G.Games.classes c.args.games.now) (map hit_as c.args.hits.now) entry.number) c.args.entries.now
    c.loop-entry.entry-index (record { rank = 0; number = 0 }) c.loop-entry-test.true in
    let found = c.in_ok-game.ensures in
    elim c.match-branch-3.branch [
      | in-Some+in_ok-push w ↦
          ap (λ v. v.items) w.listed-is ∙ w.in_ok-push.ensures.items ∙ ap (λ l. l ++ w.in-Some.game ∷ []) c.loop-entry.invariant
          ∙ sym (next (Some w.in-Some.game) (sym found ∙ w.in-Some.is))
      | in_default w ↦
          ap (λ v. v.items) w.listed-is ∙ c.loop-entry.invariant ∙ sym (next None (sym found ∙ w.in_default.is) ∙ append-nil _)
    ]
