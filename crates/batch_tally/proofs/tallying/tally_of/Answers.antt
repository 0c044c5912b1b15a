use Rattle.std.proofs.Common.{rules, refl, sym, subst, List, map}
use Rattle.std.specs.List.{All}
use Rattle.tally_rows.specs.Tally.{Counted}
use Rattle.batch_tally.specs.declared.accepting.Accepted.{Accepted}
use Rattle.batch_tally.specs.Accepting.{candidate_as, IsCounted}
use Rattle.batch_tally.specs.Tallying.{Counts}
use Rattle.batch_tally.proofs.Made.{made-of, made-counted, made-counts}
use Rattle.batch_tally.proofs.tallying.tally_of.Goals as goal

pub row_parts-requires-clause-counted : goal.row_parts-requires-clause-counted
row_parts-requires-clause-counted g c = λ κs within.
    let P : List Accepted → Type 0 = λ l. All IsCounted l in
    subst P (sym c.as_slice.ensures.value) c.requires.counted

pub new-requires : goal.new-requires
new-requires g c = rw c.none.ensures (made-counted c.args.accepted.items _ _ _
    (made-of c.args.accepted.items _ _ _ _ _ _ _ (search rules) c.requires.candidates c.as_slice.ensures.value
    c.from_vec.ensures c.in_ok-texts.ensures.texts c.from_vec-2.ensures c.in_ok-texts.ensures.classes
    refl c.in_ok-parts.ensures))

pub returns : goal.returns
returns g c =
    let P : Counted → Type 0 = λ counted. Counts (map candidate_as c.args.accepted.items) counted in
    subst P (sym c.new.ensures) (rw c.none.ensures (made-counts c.args.accepted.items _ _ _
    (made-of c.args.accepted.items _ _ _ _ _ _ _ (search rules) c.requires.candidates c.as_slice.ensures.value
    c.from_vec.ensures c.in_ok-texts.ensures.texts c.from_vec-2.ensures c.in_ok-texts.ensures.classes
    refl c.in_ok-parts.ensures)))
