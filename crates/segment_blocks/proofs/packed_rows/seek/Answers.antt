use Rattle.std.proofs.Common.{◌≡◌, suc, ◌-◌, ◌<◌, [], ◌++◌, length, get_or, drop, sym, ap, ◌∙◌, arith}
use Rattle.std.proofs.lemmas.List.{get_or_default, take_rest}
use Rattle.segment_blocks.specs.Walk.{rows_in, from_key, front_rows}
use Rattle.segment_blocks.proofs.KeyLemmas.{Rise-from_sorted}
use Rattle.segment_blocks.proofs.BlockLemmas.{from_key-first, from_key-blocks}
use Rattle.segment_blocks.proofs.packed_rows.seek.Goals as goal

pub returns-then-below-eq0-clause-rows : goal.returns-then-below-eq0-clause-rows
returns-then-below-eq0-clause-rows g c =
    let blocks = c.args.blocks.now in
    c.all_of.ensures
    ∙ sym (from_key-first c.args.key.now blocks c.requires.some (Rise-from_sorted _ c.requires.ordered)
    (λ m. c.count_below-below.ensures.above 0 (omega (arith, c.if-below-eq0.true)) m))

pub returns-clause-rows : goal.returns-clause-rows
returns-clause-rows g c =
    let blocks = c.args.blocks.now in
    let key = c.args.key.now in
    let below = c.count_below-below.result in
    let f = c.count_below-below.ensures in
    let n = below - 1 in
    let is : suc n ≡ below = omega (arith, c.if-below-eq0.false) in
    let in_all : n < length blocks = omega (arith, f.within, is) in
    let block : get_or blocks n [] ≡ c.cursor.result =
    get_or_default blocks n [] c.index-blocks-below.result in_all ∙ sym c.index-blocks-below.is ∙ sym c.cursor.ensures.rows in
    ap (λ d. front_rows c.pass_below-place.result.0 ++ c.pass_below-place.result.1 ++ rows_in d) (take_rest blocks below)
    ∙ ap (λ l. l ++ rows_in (drop below blocks)) (c.pass_below-place.ensures.rows ∙ ap (from_key key) (sym block))
    ∙ ap (λ m. from_key key (get_or blocks n []) ++ rows_in (drop m blocks)) (sym is)
    ∙ sym (from_key-blocks key blocks n c.requires.some (Rise-from_sorted _ c.requires.ordered) in_all (f.below n (omega (arith, is)))
    (λ m. f.above (suc n) (omega (arith, is)) m))

pub returns-clause-cost : goal.returns-clause-cost
returns-clause-cost g c digits fits =
    omega (arith, c.count_below-below.ensures.cost digits fits, c.pass_below-place.ensures.cost, ap length c.cursor.ensures.rows, c.cursor.ensures.few)
