use Rattle.std.proofs.Common.{◌≡◌, sym, ◌∙◌}
use Rattle.std.proofs.lemmas.Slice.Eq.{bytes_eq-Decides}
use Rattle.explorer_model.specs.Keys.{key}
use Rattle.opening_names.proofs.tidy_key.board_of.Goals as goal

pub returns-then-are_equal : goal.returns-then-are_equal
returns-then-are_equal c =
    let p = c.args.position.now in
    let start = c.as_position.result.now in
    let same = (bytes_eq-Decides c.pack-key.result c.pack-start_key.result).0 (sym c.are_equal.ensures ∙ c.if-are_equal.true) in
    let keys : key start ≡ key p = sym c.pack-start_key.ensures.key ∙ (sym same ∙ c.pack-key.ensures.key) in
    sym c.as_position.ensures
    ∙ (c.equal_keys_mean_equal_positions.ensures start p c.pack-start_key.ensures.board c.pack-key.ensures.board).0 keys
