use Rattle.std.proofs.Common.{ℕ, false, get_or, option_map, ap, sym, ◌∙◌}
use Rattle.batch_tally.proofs.MarkLemmas.{none_with_id}
use Rattle.batch_tally.proofs.accepting.place_of_id.Goals as goal

pub returns-then-not-marks-id_mark_of : goal.returns-then-not-marks-id_mark_of
returns-then-not-marks-id_mark_of c =
    ap (λ found. option_map (λ candidate. candidate.place) found)
    (sym (none_with_id c.args.marks.now c.args.game.now c.id_word-word.result
    (ap (λ (n : ℕ). get_or c.args.marks.now n false) (sym c.id_mark_of.ensures.value) ∙ c.if-not-marks-id_mark_of.true)
    c.id_word-word.ensures c.args.accepted.now c.args.words.now c.requires.words c.requires.marks))
