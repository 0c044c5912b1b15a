use Rattle.spill_blobs.proofs.TallyLemmas.{sound}
use Rattle.spill_blobs.proofs.laws.tallied_rows_are_sound.Goals as goal

pub returns : goal.returns
returns c = λ segment at bytes is valid tidy. sound
    (record {
      played = record {
        keeps = c.legal_moves_keep_validity.ensures;
        begins = c.games_begin_validly.ensures;
      };
      decides = c.tidy_forms_decide_same.ensures;
      moves = c.same_positions_have_the_same_moves.ensures;
      keys = c.equal_keys_mean_equal_positions.ensures;
      sound = c.tallied_rows_are_sound.ensures;
      gives = c.cover_gives_what_is_picked.ensures;
    })
    segment is at bytes valid tidy
