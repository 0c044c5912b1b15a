use Rattle.std.proofs.Common.{List, subst, ap, ◌∙◌, length}
use Rattle.explorer_model.specs.declared.archive.Batch.{Batch}
use Rattle.explorer_model.specs.Visits.{AreGamesOf}
use Rattle.tally_rows.specs.Cover.{turn_of}
use Rattle.tally_rows.specs.Recount.{all_of}
use Rattle.lookup.proofs.Journal.{span-games}
use Rattle.lookup.proofs.Made.{found-in-rows}
use Rattle.lookup.proofs.laws.cover_recounts.Goals as goal

pub returns : goal.returns
returns c = λ spans journal games cover tallies query bytes found covers tallied can made.
    let J : List Batch → Type 0 = λ batches. AreGamesOf batches (all_of games) in
    record {
      games = all_of games;
      are_games = subst J covers.whole (span-games spans games tallied.are_games);
      answer = found-in-rows spans games cover tallies query bytes found
          (λ text game track of tracked. c.tracks_see_what_games_see.ensures query.at bytes text game track can.board can.tidy of tracked)
          (ap turn_of can.tidy.2
          ∙ c.keys_tell_the_turn.ensures can.tidy.0 (ap (λ s. length s) can.tidy.1.squares ∙ can.board)
          ∙ can.tidy.1.turn)
          (c.cover_recounts.ensures cover tallies tallied.tallied bytes query.filter)
          tallied can made;
    }
