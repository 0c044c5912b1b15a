use Rattle.std.proofs.Common.{◌≡◌, List, None, [], ◌∷◌, ◌++◌, length, ap, ◌∙◌, sym, subst, arith}
use Rattle.std.proofs.lemmas.Bool.{MatchBool-at_false, MatchBool-at_true}
use Rattle.explorer_model.specs.declared.archive.Batch.{Batch}
use Rattle.explorer_model.specs.Journal.{IsSound}
use Rattle.ingest_desk.specs.Causes.{cause_of_new}
use Rattle.ingest_desk.specs.Registers.{IsRegisterOf}
use Rattle.ingest_desk.proofs.RecountLemmas.{no_cause_of}
use Rattle.ingest_desk.proofs.RegisterLemmas.{fewer_batches, fits_of, fits_same, long, register_same}
use Rattle.ingest_desk.proofs.recount.takes_in.Goals as goal

pub returns-then-not-takes : goal.returns-then-not-takes
returns-then-not-takes c = λ journal batch is alone sound.
    let tally = alone.tally in
    let whole : IsSound (journal ++ tally.batch ∷ []) =
    subst (λ (b : Batch). IsSound (journal ++ b ∷ [])) (sym alone.batch_is) sound in
    let none = cause_of_new is.sound.games journal tally ≡ None in
    MatchBool-at_false none (¬ none) c.if-not-takes.true
    (c.takes.ensures tally alone.counted alone.made_of journal is.sound.games is is.sound.are_games)
    (no_cause_of c.game_is_determined.ensures journal tally is.sound alone.counted whole)

pub enter-requires-clause-fits : goal.enter-requires-clause-fits
enter-requires-clause-fits c =
    let alone = c.requires.counted.2 in
    let tally = alone.tally in
    let journal = c.requires.knows.0 in
    let is = c.requires.knows.1 in
    let new = c.reserve.new.self in
    let same = c.in_ok-reserve.ensures.same in
    let none = cause_of_new is.sound.games journal tally ≡ None in
    let fits = fits_of journal c.args.register.now tally is
    (MatchBool-at_true none (¬ none) c.if-not-takes.false
    (c.takes.ensures tally alone.counted alone.made_of journal is.sound.games is is.sound.are_games)) in
    record {
      tally = tally;
      counted = alone.counted;
      made_of = alone.made_of;
      fits = fits_same c.args.register.now new tally same fits;
      few = omega (arith, same.batches, same.games, is.batches, is.games, fewer_batches journal is.sound);
    }

pub returns : goal.returns
returns c = λ journal batch is alone.
    let same = c.in_ok-reserve.ensures.same in
    let batches = alone.made_of.batches ∙ ap (λ (b : Batch). b ∷ []) alone.batch_is in
    let R : List Batch → Type 0 = λ l. IsRegisterOf (journal ++ l) c.enter.new.self in
    record {
      knows = subst R batches (c.enter.ensures journal (register_same journal c.args.register.now c.reserve.new.self is same));
      first = alone.first (omega (arith, fewer_batches journal is.sound, is.sound.within.0));
      batches = batches;
      games = ap length alone.made_of.classes ∙ long alone.tally alone.counted ∙ ap (λ (b : Batch). length b.texts) alone.batch_is;
    }
