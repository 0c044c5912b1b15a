use Rattle.std.proofs.Common.{map}
use Rattle.lookup.specs.Parts.{games_in, journal_of, spans_from, tracks_in}
use Rattle.lookup.proofs.Journal.{covers, tallied}
use Rattle.lookup.proofs.laws.parts_recount.Goals as goal

pub returns : goal.returns
returns c = λ parts each query bytes found can made.
    c.cover_recounts.ensures (spans_from 0 parts) (journal_of parts) (games_in parts each) (tracks_in parts each)
    (map (λ part. part.rows) parts) query bytes found (covers parts) (tallied parts each) can made
