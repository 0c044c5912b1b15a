use Rattle.std.proofs.Common.{Ok, inl, inr, option_map, string_bytes}
use Rattle.explorer.specs.Query.Spilled.{SpillsBy}
use Rattle.explorer.specs.World.{world}
use Rattle.explorer.proofs.BookLemmas.{stops_by}
use Rattle.explorer.proofs.QueryLemmas.{unread}
use Rattle.explorer.proofs.query.spilled.query_spilled.Goals as goal

pub spill_by-requires-clause-played : goal.spill_by-requires-clause-played
spill_by-requires-clause-played g c = λ κs within. record {
  root = c.in-Ok.ensures.root;
  plays = c.queries_play_legal_moves.ensures.legal c.args.query_text.now c.in-Ok.query c.in-Ok.ensures.reads;
  at = c.queries_play_legal_moves.ensures.ends c.args.query_text.now c.in-Ok.query c.in-Ok.ensures.reads;
}

pub returns-in-Err : goal.returns-in-Err
returns-in-Err g c = λ input errors.
    unread (SpillsBy (string_bytes c.args.order.store) (string_bytes c.args.order.spill)) c.args.query_text.now (option_map string_bytes c.args.openings)
    (world input (g.O.Sink.sink c.args.output.now) errors (g.H.Host.host c.args.host.now)) c.in-Err.stop c.from.result c.from.ensures c.in-Err.ensures.reads

pub returns-in-Err-book_of : goal.returns-in-Err-book_of
returns-in-Err-book_of g c = λ input errors.
    inr (Ok c.in-Ok.query, c.in-Ok.ensures.reads, inr (stops_by (option_map string_bytes c.args.openings) _ _ _ _ _ c.in-Err-book_of.fault (rw c.in-Err-book_of.is at c.book_of.ensures)))

pub returns : goal.returns
returns g c = λ input errors.
    inr (
      Ok c.in-Ok.query,
      c.in-Ok.ensures.reads,
      inl (
        c.in-Ok-book_of.book,
        g.H.Host.host c.book_of.new.host,
        (rw c.in-Ok-book_of.is at c.book_of.ensures),
        c.spill_by.ensures input errors,
      ),
    )
