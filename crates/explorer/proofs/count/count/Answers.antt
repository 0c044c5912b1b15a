use Rattle.std.proofs.Common.{Ok, inl, inr, option_map, string_bytes}
use Rattle.explorer.specs.World.{world}
use Rattle.explorer.proofs.BookLemmas.{stops_by}
use Rattle.explorer.proofs.CountLemmas.{unread_query}
use Rattle.explorer.proofs.count.count.Goals as goal

pub count_by-requires-clause-played : goal.count_by-requires-clause-played
count_by-requires-clause-played g c = λ κs within. record {
  root = c.in-Ok.ensures.root;
  plays = c.queries_play_legal_moves.ensures.legal c.args.query_text.now c.in-Ok.query c.in-Ok.ensures.reads;
  at = c.queries_play_legal_moves.ensures.ends c.args.query_text.now c.in-Ok.query c.in-Ok.ensures.reads;
}

pub returns-in-Err : goal.returns-in-Err
returns-in-Err g c =
    unread_query c.args.query_text.now (option_map string_bytes c.args.openings)
    (world (g.I.Source.source c.args.input.now) (g.O.Sink.sink c.args.output.now) (g.E.Sink.sink c.args.errors.now) (g.H.Host.host c.args.host.now))
    c.in-Err.stop c.from.result c.from.ensures c.in-Err.ensures.reads

pub returns-in-Err-book_of : goal.returns-in-Err-book_of
returns-in-Err-book_of g c =
    inr (Ok c.in-Ok.query, c.in-Ok.ensures.reads, inr (stops_by (option_map string_bytes c.args.openings) _ _ _ _ _ c.in-Err-book_of.fault (rw c.in-Err-book_of.is at c.book_of.ensures)))

pub returns : goal.returns
returns g c =
    inr (
      Ok c.in-Ok.query,
      c.in-Ok.ensures.reads,
      inl (
        c.in-Ok-book_of.book,
        g.H.Host.host c.book_of.new.host,
        (rw c.in-Ok-book_of.is at c.book_of.ensures),
        c.count_by.ensures (g.H.Host.host c.book_of.new.host),
      ),
    )
