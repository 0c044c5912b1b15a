use Rattle.std.proofs.Common.{◌≡◌, ap, sym, ◌∙◌}
use Rattle.published_index.proofs.HistoryLemmas.{add-cell-moves}
use Rattle.published_index.proofs.book.add_cell.Goals as goal

pub compare_exchange-found-requires : goal.compare_exchange-found-requires
compare_exchange-found-requires c =
    let h = c.requires.word in
    let offer = c.plain-offer.ensures in
    let pen = c.no_pen-pen.ensures in
    let book : c.args.seen.now.book ≡ c.args.word.now.book = sym (ap (λ w. w.book) h) in (
      ap (λ w. w.tracked) h,
      book,
      pen.0 ∙ book,
      offer.0,
      rw (ap (λ w. w.key) h, pen.1, offer.3) (add-cell-moves c.args.seen.now.log c.plain-offer.result.ask c.args.away),
    )
