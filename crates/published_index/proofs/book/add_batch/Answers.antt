use Rattle.std.proofs.Common.{◌≡◌, ap, sym, ◌∙◌}
use Rattle.published_index.proofs.HistoryLemmas.{add-moves}
use Rattle.published_index.proofs.book.add_batch.Goals as goal

pub compare_exchange-requires : goal.compare_exchange-requires
compare_exchange-requires c =
    let h = c.requires.word in
    let offer = c.plain-offer.ensures in
    let book : c.args.seen.now.book ≡ c.args.word.now.book = sym (ap (λ w. w.book) h) in (
      ap (λ w. w.tracked) h,
      book,
      c.requires.pen_book ∙ book,
      offer.0,
      rw (ap (λ w. w.key) h, c.requires.pen, offer.3) (add-moves c.args.seen.now.log c.plain-offer.result.ask c.args.pen.now.nib.key c.requires.seen),
    )
