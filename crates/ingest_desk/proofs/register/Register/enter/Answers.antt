use Rattle.std.proofs.Common.{◌+◌, ℕ, List, ◌++◌, length, sum_by, sym, ap, ◌∙◌, subst, arith}
use Rattle.std.specs.Option.{option_or}
use Rattle.explorer_model.specs.declared.archive.Batch.{Batch}
use Rattle.ingest_desk.specs.Clashes.{ids_of, number_among}
use Rattle.ingest_desk.specs.IdTable.{number_at}
use Rattle.ingest_desk.specs.Registers.{IsRegisterOf}
use Rattle.ingest_desk.specs.declared.register.Register.{Register}
use Rattle.ingest_desk.proofs.RegisterLemmas.{first_is, long, none_clash, register_more}
use Rattle.ingest_desk.proofs.register.Register.enter.Goals as goal

pub add_all-requires-clause-new : goal.add_all-requires-clause-new
add_all-requires-clause-new c =
    let can = c.requires.fits in
    rw can.made_of.classes
    (none_clash (number_at c.args.self.now.ids) can.tally.classes can.fits.none)

pub add_all-requires-clause-fits : goal.add_all-requires-clause-fits
add_all-requires-clause-fits c =
    let can = c.requires.fits in
    rw can.made_of.classes (omega (arith, can.fits.within.0, long can.tally can.counted))

pub overflow_add-self : goal.overflow_add-self
overflow_add-self c = omega (arith, c.requires.fits.few, c.requires.fits.fits.within.0)

pub returns : goal.returns
returns c = λ journal is.
    let can = c.requires.fits in
    let now = c.args.self.now in
    let new : Register = record {
      ids = c.add_all.new.self;
      batches = now.batches + 1;
      games = now.games + c.from.result;
      bytes = now.bytes + c.bytes_of.result;
    } in
    let P : List Batch → Type 0 = λ batches. IsRegisterOf (journal ++ batches) new in
    let batch = first_is _ can.tally.batch _ can.made_of.batches c.batch_of-batch.ensures in
    let texts = c.as_slice.ensures ∙ ap (λ (b : Batch). b.texts) batch in
    subst P (sym can.made_of.batches)
    (register_more journal now new can.tally can.counted can.fits is
    (λ id. c.add_all.ensures id
    ∙ ap (λ cs. option_or (number_at now.ids id) (number_among now.games (ids_of cs) id))
    can.made_of.classes)
    (omega arith)
    (ap (λ n. now.games + n) (c.from.ensures ∙ c.games.ensures ∙ ap length can.made_of.classes))
    (ap (λ n. now.bytes + n)
    (c.bytes_of.ensures.sum ∙ ap (λ ts. sum_by (λ (text : List ℕ). length text) ts) texts)))
