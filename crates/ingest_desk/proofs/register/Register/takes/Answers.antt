use Rattle.std.proofs.Common.{◌≡◌, ◌+◌, ℕ, List, length, sum_by, refl, sym, ap, ◌∙◌}
use Rattle.explorer_model.specs.declared.archive.Batch.{Batch}
use Rattle.ingest_desk.specs.Causes.{is_over}
use Rattle.ingest_desk.specs.Clashes.{clashes_of}
use Rattle.ingest_desk.specs.IdTable.{number_at}
use Rattle.ingest_desk.specs.Registers.{text_bytes}
use Rattle.ingest_desk.proofs.RegisterLemmas.{first_is, long, not_taken, taken_by}
use Rattle.ingest_desk.proofs.register.Register.takes.Goals as goal

pub returns-then-has_any : goal.returns-then-has_any
returns-then-has_any c = λ tally counted made_of journal games is are.
    let now = c.args.self.now in
    not_taken c.game_is_determined.ensures journal games now is are tally
    (clashes_of (number_at now.ids) tally.classes) refl
    (λ none. c.has_any.ensures.some c.if-has_any.true
    (ap (clashes_of (number_at now.ids)) made_of.classes ∙ none))

pub returns : goal.returns
returns c = λ tally counted made_of journal games is are.
    let now = c.args.self.now in
    let batch = first_is _ tally.batch _ made_of.batches c.batch_of-batch.ensures in
    let texts = c.as_slice.ensures ∙ ap (λ (b : Batch). b.texts) batch in
    let bytes : c.bytes_of.result ≡ text_bytes tally.batch =
    c.bytes_of.ensures.sum ∙ ap (λ ts. sum_by (λ (text : List ℕ). length text) ts) texts in
    let games_are : c.from.result ≡ length tally.batch.texts =
    c.from.ensures ∙ c.games.ensures ∙ ap length made_of.classes ∙ long tally counted in
    taken_by c.game_is_determined.ensures journal games now is are tally
    (clashes_of (number_at now.ids) tally.classes) refl
    (ap (clashes_of (number_at now.ids)) (sym made_of.classes)
    ∙ c.has_any.ensures.none c.if-has_any.false) c.is_over.result
    (ap (λ n. is_over (now.games + n) (now.bytes + text_bytes tally.batch)) (sym games_are)
    ∙ ap (λ n. is_over (now.games + c.from.result) (now.bytes + n)) (sym bytes)
    ∙ sym c.is_over.ensures)
