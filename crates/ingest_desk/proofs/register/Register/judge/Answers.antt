use Rattle.std.proofs.Common.{◌≡◌, ◌+◌, ℕ, true, false, List, length, sum_by, sym, ap, ◌∙◌, arith}
use Rattle.plain_laws.specs.Lists.{length-zero}
use Rattle.explorer_model.specs.declared.archive.Batch.{Batch}
use Rattle.ingest_desk.specs.Causes.{is_over}
use Rattle.ingest_desk.specs.Clashes.{clashes_of}
use Rattle.ingest_desk.specs.IdTable.{number_at}
use Rattle.ingest_desk.specs.Registers.{text_bytes}
use Rattle.ingest_desk.proofs.RegisterLemmas.{judged_clash, judged_room, length_some, long}
use Rattle.ingest_desk.proofs.register.Register.judge.Goals as goal

pub clashes-pairs-requires : goal.clashes-pairs-requires
clashes-pairs-requires c =
    rw c.classes-classes.ensures
    (omega (arith, long c.args.handed.now c.batch-batch.ensures.counted, c.batch-batch.ensures.counted.batch.few))

pub returns-then-not-is_empty : goal.returns-then-not-is_empty
returns-then-not-is_empty c = λ journal games is are.
    let ids = number_at c.args.self.now.ids in
    let pairs = c.clashes-pairs.result.items in
    judged_clash c.game_is_determined.ensures journal games c.args.self.now is are c.args.handed.now pairs
    (c.clashes-pairs.ensures ∙ ap (clashes_of ids) c.classes-classes.ensures)
    (length_some pairs (sym c.is_empty.ensures ∙ c.if-not-is_empty.true))

pub returns-then-is_over : goal.returns-then-is_over
returns-then-is_over c = λ journal games is are.
    let now = c.args.self.now in
    let tally = c.args.handed.now in
    let pairs = c.clashes-pairs.result.items in
    let texts = c.as_slice.ensures ∙ ap (λ (b : Batch). b.texts) c.batch-batch.ensures.batch in
    let bytes : c.bytes_of.result ≡ text_bytes tally.batch =
    c.bytes_of.ensures.sum ∙ ap (λ ts. sum_by (λ (text : List ℕ). length text) ts) texts in
    let games_are : length c.classes-classes.result.now ≡ length tally.batch.texts =
    ap length c.classes-classes.ensures ∙ long tally c.batch-batch.ensures.counted in
    judged_room c.game_is_determined.ensures journal games now is are tally pairs
    (c.clashes-pairs.ensures ∙ ap (clashes_of (number_at now.ids)) c.classes-classes.ensures)
    (length-zero pairs (sym c.is_empty.ensures ∙ c.if-not-is_empty.false)) true
    (ap (λ n. is_over (now.games + n) (now.bytes + text_bytes tally.batch)) (sym games_are)
    ∙ ap (λ n. is_over (now.games + length c.classes-classes.result.now) (now.bytes + n)) (sym bytes)
    ∙ sym c.is_over.ensures ∙ c.if-is_over.true)

pub returns : goal.returns
returns c = λ journal games is are.
    let now = c.args.self.now in
    let tally = c.args.handed.now in
    let pairs = c.clashes-pairs.result.items in
    let texts = c.as_slice.ensures ∙ ap (λ (b : Batch). b.texts) c.batch-batch.ensures.batch in
    let bytes : c.bytes_of.result ≡ text_bytes tally.batch =
    c.bytes_of.ensures.sum ∙ ap (λ ts. sum_by (λ (text : List ℕ). length text) ts) texts in
    let games_are : length c.classes-classes.result.now ≡ length tally.batch.texts =
    ap length c.classes-classes.ensures ∙ long tally c.batch-batch.ensures.counted in
    judged_room c.game_is_determined.ensures journal games now is are tally pairs
    (c.clashes-pairs.ensures ∙ ap (clashes_of (number_at now.ids)) c.classes-classes.ensures)
    (length-zero pairs (sym c.is_empty.ensures ∙ c.if-not-is_empty.false)) false
    (ap (λ n. is_over (now.games + n) (now.bytes + text_bytes tally.batch)) (sym games_are)
    ∙ ap (λ n. is_over (now.games + length c.classes-classes.result.now) (now.bytes + n)) (sym bytes)
    ∙ sym c.is_over.ensures ∙ c.if-is_over.false)
