use Rattle.std.proofs.Common.{ℕ, List, length, sum_by, ap, ◌∙◌, arith}
use Rattle.manifest.proofs.FirstLimits.{bare-at, goes-on, passes-by-bytes, passes-by-games}
use Rattle.manifest.proofs.PayloadLemmas.{texts-fit}
use Rattle.manifest.proofs.first_limits.first_over.Goals as goal

pub size_of_all-size-requires : goal.size_of_all-size-requires
size_of_all-size-requires c =
    let item = c.batch-item.result in
    let bare = bare-at c.args.batches.now c.loop-batch.batch-index item c.batch-item.is c.loop-batch-test.true c.requires in
    let same = ap (sum_by (λ (text : List ℕ). length text)) c.as_slice-in-loop-batch.ensures in
    omega (arith, same, texts-fit item bare.storable)

pub overflow_add-bytes : goal.overflow_add-bytes
overflow_add-bytes c =
    let l = c.loop-batch in
    let item = c.batch-item.result in
    let bare = bare-at c.args.batches.now l.batch-index item c.batch-item.is c.loop-batch-test.true c.requires in
    let same = ap (sum_by (λ (text : List ℕ). length text)) c.as_slice-in-loop-batch.ensures in
    omega (arith, same, texts-fit item bare.storable, c.size_of_all-size.ensures, l.invariant.bytes_are, l.invariant.within.1)

pub returns-then-games-gt-GAME_LIMIT : goal.returns-then-games-gt-GAME_LIMIT
returns-then-games-gt-GAME_LIMIT c =
    let l = c.loop-batch in
    passes-by-games c.args.batches.now l.batch-index c.batch-item.result c.batch-item.is c.loop-batch-test.true l.games l.bytes l.gate
    (length c.as_slice.result.now) c.size_of_all-size.result l.invariant (ap length c.as_slice.ensures)
    (c.size_of_all-size.ensures ∙ ap (sum_by (λ (text : List ℕ). length text)) c.as_slice-in-loop-batch.ensures)
    c.if-games-gt-GAME_LIMIT.true

pub returns-then-bytes-gt-BYTE_LIMIT : goal.returns-then-bytes-gt-BYTE_LIMIT
returns-then-bytes-gt-BYTE_LIMIT c =
    let l = c.loop-batch in
    passes-by-bytes c.args.batches.now l.batch-index c.batch-item.result c.batch-item.is c.loop-batch-test.true l.games l.bytes l.gate
    (length c.as_slice.result.now) c.size_of_all-size.result l.invariant (ap length c.as_slice.ensures)
    (c.size_of_all-size.ensures ∙ ap (sum_by (λ (text : List ℕ). length text)) c.as_slice-in-loop-batch.ensures)
    c.if-bytes-gt-BYTE_LIMIT.true

pub loop-batch-preserved : goal.loop-batch-preserved
loop-batch-preserved c =
    let l = c.loop-batch in
    let item = c.batch-item.result in
    let bare = bare-at c.args.batches.now l.batch-index item c.batch-item.is c.loop-batch-test.true c.requires in
    let many = ap length c.as_slice.ensures in
    goes-on c.args.batches.now l.batch-index item c.batch-item.is c.loop-batch-test.true l.games l.bytes l.gate
    (length c.as_slice.result.now) c.size_of_all-size.result l.invariant many
    (c.size_of_all-size.ensures ∙ ap (sum_by (λ (text : List ℕ). length text)) c.as_slice-in-loop-batch.ensures)
    (omega (arith, many, bare.storable.texts.0)) c.if-games-gt-GAME_LIMIT.false c.if-bytes-gt-BYTE_LIMIT.false
