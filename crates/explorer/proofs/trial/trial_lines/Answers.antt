use Rattle.std.proofs.Common.{◌∙◌, ℕ, List, ap, subst, sym}
use Rattle.std.proofs.lemmas.Result.{IfOk-weaker}
use Rattle.explorer_model.specs.Visits.{IsTextOf}
use Rattle.explorer.specs.Trial.{summary}
use Rattle.explorer.specs.Trial.Trying.{IsReadable}
use Rattle.explorer.proofs.TrialLemmas.{drawn_readable, drawn_stream, tells_trial}
use Rattle.explorer.proofs.trial.trial_lines.Goals as goal

pub last_fen-requires : goal.last_fen-requires
last_fen-requires g c =
    let samples = c.in_ok-samples.samples in
    subst (λ (text : List ℕ). IsReadable text) (sym c.as_slice.ensures)
    (drawn_readable c.args.games c.args.seed samples.stream.items samples.last c.in_ok-samples.ensures.0 c.in_ok-samples.ensures.1 c.requires.some_games c.samples_have_games.ensures)

pub try_stream-requires-clause-samples : goal.try_stream-requires-clause-samples
try_stream-requires-clause-samples g c =
    λ κs l.
    let samples = c.in_ok-samples.samples in
    (c.in_ok-samples.ensures.1.texts, drawn_stream c.args.games c.args.seed samples.stream.items samples.last c.in_ok-samples.ensures.0 c.in_ok-samples.ensures.1 c.requires.few_games)

pub returns : goal.returns
returns g c =
    let samples = c.in_ok-samples.samples in
    let are = c.in_ok-samples.ensures.1 in
    let tried = c.in_ok-tried.tried in
    let readable = drawn_readable c.args.games c.args.seed samples.stream.items samples.last c.in_ok-samples.ensures.0 are c.requires.some_games c.samples_have_games.ensures in
    let of_texts = c.in_ok-tried.ensures are.texts (drawn_stream c.args.games c.args.seed samples.stream.items samples.last c.in_ok-samples.ensures.0 are c.requires.few_games) in
    IfOk-weaker c.summary_lines.result _ _
    (λ lines is.
    tells_trial c.args.games c.args.seed samples.stream.items samples.last c.in_ok-samples.ensures.0 are c.requires.some_games readable tried of_texts c.in_ok-fen.fen.items lines.items
    (λ game told. c.in_ok-fen.ensures.reads game (subst (λ (text : List ℕ). IsTextOf text game) (sym c.as_slice.ensures) told))
    (λ game told. c.in_ok-fen.ensures.written game (subst (λ (text : List ℕ). IsTextOf text game) (sym c.as_slice.ensures) told))
    (is ∙ ap (λ (fen : List ℕ). summary c.args.games tried.batches tried.segments tried.totals fen) c.as_slice-2.ensures.value))
    c.summary_lines.ensures
