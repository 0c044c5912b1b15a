use Rattle.std.proofs.Common.{◌≡◌, ◌∙◌, ap, sym, subst, [], map, string_bytes}
use Rattle.clap.specs.Words.{App, HasKind, fault_of, is_simple, is_simple_and_free, subcommand_of, subcommand_rows_of}
use Rattle.command_line.specs.Task.{explorer_app, task_said}
use Rattle.command_line.specs.Words.{IsTaken, task_in}
use Rattle.command_line.proofs.TakenLemmas.{explorer_is_free, explorer_is_simple, taken}
use Rattle.command_line.proofs.WordLemmas.{refused, task_taken}
use Rattle.command_line.proofs.words.parse_words.Goals as goal

pub command_of-requires : goal.command_of-requires
command_of-requires c =
    let words = map string_bytes c.args.words.now in
    let app = c.in_ok-explorer_command.ensures in
    let no_fault : fault_of explorer_app words ≡ [] = sym (ap (λ (a : App). fault_of a words) app) ∙ c.in-Ok.ensures.kinds (ap is_simple_and_free app ∙ explorer_is_free) in
    let same : subcommand_rows_of c.in-Ok.matches ≡ subcommand_of explorer_app words = (c.in-Ok.ensures.matches (ap is_simple app ∙ explorer_is_simple)).1 ∙ ap (λ (a : App). subcommand_of a words) app in
    subst IsTaken (sym same) (taken words no_fault)

pub returns-in_ok-command_of-in-Ok-clause-task : goal.returns-in_ok-command_of-in-Ok-clause-task
returns-in_ok-command_of-in-Ok-clause-task c =
    let words = map string_bytes c.args.words.now in
    let app = c.in_ok-explorer_command.ensures in
    let no_fault : fault_of explorer_app words ≡ [] = sym (ap (λ (a : App). fault_of a words) app) ∙ c.in-Ok.ensures.kinds (ap is_simple_and_free app ∙ explorer_is_free) in
    let same : subcommand_rows_of c.in-Ok.matches ≡ subcommand_of explorer_app words = (c.in-Ok.ensures.matches (ap is_simple app ∙ explorer_is_simple)).1 ∙ ap (λ (a : App). subcommand_of a words) app in
    task_taken words (task_in c.in_ok-command_of-in-Ok.field-0) no_fault (ap task_said (sym same) ∙ c.in_ok-command_of-in-Ok.ensures.task)

pub returns-in-Err-clause-refused : goal.returns-in-Err-clause-refused
returns-in-Err-clause-refused c =
    let words = map string_bytes c.args.words.now in
    let app = c.in_ok-explorer_command.ensures in
    let has = c.in-Err.ensures.kinds (ap is_simple_and_free app ∙ explorer_is_free) in
    refused words c.in-Err.error c.usage_error.result c.usage_error.ensures.memory c.usage_error.ensures.told (subst (λ (a : App). HasKind (fault_of a words) c.in-Err.error) app has)
