use Rattle.explorer.proofs.LawLemmas.StoreRun.{one_asking, one_creating, one_importing, one_listed, one_migrating, one_refusing, one_serving, one_spilled, one_trying}
use Rattle.explorer.proofs.LawLemmas.NoRoom.{accounts_from}
use Rattle.explorer.proofs.laws.a_run_of_a_command_is_determined.Goals as goal

pub returns-clause-creates : goal.returns-clause-creates
returns-clause-creates c = λ words words' store image before after other status status' asks asks' told errors well reports well' reports' still still' fed fed' first second.
    one_creating words words' before after other status status' first second errors reports reports' store image asks asks' told well well' still still' fed fed'

pub returns-clause-asks : goal.returns-clause-asks
returns-clause-asks c = λ words words' store text image openings workers workers' before after other status status' asks asks' told opens errors well read reports well' read' reports' fed fed' first second.
    let once = c.opening_is_determined.ensures in
    one_asking words words' before after other status status' first second errors reports reports' store text image openings workers workers' c.answers_are_determined.ensures c.naming_is_determined.ensures
    (record { opened = once.opened; refused = once.refused; either = once.either }) c.book_is_determined.ensures c.query_is_determined.ensures asks asks' told opens well read well' read' fed fed'

pub returns-clause-spills : goal.returns-clause-spills
returns-clause-spills c = λ words words' store name text image openings workers workers' before after other status status' asks asks' told opens spill errors well read kept reports well' read' kept' reports' fed fed' first second.
    let once = c.opening_is_determined.ensures in
    one_spilled words words' before after other status status' first second errors reports reports' store name text image openings workers workers' c.answers_are_determined.ensures c.naming_is_determined.ensures
    (record { opened = once.opened; refused = once.refused; either = once.either }) c.book_is_determined.ensures c.query_is_determined.ensures asks asks' told opens spill well read kept well' read' kept' fed fed'

pub returns-clause-lists : goal.returns-clause-lists
returns-clause-lists c = λ words words' store image workers workers' before after other status status' asks asks' told errors well reports well' reports' fed fed' first second.
    let once = c.opening_is_determined.ensures in
    one_listed words words' before after other status status' first second errors reports reports' store image workers workers'
    (record { opened = once.opened; refused = once.refused; either = once.either }) asks asks' told well well' fed fed'

pub returns-clause-imports : goal.returns-clause-imports
returns-clause-imports c = λ words words' store file image stream label workers workers' before after other status status' asks asks' told told_file errors well reads reports well' reads' reports' fed fed' first second.
    let once = c.opening_is_determined.ensures in
    one_importing words words' before after other status status' first second errors reports reports' store file image stream label workers workers' c.game_is_determined.ensures
    (accounts_from c.accounting_is_determined.ensures.batches c.accounting_is_determined.ensures.refused)
    (record { opened = once.opened; refused = once.refused; either = once.either }) asks asks' told told_file well reads well' reads' fed fed'

pub returns-clause-migrates : goal.returns-clause-migrates
returns-clause-migrates c = λ words words' old image new there before after other status status' asks asks' told told_new errors well reports well' reports' fed fed' first second.
    one_migrating words words' before after other status status' first second errors reports reports' old image new there asks asks' told told_new well well' fed fed'

pub returns-clause-tries : goal.returns-clause-tries
returns-clause-tries c = λ words words' games seed workers workers' before after other status status' asks asks' told errors well reports well' reports' fed fed' first second.
    one_trying words words' before after other status status' first second errors reports reports' games seed workers workers' c.game_is_determined.ensures
    (accounts_from c.accounting_is_determined.ensures.batches c.accounting_is_determined.ensures.refused)
    c.samples_are_determined.ensures c.answers_are_determined.ensures c.query_is_determined.ensures asks asks' told well well' fed fed'

pub returns-clause-refuses : goal.returns-clause-refuses
returns-clause-refuses c = λ words words' service workers openings image before after other status status' asks asks' told opens errors reports well' reports' seven fed' first second.
    let once = c.opening_is_determined.ensures in
    one_refusing words words' before after other status status' first second service workers openings image (record { opened = once.opened; refused = once.refused; either = once.either })
    c.book_is_determined.ensures asks asks' told opens well' errors reports reports' seven fed'

pub returns-clause-serves : goal.returns-clause-serves
returns-clause-serves c = λ words words' service workers openings image before after other status status' asks asks' told opens well well' differs fed fed' first second.
    let once = c.opening_is_determined.ensures in
    one_serving words words' before after other status status' first second service workers openings image (record { opened = once.opened; refused = once.refused; either = once.either })
    c.book_is_determined.ensures asks asks' told opens well' well differs fed fed'
