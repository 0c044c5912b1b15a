use Rattle.std.proofs.Common.{◌≡◌, ◌<◌, ◌≤◌, nat_le, length, true, false, Option, Some, Ok, sym, subst, arith}
use Rattle.std.proofs.lemmas.Bool.Decides.{nat_tests}
use Rattle.explorer_model.specs.declared.chess.Position.{Position}
use Rattle.explorer_model.specs.declared.opening.Opening.{Opening}
use Rattle.explorer_model.specs.Chess.{start}
use Rattle.explorer_model.specs.Openings.{ColumnsRead, Leads, NamedPosition, move_limit, words_of}
use Rattle.opening_names.specs.Reading.{columns_as}
use Rattle.opening_names.proofs.ColumnLemmas.{bad-move, code-untold, is-none, is-some, name-untold, too-long, well-read}
use Rattle.opening_names.proofs.line.read_columns.Goals as goal

pub returns-in_default-clause-reads : goal.returns-in_default-clause-reads
returns-in_default-clause-reads c =
    let columns = columns_as c.args.cut in
    code-untold columns (is-none c.utf8_of.result c.args.cut.eco.now c.utf8_of.ensures c.in_default.is)

pub returns-in_default-utf8_of-clause-reads : goal.returns-in_default-utf8_of-clause-reads
returns-in_default-utf8_of-clause-reads c =
    let columns = columns_as c.args.cut in
    name-untold columns (is-none c.utf8_of-2.result c.args.cut.name.now c.utf8_of-2.ensures c.in_default-utf8_of.is)

pub returns-then-count_words-gt-MOVE_LIMIT-clause-reads :
    goal.returns-then-count_words-gt-MOVE_LIMIT-clause-reads
returns-then-count_words-gt-MOVE_LIMIT-clause-reads c =
    let columns = columns_as c.args.cut in
    let many : 64 < length (words_of c.args.cut.moves.now) = omega (arith, c.count_words.ensures, c.if-count_words-gt-MOVE_LIMIT.true) in
    let long : nat_le (length (words_of c.args.cut.moves.now)) move_limit ≡ false = grind (arith, nat_tests) in
    too-long columns c.in-Some.eco.now c.in-Some-utf8_of.name.now
    (is-some c.utf8_of.result c.in-Some.eco c.args.cut.eco.now c.utf8_of.ensures c.in-Some.is)
    (is-some c.utf8_of-2.result c.in-Some-utf8_of.name c.args.cut.name.now c.utf8_of-2.ensures c.in-Some-utf8_of.is) long

pub returns-in_default-play_words-clause-reads : goal.returns-in_default-play_words-clause-reads
returns-in_default-play_words-clause-reads c =
    let columns = columns_as c.args.cut in
    let few : length (words_of c.args.cut.moves.now) ≤ 64 = omega (arith, c.count_words.ensures, c.if-count_words-gt-MOVE_LIMIT.false) in
    let short : nat_le (length (words_of c.args.cut.moves.now)) move_limit ≡ true = grind (arith, nat_tests) in
    let L : Option Position → Type 0 = λ end. Leads start (words_of c.args.cut.moves.now) end in
    bad-move columns c.in-Some.eco.now c.in-Some-utf8_of.name.now
    (is-some c.utf8_of.result c.in-Some.eco c.args.cut.eco.now c.utf8_of.ensures c.in-Some.is)
    (is-some c.utf8_of-2.result c.in-Some-utf8_of.name c.args.cut.name.now c.utf8_of-2.ensures c.in-Some-utf8_of.is) short
    (subst L c.in_default-play_words.is c.play_words.ensures)

pub returns-clause-reads : goal.returns-clause-reads
returns-clause-reads c =
    let columns = columns_as c.args.cut in
    let few : length (words_of c.args.cut.moves.now) ≤ 64 = omega (arith, c.count_words.ensures, c.if-count_words-gt-MOVE_LIMIT.false) in
    let short : nat_le (length (words_of c.args.cut.moves.now)) move_limit ≡ true = grind (arith, nat_tests) in
    let L : Option Position → Type 0 = λ end. Leads start (words_of c.args.cut.moves.now) end in
    let opening = c.in_ok-opening.ensures in
    let R : NamedPosition → Type 0 = λ named. ColumnsRead (Some columns) (Ok named) in
    let O : Opening → Type 0 = λ o. R (record { position = c.in-Some-play_words.board; opening = o }) in
    subst R (sym c.line_to.ensures.line)
    (subst O (sym opening)
    (well-read columns c.in-Some.eco.now c.in-Some-utf8_of.name.now
    (is-some c.utf8_of.result c.in-Some.eco c.args.cut.eco.now c.utf8_of.ensures c.in-Some.is)
    (is-some c.utf8_of-2.result c.in-Some-utf8_of.name c.args.cut.name.now c.utf8_of-2.ensures c.in-Some-utf8_of.is) short
    c.in-Some-play_words.board (subst L c.in-Some-play_words.is c.play_words.ensures)))
