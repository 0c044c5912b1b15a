-- Statement: the command line, and what words ask for.
use Rattle.std.specs.Prelude.{ℕ, true, List, [], ◌∷◌, Option, None, Some, codes, unwrap_or, if◌then◌else◌}
use Rattle.std.specs.Str.{bytes_eq}
use Rattle.std.specs.Str.Parse.{digits_value, without_leading_plus}
use Rattle.clap.specs.Lexer.{usize_max}
use Rattle.clap.specs.Faults.{fault_of}
use Rattle.clap.specs.Kinds.{Kinds}
use Rattle.clap.specs.Simple.{App, Shape, new_app, new_rule, subcommand_of, with_rule, with_subcommand}
use Rattle.clap.specs.ValueTests.{is_unsigned_in}
use Rattle.clap.specs.Walk.{Row, Rule, Text, all_of, first_of, one_of}
use Rattle.clap.specs.declared.builder.action.ArgAction.TheVariants.{Append}
use Rattle.clap.specs.declared.builder.value_parser.ValueParser.TheVariants as parser

-- ---- arguments

-- a number between two others, each of them among the numbers
pub record Bounds : Type 0 where
  pub least : ℕ
  pub most : ℕ

abbrev pub workers_bounds : Bounds
workers_bounds = record { least = 1; most = 16 }

abbrev pub readers_bounds : Bounds
readers_bounds = record { least = 1; most = 64 }

abbrev pub connections_bounds : Bounds
connections_bounds = record { least = 1; most = 1000000 }

abbrev pub games_bounds : Bounds
games_bounds = record { least = 1; most = 131072 }

-- all numbers of 64 bits
abbrev pub seed_bounds : Bounds
seed_bounds = record { least = 0; most = 18446744073709551615 }

-- `[NAME]`, which is any text
abbrev pub optional_rule : Text → Rule
optional_rule name = record (new_rule name) { value_names = 1 }

-- `NAME`, which is any text
abbrev pub required_rule : Text → Rule
required_rule name = record (optional_rule name) { required = true }

-- `--NAME N`, a number within bounds, which is the default where none is given
abbrev pub option_rule : Text → Bounds → Text → Rule
option_rule name bounds default = record (new_rule name) {
  long = Some name;
  value_names = 1;
  parser = Some (parser.Unsigned bounds.least bounds.most);
  defaults = default ∷ [];
}

-- `--NAME TEXT`, which is any text
abbrev pub text_rule : Text → Rule
text_rule name = record (optional_rule name) { long = Some name }

-- `--openings FILE`
abbrev pub openings_rule : Rule
openings_rule = text_rule (codes "openings")

-- `--spill NAME`
abbrev pub spill_rule : Rule
spill_rule = text_rule (codes "spill")

-- `NAME`, which is a number within bounds
abbrev pub number_rule : Text → Bounds → Rule
number_rule name bounds = record (required_rule name) {
  parser = Some (parser.Unsigned bounds.least bounds.most);
}

-- `[FILE]...`, any number of texts
abbrev pub files_rule : Rule
files_rule = record (optional_rule (codes "file")) {
  action = Some Append;
  range = Some (record { start_inclusive = 0; end_inclusive = usize_max });
}

abbrev pub workers_rule : Rule
workers_rule = option_rule (codes "workers") workers_bounds (codes "4")

-- ---- commands

abbrev pub with_rules : App → List Rule → App
with_rules app [] = app
with_rules app (rule ∷ rules) = with_rules (with_rule app rule) rules

-- `batches STORE [--workers N]`
abbrev pub batches_shape : Shape
batches_shape = (with_rules (new_app (codes "batches"))
    (required_rule (codes "store") ∷ workers_rule ∷ [])).top

-- `count [QUERY] [--workers N] [--openings FILE]`
abbrev pub count_shape : Shape
count_shape = (with_rules (new_app (codes "count"))
    (optional_rule (codes "query") ∷ workers_rule ∷ openings_rule ∷ [])).top

-- `create STORE`
abbrev pub create_shape : Shape
create_shape = (with_rules (new_app (codes "create")) (required_rule (codes "store") ∷ [])).top

-- `import STORE FILE [--workers N] [--label TEXT]`
abbrev pub import_shape : Shape
import_shape = (with_rules (new_app (codes "import"))
    (required_rule (codes "store") ∷ required_rule (codes "file") ∷ workers_rule
    ∷ text_rule (codes "label") ∷ [])).top

-- `migrate OLD NEW`
abbrev pub migrate_shape : Shape
migrate_shape = (with_rules (new_app (codes "migrate"))
    (required_rule (codes "old") ∷ required_rule (codes "new") ∷ [])).top

-- `query STORE [QUERY] [--workers N] [--openings FILE] [--spill NAME]`
abbrev pub query_shape : Shape
query_shape = (with_rules (new_app (codes "query"))
    (required_rule (codes "store") ∷ optional_rule (codes "query") ∷ workers_rule
    ∷ openings_rule ∷ spill_rule ∷ [])).top

-- `serve STORE ADDRESS [FILE]... [--workers N] [--readers N] [--connections N] [--openings FILE]`
abbrev pub serve_shape : Shape
serve_shape = (with_rules (new_app (codes "serve"))
    (required_rule (codes "store") ∷ required_rule (codes "address") ∷ files_rule ∷ workers_rule
    ∷ option_rule (codes "readers") readers_bounds (codes "4")
    ∷ option_rule (codes "connections") connections_bounds (codes "1000")
    ∷ openings_rule ∷ [])).top

-- `trial GAMES SEED [--workers N]`
abbrev pub trial_shape : Shape
trial_shape = (with_rules (new_app (codes "trial"))
    (number_rule (codes "games") games_bounds ∷ number_rule (codes "seed") seed_bounds
    ∷ workers_rule ∷ [])).top

-- `explorer`, which wants a subcommand
abbrev pub bare_app : App
bare_app = let app = new_app (codes "explorer") in
    let top = record app.top { disable_help_subcommand = true; subcommand_required = true } in
    record app { top = top }

abbrev pub with_shapes : App → List Shape → App
with_shapes app [] = app
with_shapes app (shape ∷ shapes) = with_shapes (with_subcommand app shape) shapes

abbrev pub explorer_app : App
explorer_app = with_shapes bare_app
    (batches_shape ∷ count_shape ∷ create_shape ∷ import_shape ∷ migrate_shape ∷ query_shape
    ∷ serve_shape ∷ trial_shape ∷ [])

-- ---- what words ask for

pub data Task : Type 0 where
  -- list the batches of a store
  Batches : (store : List ℕ) (workers : ℕ) → Task
  -- count the games of the input, and answer the query; here and below, openings is the name of a
  -- file of them, where one is given
  Count : (query : List ℕ) (workers : ℕ) (openings : Option (List ℕ)) → Task
  -- make a store without a game
  Create : (store : List ℕ) → Task
  -- import a file into a store under a label, which is empty where none is given
  Import : (store file : List ℕ) (workers : ℕ) (label : List ℕ) → Task
  -- make a store of the batches of a store in the first format
  Migrate : (old new : List ℕ) → Task
  -- answer a query over a store; spill is the name of a scratch file, where one is given
  Query : (store query : List ℕ) (workers : ℕ) (openings spill : Option (List ℕ)) → Task
  -- serve a store at an address while files are imported into it
  Serve : (store address : List ℕ) (files : List (List ℕ)) (workers readers connections : ℕ)
      (openings : Option (List ℕ)) → Task
  -- store sample games that are drawn from the seed, and count them
  Trial : (games seed workers : ℕ) → Task

-- what is given under a name, or nothing
abbrev pub word_in : Text → List Row → List ℕ
word_in name rows = unwrap_or (first_of name rows) []

abbrev pub words_in : Text → List Row → List (List ℕ)
words_in name rows = unwrap_or (all_of name rows) []

-- the number that is given, where one within the bounds is
abbrev pub number_of : Bounds → ℕ → Option Text → ℕ
number_of bounds default None = default
number_of bounds default (Some text) =
    if is_unsigned_in bounds.least bounds.most text then digits_value 10 (without_leading_plus text)
    else default

abbrev pub number_in : Text → Bounds → ℕ → List Row → ℕ
number_in name bounds default rows = number_of bounds default (one_of name rows)

abbrev pub workers_in : List Row → ℕ
workers_in = number_in (codes "workers") workers_bounds 4

-- the name of a file of openings, where one is given
abbrev pub openings_in : List Row → Option (List ℕ)
openings_in = first_of (codes "openings")

-- the name of a scratch file, where one is given
abbrev pub spill_in : List Row → Option (List ℕ)
spill_in = first_of (codes "spill")

abbrev pub count_task : List Row → Task
count_task rows = Count (word_in (codes "query") rows) (workers_in rows) (openings_in rows)

abbrev pub import_task : List Row → Task
import_task rows = Import (word_in (codes "store") rows) (word_in (codes "file") rows)
    (workers_in rows) (word_in (codes "label") rows)

abbrev pub query_task : List Row → Task
query_task rows = Query (word_in (codes "store") rows) (word_in (codes "query") rows)
    (workers_in rows) (openings_in rows) (spill_in rows)

abbrev pub serve_task : List Row → Task
serve_task rows = Serve (word_in (codes "store") rows) (word_in (codes "address") rows)
    (words_in (codes "file") rows) (workers_in rows)
    (number_in (codes "readers") readers_bounds 4 rows)
    (number_in (codes "connections") connections_bounds 1000 rows) (openings_in rows)

abbrev pub trial_task : List Row → Task
trial_task rows = Trial (number_in (codes "games") games_bounds 1 rows)
    (number_in (codes "seed") seed_bounds 0 rows) (workers_in rows)

-- what a subcommand asks for, with what is given for its arguments
abbrev pub task_named : Text → List Row → Option Task
task_named name rows =
    if bytes_eq name (codes "batches") then
    Some (Batches (word_in (codes "store") rows) (workers_in rows))
    else if bytes_eq name (codes "count") then Some (count_task rows)
    else if bytes_eq name (codes "create") then Some (Create (word_in (codes "store") rows))
    else if bytes_eq name (codes "import") then Some (import_task rows)
    else if bytes_eq name (codes "migrate") then
    Some (Migrate (word_in (codes "old") rows) (word_in (codes "new") rows))
    else if bytes_eq name (codes "query") then Some (query_task rows)
    else if bytes_eq name (codes "serve") then Some (serve_task rows)
    else if bytes_eq name (codes "trial") then Some (trial_task rows)
    else None

abbrev pub task_said : Option (Text × List Row) → Option Task
task_said None = None
task_said (Some (name, rows)) = task_named name rows

abbrev pub task_unless : Kinds → Option Task → Option Task
task_unless [] task = task
task_unless (kind ∷ kinds) task = None

-- What the words ask for, of which the first is the program's name; nothing exactly where the
-- command line refuses them.
abbrev pub task_of : List Text → Option Task
task_of words =
    task_unless (fault_of explorer_app words) (task_said (subcommand_of explorer_app words))
