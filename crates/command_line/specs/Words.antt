-- Bridge: what the code holds of the words of a command line.
use Rattle.std.specs.Prelude.{◌≡◌, ◌≢◌, ◌≤◌, ℕ, ◌++◌, List, map, Option, None, Some, option_map, codes, nat_le, ◌&&◌, if◌then◌else◌, string_bytes}
use Rattle.clap.specs.Walk.{Row, Text}
use Rattle.explorer_model.specs.declared.fault.Stop.{Stop}
use Rattle.explorer_model.specs.declared.fault.Stop.TheVariants as stops
use Rattle.command_line.specs.declared.command.Command.{Command}
use Rattle.command_line.specs.declared.command.Command.TheVariants as commands
use Rattle.command_line.specs.declared.words.UsageError.{UsageError}
use Rattle.command_line.specs.Task.{Batches, Bounds, Count, Create, Import, Migrate, Query, Serve, Task, Trial, connections_bounds, games_bounds, readers_bounds, seed_bounds, task_named, task_of, workers_bounds}

abbrev pub task_in : Command → Task
task_in (commands.Batches store workers) = Batches (string_bytes store) workers
task_in (commands.Count query workers openings) =
    Count (string_bytes query) workers (option_map string_bytes openings)
task_in (commands.Create store) = Create (string_bytes store)
task_in (commands.Import store file workers label) =
    Import (string_bytes store) (string_bytes file) workers (string_bytes label)
task_in (commands.Migrate old new) = Migrate (string_bytes old) (string_bytes new)
task_in (commands.Query store query workers openings spill) =
    Query (string_bytes store) (string_bytes query) workers (option_map string_bytes openings)
    (option_map string_bytes spill)
task_in (commands.Serve store address files workers readers connections openings) =
    Serve (string_bytes store) (string_bytes address) (map string_bytes files.items)
    workers readers connections (option_map string_bytes openings)
task_in (commands.Trial games seed workers) = Trial games seed workers

-- ---- bounds

abbrev pub IsIn : Bounds → ℕ → Type 0
IsIn bounds number = (bounds.least ≤ number) × (number ≤ bounds.most)

-- all numbers that are asked for stand within their bounds
abbrev pub IsInBounds : Task → Type 0
IsInBounds (Batches store workers) = IsIn workers_bounds workers
IsInBounds (Count query workers openings) = IsIn workers_bounds workers
IsInBounds (Create store) = Unit {0}
IsInBounds (Import store file workers label) = IsIn workers_bounds workers
IsInBounds (Migrate old new) = Unit {0}
IsInBounds (Query store query workers openings spill) = IsIn workers_bounds workers
IsInBounds (Serve store address files workers readers connections openings) =
    IsIn workers_bounds workers × IsIn readers_bounds readers
    × IsIn connections_bounds connections
IsInBounds (Trial games seed workers) =
    IsIn games_bounds games × IsIn seed_bounds seed × IsIn workers_bounds workers

-- the number, where it stands within the bounds
abbrev pub kept_in : Bounds → ℕ → Option ℕ → ℕ
kept_in bounds default None = default
kept_in bounds default (Some number) =
    if nat_le bounds.least number && nat_le number bounds.most then number else default

-- ---- refused words

-- a text whose last line ends
abbrev pub EndsLine : List ℕ → Type 0
EndsLine text = (front : List ℕ) × (text ≡ front ++ codes "\n")

-- the words ask for nothing, and what is told of them ends its last line
abbrev pub Refuses : List Text → Stop UsageError → Type 0
Refuses words (stops.Fault usage) = (task_of words ≡ None) × EndsLine (string_bytes usage.text)
Refuses words stops.OutOfMemory = Unit {0}

-- what is told ends its last line
abbrev pub IsTold : Stop UsageError → Type 0
IsTold (stops.Fault usage) = EndsLine (string_bytes usage.text)
IsTold stops.OutOfMemory = Unit {0}

-- ---- subcommands

-- the subcommand is one of the command line's
abbrev pub IsTaken : Option (Text × List Row) → Type 0
IsTaken None = ⊥
IsTaken (Some (name, rows)) = task_named name rows ≢ None
