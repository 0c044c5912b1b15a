-- Statement: what a run comes to, from the words of its command line to its exit status.
use Rattle.std.specs.Prelude.{◌≡◌, ◌⊎◌, ℕ, List, Option, None, Some}
use Rattle.explorer.specs.declared.fault.Fault.{Fault}
use Rattle.explorer.specs.declared.fault.Fault.TheVariants.{Usage, OutOfMemory}
use Rattle.explorer.specs.Book.{NamedBy}
use Rattle.explorer.specs.Count.{Counts}
use Rattle.explorer.specs.Create.{CreatesBy}
use Rattle.explorer.specs.ImportStore.{ImportsBy}
use Rattle.explorer.specs.Lines.{Ending, Stopped, Tells, status_of}
use Rattle.explorer.specs.ListBatches.{ListsBy}
use Rattle.explorer.specs.Migrate.{MigratesBy}
use Rattle.explorer.specs.Query.Spilled.{SpillsBy}
use Rattle.explorer.specs.Query.Store.{AsksBy, QueriesBy}
use Rattle.explorer.specs.Serve.{Serves}
use Rattle.explorer.specs.Trial.{TriesBy}
use Rattle.command_line.specs.Task.{Task, Batches, Count, Create, Import, Migrate, Query, Serve, Trial, task_of}
use Rattle.explorer.specs.World.{World}

-- a run of a task, by its ending
abbrev pub Ends : Task → World → World → Ending → Type 0
Ends (Batches store workers) before after ending = ListsBy store before after ending
Ends (Count query workers openings) before after ending =
    Counts query openings before after ending
Ends (Create store) before after ending = CreatesBy store before after ending
Ends (Import store file workers label) before after ending =
    ImportsBy store file label before after ending
Ends (Migrate old new) before after ending = MigratesBy old new before after ending
Ends (Query store query workers openings None) before after ending =
    QueriesBy (AsksBy store) query openings before after ending
Ends (Query store query workers openings (Some spill)) before after ending =
    QueriesBy (SpillsBy store spill) query openings before after ending
Ends (Serve store address files workers readers connections openings) before after ending =
    NamedBy openings (λ book. Serves (record {
      store = store;
      address = address;
      files = files;
      workers = workers;
      readers = readers;
      connections = connections;
      book = book;
    })) before after ending
Ends (Trial games seed workers) before after ending = TriesBy games seed before after ending

-- words that are refused touch nothing
abbrev pub Meets : Option Task → World → World → Ending → Type 0
Meets None before after ending = (ending ≡ Stopped Usage) × (after ≡ before)
Meets (Some task) before after ending = Ends task before after ending

-- memory was refused before anything was done
abbrev pub StartsWithout : World → World → Ending → Type 0
StartsWithout before after ending = (ending ≡ Stopped OutOfMemory) × (after ≡ before)

-- A run does what its words ask for, or is stopped. How it ended is told last, behind all that it
-- did by then.
pub record Runs (words : List (List ℕ)) (before after : World) (status : ℕ) : Type 0 where
  pub ending : Ending
  pub status_is : status ≡ status_of ending
  pub ended : World
  pub meets : StartsWithout before ended ending ⊎ Meets (task_of words) before ended ending
  pub tells : Tells ending ended after

-- The words of a command line cannot be had: that is told, and nothing else is done.
pub record IsWordless (fault : Fault) (before after : World) (status : ℕ) : Type 0 where
  pub status_is : status ≡ status_of (Stopped fault)
  pub tells : Tells (Stopped fault) before after
