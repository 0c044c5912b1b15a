-- Statement: what is stored behind a desk, and what of it is published.
use Rattle.std.specs.Prelude.{List, None, Option}
use Rattle.explorer_model.specs.declared.archive.Batch.{Batch}
use Rattle.record_log.specs.Log.{Log}
use Rattle.published_index.specs.States.{Opened, Publishing, journal_by, publishing}

-- the manifest of the store; the published list, and the change that is held; the batch that failed
-- where a disk fault has closed the store
pub record Stored (D : Type 0) : Type 0 where
  pub manifest : Log D
  pub index : Publishing
  pub failed : Option Batch

-- the stored journal: what is published, and the batch of a held change behind it
abbrev pub journal : {D : Type 0} → Stored D → List Batch
journal stored = journal_by stored.index

-- ---- before the index has a name in types

-- the manifest of the store, and the index, which nothing is held of
pub record Nameless (D : Type 0) : Type 0 where
  pub manifest : Log D
  pub index : Opened

-- what is stored and published then
abbrev pub stored_by : {D : Type 0} → Nameless D → Stored D
stored_by nameless = record {
  manifest = nameless.manifest;
  index = publishing nameless.index.list;
  failed = None;
}
