-- Bridge: what connections are served from, as the code holds it.
use Rattle.std.specs.Prelude.{◌≡◌}
use Rattle.ingest_desk.specs.Importers.{ImporterState}
use Rattle.session.specs.declared.backend.Backend as lent
use Rattle.session.specs.Exchanges.{Backend, backend}

-- what stays of it from one connection to the next, by what its importer is told as
abbrev pub state_of : {J I : Type 0} → (I → ImporterState) → lent.Backend J I → Backend
state_of importer it = backend it.pass.now (importer it.importer.now)

-- the pass and the importer are still those that were lent
pub record StaysLent {J I : Type 0} (old new : lent.Backend J I) : Type 0 where
  pub pass : new.pass.ghost_name ≡ old.pass.ghost_name
  pub importer : new.importer.ghost_name ≡ old.importer.ghost_name
