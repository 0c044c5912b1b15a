-- Statement: jobs that leaves take one after another, each with its number.
use Rattle.std.specs.Prelude.{◌≡◌, ℕ, ◌<◌, List, IfOk, length, slice_index_or}
use Rattle.std.specs.List.{All}
use Rattle.std.specs.Fork.{GivesJob}
use denote.Param.Members.{Shared}
use Rattle.side_by_side.specs.Taking.{Leaf}

-- the job is the one of that number
abbrev pub IsJob : {J : Type 0} → List J → ℕ → J → Type 0
IsJob {J} jobs number job = (number < length jobs) × ((d : J) → slice_index_or jobs number d ≡ job)

-- each number that a leaf took stands with what a call of f may give for the job of that number
abbrev pub TakesJobs : {F J X : Type 0} → Shared F (J × Unit {0}) X → F → List J → Leaf X → Type 0
TakesJobs g f jobs leaf = IfOk leaf (λ taken. All (λ one. GivesJob g f jobs one.0 one.1) taken.items)
