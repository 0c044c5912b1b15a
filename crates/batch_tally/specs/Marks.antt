-- Bridge: marks of steps, of which those with equal keys have one, and of the words of ids.
use Rattle.std.specs.Prelude.{◌≡◌, ℕ, ◌*◌, ◌/◌, ◌%◌, ◌^◌, Bool, true, false, List, slice_index_or}
use Rattle.std.specs.List.{All}
use Rattle.batch_tally.specs.declared.step.Step.{Step}

-- the first byte of a tag that is spread: the multiplier is 2 to the 64 by the golden ratio
abbrev pub mark_of : ℕ → ℕ
mark_of tag = ((tag * 11400714819323198485) % 2 ^ 64) / 2 ^ 56

-- the mark of each step is set
abbrev pub AreMarked : List Bool → List Step → Type 0
AreMarked marks steps = All (λ step. slice_index_or marks (mark_of step.tag) false ≡ true) steps

-- the first 12 bits of the word of an id that is spread by the same multiplier
abbrev pub id_mark_of : ℕ → ℕ
id_mark_of word = ((word * 11400714819323198485) % 2 ^ 64) / 2 ^ 52

-- the mark of each word is set
abbrev pub AreIdsMarked : List Bool → List ℕ → Type 0
AreIdsMarked marks words = All (λ word. slice_index_or marks (id_mark_of word) false ≡ true) words
