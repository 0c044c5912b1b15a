-- Statement: the line that answers a query.
use Rattle.std.specs.Prelude.{◌≡◌, ◌++◌, ℕ, List, Vec, codes, map}
use Rattle.std.specs.Global.{Global}
use Rattle.explorer_model.specs.declared.answer.Found.{Found}
use Rattle.explorer_model.specs.declared.archive.Batch.{Batch}
use Rattle.explorer_model.specs.declared.opening.Naming.{Naming}
use Rattle.explorer_model.specs.declared.query.Query.{Query}
use Rattle.explorer_model.specs.Answer.{named_body}
use Rattle.explorer_model.specs.Finds.{IsFound}
use Rattle.explorer_model.specs.Openings.{IsNaming, NamedPosition}

-- the body of what is found, with the openings that are named, and a line end
abbrev pub answer_line : Found → Naming → List ℕ
answer_line found naming = named_body found naming ++ codes "\n"

-- what the book names for what is found for the query
abbrev pub IsNamingOf : List NamedPosition → Query → Found → Naming → Type 0
IsNamingOf book query found naming =
    IsNaming book query (map (λ line. line.next) found.moves) naming

-- the line of what is found for a query, by a book
abbrev pub IsLineOf : List NamedPosition → Query → Found → Vec ℕ Global → Type 0
IsLineOf book query found line = (naming : Naming)
    × IsNamingOf book query found naming × (line.items ≡ answer_line found naming)

-- the line that answers a query over a journal by a book
abbrev pub IsAnswer : List NamedPosition → Query → List Batch → Vec ℕ Global → Type 0
IsAnswer book query journal line = (found : Found) × (naming : Naming)
    × IsFound journal query found × IsNamingOf book query found naming
    × (line.items ≡ answer_line found naming)
