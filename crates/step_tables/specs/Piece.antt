-- Statement: how the pieces step (FIDE Laws 3.2 to 3.8), as lists of steps and by file and rank.
use Rattle.std.specs.Prelude.{◌≡◌, ◌≢◌, ℕ, ◌+◌, ◌≤◌, List, [], ◌∷◌, ◌++◌, pos, negsuc, ◌⊎◌}
use Rattle.step_tables.specs.Squares.{rank_of, files_apart, ranks_apart}
use Rattle.step_tables.specs.declared.step.Step.{Step}

abbrev pub north : Step
north = record { files = pos 0; ranks = pos 1 }

abbrev pub north_east : Step
north_east = record { files = pos 1; ranks = pos 1 }

abbrev pub east : Step
east = record { files = pos 1; ranks = pos 0 }

abbrev pub south_east : Step
south_east = record { files = pos 1; ranks = negsuc 0 }

abbrev pub south : Step
south = record { files = pos 0; ranks = negsuc 0 }

abbrev pub south_west : Step
south_west = record { files = negsuc 0; ranks = negsuc 0 }

abbrev pub west : Step
west = record { files = negsuc 0; ranks = pos 0 }

abbrev pub north_west : Step
north_west = record { files = negsuc 0; ranks = pos 1 }

abbrev pub knight_steps : List Step
knight_steps =
    record { files = pos 1; ranks = pos 2 } ∷ record { files = pos 2; ranks = pos 1 }
    ∷ record { files = pos 2; ranks = negsuc 0 } ∷ record { files = pos 1; ranks = negsuc 1 }
    ∷ record { files = negsuc 0; ranks = negsuc 1 } ∷ record { files = negsuc 1; ranks = negsuc 0 }
    ∷ record { files = negsuc 1; ranks = pos 1 } ∷ record { files = negsuc 0; ranks = pos 2 } ∷ []

abbrev pub king_steps : List Step
king_steps = north ∷ north_east ∷ east ∷ south_east ∷ south ∷ south_west ∷ west ∷ north_west ∷ []

abbrev pub white_pawn_steps : List Step
white_pawn_steps = north_east ∷ north_west ∷ []

abbrev pub black_pawn_steps : List Step
black_pawn_steps = south_east ∷ south_west ∷ []

abbrev pub rook_directions : List Step
rook_directions = north ∷ east ∷ south ∷ west ∷ []

abbrev pub bishop_directions : List Step
bishop_directions = north_east ∷ south_east ∷ south_west ∷ north_west ∷ []

abbrev pub queen_directions : List Step
queen_directions = rook_directions ++ bishop_directions

-- a knight's step: one file and two ranks, or two files and one rank
abbrev pub KnightStep : ℕ → ℕ → Type 0
KnightStep a b =
    ((files_apart a b ≡ 1) × (ranks_apart a b ≡ 2))
    ⊎ ((files_apart a b ≡ 2) × (ranks_apart a b ≡ 1))

-- a king's step: to an adjoining square
abbrev pub KingStep : ℕ → ℕ → Type 0
KingStep a b = (files_apart a b ≤ 1) × (ranks_apart a b ≤ 1) × (a ≢ b)

-- what a white pawn attacks: one rank up, on an adjoining file
abbrev pub WhitePawnStep : ℕ → ℕ → Type 0
WhitePawnStep a b = (rank_of b ≡ rank_of a + 1) × (files_apart a b ≡ 1)

-- what a black pawn attacks: one rank down, on an adjoining file
abbrev pub BlackPawnStep : ℕ → ℕ → Type 0
BlackPawnStep a b = (rank_of a ≡ rank_of b + 1) × (files_apart a b ≡ 1)
