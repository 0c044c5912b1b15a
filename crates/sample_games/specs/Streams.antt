-- Statement. Sample games as one stream.
use Rattle.std.specs.Prelude.{◌≡◌, ℕ, ◌+◌, List, [], ◌∷◌}
use Rattle.std.specs.List.{flat_map}
use Rattle.rand_pcg.specs.Lcg.{Lcg, increment_of, started}
use Rattle.rand_pcg.specs.Pcg.{multiplier_64}
use Rattle.sample_games.specs.Samples.{IsSample}

-- the texts are those of the games from this number on, each drawn behind the one before
abbrev pub AreSamples : ℕ → Lcg → List (List ℕ) → Lcg → Type 0
AreSamples first before [] behind = behind ≡ before
AreSamples first before (text ∷ texts) behind =
    (next : Lcg) × IsSample first before text next × AreSamples (first + 1) next texts behind

-- the generator of a seed
abbrev pub generator : ℕ → Lcg
generator seed = started 64 multiplier_64 seed (increment_of 64 1)

-- texts one behind another
abbrev pub joined : List (List ℕ) → List ℕ
joined texts = flat_map (λ text. text) texts
