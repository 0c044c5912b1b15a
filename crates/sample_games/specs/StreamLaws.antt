-- Laws: samples one behind another, one sample more, and the last of them.
use Rattle.std.proofs.Common.{◌≡◌, ℕ, ◌+◌, List, [], ◌∷◌, ◌++◌, length, refl, ap, subst, ◌∙◌, arith}
use Rattle.std.proofs.lemmas.Grind.{flat_map-append}
use Rattle.std.proofs.lemmas.List.{append-nil}
use Rattle.rand_pcg.specs.Lcg.{Lcg}
use Rattle.sample_games.specs.Samples.{IsSample}
use Rattle.sample_games.specs.Streams.{AreSamples, joined}

-- ---- one more sample

pub samples-on : (first : ℕ) (before middle behind : Lcg) (texts : List (List ℕ)) (text : List ℕ)
    → AreSamples first before texts middle → IsSample (first + length texts) middle text behind
    → AreSamples first before (texts ++ text ∷ []) behind
samples-on first before middle behind [] text same sample =
    let number : first + 0 ≡ first = omega arith in
    let here : IsSample first middle text behind = subst (λ (n : ℕ). IsSample n middle text behind) number sample in
    (behind, subst (λ (draws : Lcg). IsSample first draws text behind) same here, refl)
samples-on first before middle behind (one ∷ texts) text are sample =
    let number : first + length (one ∷ texts) ≡ (first + 1) + length texts = omega arith in
    let here : IsSample ((first + 1) + length texts) middle text behind =
    subst (λ (n : ℕ). IsSample n middle text behind) number sample
    in
    (are.0, are.1, samples-on (first + 1) are.0 middle behind texts text are.2 here)

pub joined-on : (texts : List (List ℕ)) (text : List ℕ) → joined (texts ++ text ∷ []) ≡ joined texts ++ text
joined-on texts text =
    flat_map-append (λ (t : List ℕ). t) texts (text ∷ [])
    ∙ ap (λ (l : List ℕ). joined texts ++ l) (append-nil text)

-- ---- the last sample

-- a text is a sample of some number
pub record IsSomeSample (text : List ℕ) : Type 0 where
  pub index : ℕ
  pub before : Lcg
  pub behind : Lcg
  pub sample : IsSample index before text behind

pub last_sample : (first : ℕ) (before behind : Lcg) (earlier : List (List ℕ)) (text : List ℕ)
    → AreSamples first before (earlier ++ text ∷ []) behind → IsSomeSample text
last_sample first before behind [] text are = record { index = first; before = before; behind = are.0; sample = are.1 }
last_sample first before behind (one ∷ earlier) text are = last_sample (first + 1) are.0 behind earlier text are.2
