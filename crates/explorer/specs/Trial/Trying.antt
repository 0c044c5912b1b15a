-- Bridge: what the code of `trial` comes to on the way.
use Rattle.std.specs.Prelude.{◌≡◌, ◌≤◌, ℕ, List, [], ◌++◌, ◌∷◌, length}
use Rattle.std.specs.List.{AllByRecursion}
use Rattle.explorer_model.specs.declared.answer.Found.{Found}
use Rattle.explorer_model.specs.declared.archive.Batch.{Batch}
use Rattle.explorer_model.specs.declared.archive.Game.{Game}
use Rattle.explorer_model.specs.Cuts.{text_limit}
use Rattle.explorer_model.specs.Visits.{AreLegal, IsTextOf}
use Rattle.rand_pcg.specs.Lcg.{Lcg}
use Rattle.segment_blocks.specs.Segment.{CountedSpan}
use Rattle.sample_games.specs.Streams.{AreSamples, generator, joined}
use Rattle.explorer.specs.declared.trial.Tried.{Tried}
use Rattle.explorer.specs.Trial.{AreSamplesOf, IsDrained, IsFoundByDefault, StoresTexts}

-- ---- samples

-- the most bytes of a sample game
abbrev pub sample_limit : ℕ
sample_limit = 2048

-- the most sample games
abbrev pub samples_limit : ℕ
samples_limit = 131072

abbrev pub AreShort : List (List ℕ) → Type 0
AreShort texts = AllByRecursion (λ text. length text ≤ sample_limit) texts

-- the last of the texts, if there are any
abbrev pub IsLastOf : List (List ℕ) → List ℕ → Type 0
IsLastOf [] last = Unit {0}
IsLastOf (first ∷ texts) last =
    (earlier : List (List ℕ)) × (first ∷ texts ≡ earlier ++ last ∷ [])

-- So many sample games were drawn from the seed, and the generator is then as `draws`. Their texts
-- make this stream.
pub record AreDrawn (games seed : ℕ) (stream last : List ℕ) (draws : Lcg) : Type 0 where
  pub texts : List (List ℕ)
  pub drawn : AreSamples 0 (generator seed) texts draws
  pub count : length texts ≡ games
  pub short : AreShort texts
  pub joined_is : stream ≡ joined texts
  pub last_is : IsLastOf texts last

-- the stream is made of the texts, which are those of sample games, few and short
pub record IsStreamOf (texts : List (List ℕ)) (stream : List ℕ) : Type 0 where
  pub seed : ℕ
  pub are_samples : AreSamplesOf (length texts) seed texts
  pub few : length texts ≤ samples_limit
  pub short : AreShort texts
  pub joined_is : stream ≡ joined texts

-- the stream is made of some such texts
abbrev pub IsOfSamples : List ℕ → Type 0
IsOfSamples stream = (texts : List (List ℕ)) × IsStreamOf texts stream

-- the text has a game, and each of its moves is legal
pub record IsReadable (text : List ℕ) : Type 0 where
  pub short : length text ≤ text_limit
  pub game : Game
  pub is_game : IsTextOf text game
  pub legal : AreLegal game

-- ---- what is counted

-- the numbers of the segments that have the batches, and the totals over them
pub record IsTriedOver (batches : List Batch) (tried : Tried) : Type 0 where
  pub segments : List CountedSpan
  pub drained : IsDrained batches segments
  pub found : Found
  pub is_found : IsFoundByDefault batches found
  pub batches_are : tried.batches ≡ length batches
  pub segments_are : tried.segments ≡ length segments
  pub totals_are : tried.totals ≡ found.totals

-- the same for batches that have the texts
abbrev pub IsTriedOf : List (List ℕ) → Tried → Type 0
IsTriedOf texts tried =
    (batches : List Batch) × StoresTexts texts batches × IsTriedOver batches tried
