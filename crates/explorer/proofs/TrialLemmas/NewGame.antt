-- A stream of sample games is texts of new games alone, which find room.
use Rattle.std.proofs.Common.{◌≡◌, ℕ, zero, suc, ◌+◌, ◌*◌, ◌<◌, ◌≤◌, true, nat_le, List, [], ◌∷◌, get_or, length, map, sum_by, refl, sym, ap, subst, ◌∙◌, arith}
use Rattle.std.specs.List.{AllZip}
use Rattle.std.proofs.lemmas.Bool.Decides.{nat_tests}
use Rattle.std.proofs.lemmas.List.{length-map}
use Rattle.std.proofs.lemmas.List.Concat.{length-flat_map}
use Rattle.std.proofs.lemmas.List.Sums.{sum_by-cons}
use Rattle.explorer_model.specs.declared.archive.Batch.{Batch}
use Rattle.explorer_model.specs.declared.archive.Classes.{Classes}
use Rattle.explorer_model.specs.declared.archive.Game.{Game}
use Rattle.explorer_model.specs.declared.archive.Placed.{Placed}
use Rattle.explorer_model.specs.Cuts.{Cut, Text, cut_at, cuts, cuts_of}
use Rattle.explorer_model.specs.Journal.{HaveDifferentIds, input_limit}
use Rattle.rand_pcg.specs.Lcg.{Lcg}
use Rattle.import_run.specs.Faultless.{FindRoom, HasGame, HasNewGames}
use Rattle.sample_games.specs.Samples as samples
use Rattle.sample_games.specs.Samples.{IsSample, id_text}
use Rattle.sample_games.specs.Streams.{AreSamples, generator, joined}
use Rattle.explorer.specs.Trial.Trying.{AreShort, IsStreamOf}

-- ---- places

-- the texts where they stand in a stream, the first at a place
abbrev pub placed_at : ℕ → List (List ℕ) → List Placed
placed_at place [] = []
placed_at place (text ∷ texts) = record { place = place; bytes = text } ∷ placed_at (place + length text) texts

pub bytes_placed : (place : ℕ) (texts : List (List ℕ)) → map (λ (text : Placed). text.bytes) (placed_at place texts) ≡ texts
bytes_placed place [] = refl
bytes_placed place (text ∷ texts) = ap (λ (l : List (List ℕ)). text ∷ l) (bytes_placed (place + length text) texts)

count_placed : (place : ℕ) (texts : List (List ℕ)) → length (placed_at place texts) ≡ length texts
count_placed place texts = sym (length-map (placed_at place texts) (λ (text : Placed). text.bytes)) ∙ ap length (bytes_placed place texts)

cuts_placed : (place : ℕ) (texts : List (List ℕ)) → AreShort texts → cuts_of place texts ≡ map (λ (text : Placed). Text text) (placed_at place texts)
unfolding cuts_of cut_at
cuts_placed place [] short = refl
cuts_placed place (text ∷ texts) short =
    let within : nat_le (length text) 65536 ≡ true = grind (arith, nat_tests, short.0) in
    rw within (ap (λ (l : List Cut). Text (record { place = place; bytes = text }) ∷ l) (cuts_placed (place + length text) texts short.1))

-- ---- room

size_placed : (place : ℕ) (texts : List (List ℕ)) → AreShort texts → sum_by (λ (text : Placed). length text.bytes) (placed_at place texts) ≤ 2048 * length texts
size_placed place [] short = omega arith
size_placed place (text ∷ texts) short =
    omega (
      arith,
      sum_by-cons (λ (x : Placed). length x.bytes) (record { place = place; bytes = text }) (placed_at (place + length text) texts),
      short.0,
      size_placed (place + length text) texts short.1,
    )

size_of : (texts : List (List ℕ)) → AreShort texts → sum_by (λ (text : List ℕ). length text) texts ≤ 2048 * length texts
size_of [] short = omega arith
size_of (text ∷ texts) short = omega (arith, sum_by-cons (λ (x : List ℕ). length x) text texts, short.0, size_of texts short.1)

pub find_room : (journal : List Batch) (texts : List (List ℕ)) (stream : List ℕ) → journal ≡ [] → IsStreamOf texts stream → FindRoom journal (placed_at 0 texts)
find_room journal texts stream empty is =
    let games : 0 + length (placed_at 0 texts) ≤ 262144 = omega (arith, count_placed 0 texts, is.few) in
    let bytes : 0 + sum_by (λ (text : Placed). length text.bytes) (placed_at 0 texts) ≤ 536870912 = omega (arith, size_placed 0 texts is.short, is.few) in
    subst (λ (j : List Batch). FindRoom j (placed_at 0 texts)) (sym empty) (games, bytes)

pub below_limit : (texts : List (List ℕ)) (stream : List ℕ) → IsStreamOf texts stream → length stream < input_limit
below_limit texts stream is =
    omega (arith, ap length is.joined_is, length-flat_map (λ (text : List ℕ). text) texts, size_of texts is.short, is.few)

-- ---- games

-- the ids of the games are those of the numbers from this one on
abbrev AreNumbered : ℕ → List Game → Type 0
AreNumbered first [] = Unit {0}
AreNumbered first (game ∷ games) = (game.classes.id.bytes ≡ id_text first) × AreNumbered (first + 1) games

record HaveGames (first place : ℕ) (texts : List (List ℕ)) : Type 0 where
  games : List Game
  are_games : AllZip HasGame (placed_at place texts) games
  count : length games ≡ length texts
  numbered : AreNumbered first games

have_games : ((index : ℕ) (before behind : Lcg) (text : List ℕ) → (sample : IsSample index before text behind) → samples.HasGame index text sample.moves)
    → (first place : ℕ) (before behind : Lcg) (texts : List (List ℕ)) → AreSamples first before texts behind → HaveGames first place texts
have_games has first place before behind [] are = record { games = []; are_games = tt; count = refl; numbered = tt }
have_games has first place before behind (text ∷ texts) are =
    let here = has first before are.0 text are.1 in
    let later = have_games has (first + 1) (place + length text) are.0 behind texts are.2 in
    record {
      games = here.game ∷ later.games;
      are_games = (here.of_text, later.are_games);
      count = ap suc later.count;
      numbered = (here.id_is, later.numbered);
    }

abbrev classes_in : List Game → List Classes
classes_in games = map (λ (game : Game). game.classes) games

numbered_at : (first : ℕ) (games : List Game) (i : ℕ) (d : Classes) → AreNumbered first games → i < length games → (let c : Classes = get_or (classes_in games) i d in c.id.bytes) ≡ id_text (first + i)
numbered_at first [] i d are lt = absurd (omega (arith, lt))
numbered_at first (game ∷ games) zero d are lt = are.0 ∙ ap id_text (let same : first ≡ first + 0 = omega arith in same)
numbered_at first (game ∷ games) (suc i) d are lt =
    numbered_at (first + 1) games i d are.1 (omega (arith, lt)) ∙ ap id_text (let same : (first + 1) + i ≡ first + suc i = omega arith in same)

different : ((m n : ℕ) → m < 131072 → n < 131072 → id_text m ≡ id_text n → m ≡ n) → (games : List Game) → AreNumbered 0 games → length games ≤ 131072 → HaveDifferentIds (classes_in games)
different differ games are few i j d lt below =
    λ same.
    (let long = length-map games (λ (game : Game). game.classes) in
    let first : i < length games = omega (arith, lt, below, long) in
    let second : j < length games = omega (arith, below, long) in
    let equal = differ (0 + i) (0 + j) (omega (arith, first, few)) (omega (arith, second, few)) (sym (numbered_at 0 games i d are first) ∙ same ∙ numbered_at 0 games j d are second) in
    omega (arith, lt, equal))

-- the stream is texts of new games: these, where they stand
pub record AreNew (texts : List (List ℕ)) (stream : List ℕ) : Type 0 where
  pub new : HasNewGames [] stream
  pub texts_are : new.texts ≡ placed_at 0 texts

pub new_games : ((first : ℕ) (before behind : Lcg) (texts : List (List ℕ)) → AreSamples first before texts behind → cuts (joined texts) ≡ cuts_of 0 texts)
    → ((index : ℕ) (before behind : Lcg) (text : List ℕ) → (sample : IsSample index before text behind) → samples.HasGame index text sample.moves)
    → ((m n : ℕ) → m < 131072 → n < 131072 → id_text m ≡ id_text n → m ≡ n)
    → (texts : List (List ℕ)) (stream : List ℕ) → IsStreamOf texts stream → AreNew texts stream
new_games cut has differ texts stream is =
    let drawn = is.are_samples.drawn in
    let have = have_games has 0 0 (generator is.seed) is.are_samples.behind texts drawn in
    record {
      new = record {
        texts = placed_at 0 texts;
        all = ap cuts is.joined_is ∙ cut 0 (generator is.seed) is.are_samples.behind texts drawn ∙ cuts_placed 0 texts is.short;
        games = have.games;
        are_games = have.are_games;
        different = different differ have.games have.numbered (omega (arith, have.count, is.few));
      };
      texts_are = refl;
    }
