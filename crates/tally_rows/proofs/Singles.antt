-- The singles of games that are taken at first visits.
use Rattle.std.proofs.Common.{◌≡◌, ℕ, ◌+◌, Bool, true, false, cond, if◌then◌else◌, ◌||◌, true≢false, List, [], ◌∷◌, ◌++◌, map, Option, Some, None, sym, ap, ◌∙◌, refl, bytes_eq, filter, find}
use Rattle.std.specs.Prelude.{option_map}
use Rattle.std.specs.List.{list_any, enumerate_from}
use Rattle.std.proofs.lemmas.Bool.{false_from_ne_true}
use Rattle.std.proofs.lemmas.List.Folds.{list_any-append}
use Rattle.std.proofs.lemmas.List.Elements.{filter-append}
use Rattle.std.proofs.lemmas.Option.{none-some}
use Rattle.std.specs.Prelude.{unwrap_or}
use Rattle.plain_laws.specs.Bytes.{bytes_eq-is, bytes_eq-self}
use Rattle.explorer_model.specs.declared.archive.Classes.{Classes}
use Rattle.tally_rows.specs.declared.row_key.RowKey.{RowKey}
use Rattle.tally_rows.specs.declared.single.Single.{Single}
use Rattle.tally_rows.specs.Games.{has_key, first_steps, row_key_in, single_at, game_singles, singles_from}
use Rattle.tally_rows.specs.RowKey.{same_row_key}
use Rattle.tally_rows.specs.Single.{single_of, AreSingles}
use Rattle.tally_rows.specs.Track.{Step, Track, visit, row_keys_at, is_some_where, has}
use Rattle.tally_rows.proofs.RowOrder.{same_row_key-is}

-- ---- keys

-- ---- one game

-- the singles with these parts
abbrev pub with_row_key : RowKey → List Single → List Single
with_row_key c singles = filter (λ s. same_row_key c s.row_key) singles

-- the single of a step, if it has the parts
abbrev pub hit : RowKey → Classes → ℕ → Option Step → List Single
hit c classes number None = []
hit c classes number (Some step) = cond (same_row_key c (row_key_in classes step)) (single_at classes number step ∷ []) []

has-key-of : (c : RowKey) (classes : Classes) (step : Step) → same_row_key c (row_key_in classes step) ≡ true → has_key c.key step ≡ true
has-key-of c classes step is = ap (λ k. bytes_eq step.key k) (ap (λ p. p.key) (same_row_key-is c (row_key_in classes step) is)) ∙ bytes_eq-self step.key

other-row_key : (c : RowKey) (classes : Classes) (step : Step) → has_key c.key step ≡ false → same_row_key c (row_key_in classes step) ≡ false
other-row_key c classes step other =
    false_from_ne_true (same_row_key c (row_key_in classes step)) (λ is. true≢false (sym (has-key-of c classes step is) ∙ other))

drops : (c : RowKey) (classes : Classes) (number : ℕ) (step : Step) (rest : List Step) (before : Bool) → same_row_key c (row_key_in classes step) ≡ false
    → with_row_key c (map (single_at classes number) (if before then rest else step ∷ rest)) ≡ with_row_key c (map (single_at classes number) rest)
drops c classes number step rest true is = refl
drops c classes number step rest false is =
    ap (λ b. cond b (single_at classes number step ∷ with_row_key c (map (single_at classes number) rest)) (with_row_key c (map (single_at classes number) rest))) is

-- the singles of the steps that are first ones behind earlier ones
abbrev pub first_singles : Classes → ℕ → List Step → List Step → List Single
first_singles classes number earlier steps = map (single_at classes number) (first_steps earlier steps)

-- a step with the key of the parts is no first one where an earlier step has that key
seen_before : (c : RowKey) (classes : Classes) (number : ℕ) (earlier steps : List Step) → list_any (has_key c.key) earlier ≡ true
    → with_row_key c (first_singles classes number earlier steps) ≡ []
seen_before c classes number earlier [] is = refl
seen_before c classes number earlier (step ∷ steps) is =
    let more : list_any (has_key c.key) (earlier ++ step ∷ []) ≡ true =
    list_any-append (has_key c.key) earlier (step ∷ []) ∙ ap (λ b. b || list_any (has_key c.key) (step ∷ [])) is in
    let rest = seen_before c classes number (earlier ++ step ∷ []) steps more in
    seen_before-by c classes number earlier step (first_steps (earlier ++ step ∷ []) steps) is rest (list_any (has_key step.key) earlier) refl
  where
    seen_before-by : (c : RowKey) (classes : Classes) (number : ℕ) (earlier : List Step) (step : Step) (rest : List Step)
        → list_any (has_key c.key) earlier ≡ true → with_row_key c (map (single_at classes number) rest) ≡ []
        → (b : Bool) → list_any (has_key step.key) earlier ≡ b
        → with_row_key c (map (single_at classes number) (if b then rest else step ∷ rest)) ≡ []
    seen_before-by c classes number earlier step rest is none true before = none
    seen_before-by c classes number earlier step rest is none false before =
        let other : has_key c.key step ≡ false = false_from_ne_true (has_key c.key step) (λ has.
        true≢false (sym is ∙ ap (λ k. list_any (has_key k) earlier) (sym (bytes_eq-is step.key c.key has)) ∙ before)) in
        ap (λ b. cond b (single_at classes number step ∷ with_row_key c (map (single_at classes number) rest)) (with_row_key c (map (single_at classes number) rest)))
        (other-row_key c classes step other)
        ∙ none

unseen : (c : RowKey) (classes : Classes) (number : ℕ) (earlier steps : List Step) → list_any (has_key c.key) earlier ≡ false
    → with_row_key c (first_singles classes number earlier steps) ≡ hit c classes number (find (has_key c.key) steps)
unseen c classes number earlier [] none = refl
unseen c classes number earlier (step ∷ steps) none =
    unseen-by c classes number earlier step steps none (λ after. unseen c classes number (earlier ++ step ∷ []) steps after) (has_key c.key step) refl
  where
    unseen-by : (c : RowKey) (classes : Classes) (number : ℕ) (earlier : List Step) (step : Step) (steps : List Step)
        → list_any (has_key c.key) earlier ≡ false
        → (list_any (has_key c.key) (earlier ++ step ∷ []) ≡ false
        → with_row_key c (first_singles classes number (earlier ++ step ∷ []) steps) ≡ hit c classes number (find (has_key c.key) steps))
        → (b : Bool) → has_key c.key step ≡ b
        → with_row_key c (first_singles classes number earlier (step ∷ steps)) ≡ hit c classes number (if b then Some step else find (has_key c.key) steps)
    unseen-by c classes number earlier step steps none later true is =
        let F : List Step → List Single = λ ss. map (single_at classes number) ss in
        let rest : List Step = first_steps (earlier ++ step ∷ []) steps in
        let first : list_any (has_key step.key) earlier ≡ false = ap (λ k. list_any (has_key k) earlier) (bytes_eq-is step.key c.key is) ∙ none in
        let known : list_any (has_key c.key) (earlier ++ step ∷ []) ≡ true =
        list_any-append (has_key c.key) earlier (step ∷ [])
        ∙ ap (λ b. b || list_any (has_key c.key) (step ∷ [])) none
        ∙ ap (λ b. false || (b || false)) is in
        ap (λ b. with_row_key c (F (if b then rest else step ∷ rest))) first
        ∙ ap (λ l. cond (same_row_key c (row_key_in classes step)) (single_at classes number step ∷ l) l) (seen_before c classes number (earlier ++ step ∷ []) steps known)
    unseen-by c classes number earlier step steps none later false is =
        let F : List Step → List Single = λ ss. map (single_at classes number) ss in
        let rest : List Step = first_steps (earlier ++ step ∷ []) steps in
        let unknown : list_any (has_key c.key) (earlier ++ step ∷ []) ≡ false =
        list_any-append (has_key c.key) earlier (step ∷ [])
        ∙ ap (λ b. b || list_any (has_key c.key) (step ∷ [])) none
        ∙ ap (λ b. false || (b || false)) is in
        drops c classes number step rest (list_any (has_key step.key) earlier)
        (other-row_key c classes step is)
        ∙ later unknown

-- ---- the singles of a game are those of its parts

found-key : (key : List ℕ) (steps : List Step) (step : Step) → find (has_key key) steps ≡ Some step → step.key ≡ key
found-key key [] step is = absurd (none-some step is)
found-key key (first ∷ steps) step is = found-by key first steps step (λ later. found-key key steps step later) (has_key key first) refl is
  where
    found-by : (key : List ℕ) (first : Step) (steps : List Step) (step : Step) → (find (has_key key) steps ≡ Some step → step.key ≡ key)
        → (b : Bool) → has_key key first ≡ b → (if b then Some first else find (has_key key) steps) ≡ Some step → step.key ≡ key
    found-by key first steps step later true same is = ap (λ o. (unwrap_or o step).key) (sym is) ∙ bytes_eq-is first.key key same
    found-by key first steps step later false same is = later is

-- the parts of a game at the key of others, where its first step with that key is known
abbrev pub row_keys_found : List ℕ → Classes → Option Step → Option RowKey
row_keys_found key classes found = option_map
    (λ next. record { key = key; next = next; month = classes.month; speed = classes.speed; group = classes.group })
    (option_map (λ step. step.next) found)

single-known : (c : RowKey) (number : ℕ) (track : Track) (step : Step) → row_key_in track.classes step ≡ c
    → single_at track.classes number step ≡ single_of c (number, track)
single-known c number track step is = ap (λ p. single_of p (number, track)) is

hit-found : (c : RowKey) (number : ℕ) (track : Track) (found : Option Step)
    → ((step : Step) → found ≡ Some step → step.key ≡ c.key)
    → hit c track.classes number found
    ≡ map (single_of c) (cond (is_some_where (same_row_key c) (row_keys_found c.key track.classes found)) ((number, track) ∷ []) [])
hit-found c number track None keyed = refl
hit-found c number track (Some step) keyed =
    let same : row_key_in track.classes step ≡ record { key = c.key; next = step.next; month = track.classes.month; speed = track.classes.speed; group = track.classes.group } =
    ap (λ k. record { key = k; next = step.next; month = track.classes.month; speed = track.classes.speed; group = track.classes.group }) (keyed step refl) in
    hit-by (same_row_key c (row_key_in track.classes step)) refl
    ∙ ap (λ p. map (single_of c) (cond (same_row_key c p) ((number, track) ∷ []) [])) same
  where
    hit-by : (b : Bool) → same_row_key c (row_key_in track.classes step) ≡ b
        → cond b (single_at track.classes number step ∷ []) [] ≡ map (single_of c) (cond b ((number, track) ∷ []) [])
    hit-by true is = ap (λ s. s ∷ []) (single-known c number track step (sym (same_row_key-is c (row_key_in track.classes step) is)))
    hit-by false is = refl

game-with-row_key : (c : RowKey) (number : ℕ) (track : Track)
    → with_row_key c (game_singles number track) ≡ map (single_of c) (cond (has c track) ((number, track) ∷ []) [])
unfolding has row_keys_at visit
game-with-row_key c number track =
    unseen c track.classes number [] track.steps refl
    ∙ hit-found c number track (find (has_key c.key) track.steps) (λ step is. found-key c.key track.steps step is)

-- ---- all games

pub games-with-row_key : (c : RowKey) (first : ℕ) (tracks : List Track)
    → with_row_key c (singles_from first tracks) ≡ map (single_of c) (filter (λ p. has c p.1) (enumerate_from first tracks))
games-with-row_key c first [] = refl
games-with-row_key c first (track ∷ tracks) =
    filter-append (λ s. same_row_key c s.row_key) (game_singles first track) (singles_from (first + 1) tracks)
    ∙ ap (λ l. l ++ with_row_key c (singles_from (first + 1) tracks)) (game-with-row_key c first track)
    ∙ ap (λ l. map (single_of c) (cond (has c track) ((first, track) ∷ []) []) ++ l) (games-with-row_key c (first + 1) tracks)
    ∙ join (has c track) (filter (λ p. has c p.1) (enumerate_from (first + 1) tracks))
  where
    join : (b : Bool) (rest : List (ℕ × Track))
        → map (single_of c) (cond b ((first, track) ∷ []) []) ++ map (single_of c) rest ≡ map (single_of c) (cond b ((first, track) ∷ rest) rest)
    join true rest = refl
    join false rest = refl

pub first-visits : (tracks : List Track) → AreSingles tracks (singles_from 0 tracks)
first-visits tracks = record { at = λ c. games-with-row_key c 0 tracks }
