-- Steps and words whose marks are set.
use Rattle.std.proofs.Common.{◌≡◌, ℕ, ◌+◌, ◌<◌, Bool, true, false, List, [], ◌∷◌, ◌++◌, None, Some, if◌then◌else◌, map, find, take, length, get_or, set, bytes_eq, refl, sym, ap, ◌∙◌, subst, inl, inr}
use Rattle.std.specs.List.{list_any}
use Rattle.std.proofs.lemmas.Bool.{cases_eq}
use Rattle.std.proofs.lemmas.Slice.Eq.{bytes_eq-Decides}
use Rattle.std.proofs.lemmas.List.{get_or-set_same, get_or-set_other}
use Rattle.std.proofs.lemmas.List.Elements.{All-head, All-tail, All-push, All-weaker}
use Rattle.explorer_model.specs.declared.archive.Game.{Game}
use Rattle.explorer_model.specs.Imports.{has_id_of}
use Rattle.tally_rows.specs.Games.{has_key}
use Rattle.tally_rows.specs.SortEntry.{spelled}
use Rattle.batch_tally.specs.declared.accepting.Accepted.{Accepted}
use Rattle.batch_tally.specs.declared.step.Step.{Step}
use Rattle.batch_tally.specs.Accepting.{candidate_as, id_word_of}
use Rattle.batch_tally.specs.Marks.{mark_of, AreMarked, id_mark_of, AreIdsMarked}
use Rattle.batch_tally.specs.Steps.{step_as}
use Rattle.batch_tally.specs.Tag.{tag_of}
use Rattle.batch_tally.proofs.Pushing.{before-of}

abbrev IsMarked : List Bool → Step → Type 0
IsMarked marks step = get_or marks (mark_of step.tag) false ≡ true

-- a step whose mark is not set has the key of none that is marked
pub not_visited : (marks : List Bool) (sought : Step) → get_or marks (mark_of sought.tag) false ≡ false
    → (steps : List Step) → AreMarked marks steps → list_any (has_key sought.key) (map step_as steps) ≡ false
not_visited marks sought unset [] all = refl
not_visited marks sought unset (step ∷ steps) all =
    rw (other (bytes_eq step.key sought.key) refl) (not_visited marks sought unset steps (All-tail (IsMarked marks) step steps all))
  where
    other : (b : Bool) → bytes_eq step.key sought.key ≡ b → bytes_eq step.key sought.key ≡ false
    other false e = e
    other true e =
        let keys : step.key ≡ sought.key = (bytes_eq-Decides step.key sought.key).0 e in
        let tags : step.tag ≡ sought.tag = step.told ∙ ap tag_of keys ∙ sym sought.told in
        let there : get_or marks (mark_of step.tag) false ≡ true = All-head (IsMarked marks) step steps all in
        let no_way : true ≡ false = sym there ∙ ap (λ (tag : ℕ). get_or marks (mark_of tag) false) tags ∙ unset in
        cc

kept : (marks : List Bool) (k m : ℕ) → k < length marks → get_or marks m false ≡ true → get_or (set marks k true) m false ≡ true
kept marks k m within e = elim (cases_eq m k) [
  | inl same ↦ (let P : ℕ → Type 0 = λ n. get_or (set marks k true) n false ≡ true in subst P (sym same) (get_or-set_same marks k true false within))
  | inr apart ↦ get_or-set_other marks k m true false apart ∙ e
]

-- one more step is marked
pub marked_more : (marks : List Bool) (steps : List Step) (place : ℕ) (step : Step) (mark : ℕ) → place < length steps → get_or steps place step ≡ step
    → mark ≡ mark_of step.tag → mark < length marks → AreMarked marks (take place steps) → AreMarked (set marks mark true) (take (place + 1) steps)
marked_more marks steps place step mark below is told within so_far =
    subst (AreMarked (set marks mark true)) (sym (before-of steps place step below is))
    (All-push (IsMarked (set marks mark true)) (take place steps) step
    (All-weaker (IsMarked marks) (IsMarked (set marks mark true)) (λ s e. kept marks mark (mark_of s.tag) within e) (take place steps) so_far)
    (ap (λ (n : ℕ). get_or (set marks mark true) n false) (sym told) ∙ get_or-set_same marks mark true false within))

-- ---- words of ids

abbrev IsIdMarked : List Bool → ℕ → Type 0
IsIdMarked marks word = get_or marks (id_mark_of word) false ≡ true

-- a game whose mark is not set has the id of no text whose word is marked
none-by : (marks : List Bool) (game : Game) (word : ℕ) → get_or marks (id_mark_of word) false ≡ false → word ≡ spelled game.classes.id.bytes 0 8
    → (done : List Accepted) → AreIdsMarked marks (map id_word_of done) → find (has_id_of game) (map candidate_as done) ≡ None
none-by marks game word unset told [] all = refl
none-by marks game word unset told (a ∷ done) all =
    ap (λ b. if b then Some (candidate_as a) else find (has_id_of game) (map candidate_as done)) (other (has_id_of game (candidate_as a)) refl)
    ∙ none-by marks game word unset told done (All-tail (IsIdMarked marks) (id_word_of a) (map id_word_of done) all)
  where
    other : (b : Bool) → has_id_of game (candidate_as a) ≡ b → has_id_of game (candidate_as a) ≡ false
    other false e = e
    other true e =
        let ids : a.game.classes.id.bytes ≡ game.classes.id.bytes = (bytes_eq-Decides a.game.classes.id.bytes game.classes.id.bytes).0 e in
        let words : id_word_of a ≡ word = ap (λ (bytes : List ℕ). spelled bytes 0 8) ids ∙ sym told in
        let there : get_or marks (id_mark_of (id_word_of a)) false ≡ true =
        All-head (IsIdMarked marks) (id_word_of a) (map id_word_of done) all in
        let no_way : true ≡ false = sym there ∙ ap (λ (n : ℕ). get_or marks (id_mark_of n) false) words ∙ unset in
        cc

pub none_with_id : (marks : List Bool) (game : Game) (word : ℕ) → get_or marks (id_mark_of word) false ≡ false → word ≡ spelled game.classes.id.bytes 0 8
    → (done : List Accepted) (words : List ℕ) → words ≡ map id_word_of done → AreIdsMarked marks words
    → find (has_id_of game) (map candidate_as done) ≡ None
none_with_id marks game word unset told done words are all = none-by marks game word unset told done (subst (AreIdsMarked marks) are all)

-- one more word is marked
pub id_marked_more : (marks : List Bool) (words more : List ℕ) (word mark : ℕ) → more ≡ words ++ word ∷ [] → mark ≡ id_mark_of word → mark < length marks
    → AreIdsMarked marks words → AreIdsMarked (set marks mark true) more
id_marked_more marks words more word mark pushed told within so_far =
    subst (AreIdsMarked (set marks mark true)) (sym pushed)
    (All-push (IsIdMarked (set marks mark true)) words word
    (All-weaker (IsIdMarked marks) (IsIdMarked (set marks mark true)) (λ w e. kept marks mark (id_mark_of w) within e) words so_far)
    (ap (λ (n : ℕ). get_or (set marks mark true) n false) (sym told) ∙ get_or-set_same marks mark true false within))
