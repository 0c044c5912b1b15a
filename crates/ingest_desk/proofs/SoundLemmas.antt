-- Fronts of sound journals, and the one place from which a journal is not sound.
use Rattle.std.proofs.Common.{◌≡◌, ◌≢◌, ◌⊎◌, inl, inr, ℕ, List, [], ◌∷◌, ◌++◌, length, get_or, sum_by, Result, Ok, Err, refl, sym, ap, ◌∙◌, subst, arith, length-append}
use Rattle.std.proofs.lemmas.Grind.{flat_map-append}
use Rattle.std.proofs.lemmas.List.{append_assoc, get_or_append_left, map-append}
use Rattle.std.proofs.lemmas.List.Sums.{sum_by-append}
use Rattle.std.specs.List.{All, AllPairs, AllZip}
use Rattle.explorer_model.specs.declared.archive.Batch.{Batch}
use Rattle.explorer_model.specs.declared.archive.Classes.{Classes}
use Rattle.explorer_model.specs.declared.archive.Game.{Game}
use Rattle.explorer_model.specs.declared.store.LogFault.{LogFault}
use Rattle.explorer_model.specs.declared.store.LogFault.TheVariants.{Damaged}
use Rattle.explorer_model.specs.Journal.{HaveDifferentIds, IsBatch, IsSound}
use Rattle.explorer_model.specs.StoreFile.{store_of}
use Rattle.explorer_model.specs.Visits.{IsTextOf, texts_of}
use Rattle.manifest.specs.Manifest.{HasJournal}
use Rattle.ingest_desk.specs.Openings.{IsWrong}
use Rattle.ingest_desk.specs.Recounts.{IsUnsoundAt}
use Rattle.ingest_desk.proofs.RecountLemmas.{classes_of}

-- ---- fronts

front_all : {X : Type 0} (P : X → Type 0) (xs ys : List X) → All P (xs ++ ys) → All P xs
front_all P xs ys all k d lt =
    subst P (get_or_append_left xs ys d k lt) (all k d (omega (arith, lt, length-append xs ys)))

pub front_pairs : {X : Type 0} (R : X → X → Type 0) (xs ys : List X) → AllPairs R (xs ++ ys) → AllPairs R xs
front_pairs {X} R xs ys all i j d lt below =
    let left = get_or_append_left xs ys d i (omega (arith, lt, below)) in
    let right = get_or_append_left xs ys d j below in
    let P : X → Type 0 = λ x. R x (get_or xs j d) in
    let Q : X → Type 0 = λ y. R (get_or (xs ++ ys) i d) y in
    subst P left (subst Q right (all i j d lt (omega (arith, below, length-append xs ys))))

record FrontZip {A B : Type 0} (R : A → B → Type 0) (xs : List A) (zs : List B) : Type 0 where
  front : List B
  rest : List B
  is : zs ≡ front ++ rest
  zip : AllZip R xs front

front_zip : {A B : Type 0} (R : A → B → Type 0) (xs ys : List A) (zs : List B) → AllZip R (xs ++ ys) zs → FrontZip R xs zs
front_zip R [] ys zs zip = record { front = []; rest = zs; is = refl; zip = tt }
front_zip R (x ∷ xs) ys [] zip = absurd zip
front_zip {A} {B} R (x ∷ xs) ys (z ∷ zs) zip =
    let more = front_zip R xs ys zs zip.1 in
    let onto : List B → List B = λ l. z ∷ l in
    record { front = z ∷ more.front; rest = more.rest; is = ap onto more.is; zip = (zip.0, more.zip) }

pub sound_front : (journal more : List Batch) → IsSound (journal ++ more) → IsSound journal
sound_front journal more sound =
    let texts : texts_of (journal ++ more) ≡ texts_of journal ++ texts_of more =
    flat_map-append (λ (b : Batch). b.texts) journal more in
    let P : List (List ℕ) → Type 0 = λ ts. AllZip IsTextOf ts sound.games in
    let split = front_zip IsTextOf (texts_of journal) (texts_of more) sound.games (subst P texts sound.are_games) in
    let Q : List Classes → Type 0 = λ classes. HaveDifferentIds classes in
    let classes = ap classes_of split.is ∙ map-append (λ (game : Game). game.classes) split.front split.rest in
    let size : List ℕ → ℕ = λ text. length text in
    let R : Classes → Classes → Type 0 = λ a b. a.id.bytes ≢ b.id.bytes in
    record {
      batches = front_all IsBatch journal more sound.batches;
      games = split.front;
      are_games = split.zip;
      different = front_pairs R (classes_of split.front) (classes_of split.rest) (subst Q classes sound.different);
      within = (
        omega (arith, ap length texts, length-append (texts_of journal) (texts_of more), sound.within.0),
        omega (arith, ap (sum_by size) texts, sum_by-append size (texts_of journal) (texts_of more), sound.within.1),
      );
    }

-- ---- two places of one list

-- the first list has the second and an item of it behind
record Begins {A : Type 0} (longer shorter : List A) (next : A) : Type 0 where
  more : List A
  is : longer ≡ (shorter ++ next ∷ []) ++ more

head_of : {A : Type 0} (x y : A) (xs ys : List A) → x ∷ xs ≡ y ∷ ys → x ≡ y
head_of x y xs ys e = cc

tail_of : {A : Type 0} (x y : A) (xs ys : List A) → x ∷ xs ≡ y ∷ ys → xs ≡ ys
tail_of x y xs ys e = cc

two_fronts : {A : Type 0} (xs ys : List A) (x y : A) (r s : List A) → xs ++ x ∷ r ≡ ys ++ y ∷ s → (xs ≡ ys) ⊎ (Begins ys xs x ⊎ Begins xs ys y)
two_fronts [] [] x y r s e = inl refl
two_fronts {A} [] (z ∷ ys) x y r s e =
    let onto : A → List A = λ h. h ∷ ys in
    inr (inl (record { more = ys; is = ap onto (sym (head_of x z r (ys ++ y ∷ s) e)) }))
two_fronts {A} (z ∷ xs) [] x y r s e =
    let onto : A → List A = λ h. h ∷ xs in
    inr (inr (record { more = xs; is = ap onto (head_of z y (xs ++ x ∷ r) s e) }))
two_fronts {A} (a ∷ xs) (b ∷ ys) x y r s e =
    behind (two_fronts xs ys x y r s (tail_of a b (xs ++ x ∷ r) (ys ++ y ∷ s) e))
  where
    same : a ≡ b
    same = head_of a b (xs ++ x ∷ r) (ys ++ y ∷ s) e

    behind : (xs ≡ ys) ⊎ (Begins ys xs x ⊎ Begins xs ys y) → (a ∷ xs ≡ b ∷ ys) ⊎ (Begins (b ∷ ys) (a ∷ xs) x ⊎ Begins (a ∷ xs) (b ∷ ys) y)
    behind (inl is) = inl (λ i. same i ∷ is i)
    behind (inr (inl begins)) = inr (inl (record { more = begins.more; is = λ i. sym same i ∷ begins.is i }))
    behind (inr (inr begins)) = inr (inr (record { more = begins.more; is = λ i. same i ∷ begins.is i }))

-- ---- journals that are not sound

not_behind : (before other : List Batch) (batch : Batch) → IsSound other → ¬ IsSound (before ++ batch ∷ []) → Begins other before batch → ⊥
not_behind before other batch sound unsound begins =
    unsound (sound_front (before ++ batch ∷ []) begins.more (subst IsSound begins.is sound))

one_place : (journal : List Batch) (gate other : ℕ) → IsUnsoundAt journal gate → IsUnsoundAt journal other → gate ≡ other
one_place journal gate other a b = by (two_fronts a.before b.before a.batch b.batch a.rest b.rest (sym a.is ∙ b.is))
  where
    by : (a.before ≡ b.before) ⊎ (Begins b.before a.before a.batch ⊎ Begins a.before b.before b.batch) → gate ≡ other
    by (inl same) = a.place ∙ ap (λ (j : List Batch). length (store_of j)) same ∙ sym b.place
    by (inr (inl begins)) = absurd (not_behind a.before b.before a.batch b.sound a.unsound begins)
    by (inr (inr begins)) = absurd (not_behind b.before a.before b.batch a.sound b.unsound begins)

abbrev read_as : List Batch → Result (List Batch) LogFault
read_as journal = Ok journal

abbrev refused_as : LogFault → Result (List Batch) LogFault
refused_as fault = Err fault

same_read : (a b : List Batch) → read_as a ≡ read_as b → a ≡ b
same_read a b e = cc

same_refused : (a b : LogFault) → refused_as a ≡ refused_as b → a ≡ b
same_refused a b e = cc

read_refused : (a : List Batch) (b : LogFault) → read_as a ≡ refused_as b → ⊥
read_refused a b e = cc

-- a file has one journal
pub one_journal : (file : List ℕ) (journal other : List Batch) → HasJournal journal file → HasJournal other file → journal ≡ other
one_journal file journal other a b = same_read journal other (sym a ∙ b)

-- one thing is wrong with a file
pub one_fault : (file : List ℕ) (fault other : LogFault) → IsWrong fault file → IsWrong other file → fault ≡ other
one_fault file fault other (inl a) (inl b) = same_refused fault other (sym a ∙ b)
one_fault file fault other (inl a) (inr b) = absurd (read_refused b.journal fault (sym b.read ∙ a))
one_fault file fault other (inr a) (inl b) = absurd (read_refused a.journal other (sym a.read ∙ b))
one_fault file fault other (inr a) (inr b) =
    let same : b.journal ≡ a.journal = same_read b.journal a.journal (sym b.read ∙ a.read) in
    let P : List Batch → Type 0 = λ j. IsUnsoundAt j b.gate in
    a.is ∙ ap (λ n. Damaged n) (one_place a.journal a.gate b.gate a.at (subst P same b.at)) ∙ sym b.is

-- nothing is wrong with a file whose journal is sound
pub none_wrong : (file : List ℕ) (journal : List Batch) (fault : LogFault) → HasJournal journal file → IsSound journal → IsWrong fault file → ⊥
none_wrong file journal fault has sound (inl refused) = read_refused journal fault (sym has ∙ refused)
none_wrong file journal fault has sound (inr wrong) =
    let same : wrong.journal ≡ journal = same_read wrong.journal journal (sym wrong.read ∙ has) in
    let at = wrong.at in
    let split : journal ≡ (at.before ++ at.batch ∷ []) ++ at.rest =
    sym same ∙ at.is ∙ sym (append_assoc at.before (at.batch ∷ []) at.rest) in
    at.unsound (sound_front (at.before ++ at.batch ∷ []) at.rest (subst IsSound split sound))
