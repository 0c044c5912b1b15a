-- Registers of journals, and what is judged by them.
use Rattle.std.proofs.Common.{◌≡◌, ◌≢◌, ◌<◌, ◌≤◌, ◌+◌, ℕ, suc, Bool, true, false, not, cond, List, [], ◌∷◌, ◌++◌, length, map, get_or, Option, None, Some, Ok, Result, sum_by, refl, sym, ap, ◌∙◌, subst, arith, add-zero, length-append}
use borrow.Author.Count.{below_more}
use Rattle.std.proofs.lemmas.Bool.Decides.{nat_tests}
use Rattle.std.proofs.lemmas.Grind.{flat_map-append}
use Rattle.std.proofs.lemmas.List.{append-nil, length-map, map-append}
use Rattle.std.proofs.lemmas.List.Elements.{All-append, All-from_recursion, recursion_from_All}
use Rattle.std.proofs.lemmas.List.Kept.{AllPairs-cons}
use Rattle.std.proofs.lemmas.List.Sums.{sum_by-append}
use Rattle.std.proofs.lemmas.Option.{get_or_from_slice_get, same_Some, slice_get_within}
use Rattle.std.proofs.lemmas.Slice.Eq.{bytes_eq-Decides}
use Rattle.std.proofs.lemmas.Slice.Zip.{AllZip-long}
use Rattle.std.specs.Bool.{MatchBool}
use Rattle.std.specs.List.{All, AllByRecursion, AllPairs, AllZip}
use Rattle.std.specs.Option.{is_some, option_or}
use Rattle.std.specs.Prelude.{bytes_eq, ◌==◌, slice_get}
use Rattle.plain_laws.specs.Bytes.{bytes_eq-comm}
use Rattle.plain_laws.specs.Lists.{cons-nil}
use Rattle.plain_laws.specs.Options.{some-none}
use Rattle.explorer_model.specs.declared.archive.Batch.{Batch}
use Rattle.explorer_model.specs.declared.archive.Classes.{Classes}
use Rattle.explorer_model.specs.declared.archive.Game.{Game}
use Rattle.explorer_model.specs.declared.fault.GameFault.{GameFault}
use Rattle.explorer_model.specs.Games.{GameOf}
use Rattle.explorer_model.specs.Imports.{Numbering, number_from, numbers_of}
use Rattle.explorer_model.specs.Journal.{AreWithin, HaveDifferentIds, IsBatch, IsSound, game_limit, byte_limit, game_count, byte_count}
use Rattle.explorer_model.specs.Visits.{AreGamesOf, IsTextOf, texts_of}
use Rattle.explorer_model.proofs.Lists.{one-zip, zip-append}
use Rattle.tally_rows.specs.Tally.{Counted, IsCounted}
use Rattle.ingest_desk.specs.Causes.{Cause, HasIds, HasNoRoom, cause, cause_by, cause_of_new, has_no_room, is_over}
use Rattle.ingest_desk.specs.Clashes.{and_clash, clashes_from, clashes_of, ids_of, number_among}
use Rattle.ingest_desk.specs.IdTable.{number_at}
use Rattle.ingest_desk.specs.Registers.{Fits, IsRegisterOf, IsSame, text_bytes}
use Rattle.ingest_desk.specs.declared.clashing.Clashing.{Clashing}
use Rattle.ingest_desk.specs.declared.register.Register.{Register}
use Rattle.ingest_desk.proofs.IdLemmas.{false_true, option_or-cond}

-- ---- the games of a journal

abbrev pub OneGame : Type 0
OneGame =
    (text : List ℕ) (game other : Result Game GameFault) → GameOf text game → GameOf text other
    → game ≡ other

abbrev read_as : Game → Result Game GameFault
read_as game = Ok game

same_ok : (a b : Game) → read_as a ≡ read_as b → a ≡ b
same_ok a b e = cc

pub one_games : OneGame → (journal : List Batch) (games others : List Game)
    → AreGamesOf journal games → AreGamesOf journal others → games ≡ others
one_games one journal games others first second =
    one-zip IsTextOf (λ text a b is other. same_ok a b (one text (Ok a) (Ok b) is other))
    (texts_of journal) games others first second

pub long : (c : Counted) → IsCounted c → length c.classes ≡ length c.batch.texts
long c is =
    ap length is.tally.classes_are
    ∙ length-map is.tally.games (λ (game : Game). game.classes)
    ∙ AllZip-long IsTextOf c.batch.texts is.tally.games is.tally.are_games

pub texts_more : (journal : List Batch) (batch : Batch)
    → texts_of (journal ++ batch ∷ []) ≡ texts_of journal ++ batch.texts
texts_more journal batch =
    flat_map-append (λ (b : Batch). b.texts) journal (batch ∷ [])
    ∙ ap (λ ts. texts_of journal ++ ts) (append-nil batch.texts)

pub games_more : (journal : List Batch) (batch : Batch)
    → game_count (journal ++ batch ∷ []) ≡ game_count journal + length batch.texts
games_more journal batch =
    ap length (texts_more journal batch) ∙ length-append (texts_of journal) batch.texts

pub bytes_more : (journal : List Batch) (batch : Batch)
    → byte_count (journal ++ batch ∷ []) ≡ byte_count journal + text_bytes batch
bytes_more journal batch =
    ap (sum_by (λ (text : List ℕ). length text)) (texts_more journal batch)
    ∙ sum_by-append (λ (text : List ℕ). length text) (texts_of journal) batch.texts

-- ---- numbers by games and by ids

abbrev classes_of : List Game → List Classes
classes_of games = map (λ game. game.classes) games

pub number-ids : (first : ℕ) (games : List Game) (id : List ℕ)
    → number_from first id games ≡ number_among first (ids_of (classes_of games)) id
number-ids first [] id = refl
number-ids first (game ∷ games) id =
    ap (λ b. cond b (Some first) (number_from (first + 1) id games))
    (bytes_eq-comm game.classes.id.bytes id)
    ∙ ap (cond (bytes_eq id game.classes.id.bytes) (Some first)) (number-ids (first + 1) games id)

number_from-append : (first : ℕ) (games more : List Game) (id : List ℕ)
    → number_from first id (games ++ more)
    ≡ option_or (number_from first id games) (number_from (first + length games) id more)
number_from-append first [] more id = ap (λ p. number_from p id more) (sym (add-zero first))
number_from-append first (game ∷ games) more id =
    let p : (first + 1) + length games ≡ first + length (game ∷ games) = omega arith in
    let rest = number_from (first + 1) id games in
    let is = bytes_eq game.classes.id.bytes id in
    ap (cond is (Some first))
    (number_from-append (first + 1) games more id
    ∙ ap (λ p. option_or rest (number_from p id more)) p)
    ∙ option_or-cond is first rest (number_from (first + length (game ∷ games)) id more)

-- ---- clashes

clashes-same : (f g : Numbering) → ((id : List ℕ) → f id ≡ g id) → (place : ℕ)
    (ids : List (List ℕ)) → clashes_from place f ids ≡ clashes_from place g ids
clashes-same f g same place [] = refl
clashes-same f g same place (id ∷ ids) =
    ap (λ o. and_clash place o (clashes_from (place + 1) f ids)) (same id)
    ∙ ap (and_clash place (g id)) (clashes-same f g same (place + 1) ids)

none_here : (place : ℕ) (o : Option ℕ) (rest : List Clashing) → and_clash place o rest ≡ []
    → (o ≡ None) × (rest ≡ [])
none_here place None rest e = (refl, e)
none_here place (Some n) rest e = absurd (cons-nil _ _ e)

none_from : (place : ℕ) (number : Numbering) (classes : List Classes)
    → clashes_from place number (ids_of classes) ≡ []
    → AllByRecursion (λ c. number c.id.bytes ≡ None) classes
none_from place number [] none = tt
none_from place number (c ∷ classes) none =
    let here = none_here place (number c.id.bytes)
    (clashes_from (place + 1) number (ids_of classes)) none in
    (here.0, none_from (place + 1) number classes here.1)

-- no id has a number where no text clashes
pub none_clash : (number : Numbering) (classes : List Classes) → clashes_of number classes ≡ []
    → All (λ c. number c.id.bytes ≡ None) classes
none_clash number classes none =
    All-from_recursion (λ c. number c.id.bytes ≡ None) classes (none_from 0 number classes none)

-- and no text clashes where no id has a number
pub clashes_none : (place : ℕ) (number : Numbering) (classes : List Classes)
    → AllByRecursion (λ (c : Classes). number c.id.bytes ≡ None) classes
    → clashes_from place number (ids_of classes) ≡ []
clashes_none place number [] none = refl
clashes_none place number (c ∷ classes) none =
    ap (λ o. and_clash place o (clashes_from (place + 1) number (ids_of classes))) none.0
    ∙ clashes_none (place + 1) number classes none.1

-- ---- whether an id has a number

is_none : (o : Option ℕ) → is_some o ≡ false → o ≡ None
is_none None e = refl
is_none (Some n) e = absurd (false_true (sym e))

-- the next game's id has none either
pub none_more : (number : Numbering) (classes : List Classes) (i : ℕ) (game : Classes)
    → slice_get classes i ≡ Some game → is_some (number game.id.bytes) ≡ false
    → ((k : ℕ) → k < i → (d : Classes) → number (get_or classes k d).id.bytes ≡ None)
    → (k : ℕ) → k < i + 1 → (d : Classes) → number (get_or classes k d).id.bytes ≡ None
none_more number classes i game is none before =
    below_more (λ k. (d : Classes) → number (get_or classes k d).id.bytes ≡ None) i before
    (λ d. ap (λ (c : Classes). number c.id.bytes) (get_or_from_slice_get classes i game d is)
    ∙ is_none (number game.id.bytes) none)

-- no text clashes where no game's id has one
pub none_clashing : (number : Numbering) (classes : List Classes) (n : ℕ) → length classes ≤ n
    → ((k : ℕ) → k < n → (d : Classes) → number (get_or classes k d).id.bytes ≡ None)
    → clashes_of number classes ≡ []
none_clashing number classes n all none =
    let each : All (λ (c : Classes). number c.id.bytes ≡ None) classes =
    λ k d lt. none k (omega (arith, lt, all)) d in
    clashes_none 0 number classes
    (recursion_from_All (λ (c : Classes). number c.id.bytes ≡ None) classes each)

-- a text clashes where the id of its game has one
pub some_clash : (number : Numbering) (classes : List Classes) (i : ℕ) (game : Classes)
    → slice_get classes i ≡ Some game → is_some (number game.id.bytes) ≡ true
    → ¬ (clashes_of number classes ≡ [])
some_clash number classes i game is some none =
    let new : number game.id.bytes ≡ None =
    ap (λ (c : Classes). number c.id.bytes) (sym (get_or_from_slice_get classes i game game is))
    ∙ none_clash number classes none i game (slice_get_within classes i game is) in
    false_true (sym (ap is_some new) ∙ some)

-- ---- ids that differ

cond_none : (b : Bool) (n : ℕ) (o : Option ℕ) → cond b (Some n) o ≡ None
    → (b ≡ false) × (o ≡ None)
cond_none true n o e = absurd (some-none n e)
cond_none false n o e = (refl, e)

others : (first : ℕ) (classes : List Classes) (id : List ℕ)
    → number_among first (ids_of classes) id ≡ None
    → AllByRecursion (λ c. bytes_eq id c.id.bytes ≡ false) classes
others first [] id none = tt
others first (c ∷ classes) id none =
    let here = cond_none (bytes_eq id c.id.bytes) first
    (number_among (first + 1) (ids_of classes) id) none in
    (here.0, others (first + 1) classes id here.1)

pairs-append : {X : Type 0} (R : X → X → Type 0) (xs ys : List X) → AllPairs R xs → AllPairs R ys
    → AllByRecursion (λ x. All (R x) ys) xs → AllPairs R (xs ++ ys)
pairs-append R [] ys first second across = second
pairs-append {X} R (x ∷ xs) ys first second across =
    let head : All (R x) xs = λ k d lt. first 0 (suc k) d (omega arith) (omega (arith, lt)) in
    let tail : AllPairs R xs =
    λ i j d lt below. first (suc i) (suc j) d (omega (arith, lt)) (omega (arith, below)) in
    AllPairs-cons R x (xs ++ ys) (All-append (R x) xs ys head across.0)
    (pairs-append R xs ys tail second across.1)

abbrev AreApart : Classes → Classes → Type 0
AreApart a b = a.id.bytes ≢ b.id.bytes

apart_more : (games : List Game) (classes : List Classes)
    → clashes_of (numbers_of games) classes ≡ [] → All (λ a. All (AreApart a) classes) (classes_of games)
apart_more games classes none k d lt m e below same =
    let a = get_or (classes_of games) k d in
    let b = get_or classes m e in
    let new : numbers_of games b.id.bytes ≡ None = none_clash (numbers_of games) classes none m e below in
    let absent = sym (number-ids 0 games b.id.bytes) ∙ new in
    let other : bytes_eq b.id.bytes a.id.bytes ≡ false =
    All-from_recursion (λ c. bytes_eq b.id.bytes c.id.bytes ≡ false) (classes_of games)
    (others 0 (classes_of games) b.id.bytes absent) k d lt in
    false_true (sym other ∙ (bytes_eq-Decides b.id.bytes a.id.bytes).1 (sym same))

-- ---- a batch more

pub sound_more : (journal : List Batch) (tally : Counted) (sound : IsSound journal)
    → IsCounted tally → clashes_of (numbers_of sound.games) tally.classes ≡ []
    → AreWithin (game_count journal + length tally.batch.texts) (byte_count journal + text_bytes tally.batch)
    → IsSound (journal ++ tally.batch ∷ [])
sound_more journal tally sound is none within =
    let more = is.tally.games in
    let R : Classes → Classes → Type 0 = λ a b. a.id.bytes ≢ b.id.bytes in
    let P : List (List ℕ) → Type 0 = λ texts. AllZip IsTextOf texts (sound.games ++ more) in
    let Q : List Classes → Type 0 = λ classes. HaveDifferentIds classes in
    let N : ℕ → Type 0 = λ games. games ≤ game_limit in
    let M : ℕ → Type 0 = λ bytes. bytes ≤ byte_limit in
    let apart : All (λ a. All (R a) tally.classes) (classes_of sound.games) =
    apart_more sound.games tally.classes none in
    record {
      batches = All-append IsBatch journal (tally.batch ∷ []) sound.batches
          (All-from_recursion IsBatch (tally.batch ∷ []) (is.batch, tt));
      games = sound.games ++ more;
      are_games = subst P (sym (texts_more journal tally.batch))
          (zip-append IsTextOf (texts_of journal) tally.batch.texts sound.games more sound.are_games is.tally.are_games);
      different = subst Q
          (ap (λ cs. classes_of sound.games ++ cs) is.tally.classes_are
          ∙ sym (map-append (λ (game : Game). game.classes) sound.games more))
          (pairs-append R (classes_of sound.games) tally.classes sound.different is.different
          (recursion_from_All (λ a. All (R a) tally.classes) (classes_of sound.games) apart));
      within = (
        subst N (sym (games_more journal tally.batch)) within.0,
        subst M (sym (bytes_more journal tally.batch)) within.1,
      );
    }

-- ---- the register

pub none_same : (journal : List Batch) (register : Register) (is : IsRegisterOf journal register)
    (classes : List Classes)
    → clashes_of (number_at register.ids) classes ≡ clashes_of (numbers_of is.sound.games) classes
none_same journal register is classes =
    clashes-same (number_at register.ids) (numbers_of is.sound.games) is.numbers 0 (ids_of classes)

pub register_same : (journal : List Batch) (old new : Register) → IsRegisterOf journal old
    → IsSame old new → IsRegisterOf journal new
register_same journal old new is same = record {
  sound = is.sound;
  numbers = λ id. same.numbers id ∙ is.numbers id;
  batches = same.batches ∙ is.batches;
  games = same.games ∙ is.games;
  bytes = same.bytes ∙ is.bytes;
}

pub fits_same : (old new : Register) (tally : Counted) → IsSame old new → Fits old tally
    → Fits new tally
fits_same old new tally same fits = record {
  none = clashes-same (number_at new.ids) (number_at old.ids) same.numbers 0 (ids_of tally.classes)
      ∙ fits.none;
  within = (omega (arith, same.games, fits.within.0), omega (arith, same.bytes, fits.within.1));
}

pub register_more : (journal : List Batch) (old new : Register) (tally : Counted)
    → IsCounted tally → Fits old tally → IsRegisterOf journal old
    → ((id : List ℕ) → number_at new.ids id
    ≡ option_or (number_at old.ids id) (number_among old.games (ids_of tally.classes) id))
    → new.batches ≡ old.batches + 1 → new.games ≡ old.games + length tally.classes → new.bytes ≡ old.bytes + text_bytes tally.batch
    → IsRegisterOf (journal ++ tally.batch ∷ []) new
unfolding sound_more
register_more journal old new tally counted fits is added batches games bytes =
    let more = counted.tally.games in
    let all = is.sound.games in
    let none = sym (none_same journal old is tally.classes) ∙ fits.none in
    let within : AreWithin (game_count journal + length tally.batch.texts) (byte_count journal + text_bytes tally.batch) =
    (omega (arith, fits.within.0, is.games), omega (arith, fits.within.1, is.bytes)) in
    let behind : old.games ≡ 0 + length all =
    omega (arith, is.games, AllZip-long IsTextOf (texts_of journal) all is.sound.are_games) in
    let ids : ids_of tally.classes ≡ ids_of (classes_of more) = ap ids_of counted.tally.classes_are in
    record {
      sound = sound_more journal tally is.sound counted none within;
      numbers = λ id. added id
          ∙ ap (λ o. option_or o (number_among old.games (ids_of tally.classes) id)) (is.numbers id)
          ∙ ap (λ l. option_or (numbers_of all id) (number_among old.games l id)) ids
          ∙ ap (λ k. option_or (numbers_of all id) (number_among k (ids_of (classes_of more)) id)) behind
          ∙ ap (option_or (numbers_of all id)) (sym (number-ids (0 + length all) more id))
          ∙ sym (number_from-append 0 all more id);
      batches = omega (arith, batches, is.batches, length-append journal (tally.batch ∷ []));
      games = omega (arith, games, is.games, long tally counted, games_more journal tally.batch);
      bytes = omega (arith, bytes, is.bytes, bytes_more journal tally.batch);
    }

-- each batch has a game
pub few_batches : (journal : List Batch) → AllByRecursion IsBatch journal
    → length journal ≤ game_count journal
few_batches [] each = omega arith
few_batches (batch ∷ journal) each =
    omega (
      arith,
      length-append batch.texts (texts_of journal),
      each.0.some,
      few_batches journal each.1,
    )

pub fewer_batches : (journal : List Batch) → IsSound journal → length journal ≤ game_count journal
fewer_batches journal sound =
    few_batches journal (recursion_from_All IsBatch journal sound.batches)

-- ---- what is judged

room_case : (b : Bool) (k : Cause) → cond b (Some k) None ≡ None → b ≡ false
room_case true k e = absurd (some-none k e)
room_case false k e = refl

over-same : (journal : List Batch) (register : Register) (batch : Batch) → IsRegisterOf journal register
    → has_no_room journal batch
    ≡ is_over (register.games + length batch.texts) (register.bytes + text_bytes batch)
over-same journal register batch is =
    ap (λ n. is_over n (byte_count (journal ++ batch ∷ []))) (games_more journal batch)
    ∙ ap (is_over (game_count journal + length batch.texts)) (bytes_more journal batch)
    ∙ ap (λ n. is_over (n + length batch.texts) (byte_count journal + text_bytes batch)) (sym is.games)
    ∙ ap (λ n. is_over (register.games + length batch.texts) (n + text_bytes batch)) (sym is.bytes)

not_over : (games bytes : ℕ) → is_over games bytes ≡ false → AreWithin games bytes
not_over games bytes e = (grind (arith, nat_tests), grind (arith, nat_tests))

no_cause : (pairs : List Clashing) (journal : List Batch) (batch : Batch)
    → cause_by pairs journal batch ≡ None → (pairs ≡ []) × (has_no_room journal batch ≡ false)
no_cause (pair ∷ pairs) journal batch e = absurd (some-none _ e)
no_cause [] journal batch e = (refl, room_case (has_no_room journal batch) _ e)

-- where there is no cause against a batch it fits
pub fits_of : (journal : List Batch) (register : Register) (tally : Counted)
    (is : IsRegisterOf journal register) → cause_of_new is.sound.games journal tally ≡ None
    → Fits register tally
fits_of journal register tally is none =
    let both = no_cause (clashes_of (numbers_of is.sound.games) tally.classes) journal tally.batch none in
    record {
      none = none_same journal register is tally.classes ∙ both.0;
      within = not_over (register.games + length tally.batch.texts) (register.bytes + text_bytes tally.batch)
          (sym (over-same journal register tally.batch is) ∙ both.1);
    }

-- a batch that nothing is against is sound behind the journal
pub sound_behind : (journal : List Batch) (tally : Counted) (sound : IsSound journal)
    → IsCounted tally → cause_of_new sound.games journal tally ≡ None
    → IsSound (journal ++ tally.batch ∷ [])
sound_behind journal tally sound counted none =
    let both = no_cause (clashes_of (numbers_of sound.games) tally.classes) journal tally.batch none in
    let more = journal ++ tally.batch ∷ [] in
    let room = not_over (game_count more) (byte_count more) both.1 in
    sound_more journal tally sound counted both.0
    (omega (arith, room.0, games_more journal tally.batch), omega (arith, room.1, bytes_more journal tally.batch))

open_cause : (fault : Option (ℕ × ℕ)) (games : List Game) (journal : List Batch) (tally : Counted)
    → cause fault games journal tally ≡ None → cause_of_new games journal tally ≡ None
open_cause (Some counts) games journal tally none = absurd (some-none _ none)
open_cause None games journal tally none = none

-- the same, by whatever games the journal has
pub sound_uncaused : OneGame → (journal : List Batch) (tally : Counted) → IsSound journal
    → IsCounted tally → (fault : Option (ℕ × ℕ)) (games : List Game) → AreGamesOf journal games
    → cause fault games journal tally ≡ None → IsSound (journal ++ tally.batch ∷ [])
sound_uncaused one journal tally sound counted fault games are none =
    let P : List Game → Type 0 = λ all. cause_of_new all journal tally ≡ None in
    let same = one_games one journal games sound.games are sound.are_games in
    sound_behind journal tally sound counted (subst P same (open_cause fault games journal tally none))

by_clash : (pairs : List Clashing) (journal : List Batch) (batch : Batch) → (pairs ≡ [] → ⊥)
    → cause_by pairs journal batch ≡ Some (HasIds pairs)
by_clash [] journal batch some = absurd (some refl)
by_clash (pair ∷ pairs) journal batch some = refl

by_room : (pairs : List Clashing) (journal : List Batch) (batch : Batch) (over : Bool) → pairs ≡ []
    → has_no_room journal batch ≡ over
    → cause_by pairs journal batch
    ≡ cond over (Some (HasNoRoom (game_count journal) (byte_count journal))) None
by_room [] journal batch over none is =
    ap (λ o. cond o (Some (HasNoRoom (game_count journal) (byte_count journal))) None) is
by_room (pair ∷ pairs) journal batch over none is = absurd (cons-nil _ _ none)

by_limit : (over : Bool) (k : Cause) (o : Option Cause) → o ≡ cond over (Some k) None
    → MatchBool (not over) (o ≡ None) (¬ (o ≡ None))
by_limit true k o is = λ none. some-none k (sym is ∙ none)
by_limit false k o is = is

module _ (one : OneGame) (journal : List Batch) (games : List Game) (register : Register)
    (is : IsRegisterOf journal register) (are : AreGamesOf journal games) (tally : Counted)
    (pairs : List Clashing) (pairs_are : pairs ≡ clashes_of (number_at register.ids) tally.classes) where
  pairs_by : clashes_of (numbers_of games) tally.classes ≡ pairs
  pairs_by =
      ap (λ all. clashes_of (numbers_of all) tally.classes)
      (one_games one journal games is.sound.games are is.sound.are_games)
      ∙ sym (none_same journal register is tally.classes) ∙ sym pairs_are

  -- texts of the batch have stored ids
  pub judged_clash : (pairs ≡ [] → ⊥) → cause_of_new games journal tally ≡ Some (HasIds pairs)
  judged_clash some =
      ap (λ ps. cause_by ps journal tally.batch) pairs_by ∙ by_clash pairs journal tally.batch some

  -- none has; the limits decide
  pub judged_room : pairs ≡ [] → (over : Bool)
      → is_over (register.games + length tally.batch.texts) (register.bytes + text_bytes tally.batch) ≡ over
      → cause_of_new games journal tally
      ≡ cond over (Some (HasNoRoom register.games register.bytes)) None
  judged_room none over room =
      ap (λ ps. cause_by ps journal tally.batch) pairs_by
      ∙ by_room pairs journal tally.batch over none (over-same journal register tally.batch is ∙ room)
      ∙ ap (λ n. cond over (Some (HasNoRoom n (byte_count journal))) None) (sym is.games)
      ∙ ap (λ n. cond over (Some (HasNoRoom register.games n)) None) (sym is.bytes)

  -- whether there is a cause, where texts of the batch have stored ids
  pub not_taken : ¬ (pairs ≡ []) → ¬ (cause_of_new games journal tally ≡ None)
  not_taken some none = some-none (HasIds pairs) (sym (judged_clash some) ∙ none)

  -- and where none has
  pub taken_by : pairs ≡ [] → (over : Bool)
      → is_over (register.games + length tally.batch.texts) (register.bytes + text_bytes tally.batch) ≡ over
      → MatchBool (not over) (cause_of_new games journal tally ≡ None)
      (¬ (cause_of_new games journal tally ≡ None))
  taken_by none over room =
      by_limit over (HasNoRoom register.games register.bytes) (cause_of_new games journal tally)
      (judged_room none over room)

pub length_some : (pairs : List Clashing) → (length pairs == 0) ≡ false → pairs ≡ [] → ⊥
length_some [] e none = grind (arith, nat_tests)
length_some (pair ∷ pairs) e none = cons-nil pair pairs none

-- ---- the batch of a segment

pub first_is : (batches : List Batch) (batch found : Batch) → batches ≡ batch ∷ []
    → slice_get batches 0 ≡ Some found → found ≡ batch
first_is batches batch found are is = same_Some found batch (sym is ∙ ap (λ l. slice_get l 0) are)
