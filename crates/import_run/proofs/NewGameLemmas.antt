-- Streams of new games alone: all of them are stored.
use Rattle.std.proofs.Common.{◌≡◌, ◌≢◌, ℕ, Bool, false, cond, List, [], ◌∷◌, ◌++◌, length, map, get_or, find, None, Some, refl, sym, ap, subst, ◌∙◌, append_assoc, length-append, arith}
use Rattle.std.specs.List.{All, AllByRecursion, AllZip, cons_option}
use Rattle.std.proofs.Math.Seq.{get_or-append_seam}
use Rattle.std.proofs.lemmas.List.{get_or_append_left, map-append}
use Rattle.std.proofs.lemmas.List.Elements.{recursion_from_All}
use Rattle.explorer_model.specs.declared.archive.Batch.{Batch}
use Rattle.explorer_model.specs.declared.archive.Classes.{Classes}
use Rattle.explorer_model.specs.declared.archive.Game.{Game}
use Rattle.explorer_model.specs.declared.archive.Placed.{Placed}
use Rattle.explorer_model.specs.Cuts.{Cut, Text}
use Rattle.explorer_model.specs.Imports.{AreExaminations, Candidate, Examination, IsExaminationOf, Numbering, batch_of, candidates, has_id_of, numbers_of, refusals, verdicts, verdicts_behind, verdicts_in_turn}
use Rattle.explorer_model.specs.Journal.{HaveDifferentIds}
use Rattle.explorer_model.specs.Visits.{texts_of}
use Rattle.batch_tally.specs.Tallying.{IsExaminationOfText}
use Rattle.ingest_desk.proofs.IdLemmas.{other_bytes}
use Rattle.ingest_desk.proofs.RecountLemmas.{all_new, classes_of, later_pairs}
use Rattle.ingest_desk.proofs.SoundLemmas.{front_pairs}
use Rattle.import_run.specs.Faultless.{HasGame}
use Rattle.import_run.specs.Progress.{and_games}
use Rattle.import_run.specs.Settling.{AreRead, Fresh, id_of, placed}
use Rattle.import_run.proofs.AccountLemmas.{batches_behind, refused_behind}
use Rattle.import_run.proofs.GroupLemmas.{all_cuts}
use Rattle.import_run.proofs.VerdictLemmas.{OneGame, again, same_settled, settled_none}

abbrev pub bytes_of : List Placed → List (List ℕ)
bytes_of texts = map (λ (text : Placed). text.bytes) texts

abbrev pub as_cuts : List Placed → List Cut
as_cuts texts = map Text texts

-- ---- candidates

cands : List Placed → List Game → List Candidate
cands [] games = []
cands (text ∷ texts) [] = []
cands (text ∷ texts) (game ∷ games) = record { place = text.place; text = text.bytes; game = game } ∷ cands texts games

cands_placed : (texts : List Placed) (games : List Game) → AllZip HasGame texts games → map placed (cands texts games) ≡ texts
unfolding cands
cands_placed [] games zip = refl
cands_placed (text ∷ texts) [] zip = absurd zip
cands_placed (text ∷ texts) (game ∷ games) zip = ap (λ (l : List Placed). text ∷ l) (cands_placed texts games zip.1)

cands_games : (texts : List Placed) (games : List Game) → AllZip HasGame texts games → map (λ (c : Candidate). c.game) (cands texts games) ≡ games
unfolding cands
cands_games [] [] zip = refl
cands_games [] (game ∷ games) zip = absurd zip
cands_games (text ∷ texts) [] zip = absurd zip
cands_games (text ∷ texts) (game ∷ games) zip = ap (λ (l : List Game). game ∷ l) (cands_games texts games zip.1)

cands_texts : (texts : List Placed) (games : List Game) → AllZip HasGame texts games → map (λ (c : Candidate). c.text) (cands texts games) ≡ bytes_of texts
unfolding cands
cands_texts [] games zip = refl
cands_texts (text ∷ texts) [] zip = absurd zip
cands_texts (text ∷ texts) (game ∷ games) zip = ap (λ (l : List (List ℕ)). text.bytes ∷ l) (cands_texts texts games zip.1)

cands_read : (texts : List Placed) (games : List Game) → AllZip HasGame texts games → AreRead (cands texts games)
unfolding cands
cands_read [] games zip = tt
cands_read (text ∷ texts) [] zip = absurd zip
cands_read (text ∷ texts) (game ∷ games) zip = (zip.0, cands_read texts games zip.1)

cands_new : (number : Numbering) (texts : List Placed) (games : List Game) → AllZip HasGame texts games → AllByRecursion (λ (c : Classes). number c.id.bytes ≡ None) (classes_of games)
    → AllByRecursion (λ c. number (id_of c) ≡ None) (cands texts games)
unfolding cands
cands_new number [] games zip new = tt
cands_new number (text ∷ texts) [] zip new = absurd zip
cands_new number (text ∷ texts) (game ∷ games) zip new = (new.0, cands_new number texts games zip.1 new.1)

-- ---- ids that differ

none_found : (test : Candidate → Bool) (earlier : List Candidate) → AllByRecursion (λ c. test c ≡ false) earlier → find test earlier ≡ None
none_found test [] none = refl
none_found test (c ∷ earlier) none = ap (λ (b : Bool). cond b (Some c) (find test earlier)) none.0 ∙ none_found test earlier none.1

abbrev ids_in : List Candidate → List Classes
ids_in cs = map (λ (c : Candidate). c.game.classes) cs

abbrev Differ : Classes → Classes → Type 0
Differ a b = a.id.bytes ≢ b.id.bytes

apart_from : (front : List Classes) (c : Classes) (back : List Classes) → HaveDifferentIds (front ++ c ∷ back) → All (λ a. Differ a c) front
apart_from front c back all k d lt =
    let left = get_or_append_left front (c ∷ back) d k lt in
    let right = get_or-append_seam front c back d in
    let P : Classes → Type 0 = λ a. Differ a c in
    let Q : Classes → Type 0 = λ b. Differ (get_or (front ++ c ∷ back) k d) b in
    subst P left (subst Q right (all k (length front) d lt (omega (arith, length-append front (c ∷ back)))))

others_by : (game : Game) (earlier : List Candidate) → AllByRecursion (λ (a : Classes). Differ a game.classes) (ids_in earlier) → AllByRecursion (λ c. has_id_of game c ≡ false) earlier
others_by game [] each = tt
others_by game (c ∷ earlier) each = (other_bytes (id_of c) game.classes.id.bytes (λ same. each.0 (sym same)), others_by game earlier each.1)

fresh_cands : (earlier : List Candidate) (texts : List Placed) (games : List Game) → AllZip HasGame texts games → HaveDifferentIds (ids_in earlier ++ classes_of games) → Fresh earlier (cands texts games)
unfolding cands
fresh_cands earlier [] games zip different = tt
fresh_cands earlier (text ∷ texts) [] zip different = absurd zip
fresh_cands earlier (text ∷ texts) (game ∷ games) zip different =
    let c : Candidate = record { place = text.place; text = text.bytes; game = game } in
    let apart = recursion_from_All (λ (a : Classes). Differ a game.classes) (ids_in earlier) (apart_from (ids_in earlier) game.classes (classes_of games) different) in
    let on : ids_in earlier ++ game.classes ∷ classes_of games ≡ ids_in (earlier ++ c ∷ []) ++ classes_of games =
    sym (append_assoc (ids_in earlier) (game.classes ∷ []) (classes_of games))
    ∙ ap (λ (l : List Classes). l ++ classes_of games) (sym (map-append (λ (x : Candidate). x.game.classes) earlier (c ∷ []))) in
    (none_found (has_id_of game) earlier (others_by game earlier apart), fresh_cands (earlier ++ c ∷ []) texts games zip.1 (subst HaveDifferentIds on different))

-- ---- one group

to_texts : (texts : List Placed) (examinations : List Examination) → AllZip IsExaminationOf (as_cuts texts) examinations → AllZip IsExaminationOfText texts examinations
to_texts [] [] each = tt
to_texts [] (examination ∷ examinations) each = absurd each
to_texts (text ∷ texts) [] each = absurd each
to_texts (text ∷ texts) (examination ∷ examinations) each = (each.0, to_texts texts examinations each.1)

record IsStored (stored : List Game) (texts : List Placed) (games : List Game) (examinations : List Examination) : Type 0 where
  candidates_are : candidates (verdicts_behind (numbers_of stored) examinations) ≡ cands texts games
  none_refused : refusals (verdicts_behind (numbers_of stored) examinations) ≡ []

group_stored : OneGame → (stored : List Game) (texts : List Placed) (games : List Game) (examinations : List Examination) → AllZip HasGame texts games → AllZip IsExaminationOf (as_cuts texts) examinations
    → HaveDifferentIds (classes_of stored ++ classes_of games) → IsStored stored texts games examinations
group_stored one stored texts games examinations zip each different =
    let cs = cands texts games in
    let Z : List Placed → Type 0 = λ ts. AllZip IsExaminationOfText ts examinations in
    let R : Classes → Classes → Type 0 = Differ in
    let own = later_pairs R (classes_of stored) (classes_of games) different in
    let both = again one cs examinations (cands_read texts games zip) (fresh_cands [] texts games zip own) (subst Z (sym (cands_placed texts games zip)) (to_texts texts examinations each)) in
    let new = recursion_from_All (λ (c : Classes). numbers_of stored c.id.bytes ≡ None) (classes_of games) (all_new stored (classes_of games) different) in
    let N : List Candidate → Type 0 = λ l. AllByRecursion (λ c. numbers_of stored (id_of c) ≡ None) l in
    let same = same_settled (numbers_of stored) (λ id. None) (verdicts examinations) (subst N (sym both.0) (cands_new (numbers_of stored) texts games zip new)) ∙ settled_none (verdicts examinations) in
    record {
      candidates_are = ap candidates same ∙ both.0;
      none_refused = ap refusals same ∙ both.1;
    }

-- ---- groups

record SplitTexts (front back : List Cut) (texts : List Placed) : Type 0 where
  before : List Placed
  behind : List Placed
  is : texts ≡ before ++ behind
  front_is : front ≡ as_cuts before
  back_is : back ≡ as_cuts behind

split_texts : (front back : List Cut) (texts : List Placed) → front ++ back ≡ as_cuts texts → SplitTexts front back texts
split_texts [] back texts all = record { before = []; behind = texts; is = refl; front_is = refl; back_is = all }
split_texts (cut ∷ front) back [] all = absurd (omega (arith, ap length all))
split_texts (cut ∷ front) back (text ∷ texts) all =
    let head : cut ≡ Text text = cc in
    let tail : front ++ back ≡ as_cuts texts = cc in
    let later = split_texts front back texts tail in
    record {
      before = text ∷ later.before;
      behind = later.behind;
      is = ap (λ (l : List Placed). text ∷ l) later.is;
      front_is = λ i. head i ∷ later.front_is i;
      back_is = later.back_is;
    }

record SplitGames (before behind : List Placed) (games : List Game) : Type 0 where
  first : List Game
  more : List Game
  is : games ≡ first ++ more
  first_are : AllZip HasGame before first
  more_are : AllZip HasGame behind more

split_games : (before behind : List Placed) (games : List Game) → AllZip HasGame (before ++ behind) games → SplitGames before behind games
split_games [] behind games zip = record { first = []; more = games; is = refl; first_are = tt; more_are = zip }
split_games (text ∷ before) behind [] zip = absurd zip
split_games (text ∷ before) behind (game ∷ games) zip =
    let later = split_games before behind games zip.1 in
    record {
      first = game ∷ later.first;
      more = later.more;
      is = ap (λ (l : List Game). game ∷ l) later.is;
      first_are = (zip.0, later.first_are);
      more_are = later.more_are;
    }

-- the batches of the groups have all the texts, and none is refused
pub record AreAllStored (label : List ℕ) (stored : List Game) (texts : List Placed) (examinations : List (List Examination)) : Type 0 where
  pub texts_are : texts_of (batches_behind label stored examinations) ≡ bytes_of texts
  pub none_refused : refused_behind stored examinations ≡ []

texts_first : (label : List ℕ) (cs : List Candidate) (batches : List Batch) → texts_of (cons_option (batch_of label cs) batches) ≡ map (λ (c : Candidate). c.text) cs ++ texts_of batches
texts_first label [] batches = refl
texts_first label (c ∷ cs) batches = refl

-- all but the later games
front_games : (stored first more : List Game) → HaveDifferentIds (classes_of (stored ++ (first ++ more))) → HaveDifferentIds (classes_of stored ++ classes_of first)
front_games stored first more different =
    let f : Game → Classes = λ game. game.classes in
    let all : classes_of (stored ++ (first ++ more)) ≡ (classes_of stored ++ classes_of first) ++ classes_of more =
    ap classes_of (sym (append_assoc stored first more)) ∙ map-append f (stored ++ first) more ∙ ap (λ (l : List Classes). l ++ classes_of more) (map-append f stored first) in
    let R : Classes → Classes → Type 0 = Differ in
    front_pairs R (classes_of stored ++ classes_of first) (classes_of more) (subst HaveDifferentIds all different)

no_texts : (texts : List Placed) → [] ≡ as_cuts texts → bytes_of texts ≡ []
no_texts [] is = refl
no_texts (text ∷ texts) is = absurd (omega (arith, ap length is))

pub all_stored : (label : List ℕ) → OneGame → (stored : List Game) (groups : List (List Cut)) (examinations : List (List Examination)) (texts : List Placed) (games : List Game) → AreExaminations groups examinations
    → all_cuts groups ≡ as_cuts texts → AllZip HasGame texts games → HaveDifferentIds (classes_of (stored ++ games)) → AreAllStored label stored texts examinations
unfolding verdicts_in_turn
all_stored label one stored [] [] texts games each all zip different = record { texts_are = sym (no_texts texts all); none_refused = refl }
all_stored label one stored [] (group ∷ examinations) texts games each all zip different = absurd each
all_stored label one stored (cuts ∷ groups) [] texts games each all zip different = absurd each
all_stored label one stored (cuts ∷ groups) (group ∷ examinations) texts games each all zip different =
    let s = split_texts cuts (all_cuts groups) texts all in
    let Z : List Placed → Type 0 = λ ts. AllZip HasGame ts games in
    let g = split_games s.before s.behind games (subst Z s.is zip) in
    let D : List Game → Type 0 = λ gs. HaveDifferentIds (classes_of (stored ++ gs)) in
    let apart = subst D g.is different in
    let E : List Cut → Type 0 = λ cs. AllZip IsExaminationOf cs group in
    let here = group_stored one stored s.before g.first group g.first_are (subst E s.front_is each.0) (front_games stored g.first g.more apart) in
    let after : and_games stored group ≡ stored ++ g.first =
    ap (λ (cs : List Candidate). stored ++ map (λ (c : Candidate). c.game) cs) here.candidates_are ∙ ap (λ (l : List Game). stored ++ l) (cands_games s.before g.first g.first_are) in
    let H : List Game → Type 0 = λ gs. HaveDifferentIds (classes_of gs) in
    let I : List Game → Type 0 = λ gs. HaveDifferentIds (classes_of (gs ++ g.more)) in
    let later = all_stored label one (and_games stored group) groups examinations s.behind g.more each.1 s.back_is g.more_are (subst I (sym after) (subst H (sym (append_assoc stored g.first g.more)) apart)) in
    record {
      texts_are =
          texts_first label (candidates (verdicts_behind (numbers_of stored) group)) (batches_behind label (and_games stored group) examinations)
          ∙ (λ i. map (λ (c : Candidate). c.text) (here.candidates_are i) ++ later.texts_are i)
          ∙ ap (λ (l : List (List ℕ)). l ++ bytes_of s.behind) (cands_texts s.before g.first g.first_are)
          ∙ sym (ap bytes_of s.is ∙ map-append (λ (text : Placed). text.bytes) s.before s.behind);
      none_refused = (λ i. here.none_refused i ++ later.none_refused i);
    }

-- the same for the first texts of a stream
pub record Front (front : List Cut) (texts : List Placed) (games stored : List Game) : Type 0 where
  pub some : List Placed
  pub more : List Placed
  pub is : texts ≡ some ++ more
  pub front_is : front ≡ as_cuts some
  pub first : List Game
  pub first_are : AllZip HasGame some first
  pub different : HaveDifferentIds (classes_of (stored ++ first))

pub front_of : (front back : List Cut) (texts : List Placed) (games stored : List Game) → front ++ back ≡ as_cuts texts → AllZip HasGame texts games → HaveDifferentIds (classes_of (stored ++ games)) → Front front texts games stored
front_of front back texts games stored all zip different =
    let s = split_texts front back texts all in
    let Z : List Placed → Type 0 = λ ts. AllZip HasGame ts games in
    let g = split_games s.before s.behind games (subst Z s.is zip) in
    let D : List Game → Type 0 = λ gs. HaveDifferentIds (classes_of (stored ++ gs)) in
    let f : Game → Classes = λ game. game.classes in
    record {
      some = s.before;
      more = s.behind;
      is = s.is;
      front_is = s.front_is;
      first = g.first;
      first_are = g.first_are;
      different = subst HaveDifferentIds (sym (map-append f stored g.first)) (front_games stored g.first g.more (subst D g.is different));
    }
