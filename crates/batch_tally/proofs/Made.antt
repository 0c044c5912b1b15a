-- A tally, made of accepted texts.
use Rattle.std.proofs.Common.{◌≡◌, ◌≢◌, ◌<◌, ◌≤◌, ℕ, List, [], ◌∷◌, map, length, Some, sym, ap, ◌∙◌, subst, refl, arith}
use Rattle.std.specs.List.{All, AllByRecursion, AllZip}
use Rattle.std.proofs.lemmas.List.{length-map}
use Rattle.std.proofs.lemmas.List.Elements.{All-from_recursion, recursion_from_All}
use Rattle.explorer_model.specs.declared.archive.Classes.{Classes}
use Rattle.explorer_model.specs.declared.archive.Game.{Game}
use Rattle.explorer_model.specs.Cuts.{text_limit}
use Rattle.explorer_model.specs.Labels.{no_label}
use Rattle.explorer_model.specs.Imports.{batch_of}
use Rattle.explorer_model.specs.Visits.{IsTextOf, AreLegal}
use Rattle.explorer_model.proofs.LegalGames.{game-legal}
use Rattle.explorer_model.proofs.LabelLemmas.{none-is-label}
use Rattle.tally_rows.specs.declared.row.Row.{Row}
use Rattle.tally_rows.specs.Tally.{IsTrackOf, IsCounted}
use Rattle.batch_tally.specs.declared.accepting.Accepted.{Accepted}
use Rattle.batch_tally.specs.Accepting.{candidate_as, AreCandidates}
use Rattle.batch_tally.specs.Singles.{AreRowsOf}
use Rattle.batch_tally.specs.Tallying.{Counts}

-- ---- the moves of games are legal

pub games-legal : (accepted : List Accepted) → All (λ a. IsTextOf a.text a.game) accepted → All (λ a. AreLegal a.game) accepted
games-legal accepted each = All-from_recursion (λ a. AreLegal a.game) accepted (legal-each accepted (recursion_from_All (λ a. IsTextOf a.text a.game) accepted each))
  where
    legal-each : (accepted : List Accepted) → AllByRecursion (λ a. IsTextOf a.text a.game) accepted → AllByRecursion (λ a. AreLegal a.game) accepted
    legal-each [] each = tt
    legal-each (a ∷ accepted) each = (game-legal a.text a.game each.0, legal-each accepted each.1)

-- ---- lists of parts of them

pub places-are : (accepted : List Accepted) → map (λ a. a.place) accepted ≡ map (λ candidate. candidate.place) (map candidate_as accepted)
places-are [] = refl
places-are (a ∷ accepted) = ap (λ l. a.place ∷ l) (places-are accepted)

texts-are : (accepted : List Accepted) → map (λ a. a.text) accepted ≡ map (λ candidate. candidate.text) (map candidate_as accepted)
texts-are [] = refl
texts-are (a ∷ accepted) = ap (λ l. a.text ∷ l) (texts-are accepted)

games-are : (accepted : List Accepted) → map (λ a. a.game) accepted ≡ map (λ candidate. candidate.game) (map candidate_as accepted)
games-are [] = refl
games-are (a ∷ accepted) = ap (λ l. a.game ∷ l) (games-are accepted)

pub classes-are : (accepted : List Accepted) → map (λ a. a.game.classes) accepted ≡ map (λ candidate. candidate.game.classes) (map candidate_as accepted)
classes-are [] = refl
classes-are (a ∷ accepted) = ap (λ l. a.game.classes ∷ l) (classes-are accepted)

classes-of-games : (accepted : List Accepted) → map (λ a. a.game.classes) accepted ≡ map (λ game. game.classes) (map (λ a. a.game) accepted)
classes-of-games [] = refl
classes-of-games (a ∷ accepted) = ap (λ l. a.game.classes ∷ l) (classes-of-games accepted)

zip-games : (accepted : List Accepted) → AllByRecursion (λ a. IsTextOf a.text a.game) accepted → AllZip IsTextOf (map (λ a. a.text) accepted) (map (λ a. a.game) accepted)
zip-games [] each = tt
zip-games (a ∷ accepted) each = (each.0, zip-games accepted each.1)

short-texts : (accepted : List Accepted) → AllByRecursion (λ a. length a.text ≤ text_limit) accepted → AllByRecursion (λ text. length text ≤ text_limit) (map (λ a. a.text) accepted)
short-texts [] each = tt
short-texts (a ∷ accepted) each = (each.0, short-texts accepted each.1)

-- ---- the tally

-- what the tally is made of
pub record IsMade (accepted : List Accepted) (texts : List (List ℕ)) (classes : List Classes) (rows : List Row) : Type 0 where
  pub some : accepted ≢ []
  pub known : AreCandidates accepted
  pub texts_are : texts ≡ map (λ a. a.text) accepted
  pub classes_are : classes ≡ map (λ a. a.game.classes) accepted
  pub counted : AreRowsOf accepted rows

some-length : (accepted : List Accepted) → accepted ≢ [] → 0 < length accepted
some-length [] some = absurd (some refl)
some-length (a ∷ accepted) some = omega arith

pub made-counted : (accepted : List Accepted) (texts : List (List ℕ)) (classes : List Classes) (rows : List Row) → IsMade accepted texts classes rows
    → IsCounted (record { batch = record { label = no_label; texts = texts }; classes = classes; rows = rows })
made-counted accepted texts classes rows made =
    let Texts : List (List ℕ) → Type 0 = λ ts. IsCounted (record { batch = record { label = no_label; texts = ts }; classes = classes; rows = rows }) in
    let Tags : List Classes → Type 0 = λ cs. IsCounted (record { batch = record { label = no_label; texts = map (λ a. a.text) accepted }; classes = cs; rows = rows }) in
    let many : length (map (λ a. a.text) accepted) ≡ length accepted = length-map accepted (λ a. a.text) in
    let first = some-length accepted made.some in
    let few = made.known.few in
    subst Texts (sym made.texts_are) (subst Tags (sym made.classes_are) (record {
      batch = record {
        label = none-is-label;
        some = omega (arith, many, first);
        few = omega (arith, many, few);
        short = All-from_recursion (λ text. length text ≤ text_limit) (map (λ a. a.text) accepted)
            (short-texts accepted (recursion_from_All (λ a. length a.text ≤ text_limit) accepted made.known.short));
        games = map (λ a. a.game) accepted;
        are_games = zip-games accepted (recursion_from_All (λ a. IsTextOf a.text a.game) accepted made.known.games);
      };
      different = made.known.different;
      tally = record {
        games = map (λ a. a.game) accepted;
        are_games = zip-games accepted (recursion_from_All (λ a. IsTextOf a.text a.game) accepted made.known.games);
        classes_are = classes-of-games accepted;
        tracks = made.counted.tracks;
        are_tracks = made.counted.are_tracks;
        tallied = made.counted.tallied;
      };
    }))

batch-made : (accepted : List Accepted) → accepted ≢ [] → batch_of no_label (map candidate_as accepted) ≡ Some (record { label = no_label; texts = map (λ a. a.text) accepted })
batch-made [] some = absurd (some refl)
batch-made (a ∷ accepted) some = ap (λ l. Some (record { label = no_label; texts = l })) (sym (texts-are (a ∷ accepted)))

pub made-counts : (accepted : List Accepted) (texts : List (List ℕ)) (classes : List Classes) (rows : List Row) → IsMade accepted texts classes rows
    → Counts (map candidate_as accepted) (record { batch = record { label = no_label; texts = texts }; classes = classes; rows = rows })
made-counts accepted texts classes rows made =
    let Z : List Game → Type 0 = λ gs. AllZip IsTrackOf gs made.counted.tracks in
    record {
      batch = batch-made accepted made.some ∙ ap (λ l. Some (record { label = no_label; texts = l })) (sym made.texts_are);
      classes = made.classes_are ∙ classes-are accepted;
      tracks = made.counted.tracks;
      are_tracks = subst Z (games-are accepted) made.counted.are_tracks;
      tallied = made.counted.tallied;
    }

-- the parts of a tally, as the code makes them
pub made-of : (accepted lent : List Accepted) (texts made_texts : List (List ℕ)) (classes made_classes : List Classes) (rows made_rows : List Row)
    → accepted ≢ [] → AreCandidates accepted → lent ≡ accepted
    → texts ≡ made_texts → made_texts ≡ map (λ a. a.text) accepted
    → classes ≡ made_classes → made_classes ≡ map (λ a. a.game.classes) accepted
    → rows ≡ made_rows → AreRowsOf lent made_rows
    → IsMade accepted texts classes rows
made-of accepted lent texts made_texts classes made_classes rows made_rows some known borrowed t texts_are k classes_are r counted =
    let C : List Accepted → Type 0 = λ l. AreRowsOf l made_rows in
    let R : List Row → Type 0 = λ l. AreRowsOf accepted l in
    record {
      some = some;
      known = known;
      texts_are = t ∙ texts_are;
      classes_are = k ∙ classes_are;
      counted = subst R (sym r) (subst C borrowed counted);
    }
