-- Texts that are read in runs, and put together with their contents.
use Rattle.std.proofs.Common.{◌≡◌, ◌+◌, ◌<◌, ◌≤◌, ℕ, Result, Ok, Err, IfOk, List, [], ◌∷◌, ◌++◌, map, length, get_or, take, drop, refl, sym, ap, ◌∙◌, subst, arith}
use Rattle.std.specs.Arc.{arc_value}
use Rattle.std.specs.declared.alloc.AllocError.{AllocError}
use Rattle.std.specs.List.{All, AllByRecursion, AllZip, flat_map}
use Rattle.std.proofs.lemmas.List.{append_assoc, append-nil, drop-append-le, drop-drop, drop-map, length-append, length-drop, map_push, nil_from_length, take-append-drop, take-append-le, take-map, take_all, take_more}
use Rattle.std.proofs.lemmas.List.Elements.{All-push, recursion_from_All}
use Rattle.std.proofs.Math.ListN.{drop_of_length-le}
use Rattle.std.proofs.Math.Seq.{drop-append_seam}
use Rattle.std.proofs.lemmas.Result.{IfOk-weaker}
use Rattle.explorer_model.specs.declared.archive.Game.{Game}
use Rattle.explorer_model.specs.declared.archive.Placed.{Placed}
use Rattle.explorer_model.specs.declared.fault.GameFault.{GameFault}
use Rattle.explorer_model.specs.Games.{GameOf}
use Rattle.explorer_model.proofs.Lists.{zip-append}
use Rattle.tally_rows.specs.declared.single.Single.{Single}
use Rattle.batch_tally.specs.declared.reading.Contents.{Contents}
use Rattle.batch_tally.specs.declared.reading.Reading.{Reading}
use Rattle.batch_tally.specs.declared.reading.Run.{Run}
use Rattle.batch_tally.specs.declared.reading.RunPart.{RunPart}
use Rattle.batch_tally.specs.declared.singles.Count.{Count}
use Rattle.batch_tally.specs.declared.singles.RunCount.{RunCount}
use Rattle.batch_tally.specs.Reading.{AreContentsOf, AreRunsFrom, IsPartOf, IsReadBehind, IsReadingOf, readings_of, run_of}
use Rattle.batch_tally.specs.Singles.{ArePushed, AreSinglesOf, IsCountOf, part_of, word_of}
use Rattle.batch_tally.proofs.LeafLemmas.{made-each, ok_part}

-- ---- the texts of all runs are all texts

runs-whole : {V : Type 0} (R : Placed → Contents → Type 0) (items : V → List Contents) (texts : List Placed) (from : ℕ) (runs : List Run) (parts : List V)
    → AreRunsFrom from (length texts) runs → AllZip (λ run part. AllZip R (run_of texts run) (items part)) runs parts
    → AllZip R (drop from texts) (flat_map items parts)
runs-whole R items texts from [] [] follow each =
    subst (λ (l : List Placed). AllZip R l []) (sym (drop_of_length-le texts {i = from} (omega (arith, follow)))) tt
runs-whole R items texts from [] (part ∷ parts) follow each = absurd each
runs-whole R items texts from (run ∷ runs) [] follow each = absurd each
runs-whole {V} R items texts from (run ∷ runs) (part ∷ parts) follow each =
    let front : AllZip R (take run.number (drop from texts)) (items part) =
    subst (λ (n : ℕ). AllZip R (take run.number (drop n texts)) (items part)) follow.0 each.0 in
    let behind : AllZip R (drop run.number (drop from texts)) (flat_map items parts) =
    subst (λ (l : List Placed). AllZip R l (flat_map items parts)) (sym (drop-drop run.number from texts ∙ ap (λ n. drop n texts) (omega arith)))
    (runs-whole R items texts (from + run.number) runs parts follow.1 each.1) in
    subst (λ (l : List Placed). AllZip R l (items part ++ flat_map items parts)) (take-append-drop run.number (drop from texts))
    (zip-append R (take run.number (drop from texts)) (drop run.number (drop from texts)) (items part) (flat_map items parts) front behind)

-- ---- runs, one after another

-- runs so far, behind which runs from a place on follow
abbrev pub LeadTo : ℕ → List Run → ℕ → Type 0
LeadTo end runs from = (rest : List Run) → AreRunsFrom from end rest → AreRunsFrom 0 end (runs ++ rest)

pub one-run : (end : ℕ) (runs more : List Run) (from next number : ℕ) → more ≡ runs ++ record { from = from; number = number } ∷ []
    → next ≡ from + number → LeadTo end runs from → LeadTo end more next
one-run end runs more from next number pushed behind lead rest follow =
    subst (AreRunsFrom 0 end) (sym (ap (λ l. l ++ rest) pushed ∙ append_assoc runs (record { from = from; number = number } ∷ []) rest))
    (lead (record { from = from; number = number } ∷ rest) (refl, subst (λ (n : ℕ). AreRunsFrom n end rest) behind follow))

pub last-run : (end : ℕ) (runs more : List Run) (from number : ℕ) → more ≡ runs ++ record { from = from; number = number } ∷ []
    → from + number ≡ end → LeadTo end runs from → AreRunsFrom 0 end more
last-run end runs more from number pushed ends lead =
    subst (AreRunsFrom 0 end) (sym pushed) (lead (record { from = from; number = number } ∷ []) (refl, ends))

-- ---- the singles of a run

part-kept : {A : Type 0} (xs ys : List A) (from number : ℕ) → from + number ≤ length xs → part_of (xs ++ ys) from number ≡ part_of xs from number
part-kept xs ys from number within =
    ap (take number) (drop-append-le from xs ys (omega (arith, within)))
    ∙ take-append-le number (drop from xs) ys (let left = length-drop from xs in omega (arith, within, left))

part-behind : {A : Type 0} (xs ys : List A) (from number : ℕ) → from ≡ length xs → number ≡ length ys → part_of (xs ++ ys) from number ≡ ys
part-behind xs ys from number at many =
    ap (λ n. take number (drop n (xs ++ ys))) at ∙ ap (take number) (drop-append_seam xs ys) ∙ take_all number ys (omega (arith, many))

more-part : (before own : List Single) (text : Placed) (part : RunPart) → IsPartOf before text part → IsPartOf (before ++ own) text part
more-part before own text part is =
    let kept = part-kept before own part.from part.number is.within in
    record {
      game = is.game;
      within = (let within = is.within in let long = length-append before own in omega (arith, within, long));
      counted = IfOk-weaker part.game (λ game. AreSinglesOf game (part_of before part.from part.number)) (λ game. AreSinglesOf game (part_of (before ++ own) part.from part.number))
          (λ game are. subst (AreSinglesOf game) (sym kept) are) is.counted;
    }

more-parts : (before own : List Single) (texts : List Placed) (parts : List RunPart) → AllZip (IsPartOf before) texts parts
    → AllZip (IsPartOf (before ++ own)) texts parts
more-parts before own [] [] each = tt
more-parts before own [] (part ∷ parts) each = absurd each
more-parts before own (text ∷ texts) [] each = absurd each
more-parts before own (text ∷ texts) (part ∷ parts) each = (more-part before own text part each.0, more-parts before own texts parts each.1)

-- one text more of a run
pub one-read : (texts : List Placed) (i : ℕ) (text : Placed) (before after : List Single) (parts next : List RunPart) (part : RunPart)
    → i < length texts → text ≡ get_or texts i text → next ≡ parts ++ part ∷ [] → IsReadBehind before after text part
    → AllZip (IsPartOf before) (take i texts) parts → AllZip (IsPartOf after) (take (i + 1) texts) next
one-read texts i text before after parts next part within read pushed is each =
    let long : take (i + 1) texts ≡ take i texts ++ text ∷ [] =
    take_more texts i text within ∙ ap (λ t. take i texts ++ t ∷ []) (sym read) in
    let kept : AllZip (IsPartOf after) (take i texts) parts =
    subst (λ (l : List Single). AllZip (IsPartOf l) (take i texts) parts) (sym is.pushed) (more-parts before is.own (take i texts) parts each) in
    let whole : AllZip (IsPartOf after) (take i texts ++ text ∷ []) (parts ++ part ∷ []) =
    zip-append (IsPartOf after) (take i texts) (text ∷ []) parts (part ∷ []) kept (is.is_part, tt) in
    subst (λ (l : List RunPart). AllZip (IsPartOf after) (take (i + 1) texts) l) (sym pushed)
    (subst (λ (l : List Placed). AllZip (IsPartOf after) l (parts ++ part ∷ [])) (sym long) whole)

-- a text with a game
pub read-game : (before after : List Single) (text : Placed) (game : Game) (from number : ℕ) → GameOf text.bytes (Ok game) → ArePushed game before after
    → from ≡ length before → from + number ≡ length after
    → IsReadBehind before after text (record { game = Ok game; from = from; number = number })
read-game before after text game from number of pushing at many =
    let long = length-append before pushing.own in
    let whole = ap (λ l. length l) pushing.pushed in
    let own : part_of after from number ≡ pushing.own =
    ap (λ l. part_of l from number) pushing.pushed ∙ part-behind before pushing.own from number at (omega (arith, at, many, whole, long)) in
    record {
      own = pushing.own;
      pushed = pushing.pushed;
      is_part = record {
        game = of;
        within = omega (arith, many);
        counted = subst (AreSinglesOf game) (sym own) pushing.are_own;
      };
    }

-- a text without one
pub read-fault : (singles after : List Single) (text : Placed) (fault : GameFault) (from : ℕ) → after ≡ singles → GameOf text.bytes (Err fault)
    → from ≡ length singles → IsReadBehind singles after text (record { game = Err fault; from = from; number = 0 })
read-fault singles after text fault from same of at =
    let long = ap (λ l. length l) same in
    record {
      own = [];
      pushed = same ∙ sym (append-nil singles);
      is_part = record { game = of; within = omega (arith, at, long); counted = tt };
    }

-- ---- the contents of the texts of a run

-- the part of a run that the contents are
abbrev pub part_as : Contents → RunPart
part_as contents = record { game = contents.game; from = contents.count.from; number = contents.count.number }

abbrev pub IsOfRun : RunCount → Contents → Type 0
IsOfRun run contents = arc_value contents.count.of_run ≡ run

counted-by : (run : RunCount) → run.words.items ≡ map word_of run.singles.items → (count : Count) → arc_value count.of_run ≡ run → (game : Game)
    → AreSinglesOf game (part_of run.singles.items count.from count.number) → IsCountOf game count
counted-by run words count of game are = record {
  singles = subst (λ (r : RunCount). AreSinglesOf game (part_of r.singles.items count.from count.number)) (sym of) are;
  words = subst (λ (r : RunCount). part_of r.words.items count.from count.number ≡ map word_of (part_of r.singles.items count.from count.number)) (sym of)
      (ap (λ l. part_of l count.from count.number) words
      ∙ ap (take count.number) (drop-map word_of count.from run.singles.items)
      ∙ take-map word_of count.number (drop count.from run.singles.items));
}

contents-each : (run : RunCount) → run.words.items ≡ map word_of run.singles.items → (texts : List Placed) (made : List Contents)
    → AllByRecursion (IsOfRun run) made → AllZip (IsPartOf run.singles.items) texts (map part_as made) → AllZip AreContentsOf texts made
contents-each run words [] [] of each = tt
contents-each run words [] (one ∷ made) of each = absurd each
contents-each run words (text ∷ texts) [] of each = absurd each
contents-each run words (text ∷ texts) (one ∷ made) of each = (
  record {
    game = each.0.game;
    counted = IfOk-weaker one.game (λ game. AreSinglesOf game (part_of run.singles.items one.count.from one.count.number)) (λ game. IsCountOf game one.count) (counted-by run words one.count of.0) each.0.counted;
  },
  contents-each run words texts made of.1 each.1,
)

-- one text more
pub one-content : (run : RunCount) (parts : List RunPart) (made next : List Contents) (left more : List RunPart) (one : Contents)
    → left ≡ part_as one ∷ more → next ≡ made ++ one ∷ [] → IsOfRun run one
    → (map part_as made ++ left ≡ parts) × All (IsOfRun run) made → (map part_as next ++ more ≡ parts) × All (IsOfRun run) next
one-content run parts made next left more one first pushed of so_far = (
  ap (λ l. map part_as l ++ more) pushed
      ∙ ap (λ l. l ++ more) (map_push part_as made one)
      ∙ append_assoc (map part_as made) (part_as one ∷ []) more
      ∙ ap (λ l. map part_as made ++ l) (sym first)
      ∙ so_far.0,
  subst (λ (l : List Contents). All (IsOfRun run) l) (sym pushed) (All-push (IsOfRun run) made one so_far.1 of),
)

pub contents-are : (run : RunCount) (singles : List Single) (parts left : List RunPart) (made : List Contents) → run.singles.items ≡ singles
    → run.words.items ≡ map word_of run.singles.items → length left ≡ 0
    → (map part_as made ++ left ≡ parts) × All (IsOfRun run) made
    → (texts : List Placed) → AllZip (IsPartOf singles) texts parts → AllZip AreContentsOf texts made
contents-are run singles parts left made same words none made_of texts each =
    let are : map part_as made ≡ parts =
    sym (append-nil (map part_as made)) ∙ ap (λ l. map part_as made ++ l) (sym (nil_from_length left none)) ∙ made_of.0 in
    contents-each run words texts made (recursion_from_All (IsOfRun run) made made_of.1)
    (subst (λ (l : List RunPart). AllZip (IsPartOf run.singles.items) texts l) (sym are)
    (subst (λ (l : List Single). AllZip (IsPartOf l) texts parts) (sym same) each))

-- ---- texts with their contents

none-behind : (texts : List Placed) → readings_of texts [] ≡ []
none-behind [] = refl
none-behind (text ∷ texts) = refl

-- no part is left
pub all-together : {V : Type 0} (items : V → List Contents) (readings all : List Reading) (texts : List Placed) (left : List V) → length left ≡ 0
    → readings ++ readings_of texts (flat_map items left) ≡ all → readings ≡ all
all-together items readings all texts left none whole =
    sym (append-nil readings) ∙ ap (λ l. readings ++ l) (sym (none-behind texts))
    ∙ ap (λ l. readings ++ readings_of texts (flat_map items l)) (sym (nil_from_length left none)) ∙ whole

readings-are : (texts : List Placed) (contents : List Contents) → AllZip AreContentsOf texts contents → AllZip IsReadingOf texts (readings_of texts contents)
readings-are [] [] each = tt
readings-are [] (one ∷ contents) each = absurd each
readings-are (text ∷ texts) [] each = absurd each
readings-are (text ∷ texts) (one ∷ contents) each = (
  record { place = refl; bytes = refl; game = each.0.game; counted = each.0.counted },
  readings-are texts contents each.1,
)

-- the texts with what was read of them in runs
pub all-read : {V : Type 0} (items : V → List Contents) (texts : List Placed) (runs : List Run) (results : List (Result V AllocError)) (made : List V)
    (readings : List Reading) → map ok_part made ≡ results → AreRunsFrom 0 (length texts) runs → length results ≡ length runs
    → ((n : ℕ) (d : Result V AllocError) (r : Run) → n < length runs
    → IfOk (get_or results n d) (λ part. AllZip AreContentsOf (run_of texts (get_or runs n r)) (items part)))
    → readings ≡ readings_of texts (flat_map items made) → AllZip IsReadingOf texts readings
all-read {V} items texts runs results made readings ok follow count each are =
    let whole : AllZip AreContentsOf texts (flat_map items made) =
    runs-whole AreContentsOf items texts 0 runs made follow
    (made-each (λ run part. AllZip AreContentsOf (run_of texts run) (items part)) runs results made ok count each) in
    subst (λ (l : List Reading). AllZip IsReadingOf texts l) (sym are) (readings-are texts (flat_map items made) whole)
