-- A file of openings is read line by line.
use Rattle.std.proofs.Common.{◌≡◌, ◌⊎◌, ℕ, ◌+◌, Bool, true, false, if◌then◌else◌, List, [], ◌∷◌, ◌++◌, Option, Some, None, Result, Ok, Err, map, refl, sym, ap, subst, ◌∙◌, inl, inr}
use Rattle.std.specs.Prelude.{MatchBool}
use Rattle.std.proofs.lemmas.List.{append_assoc, append-nil, map-append}
use Rattle.explorer_model.specs.declared.opening.BookCause.{BookCause}
use Rattle.explorer_model.specs.declared.opening.BookFault.{BookFault}
use Rattle.explorer_model.specs.Openings.{NamedPosition, BookLineReads, LinesRead, is_passed, lines_of, onto_book}
use Rattle.opening_names.specs.declared.line.NamedLine.{NamedLine}
use Rattle.opening_names.specs.Held.{AreKeyed, IsKeyed, named_line}
use Rattle.opening_names.specs.Reading.{lines_left, onto_all}

-- what is read of the rest, behind what was read, is what is read of the text
pub record ReadsOn (text : List ℕ) (number : ℕ) (left : Option (List ℕ)) (book : List NamedPosition) : Type 0 where
  pub completes : (whole : Result (List NamedPosition) BookFault) → LinesRead number (lines_left left) whole
      → LinesRead 1 (lines_of text) (onto_all book whole)

onto-nothing : (whole : Result (List NamedPosition) BookFault) → whole ≡ onto_all [] whole
onto-nothing (Ok lines) = refl
onto-nothing (Err fault) = refl

onto-more : (book : List NamedPosition) (named : NamedPosition) (whole : Result (List NamedPosition) BookFault)
    → onto_all book (onto_book named whole) ≡ onto_all (book ++ named ∷ []) whole
onto-more book named (Ok lines) = ap Ok (sym (append_assoc book (named ∷ []) lines))
onto-more book named (Err fault) = refl

pub reads-first : (text : List ℕ) → ReadsOn text 1 (Some text) []
reads-first text = record { completes = λ whole read. subst (LinesRead 1 (lines_of text)) (onto-nothing whole) read }

module _ (text : List ℕ) (number : ℕ) (now line : List ℕ) (left : Option (List ℕ)) (book : List NamedPosition) (cut : lines_of now ≡ line ∷ lines_left left)
    (reads : ReadsOn text number (Some now) book) where
  here : (whole : Result (List NamedPosition) BookFault) → LinesRead number (line ∷ lines_left left) whole → LinesRead 1 (lines_of text) (onto_all book whole)
  here whole read = reads.completes whole (subst (λ l. LinesRead number l whole) (sym cut) read)

  abbrev Unpassed : Result (List NamedPosition) BookFault → Type 0
  Unpassed whole =
      ((named : NamedPosition) × (rest : Result (List NamedPosition) BookFault)
      × BookLineReads line (Ok named) × LinesRead (number + 1) (lines_left left) rest × (whole ≡ onto_book named rest))
      ⊎ ((cause : BookCause) × BookLineReads line (Err cause)
      × (whole ≡ Err (record { line = number; cause = cause })))

  pub reads-passed : is_passed number line ≡ true → ReadsOn text (number + 1) left book
  unfolding is_passed
  reads-passed passed = record {
    completes = λ whole read.
        here whole (subst (λ b. MatchBool b (LinesRead (number + 1) (lines_left left) whole) (Unpassed whole)) (sym passed) read);
  }

  pub reads-named : (named : NamedPosition) → is_passed number line ≡ false → BookLineReads line (Ok named) → ReadsOn text (number + 1) left (book ++ named ∷ [])
  unfolding is_passed
  reads-named named passed is = record {
    completes = λ whole read.
        subst (LinesRead 1 (lines_of text)) (onto-more book named whole)
        (here (onto_book named whole) (subst (λ b. MatchBool b (LinesRead (number + 1) (lines_left left) (onto_book named whole)) (Unpassed (onto_book named whole))) (sym passed)
        (inl (named, whole, is, read, refl))));
  }

  pub reads-fault : (cause : BookCause) → is_passed number line ≡ false → BookLineReads line (Err cause)
      → LinesRead 1 (lines_of text) (Err (record { line = number; cause = cause }))
  unfolding is_passed
  reads-fault cause passed is =
      let whole : Result (List NamedPosition) BookFault = Err (record { line = number; cause = cause }) in
      here whole (subst (λ b. MatchBool b (LinesRead (number + 1) (lines_left left) whole) (Unpassed whole)) (sym passed) (inr (cause, is, refl)))

pub reads-all : (text : List ℕ) (number : ℕ) (book : List NamedPosition) → ReadsOn text number None book → LinesRead 1 (lines_of text) (Ok book)
reads-all text number book reads =
    subst (λ l. LinesRead 1 (lines_of text) (Ok l)) (append-nil book) (reads.completes (Ok []) refl)

-- ---- lines as they are held

pub reads-pushed : (text : List ℕ) (number : ℕ) (now line : List ℕ) (left : Option (List ℕ)) (lines more : List NamedLine) (named : NamedLine)
    → lines_of now ≡ line ∷ lines_left left → ReadsOn text number (Some now) (map named_line lines) → more ≡ lines ++ named ∷ [] → is_passed number line ≡ false
    → BookLineReads line (Ok (named_line named)) → ReadsOn text (number + 1) left (map named_line more)
reads-pushed text number now line left lines more named cut reads pushed passed is =
    let R : List NamedPosition → Type 0 = λ book. ReadsOn text (number + 1) left book in
    subst R (sym (ap (map named_line) pushed ∙ map-append named_line lines (named ∷ [])))
    (reads-named text number now line left (map named_line lines) cut reads (named_line named) passed is)

keyed-append : (lines : List NamedLine) (line : NamedLine) → AreKeyed lines → IsKeyed line → AreKeyed (lines ++ line ∷ [])
keyed-append [] line keyed last = (last, tt)
keyed-append (l ∷ lines) line keyed last = (keyed.0, keyed-append lines line keyed.1 last)

pub keyed-pushed : (lines more : List NamedLine) (named : NamedLine) → more ≡ lines ++ named ∷ [] → AreKeyed lines → IsKeyed named → AreKeyed more
keyed-pushed lines more named pushed keyed last =
    let K : List NamedLine → Type 0 = λ l. AreKeyed l in
    subst K (sym pushed) (keyed-append lines named keyed last)

pub pushed : (lines more : List NamedLine) (named : NamedLine) (ok : Bool) → more ≡ (if ok then lines ++ named ∷ [] else lines) → ok ≡ true → more ≡ lines ++ named ∷ []
pushed lines more named ok is holds = is ∙ ap (λ (b : Bool). if b then lines ++ named ∷ [] else lines) holds
