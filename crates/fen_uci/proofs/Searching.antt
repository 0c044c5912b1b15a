-- A search through the legal moves for the one that a form means.
use Rattle.std.proofs.Common.{◌≡◌, ◌↔◌, ℕ, ◌+◌, ◌<◌, ◌≤◌, arith, List, length, slice_index_or, Contains, IsTrue, false, Option, None, Some, Result, Ok, Err, sym, subst, ◌∙◌}
use Rattle.std.proofs.lemmas.List.{get_or_default}
use borrow.Author.Count.{below_more}
use Rattle.explorer_model.specs.declared.chess.Position.{Position}
use Rattle.explorer_model.specs.declared.chess.Move.{Move}
use Rattle.explorer_model.specs.declared.notation.UciForm.{UciForm}
use Rattle.explorer_model.specs.declared.notation.UciFault.{UciFault}
use Rattle.explorer_model.specs.declared.notation.UciFault.TheVariants.{NotLegal}
use Rattle.explorer_model.specs.Chess.{Legal}
use Rattle.explorer_model.specs.Uci.{uci_form, Means, UciAnswers, UciAnswersAs, UciReads}

pub not_false : ¬ IsTrue false
not_false off = cc

-- none of the first n is meant
abbrev pub NoneMeant : Position → UciForm → List Move → ℕ → Type 0
NoneMeant p form moves n = (k : ℕ) → k < n → (d : Move) → ¬ Means p form (slice_index_or moves k d)

pub none_meant-more : (p : Position) (form : UciForm) (moves : List Move) (n : ℕ) (x : Move) → n < length moves → x ≡ slice_index_or moves n x
    → ¬ Means p form x → NoneMeant p form moves n → NoneMeant p form moves (n + 1)
none_meant-more p form moves n x h e off none =
    below_more (λ k. (d : Move) → ¬ Means p form (slice_index_or moves k d)) n none
    (λ d here. off (subst (Means p form) (get_or_default moves n d x h ∙ sym e) here))

reads : (p : Position) (text : List ℕ) (form : UciForm) (r : Result Move UciFault) → Some form ≡ uci_form text → UciAnswers p form r → UciReads p text r
reads p text form r e answers = subst (λ (o : Option UciForm). UciAnswersAs p o r) e answers

each_same : (p : Position) (moves items : List Move) → moves ≡ items → ((m : Move) → Contains items m ↔ Legal p m) → (m : Move) → Contains moves m ↔ Legal p m
each_same p moves items same each = subst (λ (xs : List Move). (m : Move) → Contains xs m ↔ Legal p m) (sym same) each

-- the move at place n is meant
pub reads_found : (p q : Position) (text : List ℕ) (form : UciForm) (moves items : List Move) (n : ℕ) (x : Move) → Some form ≡ uci_form text → q ≡ p → moves ≡ items
    → ((m : Move) → Contains items m ↔ Legal p m) → n < length moves → x ≡ slice_index_or moves n x → Means q form x → UciReads p text (Ok x)
reads_found p q text form moves items n x e here same each h at means =
    reads p text form (Ok x) e (subst (λ (o : Position). Means o form x) here means, (each_same p moves items same each x).0 (n, h, sym at))

-- no move is meant
pub reads_none : (p q : Position) (text : List ℕ) (form : UciForm) (moves items : List Move) (n : ℕ) → Some form ≡ uci_form text → q ≡ p → moves ≡ items
    → ((m : Move) → Contains items m ↔ Legal p m) → length moves ≤ n → NoneMeant q form moves n → UciReads p text (Err NotLegal)
reads_none p q text form moves items n e here same each last none =
    reads p text form (Err NotLegal) e
    (λ m means legal.
    let (k, within, at) = (each_same p moves items same each m).1 legal in
    none k (omega (arith, within, last)) m (subst (Means q form) (sym at) (subst (λ (o : Position). Means o form m) (sym here) means)))

answers_legal : (p : Position) (form : Option UciForm) (m : Move) → UciAnswersAs p form (Ok m) → Legal p m
answers_legal p None m e = cc
answers_legal p (Some form) m (means, legal) = legal

-- a move that is read is legal
pub reads_legal : (p : Position) (text : List ℕ) (m : Move) → UciReads p text (Ok m) → Legal p m
reads_legal p text m reads = answers_legal p (uci_form text) m reads
