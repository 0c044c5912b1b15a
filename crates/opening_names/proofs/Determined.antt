-- A text has one book, a position one opening, a query and moves one naming.
use Rattle.std.proofs.Common.{◌≡◌, ◌⊎◌, ◌∙◌, sym, ap, subst, inl, inr, ℕ, ◌+◌, Bool, true, false, ◌&&◌, MatchBool, nat_le, List, [], ◌∷◌, length, Option, Some, None, Result, Ok, Err}
use Rattle.std.specs.List.{slice_split}
use Rattle.std.specs.Option.{option_or}
use Rattle.std.specs.Str.{is_utf8}
use Rattle.explorer_model.specs.declared.chess.Move.{Move}
use Rattle.explorer_model.specs.declared.chess.Position.{Position}
use Rattle.explorer_model.specs.declared.fault.SanFault.{SanFault}
use Rattle.explorer_model.specs.declared.opening.BookCause.{BookCause}
use Rattle.explorer_model.specs.declared.opening.BookCause.TheVariants.{NotUtf8, TooLong}
use Rattle.explorer_model.specs.declared.opening.BookFault.{BookFault}
use Rattle.explorer_model.specs.declared.opening.Naming.{Naming}
use Rattle.explorer_model.specs.declared.opening.Opening.{Opening}
use Rattle.explorer_model.specs.declared.query.Query.{Query}
use Rattle.explorer_model.specs.Chess.{after, start}
use Rattle.explorer_model.specs.Openings.{BookLineReads, BookReads, Columns, ColumnsRead, IsNaming, LastOpening, Leads, LinesRead, NamedPosition, OpeningOf, is_passed, is_tab, lines_of, move_limit, named_by, onto_book, positions_on, three_columns, words_of}
use Rattle.explorer_model.specs.San.{SanReads}
use Rattle.explorer_model.proofs.Lists.{one-zip}
use Rattle.opening_names.proofs.ColumnLemmas.{Short, Told}

-- ---- names

pub one-opening : (book : List NamedPosition) (at : Position) (opening other : Option Opening) → OpeningOf book at opening → OpeningOf book at other → opening ≡ other
one-opening [] at opening other first second = first ∙ sym second
one-opening (named ∷ book) at opening other (inl first) (inl second) = first.1 ∙ sym second.1
one-opening (named ∷ book) at opening other (inl first) (inr second) = absurd (second.0 first.0)
one-opening (named ∷ book) at opening other (inr first) (inl second) = absurd (first.0 second.0)
one-opening (named ∷ book) at opening other (inr first) (inr second) = one-opening book at opening other first.1 second.1

one-last : (book : List NamedPosition) (positions : List Position) (opening other : Option Opening) → LastOpening book positions opening → LastOpening book positions other
    → opening ≡ other
one-last book [] opening other first second = first ∙ sym second
one-last book (p ∷ positions) opening other (own, later, is, last, same) (own', later', is', last', same') =
    let one_own : own ≡ own' = one-opening book p own own' is is' in
    let one_later : later ≡ later' = one-last book positions later later' last last' in
    same ∙ ((λ i. option_or (one_later i) (one_own i)) ∙ sym same')

pub one-naming : (book : List NamedPosition) (query : Query) (played : List Move) (naming other : Naming) → IsNaming book query played naming → IsNaming book query played other
    → naming ≡ other
one-naming book query played naming other first second =
    let whole = one-last book (positions_on query.root query.plays) naming.whole other.whole first.whole second.whole in
    let R : Move → Option Opening → Type 0 = λ m opening. OpeningOf book (after query.at m) opening in
    let moves = one-zip R (λ m opening o. one-opening book (after query.at m) opening o) played naming.moves other.moves first.moves second.moves in
    λ i. record { whole = whole i; moves = moves i }

-- ---- the book, where a text has one reading as a move of a position

module _ (reading : (p : Position) (text : List ℕ) (r s : Result Move SanFault) → SanReads p text r → SanReads p text s → r ≡ s) where
  one-end : (words : List (List ℕ)) (p : Position) (end other : Option Position) → Leads p words end → Leads p words other → end ≡ other
  one-end [] p end other first second = first ∙ sym second
  one-end (word ∷ words) p end other (inl (m, reads, more)) (inl (n, others, further)) =
      let one : Ok m ≡ Ok n = reading p word (Ok m) (Ok n) reads others in
      let move : n ≡ m = cc in
      let P : Move → Type 0 = λ k. Leads (after p k) words other in
      one-end words (after p m) end other more (subst P move further)
  one-end (word ∷ words) p end other (inl (m, reads, more)) (inr (fault, others, none)) =
      let one : Ok m ≡ Err fault = reading p word (Ok m) (Err fault) reads others in cc
  one-end (word ∷ words) p end other (inr (fault, reads, none)) (inl (n, others, further)) =
      let one : Err fault ≡ Ok n = reading p word (Err fault) (Ok n) reads others in cc
  one-end (word ∷ words) p end other (inr (fault, reads, none)) (inr (fault', others, none')) = none ∙ sym none'

  -- what a test of two cases gives is one, where each case is
  one-match : {X : Type 0} (test : Bool) (x y : X) (A B C D : Type 0) → (A → B → x ≡ y) → (C → D → x ≡ y) → MatchBool test A C → MatchBool test B D → x ≡ y
  one-match true x y A B C D f g first second = f first second
  one-match false x y A B C D f g first second = g first second

  one-columns : (columns : Option Columns) (r s : Result NamedPosition BookCause) → ColumnsRead columns r → ColumnsRead columns s → r ≡ s
  one-columns None r s first second = first ∙ sym second
  one-columns (Some columns) r s first second =
      one-match (is_utf8 columns.eco && is_utf8 columns.name) r s (Told columns r) (Told columns s) (r ≡ Err NotUtf8) (s ≡ Err NotUtf8)
      (λ short short'.
      one-match (nat_le (length (words_of columns.moves)) move_limit) r s (Short columns r) (Short columns s) (r ≡ Err TooLong) (s ≡ Err TooLong)
      (λ leads leads'.
      leads.2 ∙ (ap (λ end. named_by columns end) (one-end (words_of columns.moves) start leads.0 leads'.0 leads.1 leads'.1) ∙ sym leads'.2))
      (λ long long'. long ∙ sym long') short short')
      (λ other other'. other ∙ sym other') first second

  one-line : (line : List ℕ) (r s : Result NamedPosition BookCause) → BookLineReads line r → BookLineReads line s → r ≡ s
  one-line line r s first second = one-columns (three_columns (slice_split is_tab line)) r s first second

  abbrev Unpassed : ℕ → List ℕ → List (List ℕ) → Result (List NamedPosition) BookFault → Type 0
  Unpassed number line lines book =
      ((named : NamedPosition) × (rest : Result (List NamedPosition) BookFault)
      × BookLineReads line (Ok named) × LinesRead (number + 1) lines rest × (book ≡ onto_book named rest))
      ⊎ ((cause : BookCause) × BookLineReads line (Err cause)
      × (book ≡ Err (record { line = number; cause = cause })))

  one-unpassed : (number : ℕ) (line : List ℕ) (lines : List (List ℕ)) (book other : Result (List NamedPosition) BookFault)
      → ((b c : Result (List NamedPosition) BookFault) → LinesRead (number + 1) lines b → LinesRead (number + 1) lines c → b ≡ c)
      → Unpassed number line lines book → Unpassed number line lines other → book ≡ other
  one-unpassed number line lines book other later (inl (named, rest, is, more, same)) (inl (named', rest', is', more', same')) =
      let one : Ok named ≡ Ok named' = one-line line (Ok named) (Ok named') is is' in
      let one_named : named ≡ named' = cc in
      let one_rest : rest ≡ rest' = later rest rest' more more' in
      same ∙ ((λ i. onto_book (one_named i) (one_rest i)) ∙ sym same')
  one-unpassed number line lines book other later (inl (named, rest, is, more, same)) (inr (cause, is', same')) =
      let one : Ok named ≡ Err cause = one-line line (Ok named) (Err cause) is is' in cc
  one-unpassed number line lines book other later (inr (cause, is, same)) (inl (named, rest, is', more, same')) =
      let one : Err cause ≡ Ok named = one-line line (Err cause) (Ok named) is is' in cc
  one-unpassed number line lines book other later (inr (cause, is, same)) (inr (cause', is', same')) =
      let one : Err cause ≡ Err cause' = one-line line (Err cause) (Err cause') is is' in
      let one_cause : cause ≡ cause' = cc in
      let fault : BookCause → Result (List NamedPosition) BookFault = λ c. Err (record { line = number; cause = c }) in
      same ∙ (ap fault one_cause ∙ sym same')

  one-lines : (lines : List (List ℕ)) (number : ℕ) (book other : Result (List NamedPosition) BookFault) → LinesRead number lines book → LinesRead number lines other → book ≡ other
  one-lines [] number book other first second = first ∙ sym second
  one-lines (line ∷ lines) number book other first second =
      one-match (is_passed number line) book other (LinesRead (number + 1) lines book) (LinesRead (number + 1) lines other)
      (Unpassed number line lines book) (Unpassed number line lines other)
      (λ passed passed'. one-lines lines (number + 1) book other passed passed')
      (one-unpassed number line lines book other (λ b c read read'. one-lines lines (number + 1) b c read read')) first second

  pub one-book : (text : List ℕ) (book other : Result (List NamedPosition) BookFault) → BookReads text book → BookReads text other → book ≡ other
  one-book text book other first second = one-lines (lines_of text) 1 book other first second
