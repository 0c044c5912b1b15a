-- What the legal moves that were looked at say of a text.
use Rattle.std.proofs.Common.{◌≡◌, ◌≢◌, ◌↔◌, ℕ, ◌+◌, ◌<◌, List, length, slice_index_or, Option, Some, None, Result, Err, is_some, true, false, Contains, AllPairs, sym, subst, ◌∙◌, arith}
use Rattle.std.specs.Option.{ok_or}
use Rattle.std.proofs.lemmas.List.{get_or_default}
use borrow.Author.Count.{below_more}
use Rattle.explorer_model.specs.declared.chess.Position.{Position}
use Rattle.explorer_model.specs.declared.chess.Move.{Move}
use Rattle.explorer_model.specs.declared.notation.SanForm.{SanForm}
use Rattle.explorer_model.specs.declared.fault.SanFault.{SanFault}
use Rattle.explorer_model.specs.declared.fault.SanFault.TheVariants.{NoSuchMove, Ambiguous}
use Rattle.explorer_model.specs.Chess.{Legal}
use Rattle.explorer_model.specs.San.{san_form, Agrees, Answers, AnswersAs, SanReads}

-- the move m stands at place j of the first n
pub record StandsAt (moves : List Move) (n j : ℕ) (m : Move) : Type 0 where
  pub below : j < n
  pub within : j < length moves
  pub same : slice_index_or moves j m ≡ m

-- none of the first n agrees, or m is the only one
abbrev pub Narrows : Position → SanForm → List Move → ℕ → Option Move → Type 0
Narrows p form moves n None = (k : ℕ) → k < n → (d : Move) → ¬ Agrees p form (slice_index_or moves k d)
Narrows p form moves n (Some m) =
    ((j : ℕ) × StandsAt moves n j m)
    × Agrees p form m
    × ((k : ℕ) → k < n → (d : Move) → Agrees p form (slice_index_or moves k d) → slice_index_or moves k d ≡ m)

here : (moves : List Move) (n : ℕ) (x d : Move) → n < length moves → x ≡ slice_index_or moves n x → slice_index_or moves n d ≡ x
here moves n x d h e = get_or_default moves n d x h ∙ sym e

later : (moves : List Move) (n j : ℕ) (m : Move) → StandsAt moves n j m → StandsAt moves (n + 1) j m
later moves n j m s = record { below = omega (arith, s.below); within = s.within; same = s.same }

-- one move more, which doesn't agree
pub narrows-skip : (p : Position) (form : SanForm) (moves : List Move) (n : ℕ) (found : Option Move) (x : Move) → n < length moves → x ≡ slice_index_or moves n x
    → ¬ Agrees p form x → Narrows p form moves n found → Narrows p form moves (n + 1) found
narrows-skip p form moves n None x h e off none =
    below_more (λ k. (d : Move) → ¬ Agrees p form (slice_index_or moves k d)) n none (λ d a. off (subst (Agrees p form) (here moves n x d h e) a))
narrows-skip p form moves n (Some m) x h e off ((j, at), agrees, only) = (
  (j, later moves n j m at),
  agrees,
  below_more (λ k. (d : Move) → Agrees p form (slice_index_or moves k d) → slice_index_or moves k d ≡ m) n only
      (λ d a. absurd (off (subst (Agrees p form) (here moves n x d h e) a))),
)

-- the first that agrees
pub narrows-take : (p : Position) (form : SanForm) (moves : List Move) (n : ℕ) (found : Option Move) (x : Move) → n < length moves → x ≡ slice_index_or moves n x
    → Agrees p form x → is_some found ≡ false → Narrows p form moves n found → Narrows p form moves (n + 1) (Some x)
narrows-take p form moves n None x h e on first none = (
  (n, record { below = omega arith; within = h; same = sym e }),
  on,
  below_more (λ k. (d : Move) → Agrees p form (slice_index_or moves k d) → slice_index_or moves k d ≡ x) n
      (λ k l d a. absurd (none k l d a)) (λ d a. here moves n x d h e),
)
narrows-take p form moves n (Some m) x h e on first narrows = cc

-- a second one that agrees
pub narrows-clash : (p : Position) (form : SanForm) (moves : List Move) (n : ℕ) (found : Option Move) (x : Move) → n < length moves → x ≡ slice_index_or moves n x
    → Agrees p form x → is_some found ≡ true → Narrows p form moves n found
    → ((o : Move) → Contains moves o ↔ Legal p o) → AllPairs (λ a b. a ≢ b) moves → Answers p form (Err Ambiguous)
narrows-clash p form moves n None x h e on second narrows each once = cc
narrows-clash p form moves n (Some m) x h e on second ((j, at), agrees, only) each once =
    (m, x, differ, (each m).0 (j, at.within, at.same), (each x).0 (n, h, sym e), agrees, on)
  where
    differ : m ≢ x
    differ same = once j n m at.below h (at.same ∙ same ∙ sym (here moves n x m h e))

-- at the end
pub narrows-end : (p : Position) (form : SanForm) (moves : List Move) (found : Option Move) → Narrows p form moves (length moves) found
    → ((o : Move) → Contains moves o ↔ Legal p o) → Answers p form (ok_or found NoSuchMove)
narrows-end p form moves None none each = λ m legal agrees.
    let (k, within, same) = (each m).1 legal in none k within m (subst (Agrees p form) (sym same) agrees)
narrows-end p form moves (Some m) ((j, at), agrees, only) each = (
  (each m).0 (j, at.within, at.same),
  agrees,
  λ o legal on. let (k, within, same) = (each o).1 legal in
      sym same ∙ only k within o (subst (Agrees p form) (sym same) on),
)

pub reads : (p : Position) (text : List ℕ) (form : SanForm) (r : Result Move SanFault) → Some form ≡ san_form text → Answers p form r → SanReads p text r
reads p text form r e answers = subst (λ o. AnswersAs p o r) e answers
