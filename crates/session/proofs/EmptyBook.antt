-- A book without a line names nothing.
use Rattle.std.proofs.Common.{◌≡◌, ℕ, true, List, [], ◌∷◌, map, length, None, refl, sym, ◌∙◌, subst, nat_eq, IfOk, Result, Ok, Err, arith}
use borrow.Author.Tests.{eqb-true}
use Rattle.std.specs.List.{AllZip}
use Rattle.explorer_model.specs.declared.answer.Found.{Found}
use Rattle.explorer_model.specs.declared.answer.MoveLine.{MoveLine}
use Rattle.explorer_model.specs.declared.archive.Batch.{Batch}
use Rattle.explorer_model.specs.declared.chess.Position.{Position}
use Rattle.explorer_model.specs.declared.opening.Naming.{Naming}
use Rattle.explorer_model.specs.declared.query.Query.{Query}
use Rattle.explorer_model.specs.Answer.{answer_body, named_body, unnamed}
use Rattle.explorer_model.specs.Chess.{after}
use Rattle.explorer_model.specs.Finds.{IsFound}
use Rattle.explorer_model.specs.Openings.{IsNaming, LastOpening, NamedPosition, OpeningOf, positions_on}
use Rattle.explorer_model.specs.Replies.{IsFoundIn, IsNamedFoundIn}
use Rattle.session.specs.Naming.{IsNamedBody}

none-behind : (at : Position) (lines : List MoveLine)
    → AllZip (λ m opening. OpeningOf [] (after at m) opening) (map (λ line. line.next) lines) (unnamed lines).moves
none-behind at [] = tt
none-behind at (line ∷ lines) = (refl, none-behind at lines)

none-on : (positions : List Position) → LastOpening [] positions None
none-on [] = refl
none-on (p ∷ positions) = (None, None, refl, none-on positions, refl)

nothing-named : (query : Query) (found : Found) → IsNaming [] query (map (λ line. line.next) found.moves) (unnamed found.moves)
nothing-named query found =
    record { whole = none-on (positions_on query.root query.plays); moves = none-behind query.at found.moves }

pub named-plainly : (text : List ℕ) (journal : List Batch) (batches : ℕ) (body : List ℕ) → IsFoundIn text journal batches body
    → IsNamedFoundIn [] text journal batches body
named-plainly text journal batches body a = record {
  number = a.number;
  query = a.query;
  asks = a.asks;
  found = a.found;
  is_found = a.is_found;
  naming = unnamed a.found.moves;
  is_naming = nothing-named a.query a.found;
  is_body = a.is_body;
}

pub plainly-named : ((query : Query) (found : Found) (naming : Naming)
    → IsNaming [] query (map (λ line. line.next) found.moves) naming → named_body found naming ≡ answer_body found)
    → (text : List ℕ) (journal : List Batch) (batches : ℕ) (body : List ℕ) → IsNamedFoundIn [] text journal batches body
    → IsFoundIn text journal batches body
plainly-named nothing text journal batches body a = record {
  number = a.number;
  query = a.query;
  asks = a.asks;
  found = a.found;
  is_found = a.is_found;
  is_body = a.is_body ∙ nothing a.query a.found a.naming a.is_naming;
}

-- ---- where a book is tested

no-lines : (book : List NamedPosition) → nat_eq (length book) 0 ≡ true → book ≡ []
no-lines [] is = refl
no-lines (line ∷ lines) is = let none : length (line ∷ lines) ≡ 0 = eqb-true (length (line ∷ lines)) 0 is in absurd (omega arith)

-- the body without openings is the one by such a book
pub body-by-none : (book : List NamedPosition) (query : Query) (journal : List Batch) (found : Found) (body : List ℕ)
    → nat_eq (length book) 0 ≡ true → IsFound journal query found → body ≡ answer_body found → IsNamedBody book query journal body
body-by-none book query journal found body empty is_found is_body =
    let named : IsNamedBody [] query journal body = record {
      found = found;
      is_found = is_found;
      naming = unnamed found.moves;
      is_naming = nothing-named query found;
      is_body = is_body;
    } in
    subst (λ (b : List NamedPosition). IsNamedBody b query journal body) (sym (no-lines book empty)) named

-- what is said of a value, if there is one
pub ok-weaker : {V E : Type 0} (P Q : V → Type 0) → ((value : V) → P value → Q value) → (result : Result V E) → IfOk result P
    → IfOk result Q
ok-weaker P Q weaker (Ok value) is = weaker value is
ok-weaker P Q weaker (Err fault) is = tt
