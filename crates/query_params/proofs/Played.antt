-- A root that is given, and moves that are read one after another.
use Rattle.std.proofs.Common.{◌≡◌, ◌∙◌, sym, ap, subst, refl, inl, inr, ℕ, List, [], ◌∷◌, ◌++◌, Option, Some, None, option_map, ok_or, Result, Ok, Err}
use Rattle.std.proofs.lemmas.List.{append_assoc, append-nil}
use Rattle.explorer_model.specs.declared.chess.Move.{Move}
use Rattle.explorer_model.specs.declared.chess.Position.{Position}
use Rattle.explorer_model.specs.declared.notation.UciFault.{UciFault}
use Rattle.explorer_model.specs.declared.query.BadParameter.{BadParameter}
use Rattle.explorer_model.specs.declared.query.Parameter.TheVariants.{Fen, Play}
use Rattle.explorer_model.specs.Chess.{after}
use Rattle.explorer_model.specs.Query.{Line, bad, value_in, RootReads, MovesRead, onto_line}
use Rattle.explorer_model.specs.Uci.{UciReads}
use Rattle.query_params.specs.Given.{given_in, not_empty}
use Rattle.query_params.specs.Lines.{NamesRoot, onto_front, Playing}

root_given-value : (value : Option (List ℕ)) (text : List ℕ) (root : Result Position BadParameter)
    → ok_or (option_map not_empty value) (bad Fen) ≡ Ok (Some text) → NamesRoot text root → RootReads value root
root_given-value None text root is names = cc
root_given-value (Some []) text root is names = cc
root_given-value (Some (b ∷ bytes)) text root is names =
    let same : text ≡ b ∷ bytes = cc in
    let P : List ℕ → Type 0 = λ t. NamesRoot t root in
    subst P same names

pub root_given : (pairs : List (List ℕ × List ℕ)) (text : List ℕ) (root : Result Position BadParameter)
    → given_in Fen pairs ≡ Ok (Some text) → NamesRoot text root → RootReads (value_in Fen pairs) root
root_given pairs text root is names = root_given-value (value_in Fen pairs) text root is names

onto_front-nil : (rest : Result Line BadParameter) → onto_front [] rest ≡ rest
onto_front-nil (Ok line) = refl
onto_front-nil (Err fault) = refl

onto_front-onto_line : (moves : List Move) (m : Move) (rest : Result Line BadParameter) → onto_front moves (onto_line m rest) ≡ onto_front (moves ++ m ∷ []) rest
onto_front-onto_line moves m (Ok line) =
    ap (λ (ms : List Move). let l : Line = record { moves = ms; at = line.at } in let r : Result Line BadParameter = Ok l in r) (sym (append_assoc moves (m ∷ []) line.moves))
onto_front-onto_line moves m (Err fault) = refl

module _ (root : Position) (texts : List (List ℕ)) where
  pub begins : (board : Position) (moves : List Move) → board ≡ root → moves ≡ [] → Playing root texts board moves texts
  begins board moves at_root none = record {
    completes = λ rest plays.
        (let P : Position → Type 0 = λ p. MovesRead p texts rest in
        let Q : Result Line BadParameter → Type 0 = λ r. MovesRead root texts r in
        let front : rest ≡ onto_front moves rest = sym (ap (λ ms. onto_front ms rest) none ∙ onto_front-nil rest) in
        subst Q front (subst P at_root plays));
  }

  pub goes_on : (board next : Position) (moves more : List Move) (left after_it : List (List ℕ)) (text : List ℕ) (m : Move)
      → Playing root texts board moves left → left ≡ text ∷ after_it → UciReads board text (Ok m) → next ≡ after board m → more ≡ moves ++ m ∷ []
      → Playing root texts next more after_it
  goes_on board next moves more left after_it text m playing here reads played pushed = record {
    completes = λ rest plays.
        (let P : Position → Type 0 = λ p. MovesRead p after_it rest in
        let R : List (List ℕ) → Type 0 = λ ts. MovesRead board ts (onto_line m rest) in
        let Q : Result Line BadParameter → Type 0 = λ r. MovesRead root texts r in
        let all : R (text ∷ after_it) = inl (m, rest, reads, subst P played plays, refl) in
        let front : onto_front moves (onto_line m rest) ≡ onto_front more rest =
        onto_front-onto_line moves m rest ∙ ap (λ ms. onto_front ms rest) (sym pushed) in
        subst Q front (playing.completes (onto_line m rest) (subst R (sym here) all)));
  }

  pub fails : (board : Position) (moves : List Move) (left after_it : List (List ℕ)) (text : List ℕ) (fault : UciFault)
      → Playing root texts board moves left → left ≡ text ∷ after_it → UciReads board text (Err fault) → MovesRead root texts (Err (bad Play))
  fails board moves left after_it text fault playing here reads =
      let R : List (List ℕ) → Type 0 = λ ts. MovesRead board ts (Err (bad Play)) in
      let all : R (text ∷ after_it) = inr (fault, reads, refl) in
      playing.completes (Err (bad Play)) (subst R (sym here) all)

  pub ends : (board : Position) (moves : List Move) (left : List (List ℕ)) → Playing root texts board moves left → left ≡ []
      → MovesRead root texts (Ok (record { moves = moves; at = board }))
  ends board moves left playing none =
      let done : Result Line BadParameter = Ok (record { moves = []; at = board }) in
      let R : List (List ℕ) → Type 0 = λ ts. MovesRead board ts done in
      let all : R [] = refl in
      let P : List Move → Type 0 = λ ms. MovesRead root texts (Ok (record { moves = ms; at = board })) in
      let plays : P (moves ++ []) = playing.completes done (subst R (sym none) all) in
      subst P (append-nil moves) plays
