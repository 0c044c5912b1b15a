-- One token after another.
use Rattle.std.proofs.Common.{arith, ◌≡◌, ◌∙◌, sym, ap, subst, refl, inl, inr, ℕ, ◌+◌, ◌<◌, ◌≤◌, List, [], ◌∷◌, ◌++◌, length, map, drop, Result, Ok, Err, Bool, true, if◌then◌else◌}
use Rattle.std.proofs.lemmas.List.{append_assoc, append-nil, drop_all, length-map, get_or-map}
use Rattle.std.specs.List.{slice_index_or}
use Rattle.plain_laws.specs.Lists.{drop-read}
use Rattle.explorer_model.specs.declared.archive.Token.{Token}
use Rattle.explorer_model.specs.declared.chess.Move.{Move}
use Rattle.explorer_model.specs.declared.chess.Position.{Position}
use Rattle.explorer_model.specs.declared.fault.GameFault.{GameFault}
use Rattle.explorer_model.specs.declared.fault.SanFault.{SanFault}
use Rattle.explorer_model.specs.Chess.{after}
use Rattle.explorer_model.specs.Games.{Plays, move_fault, onto_moves}
use Rattle.explorer_model.specs.San.{SanReads}
use Rattle.game_replay.specs.Replay.{onto_front, Playing}

-- ---- a game

onto_front-nil : (rest : Result (List Move) GameFault) → onto_front [] rest ≡ rest
onto_front-nil (Ok moves) = refl
onto_front-nil (Err fault) = refl

onto_front-onto_moves : (moves : List Move) (m : Move) (rest : Result (List Move) GameFault)
    → onto_front moves (onto_moves m rest) ≡ onto_front (moves ++ m ∷ []) rest
onto_front-onto_moves moves m (Ok more) = ap (λ (ms : List Move). Ok ms) (sym (append_assoc moves (m ∷ []) more))
onto_front-onto_moves moves m (Err fault) = refl

pub begins : (root : Position) (tokens : List Token) (board : Position) (moves : List Move) → board ≡ root → moves ≡ [] → Playing root tokens board moves 1 0
begins root tokens board moves at_root none = record {
  counted = refl;
  completes = λ rest plays.
      (let P : Position → Type 0 = λ p. Plays p 1 tokens rest in
      let Q : Result (List Move) GameFault → Type 0 = λ r. Plays root 1 tokens r in
      let front : rest ≡ onto_front moves rest = sym (ap (λ ms. onto_front ms rest) none ∙ onto_front-nil rest) in
      subst Q front (subst P at_root plays));
}

pub goes_on : (root : Position) (tokens : List Token) (board next : Position) (moves more : List Move) (ply index : ℕ) (token : Token) (m : Move)
    → Playing root tokens board moves ply index → drop index tokens ≡ token ∷ drop (index + 1) tokens
    → SanReads board token.text (Ok m) → next ≡ after board m → more ≡ moves ++ m ∷ []
    → Playing root tokens next more (ply + 1) (index + 1)
goes_on root tokens board next moves more ply index token m playing here reads played pushed = record {
  counted = ap (λ n. n + 1) playing.counted;
  completes = λ rest plays.
      (let P : Position → Type 0 = λ p. Plays p (ply + 1) (drop (index + 1) tokens) rest in
      let R : List Token → Type 0 = λ ts. Plays board ply ts (onto_moves m rest) in
      let Q : Result (List Move) GameFault → Type 0 = λ r. Plays root 1 tokens r in
      let all : R (token ∷ drop (index + 1) tokens) = inl (m, rest, reads, subst P played plays, refl) in
      let front : onto_front moves (onto_moves m rest) ≡ onto_front more rest =
      onto_front-onto_moves moves m rest ∙ ap (λ ms. onto_front ms rest) (sym pushed) in
      subst Q front (playing.completes (onto_moves m rest) (subst R (sym here) all)));
}

pub fails : (root : Position) (tokens : List Token) (board : Position) (moves : List Move) (ply index : ℕ) (token : Token) (fault : SanFault) (answer : GameFault)
    → Playing root tokens board moves ply index → drop index tokens ≡ token ∷ drop (index + 1) tokens
    → SanReads board token.text (Err fault) → answer ≡ move_fault fault ply token.place
    → Plays root 1 tokens (Err answer)
fails root tokens board moves ply index token fault answer playing here reads is =
    let R : List Token → Type 0 = λ ts. Plays board ply ts (Err (move_fault fault ply token.place)) in
    let all : R (token ∷ drop (index + 1) tokens) = inr (fault, reads, refl) in
    let P : GameFault → Type 0 = λ f. Plays root 1 tokens (Err f) in
    subst P (sym is) (playing.completes (Err (move_fault fault ply token.place)) (subst R (sym here) all))

pub ends : (root : Position) (tokens : List Token) (board : Position) (moves all : List Move) (ply index : ℕ)
    → Playing root tokens board moves ply index → length tokens ≤ index → all ≡ moves
    → Plays root 1 tokens (Ok all)
ends root tokens board moves all ply index playing past is =
    let R : List Token → Type 0 = λ ts. Plays board ply ts (Ok []) in
    let none : R [] = refl in
    let P : List Move → Type 0 = λ ms. Plays root 1 tokens (Ok ms) in
    let plays : P (moves ++ []) = playing.completes (Ok []) (subst R (sym (drop_all index tokens past)) none) in
    subst P (append-nil moves ∙ sym is) plays

pub pushed : (moves more : List Move) (m : Move) (ok : Bool) → more ≡ (if ok then moves ++ m ∷ [] else moves) → ok ≡ true → more ≡ moves ++ m ∷ []
pushed moves more m ok is holds = is ∙ ap (λ (b : Bool). if b then moves ++ m ∷ [] else moves) holds

pub here_at : {X : Type 0} (f : X → Token) (xs : List X) (index : ℕ) (otherwise : X) → index < length xs
    → drop index (map f xs) ≡ f (slice_index_or xs index otherwise) ∷ drop (index + 1) (map f xs)
here_at f xs index otherwise within =
    drop-read (map f xs) index (f (slice_index_or xs index otherwise)) (omega (arith, length-map xs f))
    (sym (get_or-map f xs index otherwise (f (slice_index_or xs index otherwise)) within))
