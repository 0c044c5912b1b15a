-- Answers where no opening is known, and that an empty book names nothing.
use Rattle.std.proofs.Common.{◌≡◌, ◌∙◌, refl, ap, List, [], ◌∷◌, map, Option, None}
use Rattle.std.specs.List.{AllZip}
use Rattle.std.specs.Option.{option_or}
use Rattle.serde_json.specs.Data.{Items, item}
use Rattle.serde_json.specs.Written.{compact_text}
use Rattle.explorer_model.specs.declared.answer.Found.{Found}
use Rattle.explorer_model.specs.declared.answer.MoveLine.{MoveLine}
use Rattle.explorer_model.specs.declared.chess.Position.{Position}
use Rattle.explorer_model.specs.declared.opening.Naming.{Naming}
use Rattle.explorer_model.specs.declared.opening.Opening.{Opening}
use Rattle.explorer_model.specs.declared.query.Query.{Query}
use Rattle.explorer_model.specs.Answer.{answer_body, answer_value, move_items, move_value, named_body, unnamed}
use Rattle.explorer_model.specs.Chess.{after}
use Rattle.explorer_model.specs.Openings.{IsNaming, LastOpening, OpeningOf}

-- names that reach no move are as good as none for each
moves-unreached : (lines : List MoveLine) → move_items lines [] ≡ move_items lines (unnamed lines).moves
moves-unreached [] = refl
moves-unreached (line ∷ lines) = ap (λ (items : Items). item (move_value line None) items) (moves-unreached lines)

pub nothing-reached : (found : Found) (moves : List (Option Opening)) → moves ≡ []
    → named_body found (record { whole = None; moves = moves }) ≡ answer_body found
unfolding named_body
nothing-reached found moves none = rw (none, moves-unreached found.moves) refl

-- ---- an empty book

none-on : (positions : List Position) (opening : Option Opening) → LastOpening [] positions opening → opening ≡ None
none-on [] opening is = is
none-on (p ∷ positions) opening is = is.4 ∙ ap (λ later. option_or later is.0) (none-on positions is.1 is.3) ∙ is.2

none-behind : (at : Position) (lines : List MoveLine) (openings : List (Option Opening))
    → AllZip (λ m opening. OpeningOf [] (after at m) opening) (map (λ line. line.next) lines) openings → openings ≡ (unnamed lines).moves
none-behind at [] [] are = refl
none-behind at [] (opening ∷ openings) are = absurd are
none-behind at (line ∷ lines) [] are = absurd are
none-behind at (line ∷ lines) (opening ∷ openings) are =
    ap (λ (first : Option Opening). first ∷ openings) are.0 ∙ ap (λ (rest : List (Option Opening)). None ∷ rest) (none-behind at lines openings are.1)

pub nothing-named : (query : Query) (found : Found) (naming : Naming) → IsNaming [] query (map (λ line. line.next) found.moves) naming
    → named_body found naming ≡ answer_body found
unfolding named_body
nothing-named query found naming is =
    ap (λ (whole : Option Opening). compact_text (answer_value found (record { whole = whole; moves = naming.moves }))) (none-on _ naming.whole is.whole)
    ∙ ap (λ (moves : List (Option Opening)). compact_text (answer_value found (record { whole = None; moves = moves }))) (none-behind query.at found.moves naming.moves is.moves)
