-- Statement: moves as UCI names them: a square, a square and, for a promotion, a small letter.
use Rattle.std.specs.Prelude.{◌≡◌, ℕ, List, [], ◌∷◌, ◌++◌, Option, Some, None, option_map, option_and_then, Result, Ok, Err, IsTrue, ◌⊎◌}
use Rattle.explorer_model.specs.declared.chess.Role.{Role}
use Rattle.explorer_model.specs.declared.chess.Role.TheVariants.{King, Rook}
use Rattle.explorer_model.specs.declared.chess.Side.{Side}
use Rattle.explorer_model.specs.declared.chess.Position.{Position}
use Rattle.explorer_model.specs.declared.chess.Move.{Move}
use Rattle.explorer_model.specs.declared.notation.UciForm.{UciForm}
use Rattle.explorer_model.specs.declared.notation.UciFault.{UciFault}
use Rattle.explorer_model.specs.declared.notation.UciFault.TheVariants.{NotUci, NotLegal}
use Rattle.explorer_model.specs.Board.{piece_at, IsPiece}
use Rattle.explorer_model.specs.Chess.{king_home, rook_home, king_target, has_right, Legal}
use Rattle.explorer_model.specs.Letters.{capital, role_of, promotions, square_named, square_text, small_letter}

-- one of n b r q, or nothing
abbrev pub promotion_named : List ℕ → Option (Option Role)
promotion_named [] = Some None
promotion_named (b ∷ []) = option_map (λ role. Some role) (role_of promotions (capital b))
promotion_named (b ∷ c ∷ bytes) = None

abbrev pub form_from : ℕ → ℕ → Option Role → UciForm
form_from from to promotion = record { from = from; to = to; promotion = promotion }

abbrev pub uci_form : List ℕ → Option UciForm
uci_form (a ∷ b ∷ c ∷ d ∷ bytes) =
    option_and_then (λ from. option_and_then (λ to.
    option_map (form_from from to) (promotion_named bytes)) (square_named c d)) (square_named a b)
uci_form _ = None

-- the king stands on its first square with this right, and goes onto its rook's first square, where
-- the rook stands
abbrev pub IsOntoRook : Position → Side → UciForm → Type 0
IsOntoRook p side form =
    IsTrue (has_right p.rights p.turn side)
    × (form.from ≡ king_home p.turn) × IsPiece p.turn King (piece_at p.squares form.from)
    × (form.to ≡ rook_home p.turn side) × IsPiece p.turn Rook (piece_at p.squares form.to)

-- the square that the form means its move to end on: for the king's move onto its own rook, where
-- castling takes the king
abbrev pub EndsOn : Position → UciForm → ℕ → Type 0
EndsOn p form to =
    ((side : Side) × IsOntoRook p side form × (to ≡ king_target p.turn side))
    ⊎ (((side : Side) → ¬ IsOntoRook p side form) × (to ≡ form.to))

abbrev pub Means : Position → UciForm → Move → Type 0
Means p form m =
    (m.from.index ≡ form.from) × EndsOn p form m.to.index × (m.promotion ≡ form.promotion)

abbrev pub UciAnswers : Position → UciForm → Result Move UciFault → Type 0
UciAnswers p form (Ok m) = Means p form m × Legal p m
UciAnswers p form (Err NotUci) = ⊥
UciAnswers p form (Err NotLegal) = (m : Move) → Means p form m → ¬ Legal p m

abbrev pub UciAnswersAs : Position → Option UciForm → Result Move UciFault → Type 0
UciAnswersAs p None r = r ≡ Err NotUci
UciAnswersAs p (Some form) r = UciAnswers p form r

-- the text is read in the position as this move, or refused for this cause
abbrev pub UciReads : Position → List ℕ → Result Move UciFault → Type 0
UciReads p text r = UciAnswersAs p (uci_form text) r

abbrev pub promotion_letter : Option Role → List ℕ
promotion_letter None = []
promotion_letter (Some role) = small_letter role ∷ []

-- castling is written as the king's move of two squares
abbrev pub uci_text : Move → List ℕ
uci_text m = square_text m.from.index ++ square_text m.to.index ++ promotion_letter m.promotion
