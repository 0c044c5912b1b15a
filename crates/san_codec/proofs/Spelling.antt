-- A written move is read as the form that it was written from.
use Rattle.std.proofs.Common.{◌≡◌, ℕ, ◌+◌, ◌/◌, ◌%◌, ◌<◌, ◌++◌, ◌&&◌, ◌==◌, ◌⊎◌, inl, inr, Bool, true, false, Option, Some, None, option_map, option_and_then, is_some, List, [], ◌∷◌, reverse, IsTrue, refl, ap, ◌∙◌, append_assoc, arith, if◌then◌else◌}
use Rattle.std.specs.List.{list_all}
use Rattle.std.proofs.lemmas.List.{reverse-append}
use Rattle.std.proofs.lemmas.Bool.{and_parts}
use Rattle.std.proofs.lemmas.Bool.Decides.{nat_tests}
use Rattle.explorer_model.specs.declared.chess.Role.{Role}
use Rattle.explorer_model.specs.declared.chess.Role.TheVariants.{Pawn, Knight, Bishop, Rook, Queen, King}
use Rattle.explorer_model.specs.declared.chess.Side.{Side}
use Rattle.explorer_model.specs.declared.chess.Side.TheVariants.{Short, Long}
use Rattle.explorer_model.specs.declared.notation.Start.{Start}
use Rattle.explorer_model.specs.declared.notation.Start.TheVariants.{Unnamed, File, Rank, Square}
use Rattle.explorer_model.specs.declared.notation.NamedMove.{NamedMove}
use Rattle.explorer_model.specs.declared.notation.SanForm.{SanForm}
use Rattle.explorer_model.specs.declared.notation.SanForm.TheVariants.{Castling, Named}
use Rattle.explorer_model.specs.Board.{file_of, rank_of}
use Rattle.explorer_model.specs.Chess.{IsPromotion}
use Rattle.explorer_model.specs.Letters.{byte, role_of, promotions, file_named, rank_named, file_letter, rank_digit, square_text}
use Rattle.explorer_model.specs.San.{is_mark, unmarked, optional, byte_is, promoted, moved, from_start, to_target, named_move, is_o, castling, form_of, san_form, role_text, start_text, capture_text, promotion_text, castling_text}
use Rattle.explorer_model.proofs.LetterLemmas.{file_read, rank_read, square_read}

-- Files and ranks.

pub no_rank : (n : ℕ) → n < 8 → rank_named (byte "a" + n) ≡ None
no_rank n h = grind (arith, nat_tests)

pub no_x_file : (n : ℕ) → n < 8 → byte_is (byte "x") (byte "a" + n) ≡ None
no_x_file n h = grind (arith, nat_tests)

pub no_x_rank : (n : ℕ) → n < 8 → byte_is (byte "x") (byte "1" + n) ≡ None
no_x_rank n h = grind (arith, nat_tests)

pub no_promotion : (n : ℕ) → n < 8 → role_of promotions (byte "1" + n) ≡ None
no_promotion n h = grind (arith, nat_tests)

pub no_o : (n : ℕ) → n < 8 → is_o (byte "1" + n) ≡ false
no_o n h = grind (arith, nat_tests)

pub no_mark : (n : ℕ) → n < 8 → is_mark (byte "1" + n) ≡ false
no_mark n h = grind (arith, nat_tests)

pub file_below : (s : ℕ) → s % 8 < 8
file_below s = omega arith

pub rank_below : (s : ℕ) → s < 64 → s / 8 < 8
rank_below s h = omega arith

-- Parts.

abbrev pub chosen : {A : Type 0} → List ℕ → List ℕ → Option A → Option A × List ℕ
chosen rest all (Some part) = (Some part, rest)
chosen rest all None = (None, all)

pub optional_some : {A : Type 0} (read : ℕ → Option A) (b : ℕ) (bytes : List ℕ) (part : A) → read b ≡ Some part → optional read (b ∷ bytes) ≡ (Some part, bytes)
optional_some read b bytes part e = ap (chosen bytes (b ∷ bytes)) e

pub optional_none : {A : Type 0} (read : ℕ → Option A) (b : ℕ) (bytes : List ℕ) → read b ≡ None → optional read (b ∷ bytes) ≡ (None, b ∷ bytes)
optional_none read b bytes e = ap (chosen bytes (b ∷ bytes)) e

pub x_in : Bool → Option ℕ
x_in true = Some 120
x_in false = None

pub with_x : (c : Bool) (bytes : List ℕ) → optional (byte_is (byte "x")) bytes ≡ (None, bytes) → optional (byte_is (byte "x")) (reverse (capture_text c) ++ bytes) ≡ (x_in c, bytes)
unfolding x_in
with_x true bytes e = refl
with_x false bytes e = e

pub is_x : (c : Bool) → is_some (x_in c) ≡ c
unfolding x_in
is_x true = refl
is_x false = refl

pub no_x_role : (role : Role) → optional (byte_is (byte "x")) (reverse (role_text role)) ≡ (None, reverse (role_text role))
no_x_role Pawn = refl
no_x_role Knight = refl
no_x_role Bishop = refl
no_x_role Rook = refl
no_x_role Queen = refl
no_x_role King = refl

pub no_rank_role : (role : Role) → optional rank_named (reverse (role_text role)) ≡ (None, reverse (role_text role))
no_rank_role Pawn = refl
no_rank_role Knight = refl
no_rank_role Bishop = refl
no_rank_role Rook = refl
no_rank_role Queen = refl
no_rank_role King = refl

pub no_file_role : (role : Role) → optional file_named (reverse (role_text role)) ≡ (None, reverse (role_text role))
no_file_role Pawn = refl
no_file_role Knight = refl
no_file_role Bishop = refl
no_file_role Rook = refl
no_file_role Queen = refl
no_file_role King = refl

pub moved_role : (role : Role) → moved (reverse (role_text role)) ≡ Some role
moved_role Pawn = refl
moved_role Knight = refl
moved_role Bishop = refl
moved_role Rook = refl
moved_role Queen = refl
moved_role King = refl

-- what is named of a first square
abbrev pub file_in : Start → ℕ → Option ℕ
file_in Unnamed s = None
file_in File s = Some (file_of s)
file_in Rank s = None
file_in Square s = Some (file_of s)

abbrev pub rank_in : Start → ℕ → Option ℕ
rank_in Unnamed s = None
rank_in File s = None
rank_in Rank s = Some (rank_of s)
rank_in Square s = Some (rank_of s)

abbrev pub form_with : Role → Option ℕ → Option ℕ → Bool → ℕ → Option Role → NamedMove
form_with role file rank c target promotion = record { role = role; file = file; rank = rank; captures = c; target = target; promotion = promotion }

pub parts : (promotion : Option Role) (target : ℕ) (bytes : List ℕ) (c : Bool) (after_x : List ℕ) (rank : Option ℕ) (after_rank : List ℕ) (file : Option ℕ) (after_file : List ℕ) (role : Role)
    → optional (byte_is (byte "x")) bytes ≡ (x_in c, after_x) → optional rank_named after_x ≡ (rank, after_rank) → optional file_named after_rank ≡ (file, after_file)
    → moved after_file ≡ Some role → from_start promotion target bytes ≡ Some (form_with role file rank c target promotion)
parts promotion target bytes c after_x rank after_rank file after_file role e g h k = rw (e, g, h, k, is_x c) refl

start_parts : (promotion : Option Role) (target s : ℕ) (start : Start) (c : Bool) (role : Role) → s < 64
    → from_start promotion target (reverse (capture_text c) ++ (reverse (start_text start s) ++ reverse (role_text role))) ≡ Some (form_with role (file_in start s) (rank_in start s) c target promotion)
start_parts promotion target s Unnamed c role h =
    let end = reverse (role_text role) in
    parts promotion target (reverse (capture_text c) ++ end) c end None end None end role
    (with_x c end (no_x_role role)) (no_rank_role role) (no_file_role role) (moved_role role)
start_parts promotion target s File c role h =
    let end = reverse (role_text role) in
    let named = file_letter s ∷ end in
    parts promotion target (reverse (capture_text c) ++ named) c named None named (Some (file_of s)) end role
    (with_x c named (optional_none (byte_is (byte "x")) (file_letter s) end (no_x_file (s % 8) (file_below s))))
    (optional_none rank_named (file_letter s) end (no_rank (s % 8) (file_below s)))
    (optional_some file_named (file_letter s) end (s % 8) (file_read (s % 8) (file_below s))) (moved_role role)
start_parts promotion target s Rank c role h =
    let end = reverse (role_text role) in
    let named = rank_digit s ∷ end in
    parts promotion target (reverse (capture_text c) ++ named) c named (Some (rank_of s)) end None end role
    (with_x c named (optional_none (byte_is (byte "x")) (rank_digit s) end (no_x_rank (s / 8) (rank_below s h))))
    (optional_some rank_named (rank_digit s) end (s / 8) (rank_read (s / 8) (rank_below s h)))
    (no_file_role role) (moved_role role)
start_parts promotion target s Square c role h =
    let end = reverse (role_text role) in
    let file = file_letter s ∷ end in
    let named = rank_digit s ∷ file in
    parts promotion target (reverse (capture_text c) ++ named) c named (Some (rank_of s)) file (Some (file_of s)) end role
    (with_x c named (optional_none (byte_is (byte "x")) (rank_digit s) file (no_x_rank (s / 8) (rank_below s h))))
    (optional_some rank_named (rank_digit s) file (s / 8) (rank_read (s / 8) (rank_below s h)))
    (optional_some file_named (file_letter s) end (s % 8) (file_read (s % 8) (file_below s))) (moved_role role)

-- The target and the promotion.

pub no_castling : (a : ℕ) (bytes : List ℕ) → is_o a ≡ false → castling (a ∷ bytes) ≡ None
no_castling a [] e = refl
no_castling a (b ∷ []) e = refl
no_castling a (b ∷ c ∷ []) e = ap (λ (x : Bool). if x && (b == 45) && is_o c then Some Short else None) e
no_castling a (b ∷ c ∷ d ∷ []) e = refl
no_castling a (b ∷ c ∷ d ∷ f ∷ []) e = ap (λ (x : Bool). if x && (b == 45) && is_o c && (d == 45) && is_o f then Some Long else None) e
no_castling a (b ∷ c ∷ d ∷ f ∷ g ∷ bytes) e = refl

pub targeted : (bytes : List ℕ) (promotion : Option Role) (target : ℕ) (before : List ℕ) (form : NamedMove) → target < 64
    → promoted bytes ≡ (promotion, rank_digit target ∷ file_letter target ∷ before) → from_start promotion target before ≡ Some form → named_move bytes ≡ Some form
targeted bytes promotion target before form h e g =
    ap (λ (q : Option Role × List ℕ). to_target q.0 q.1) e
    ∙ ap (λ (o : Option ℕ). option_and_then (λ t. from_start promotion t before) o) (square_read target h)
    ∙ g

pub no_promoted : (n : ℕ) (bytes : List ℕ) → n < 8 → promoted ((byte "1" + n) ∷ bytes) ≡ (None, (byte "1" + n) ∷ bytes)
no_promoted n bytes h = rw (optional_none (role_of promotions) (byte "1" + n) bytes (no_promotion n h)) refl

abbrev pub chosen_form : Option NamedMove → Option Side → Option SanForm
chosen_form move (Some side) = Some (Castling side)
chosen_form move None = option_map (λ form. Named form) move

pub formed : (bytes : List ℕ) (form : NamedMove) → castling bytes ≡ None → named_move bytes ≡ Some form → form_of bytes ≡ Some (Named form)
formed bytes form e g = ap (chosen_form (named_move bytes)) e ∙ ap (option_map (λ form. Named form)) g

pub kept : (b : ℕ) (bytes : List ℕ) → is_mark b ≡ false → unmarked (b ∷ bytes) ≡ b ∷ bytes
kept b bytes e = ap (λ (x : Bool). if x then unmarked bytes else b ∷ bytes) e

-- a move's bytes from the right
abbrev from_right : Option Role → ℕ → List ℕ → List ℕ
from_right promotion target before = reverse (promotion_text promotion) ++ (rank_digit target ∷ file_letter target ∷ before)

read_back : (promotion : Option Role) (target : ℕ) (before : List ℕ) (form : NamedMove) → target < 64 → (promotion ≡ None) ⊎ IsPromotion promotion
    → from_start promotion target before ≡ Some form → form_of (unmarked (from_right promotion target before)) ≡ Some (Named form)
read_back None target before form h fine e =
    let rest = file_letter target ∷ before in
    let bytes = rank_digit target ∷ rest in
    ap form_of (kept (rank_digit target) rest (no_mark (target / 8) (rank_below target h)))
    ∙ formed bytes form (no_castling (rank_digit target) rest (no_o (target / 8) (rank_below target h)))
    (targeted bytes None target before form h (no_promoted (target / 8) rest (rank_below target h)) e)
read_back (Some Queen) target before form h fine e =
    let rest = rank_digit target ∷ file_letter target ∷ before in
    formed (81 ∷ 61 ∷ rest) form (no_castling 81 (61 ∷ rest) refl) (targeted (81 ∷ 61 ∷ rest) (Some Queen) target before form h refl e)
read_back (Some Rook) target before form h fine e =
    let rest = rank_digit target ∷ file_letter target ∷ before in
    formed (82 ∷ 61 ∷ rest) form (no_castling 82 (61 ∷ rest) refl) (targeted (82 ∷ 61 ∷ rest) (Some Rook) target before form h refl e)
read_back (Some Bishop) target before form h fine e =
    let rest = rank_digit target ∷ file_letter target ∷ before in
    formed (66 ∷ 61 ∷ rest) form (no_castling 66 (61 ∷ rest) refl) (targeted (66 ∷ 61 ∷ rest) (Some Bishop) target before form h refl e)
read_back (Some Knight) target before form h fine e =
    let rest = rank_digit target ∷ file_letter target ∷ before in
    formed (78 ∷ 61 ∷ rest) form (no_castling 78 (61 ∷ rest) refl) (targeted (78 ∷ 61 ∷ rest) (Some Knight) target before form h refl e)
read_back (Some Pawn) target before form h (inl e) g = cc
read_back (Some Pawn) target before form h (inr ill) g = absurd ill
read_back (Some King) target before form h (inl e) g = cc
read_back (Some King) target before form h (inr ill) g = absurd ill

-- Marks.

marks_gone : (marks bytes : List ℕ) → IsTrue (list_all is_mark marks) → unmarked (reverse marks ++ bytes) ≡ unmarked bytes
marks_gone [] bytes all = refl
marks_gone (b ∷ marks) bytes all =
    let (first, others) = and_parts (is_mark b) (list_all is_mark marks) all in
    ap (λ (turned : List ℕ). unmarked (turned ++ bytes)) (reverse-append (b ∷ []) marks)
    ∙ ap unmarked (append_assoc (reverse marks) (b ∷ []) bytes)
    ∙ marks_gone marks (b ∷ bytes) others
    ∙ ap (λ (x : Bool). if x then unmarked bytes else b ∷ bytes) first

pub marked : (text marks : List ℕ) → IsTrue (list_all is_mark marks) → san_form (text ++ marks) ≡ form_of (unmarked (reverse text))
marked text marks all = ap (λ (bytes : List ℕ). form_of (unmarked bytes)) (reverse-append text marks) ∙ ap form_of (marks_gone marks (reverse text) all)

turned : (a b c d e : List ℕ) → reverse ((((a ++ b) ++ c) ++ d) ++ e) ≡ reverse e ++ (reverse d ++ (reverse c ++ (reverse b ++ reverse a)))
turned a b c d e =
    reverse-append (((a ++ b) ++ c) ++ d) e
    ∙ ap (λ (xs : List ℕ). reverse e ++ xs) (reverse-append ((a ++ b) ++ c) d
    ∙ ap (λ (xs : List ℕ). reverse d ++ xs) (reverse-append (a ++ b) c ∙ ap (λ (xs : List ℕ). reverse c ++ xs) (reverse-append a b)))

-- Whole moves.

pub named_form : (role : Role) (start : Start) (s : ℕ) (c : Bool) (target : ℕ) (promotion : Option Role) (marks : List ℕ) → s < 64 → target < 64
    → (promotion ≡ None) ⊎ IsPromotion promotion → IsTrue (list_all is_mark marks)
    → san_form ((role_text role ++ start_text start s ++ capture_text c ++ square_text target ++ promotion_text promotion) ++ marks)
    ≡ Some (Named (record { role = role; file = file_in start s; rank = rank_in start s; captures = c; target = target; promotion = promotion }))
named_form role start s c target promotion marks on_s on_target fine all =
    let before = reverse (capture_text c) ++ (reverse (start_text start s) ++ reverse (role_text role)) in
    marked (role_text role ++ start_text start s ++ capture_text c ++ square_text target ++ promotion_text promotion) marks all
    ∙ ap (λ (bytes : List ℕ). form_of (unmarked bytes)) (turned (role_text role) (start_text start s) (capture_text c) (square_text target) (promotion_text promotion))
    ∙ read_back promotion target before (form_with role (file_in start s) (rank_in start s) c target promotion) on_target fine (start_parts promotion target s start c role on_s)

pub castling_form : (side : Side) (marks : List ℕ) → IsTrue (list_all is_mark marks) → san_form (castling_text side ++ marks) ≡ Some (Castling side)
castling_form Short marks all = marked (castling_text Short) marks all
castling_form Long marks all = marked (castling_text Long) marks all
