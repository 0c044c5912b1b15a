-- The texts that name a form are those that the grammar spells.
use Rattle.std.proofs.Common.{◌≡◌, ◌↔◌, inl, inr, ℕ, ◌+◌, ◌*◌, ◌/◌, ◌<◌, ◌++◌, ◌&&◌, ◌==◌, Bool, true, false, if◌then◌else◌, cond, nat_le, ◌-◌, ◌≤◌, length, slice_index_or, MatchOption, ap₂, Option, Some, None, IfSome, option_map, option_and_then, is_some, List, [], ◌∷◌, map, reverse, IsTrue, refl, sym, ap, subst, ◌∙◌, arith}
use Rattle.std.specs.List.{AllByRecursion, list_all}
use Rattle.std.proofs.lemmas.List.{reverse-append, reverse-reverse}
use Rattle.std.proofs.lemmas.List.Folds.{list_all-append}
use Rattle.std.proofs.lemmas.Bool.{eqb-true}
use Rattle.std.proofs.lemmas.Option.{cond_some, none-some, same_Some}
use Rattle.std.proofs.lemmas.Bool.Decides.{nat_tests}
use Rattle.explorer_model.specs.declared.chess.Role.{Role}
use Rattle.explorer_model.specs.declared.chess.Role.TheVariants.{Pawn, Knight, Bishop, Rook, Queen, King}
use Rattle.explorer_model.specs.declared.chess.Side.{Side}
use Rattle.explorer_model.specs.declared.chess.Side.TheVariants.{Short, Long}
use Rattle.explorer_model.specs.declared.notation.NamedMove.{NamedMove}
use Rattle.explorer_model.specs.declared.notation.SanForm.{SanForm}
use Rattle.explorer_model.specs.declared.notation.SanForm.TheVariants.{Castling, Named}
use Rattle.explorer_model.specs.Chess.{IsPromotion}
use Rattle.explorer_model.specs.Letters.{byte, letter_of, role_of, promotions, lettered, file_named, rank_named, file_letter, rank_digit, square_text, square_named}
use Rattle.explorer_model.specs.San.{is_mark, unmarked, optional, byte_is, promoted, moved, from_start, to_target, named_move, is_o, is_hyphen, castling, form_of, san_form, role_text, capture_text, castling_text}
use Rattle.explorer_model.proofs.LetterLemmas.{file_read, rank_read}
use Rattle.san_codec.specs.Spelled.{IsSpelled, SpellsForm, SpellsMove, SpellsPromotion, file_text, rank_text, with_letter}
use Rattle.san_codec.proofs.Spelling.{chosen, chosen_form, form_with, formed, kept, marked, moved_role, no_castling, no_file_role, no_mark, no_o, no_promoted, no_rank, no_rank_role, no_x_file, no_x_rank, no_x_role, optional_none, optional_some, parts, rank_below, targeted, with_x}

-- ---- what is spelled is read

-- what stands before the target, from the right
abbrev before_target : Role → Option ℕ → Option ℕ → Bool → List ℕ
before_target role file rank c = reverse (capture_text c) ++ (reverse (rank_text rank) ++ (reverse (file_text file) ++ reverse (role_text role)))

start_read : (promotion : Option Role) (target : ℕ) (role : Role) (file rank : Option ℕ) (c : Bool) → IfSome file (λ n. n < 8) → IfSome rank (λ n. n < 8)
    → from_start promotion target (before_target role file rank c) ≡ Some (form_with role file rank c target promotion)
start_read promotion target role None None c on_file on_rank =
    let end = reverse (role_text role) in
    parts promotion target (reverse (capture_text c) ++ end) c end None end None end role
    (with_x c end (no_x_role role)) (no_rank_role role) (no_file_role role) (moved_role role)
start_read promotion target role (Some f) None c on_file on_rank =
    let end = reverse (role_text role) in
    let named = (byte "a" + f) ∷ end in
    parts promotion target (reverse (capture_text c) ++ named) c named None named (Some f) end role
    (with_x c named (optional_none (byte_is (byte "x")) (byte "a" + f) end (no_x_file f on_file)))
    (optional_none rank_named (byte "a" + f) end (no_rank f on_file))
    (optional_some file_named (byte "a" + f) end f (file_read f on_file)) (moved_role role)
start_read promotion target role None (Some r) c on_file on_rank =
    let end = reverse (role_text role) in
    let named = (byte "1" + r) ∷ end in
    parts promotion target (reverse (capture_text c) ++ named) c named (Some r) end None end role
    (with_x c named (optional_none (byte_is (byte "x")) (byte "1" + r) end (no_x_rank r on_rank)))
    (optional_some rank_named (byte "1" + r) end r (rank_read r on_rank))
    (no_file_role role) (moved_role role)
start_read promotion target role (Some f) (Some r) c on_file on_rank =
    let end = reverse (role_text role) in
    let filed = (byte "a" + f) ∷ end in
    let named = (byte "1" + r) ∷ filed in
    parts promotion target (reverse (capture_text c) ++ named) c named (Some r) filed (Some f) end role
    (with_x c named (optional_none (byte_is (byte "x")) (byte "1" + r) filed (no_x_rank r on_rank)))
    (optional_some rank_named (byte "1" + r) filed r (rank_read r on_rank))
    (optional_some file_named (byte "a" + f) end f (file_read f on_file)) (moved_role role)

no_equals : (n : ℕ) → n < 8 → byte_is (byte "=") (byte "1" + n) ≡ None
no_equals n h = grind (arith, nat_tests)

-- behind a promotion's letter stands the target: no `=`
bare : (letter : ℕ) (role : Role) (target : ℕ) (before : List ℕ) → target < 64 → role_of promotions letter ≡ Some role
    → promoted (letter ∷ rank_digit target ∷ file_letter target ∷ before) ≡ (Some role, rank_digit target ∷ file_letter target ∷ before)
bare letter role target before h is =
    let rest = file_letter target ∷ before in
    rw (
      optional_some (role_of promotions) letter (rank_digit target ∷ rest) role is,
      optional_none (byte_is (byte "=")) (rank_digit target) rest (no_equals (target / 8) (rank_below target h)),
    ) refl

spelled_read : (promotion : Option Role) (spelled : List ℕ) (target : ℕ) (before : List ℕ) (form : NamedMove) → target < 64 → SpellsPromotion promotion spelled
    → from_start promotion target before ≡ Some form
    → form_of (unmarked (reverse spelled ++ (rank_digit target ∷ file_letter target ∷ before))) ≡ Some (Named form)
spelled_read None spelled target before form h is e =
    let rest = file_letter target ∷ before in
    let bytes = rank_digit target ∷ rest in
    ap (λ (s : List ℕ). form_of (unmarked (reverse s ++ bytes))) is
    ∙ ap form_of (kept (rank_digit target) rest (no_mark (target / 8) (rank_below target h)))
    ∙ formed bytes form (no_castling (rank_digit target) rest (no_o (target / 8) (rank_below target h)))
    (targeted bytes None target before form h (no_promoted (target / 8) rest (rank_below target h)) e)
spelled_read (Some Queen) spelled target before form h (fine, inl is) e =
    let rest = rank_digit target ∷ file_letter target ∷ before in
    ap (λ (s : List ℕ). form_of (unmarked (reverse s ++ rest))) is
    ∙ formed (81 ∷ 61 ∷ rest) form (no_castling 81 (61 ∷ rest) refl) (targeted (81 ∷ 61 ∷ rest) (Some Queen) target before form h refl e)
spelled_read (Some Queen) spelled target before form h (fine, inr is) e =
    let rest = rank_digit target ∷ file_letter target ∷ before in
    ap (λ (s : List ℕ). form_of (unmarked (reverse s ++ rest))) is
    ∙ formed (81 ∷ rest) form (no_castling 81 rest refl) (targeted (81 ∷ rest) (Some Queen) target before form h (bare 81 Queen target before h refl) e)
spelled_read (Some Rook) spelled target before form h (fine, inl is) e =
    let rest = rank_digit target ∷ file_letter target ∷ before in
    ap (λ (s : List ℕ). form_of (unmarked (reverse s ++ rest))) is
    ∙ formed (82 ∷ 61 ∷ rest) form (no_castling 82 (61 ∷ rest) refl) (targeted (82 ∷ 61 ∷ rest) (Some Rook) target before form h refl e)
spelled_read (Some Rook) spelled target before form h (fine, inr is) e =
    let rest = rank_digit target ∷ file_letter target ∷ before in
    ap (λ (s : List ℕ). form_of (unmarked (reverse s ++ rest))) is
    ∙ formed (82 ∷ rest) form (no_castling 82 rest refl) (targeted (82 ∷ rest) (Some Rook) target before form h (bare 82 Rook target before h refl) e)
spelled_read (Some Bishop) spelled target before form h (fine, inl is) e =
    let rest = rank_digit target ∷ file_letter target ∷ before in
    ap (λ (s : List ℕ). form_of (unmarked (reverse s ++ rest))) is
    ∙ formed (66 ∷ 61 ∷ rest) form (no_castling 66 (61 ∷ rest) refl) (targeted (66 ∷ 61 ∷ rest) (Some Bishop) target before form h refl e)
spelled_read (Some Bishop) spelled target before form h (fine, inr is) e =
    let rest = rank_digit target ∷ file_letter target ∷ before in
    ap (λ (s : List ℕ). form_of (unmarked (reverse s ++ rest))) is
    ∙ formed (66 ∷ rest) form (no_castling 66 rest refl) (targeted (66 ∷ rest) (Some Bishop) target before form h (bare 66 Bishop target before h refl) e)
spelled_read (Some Knight) spelled target before form h (fine, inl is) e =
    let rest = rank_digit target ∷ file_letter target ∷ before in
    ap (λ (s : List ℕ). form_of (unmarked (reverse s ++ rest))) is
    ∙ formed (78 ∷ 61 ∷ rest) form (no_castling 78 (61 ∷ rest) refl) (targeted (78 ∷ 61 ∷ rest) (Some Knight) target before form h refl e)
spelled_read (Some Knight) spelled target before form h (fine, inr is) e =
    let rest = rank_digit target ∷ file_letter target ∷ before in
    ap (λ (s : List ℕ). form_of (unmarked (reverse s ++ rest))) is
    ∙ formed (78 ∷ rest) form (no_castling 78 rest refl) (targeted (78 ∷ rest) (Some Knight) target before form h (bare 78 Knight target before h refl) e)
spelled_read (Some Pawn) spelled target before form h (fine, is) e = absurd fine
spelled_read (Some King) spelled target before form h (fine, is) e = absurd fine

turned : (a b c d e f : List ℕ) → reverse (((((a ++ b) ++ c) ++ d) ++ e) ++ f) ≡ reverse f ++ (reverse e ++ (reverse d ++ (reverse c ++ (reverse b ++ reverse a))))
turned a b c d e f =
    reverse-append ((((a ++ b) ++ c) ++ d) ++ e) f
    ∙ ap (λ (xs : List ℕ). reverse f ++ xs) (reverse-append (((a ++ b) ++ c) ++ d) e
    ∙ ap (λ (xs : List ℕ). reverse e ++ xs) (reverse-append ((a ++ b) ++ c) d
    ∙ ap (λ (xs : List ℕ). reverse d ++ xs) (reverse-append (a ++ b) c
    ∙ ap (λ (xs : List ℕ). reverse c ++ xs) (reverse-append a b))))

move_read : (form : NamedMove) (body : List ℕ) → SpellsMove form body → form_of (unmarked (reverse body)) ≡ Some (Named form)
move_read form body s =
    ap (λ (text : List ℕ). form_of (unmarked (reverse text))) s.text_is
    ∙ ap (λ (bytes : List ℕ). form_of (unmarked bytes)) (turned (role_text form.role) (file_text form.file) (rank_text form.rank) (capture_text form.captures) (square_text form.target) s.promotion)
    ∙ spelled_read form.promotion s.promotion form.target (before_target form.role form.file form.rank form.captures) form s.target s.promotes
    (start_read form.promotion form.target form.role form.file form.rank form.captures s.file s.rank)

-- ---- castling

letter_or_zero : (b : ℕ) → with_letter b ≡ byte "O" → is_o b ≡ true
letter_or_zero b is = grind (arith, nat_tests)

hyphen : (b : ℕ) → with_letter b ≡ byte "-" → is_hyphen b ≡ true
hyphen b is = grind (arith, nat_tests)

o_letter : (b : ℕ) → is_o b ≡ true → with_letter b ≡ byte "O"
o_letter b is = grind (arith, nat_tests)

hyphen_stays : (b : ℕ) → is_hyphen b ≡ true → with_letter b ≡ byte "-"
hyphen_stays b is = grind (arith, nat_tests)

no_mark_letter : (b : ℕ) → with_letter b ≡ byte "O" → is_mark b ≡ false
no_mark_letter b is = grind (arith, nat_tests)

by_castling : (bytes : List ℕ) (side : Side) → castling bytes ≡ Some side → form_of bytes ≡ Some (Castling side)
by_castling bytes side e = ap (chosen_form (named_move bytes)) e

byte_at : List ℕ → ℕ → ℕ
byte_at xs k = slice_index_or xs k 0

short_read : (a b c : ℕ) → with_letter a ≡ byte "O" → with_letter b ≡ byte "-" → with_letter c ≡ byte "O" → form_of (unmarked (c ∷ b ∷ a ∷ [])) ≡ Some (Castling Short)
short_read a b c is_a is_b is_c =
    ap form_of (kept c (b ∷ a ∷ []) (no_mark_letter c is_c))
    ∙ by_castling (c ∷ b ∷ a ∷ []) Short (rw (letter_or_zero a is_a, hyphen b is_b, letter_or_zero c is_c) refl)

long_read : (a b c d f : ℕ) → with_letter a ≡ byte "O" → with_letter b ≡ byte "-" → with_letter c ≡ byte "O" → with_letter d ≡ byte "-" → with_letter f ≡ byte "O"
    → form_of (unmarked (f ∷ d ∷ c ∷ b ∷ a ∷ [])) ≡ Some (Castling Long)
long_read a b c d f is_a is_b is_c is_d is_f =
    ap form_of (kept f (d ∷ c ∷ b ∷ a ∷ []) (no_mark_letter f is_f))
    ∙ by_castling (f ∷ d ∷ c ∷ b ∷ a ∷ []) Long (rw (letter_or_zero a is_a, hyphen b is_b, letter_or_zero c is_c, hyphen d is_d, letter_or_zero f is_f) refl)

side_read : (side : Side) (body : List ℕ) → map with_letter body ≡ castling_text side → form_of (unmarked (reverse body)) ≡ Some (Castling side)
unfolding byte_at
side_read Short [] e = absurd (omega (arith, ap length e))
side_read Short (a ∷ []) e = absurd (omega (arith, ap length e))
side_read Short (a ∷ b ∷ []) e = absurd (omega (arith, ap length e))
side_read Short (a ∷ b ∷ c ∷ []) e =
    short_read a b c (ap (λ xs. byte_at xs 0) e) (ap (λ xs. byte_at xs 1) e) (ap (λ xs. byte_at xs 2) e)
side_read Short (a ∷ b ∷ c ∷ d ∷ body) e = absurd (omega (arith, ap length e))
side_read Long [] e = absurd (omega (arith, ap length e))
side_read Long (a ∷ []) e = absurd (omega (arith, ap length e))
side_read Long (a ∷ b ∷ []) e = absurd (omega (arith, ap length e))
side_read Long (a ∷ b ∷ c ∷ []) e = absurd (omega (arith, ap length e))
side_read Long (a ∷ b ∷ c ∷ d ∷ []) e = absurd (omega (arith, ap length e))
side_read Long (a ∷ b ∷ c ∷ d ∷ f ∷ []) e =
    long_read a b c d f (ap (λ xs. byte_at xs 0) e) (ap (λ xs. byte_at xs 1) e) (ap (λ xs. byte_at xs 2) e) (ap (λ xs. byte_at xs 3) e) (ap (λ xs. byte_at xs 4) e)
side_read Long (a ∷ b ∷ c ∷ d ∷ f ∷ g ∷ body) e = absurd (omega (arith, ap length e))

form_read : (form : SanForm) (body : List ℕ) → SpellsForm form body → form_of (unmarked (reverse body)) ≡ Some form
form_read (Castling side) body spells = side_read side body spells
form_read (Named form) body spells = move_read form body spells

text_read : (text : List ℕ) (form : SanForm) → IsSpelled form text → san_form text ≡ Some form
text_read text form s = ap san_form s.text_is ∙ marked s.body s.marks s.are_marks ∙ form_read form s.body s.spells

-- ---- what is read is spelled so

-- a text from the right is what stands before its marks, and the marks
record Unmarks (bytes : List ℕ) : Type 0 where
  marks : List ℕ
  bytes_are : bytes ≡ reverse marks ++ unmarked bytes
  are_marks : IsTrue (list_all is_mark marks)

unmark_at : (b : ℕ) (bytes : List ℕ) → Unmarks bytes → (t : Bool) → is_mark b ≡ t → Unmarks (b ∷ bytes)
unmark_at b bytes rest true is = record {
  marks = rest.marks ++ b ∷ [];
  bytes_are = ap (λ (xs : List ℕ). b ∷ xs) rest.bytes_are
      ∙ ap (λ (xs : List ℕ). xs ++ unmarked bytes) (sym (reverse-append rest.marks (b ∷ [])))
      ∙ ap (λ (xs : List ℕ). reverse (rest.marks ++ b ∷ []) ++ xs) (ap (λ (t : Bool). if t then unmarked bytes else b ∷ bytes) (sym is));
  are_marks = list_all-append is_mark rest.marks (b ∷ []) ∙ rw (rest.are_marks, is) refl;
}
unmark_at b bytes rest false is = record {
  marks = [];
  bytes_are = ap (λ (t : Bool). if t then unmarked bytes else b ∷ bytes) (sym is);
  are_marks = refl;
}

unmarks : (bytes : List ℕ) → Unmarks bytes
unmarks [] = record { marks = []; bytes_are = refl; are_marks = refl }
unmarks (b ∷ bytes) = unmark_at b bytes (unmarks bytes) (is_mark b) refl

-- a part at the head, as it is spelled
record Takes {A : Type 0} (spell : A → List ℕ) (Good : A → Type 0) (bytes : List ℕ) (taken : Option A × List ℕ) : Type 0 where
  spelled : List ℕ
  spelled_is : MatchOption taken.0 (spelled ≡ []) (λ part. spelled ≡ spell part)
  bytes_are : bytes ≡ spelled ++ taken.1
  good : IfSome taken.0 Good

take_at : {A : Type 0} (read : ℕ → Option A) (spell : A → List ℕ) (Good : A → Type 0) → ((b : ℕ) (part : A) → read b ≡ Some part → (spell part ≡ b ∷ []) × Good part)
    → (b : ℕ) (bytes : List ℕ) (part : Option A) → read b ≡ part → Takes spell Good (b ∷ bytes) (chosen bytes (b ∷ bytes) part)
take_at read spell Good inverse b bytes (Some part) is = record {
  spelled = spell part;
  spelled_is = refl;
  bytes_are = ap (λ (xs : List ℕ). xs ++ bytes) (sym (inverse b part is).0);
  good = (inverse b part is).1;
}
take_at read spell Good inverse b bytes None is = record { spelled = []; spelled_is = refl; bytes_are = refl; good = tt }

takes : {A : Type 0} (read : ℕ → Option A) (spell : A → List ℕ) (Good : A → Type 0) → ((b : ℕ) (part : A) → read b ≡ Some part → (spell part ≡ b ∷ []) × Good part)
    → (bytes : List ℕ) → Takes spell Good bytes (optional read bytes)
takes read spell Good inverse [] = record { spelled = []; spelled_is = refl; bytes_are = refl; good = tt }
takes read spell Good inverse (b ∷ bytes) = take_at read spell Good inverse b bytes (read b) refl

-- ---- letters and digits

-- the byte is the one that is spelled
head : (a b : ℕ) → a ≡ b → a ∷ [] ≡ b ∷ []
head a b is = ap (λ (x : ℕ). x ∷ []) is

is_file : (b f : ℕ) → file_named b ≡ Some f → (byte "a" + f ≡ b) × (f < 8)
is_file b f is =
    let at : ((nat_le (byte "a") b && nat_le b (byte "h")) ≡ true) × (b - byte "a" ≡ f) = cond_some (nat_le (byte "a") b && nat_le b (byte "h")) (b - byte "a") f is in
    let low : byte "a" ≤ b = grind (arith, nat_tests, at.0) in
    let high : b ≤ byte "h" = grind (arith, nat_tests, at.0) in
    (omega (arith, at.1, low), omega (arith, at.1, low, high))

is_rank : (b r : ℕ) → rank_named b ≡ Some r → (byte "1" + r ≡ b) × (r < 8)
is_rank b r is =
    let at : ((nat_le (byte "1") b && nat_le b (byte "8")) ≡ true) × (b - byte "1" ≡ r) = cond_some (nat_le (byte "1") b && nat_le b (byte "8")) (b - byte "1") r is in
    let low : byte "1" ≤ b = grind (arith, nat_tests, at.0) in
    let high : b ≤ byte "8" = grind (arith, nat_tests, at.0) in
    (omega (arith, at.1, low), omega (arith, at.1, low, high))

is_byte : (wanted b found : ℕ) → byte_is wanted b ≡ Some found → b ≡ wanted
is_byte wanted b found is = eqb-true b wanted (cond_some (b == wanted) b found is).0

-- a role that a letter names is one of the roles, and has that letter
among_at : (P : Role → Type 0) (b : ℕ) (role : Role) (rest : Option Role) (found : Role) → P role → (rest ≡ Some found → P found × (letter_of found ≡ b))
    → (t : Bool) → (letter_of role == b) ≡ t → cond t (Some role) rest ≡ Some found → P found × (letter_of found ≡ b)
among_at P b role rest found good others true at is =
    let same : role ≡ found = same_Some role found is in
    (subst P same good, ap letter_of (sym same) ∙ eqb-true (letter_of role) b at)
among_at P b role rest found good others false at is = others is

among : (P : Role → Type 0) (roles : List Role) (b : ℕ) (found : Role) → AllByRecursion P roles → role_of roles b ≡ Some found → P found × (letter_of found ≡ b)
among P [] b found good is = absurd (none-some found is)
among P (role ∷ roles) b found good is =
    among_at P b role (role_of roles b) found good.0 (among P roles b found good.1) (letter_of role == b) refl is

promotion_letter : (b : ℕ) (role : Role) → role_of promotions b ≡ Some role → IsPromotion (Some role) × (letter_of role ≡ b)
promotion_letter b role is = among (λ role. IsPromotion (Some role)) promotions b role (tt, (tt, (tt, (tt, tt)))) is

piece_letter : (b : ℕ) (role : Role) → role_of lettered b ≡ Some role → role_text role ≡ b ∷ []
piece_letter b role is =
    let named : (role_text role ≡ letter_of role ∷ []) × (letter_of role ≡ b) =
    among (λ role. role_text role ≡ letter_of role ∷ []) lettered b role (refl, (refl, (refl, (refl, (refl, tt))))) is in
    named.0 ∙ head (letter_of role) b named.1

-- ---- what stands before the target

moved_spelled : (bytes : List ℕ) (role : Role) → moved bytes ≡ Some role → bytes ≡ reverse (role_text role)
moved_spelled [] role is = ap (λ (role : Role). reverse (role_text role)) (same_Some Pawn role is)
moved_spelled (b ∷ []) role is = ap (λ (text : List ℕ). reverse text) (sym (piece_letter b role is))
moved_spelled (b ∷ c ∷ bytes) role is = absurd (none-some role is)

x_spelled : (bytes : List ℕ) → Takes (λ (x : ℕ). byte "x" ∷ []) (λ x. Unit {0}) bytes (optional (byte_is (byte "x")) bytes)
x_spelled bytes = takes (byte_is (byte "x")) (λ (x : ℕ). byte "x" ∷ []) (λ x. Unit {0}) (λ b x is. (head (byte "x") b (sym (is_byte (byte "x") b x is)), tt)) bytes

rank_spelled : (bytes : List ℕ) → Takes (λ (r : ℕ). (byte "1" + r) ∷ []) (λ r. r < 8) bytes (optional rank_named bytes)
rank_spelled bytes = takes rank_named (λ (r : ℕ). (byte "1" + r) ∷ []) (λ r. r < 8) (λ b r is. (head (byte "1" + r) b (is_rank b r is).0, (is_rank b r is).1)) bytes

file_spelled : (bytes : List ℕ) → Takes (λ (f : ℕ). (byte "a" + f) ∷ []) (λ f. f < 8) bytes (optional file_named bytes)
file_spelled bytes = takes file_named (λ (f : ℕ). (byte "a" + f) ∷ []) (λ f. f < 8) (λ b f is. (head (byte "a" + f) b (is_file b f is).0, (is_file b f is).1)) bytes

x_text : (x : Option ℕ) (text : List ℕ) → MatchOption x (text ≡ []) (λ part. text ≡ byte "x" ∷ []) → text ≡ reverse (capture_text (is_some x))
x_text None text is = is
x_text (Some x) text is = is

ranks_text : (rank : Option ℕ) (text : List ℕ) → MatchOption rank (text ≡ []) (λ r. text ≡ (byte "1" + r) ∷ []) → text ≡ reverse (rank_text rank)
ranks_text None text is = is
ranks_text (Some r) text is = is

files_text : (file : Option ℕ) (text : List ℕ) → MatchOption file (text ≡ []) (λ f. text ≡ (byte "a" + f) ∷ []) → text ≡ reverse (file_text file)
files_text None text is = is
files_text (Some f) text is = is

-- what stands before the target spells the rest of the form
record Begins (promotion : Option Role) (target : ℕ) (bytes : List ℕ) (form : NamedMove) : Type 0 where
  role : Role
  file : Option ℕ
  rank : Option ℕ
  c : Bool
  on_file : IfSome file (λ f. f < 8)
  on_rank : IfSome rank (λ r. r < 8)
  form_is : form_with role file rank c target promotion ≡ form
  bytes_are : bytes ≡ before_target role file rank c

begins_at : (promotion : Option Role) (target : ℕ) (bytes : List ℕ) (form : NamedMove)
    → (x : Option ℕ × List ℕ) → Takes (λ (x : ℕ). byte "x" ∷ []) (λ x. Unit {0}) bytes x
    → (rank : Option ℕ × List ℕ) → Takes (λ (r : ℕ). (byte "1" + r) ∷ []) (λ r. r < 8) x.1 rank
    → (file : Option ℕ × List ℕ) → Takes (λ (f : ℕ). (byte "a" + f) ∷ []) (λ f. f < 8) rank.1 file
    → (role : Option Role) → moved file.1 ≡ role
    → option_map (λ role. form_with role file.0 rank.0 (is_some x.0) target promotion) role ≡ Some form → Begins promotion target bytes form
begins_at promotion target bytes form x takes_x rank takes_rank file takes_file None moves is = absurd (none-some form is)
begins_at promotion target bytes form x takes_x rank takes_rank file takes_file (Some role) moves is = record {
  role = role;
  file = file.0;
  rank = rank.0;
  c = is_some x.0;
  on_file = takes_file.good;
  on_rank = takes_rank.good;
  form_is = same_Some (form_with role file.0 rank.0 (is_some x.0) target promotion) form is;
  bytes_are = takes_x.bytes_are
      ∙ ap₂ (λ (a b : List ℕ). a ++ b) (x_text x.0 takes_x.spelled takes_x.spelled_is) (takes_rank.bytes_are
      ∙ ap₂ (λ (a b : List ℕ). a ++ b) (ranks_text rank.0 takes_rank.spelled takes_rank.spelled_is) (takes_file.bytes_are
      ∙ ap₂ (λ (a b : List ℕ). a ++ b) (files_text file.0 takes_file.spelled takes_file.spelled_is) (moved_spelled file.1 role moves)));
}

begins : (promotion : Option Role) (target : ℕ) (bytes : List ℕ) (form : NamedMove) → from_start promotion target bytes ≡ Some form → Begins promotion target bytes form
begins promotion target bytes form is =
    let x : Option ℕ × List ℕ = optional (byte_is (byte "x")) bytes in
    let rank : Option ℕ × List ℕ = optional rank_named x.1 in
    let file : Option ℕ × List ℕ = optional file_named rank.1 in
    begins_at promotion target bytes form x (x_spelled bytes) rank (rank_spelled x.1) file (file_spelled rank.1) (moved file.1) refl is

-- ---- the target

record Targets (file rank target : ℕ) : Type 0 where
  on_board : target < 64
  file_is : file ≡ file_letter target
  rank_is : rank ≡ rank_digit target

targets_at : (file rank target : ℕ) (f r : Option ℕ) → file_named file ≡ f → rank_named rank ≡ r → option_and_then (λ a. option_map (λ b. 8 * b + a) r) f ≡ Some target
    → Targets file rank target
targets_at file rank target None r is_f is_r is = absurd (none-some target is)
targets_at file rank target (Some f) None is_f is_r is = absurd (none-some target is)
targets_at file rank target (Some f) (Some r) is_f is_r is =
    let joined : 8 * r + f ≡ target = same_Some (8 * r + f) target is in
    let on_file : (byte "a" + f ≡ file) × (f < 8) = is_file file f is_f in
    let on_rank : (byte "1" + r ≡ rank) × (r < 8) = is_rank rank r is_r in
    record {
      on_board = omega (arith, joined, on_file.1, on_rank.1);
      file_is = omega (arith, joined, on_file.0, on_file.1);
      rank_is = omega (arith, joined, on_rank.0, on_file.1);
    }

-- the bytes from the target on, from the right
record TargetsOn (promotion : Option Role) (bytes : List ℕ) (form : NamedMove) : Type 0 where
  target : ℕ
  on_board : target < 64
  before : List ℕ
  bytes_are : bytes ≡ rank_digit target ∷ file_letter target ∷ before
  begun : Begins promotion target before form

targets_on : (promotion : Option Role) (file rank : ℕ) (before : List ℕ) (form : NamedMove) (target : Option ℕ) → square_named file rank ≡ target
    → option_and_then (λ target. from_start promotion target before) target ≡ Some form → TargetsOn promotion (rank ∷ file ∷ before) form
targets_on promotion file rank before form None named is = absurd (none-some form is)
targets_on promotion file rank before form (Some target) named is =
    let at : Targets file rank target = targets_at file rank target (file_named file) (rank_named rank) refl refl named in
    record {
      target = target;
      on_board = at.on_board;
      before = before;
      bytes_are = ap₂ (λ (a b : ℕ). a ∷ b ∷ before) at.rank_is at.file_is;
      begun = begins promotion target before form is;
    }

target_spelled : (promotion : Option Role) (bytes : List ℕ) (form : NamedMove) → to_target promotion bytes ≡ Some form → TargetsOn promotion bytes form
target_spelled promotion [] form is = absurd (none-some form is)
target_spelled promotion (rank ∷ []) form is = absurd (none-some form is)
target_spelled promotion (rank ∷ file ∷ before) form is = targets_on promotion file rank before form (square_named file rank) refl is

-- ---- the promotion

record Promoted (bytes : List ℕ) (taken : Option Role × List ℕ) : Type 0 where
  spelled : List ℕ
  spells : SpellsPromotion taken.0 spelled
  bytes_are : bytes ≡ reverse spelled ++ taken.1

sign_at : (b c : ℕ) (bytes : List ℕ) (role : Role) → IsPromotion (Some role) → letter_of role ≡ b → (sign : Option ℕ) → byte_is (byte "=") c ≡ sign
    → Promoted (b ∷ c ∷ bytes) (Some role, (chosen bytes (c ∷ bytes) sign).1)
sign_at b c bytes role fine letter (Some sign) is = record {
  spelled = byte "=" ∷ letter_of role ∷ [];
  spells = (fine, inl refl);
  bytes_are = ap₂ (λ (x y : ℕ). x ∷ y ∷ bytes) (sym letter) (is_byte (byte "=") c sign is);
}
sign_at b c bytes role fine letter None is = record {
  spelled = letter_of role ∷ [];
  spells = (fine, inr refl);
  bytes_are = ap (λ (x : ℕ). x ∷ c ∷ bytes) (sym letter);
}

sign : (b : ℕ) (bytes : List ℕ) (role : Role) → IsPromotion (Some role) → letter_of role ≡ b → Promoted (b ∷ bytes) (Some role, (optional (byte_is (byte "=")) bytes).1)
sign b [] role fine letter = record { spelled = letter_of role ∷ []; spells = (fine, inr refl); bytes_are = head b (letter_of role) (sym letter) }
sign b (c ∷ bytes) role fine letter = sign_at b c bytes role fine letter (byte_is (byte "=") c) refl

abbrev promoted_by : Option Role × List ℕ → Option Role × List ℕ
promoted_by part = (part.0, if is_some part.0 then (optional (byte_is (byte "=")) part.1).1 else part.1)

promoted_at : (b : ℕ) (bytes : List ℕ) (role : Option Role) → role_of promotions b ≡ role → Promoted (b ∷ bytes) (promoted_by (chosen bytes (b ∷ bytes) role))
promoted_at b bytes (Some role) is = let named : IsPromotion (Some role) × (letter_of role ≡ b) = promotion_letter b role is in
    sign b bytes role named.0 named.1
promoted_at b bytes None is = record { spelled = []; spells = refl; bytes_are = refl }

promotion_spelled : (bytes : List ℕ) → Promoted bytes (promoted bytes)
promotion_spelled [] = record { spelled = []; spells = refl; bytes_are = refl }
promotion_spelled (b ∷ bytes) = promoted_at b bytes (role_of promotions b) refl

-- ---- whole texts

move_spelled_by : (form : NamedMove) (bytes : List ℕ) (part : Option Role × List ℕ) → Promoted bytes part → TargetsOn part.0 part.1 form → SpellsMove form (reverse bytes)
move_spelled_by form bytes part promotes targets =
    let begun : Begins part.0 targets.target targets.before form = targets.begun in
    let text : List ℕ = role_text begun.role ++ file_text begun.file ++ rank_text begun.rank ++ capture_text begun.c ++ square_text targets.target ++ promotes.spelled in
    let whole : bytes ≡ reverse text =
    promotes.bytes_are
    ∙ ap (λ (xs : List ℕ). reverse promotes.spelled ++ xs) (targets.bytes_are ∙ ap (λ (xs : List ℕ). rank_digit targets.target ∷ file_letter targets.target ∷ xs) begun.bytes_are)
    ∙ sym (turned (role_text begun.role) (file_text begun.file) (rank_text begun.rank) (capture_text begun.c) (square_text targets.target) promotes.spelled) in
    subst (λ (form : NamedMove). SpellsMove form (reverse bytes)) begun.form_is (record {
      file = begun.on_file;
      rank = begun.on_rank;
      target = targets.on_board;
      promotion = promotes.spelled;
      promotes = promotes.spells;
      text_is = ap (λ (xs : List ℕ). reverse xs) whole ∙ reverse-reverse text;
    })

move_spelled : (bytes : List ℕ) (form : NamedMove) → named_move bytes ≡ Some form → SpellsMove form (reverse bytes)
move_spelled bytes form is = move_spelled_by form bytes (promoted bytes) (promotion_spelled bytes) (target_spelled (promoted bytes).0 (promoted bytes).1 form is)

short_tests : (a b c : Bool) (side : Side) → (if a && b && c then Some Short else None) ≡ Some side → (a ≡ true) × (b ≡ true) × (c ≡ true) × (Short ≡ side)
short_tests true true true side is = (refl, refl, refl, same_Some Short side is)
short_tests true true false side is = absurd (none-some side is)
short_tests true false c side is = absurd (none-some side is)
short_tests false b c side is = absurd (none-some side is)

long_tests : (a b c d e : Bool) (side : Side) → (if a && b && c && d && e then Some Long else None) ≡ Some side
    → (a ≡ true) × (b ≡ true) × (c ≡ true) × (d ≡ true) × (e ≡ true) × (Long ≡ side)
long_tests true true true true true side is = (refl, refl, refl, refl, refl, same_Some Long side is)
long_tests true true true true false side is = absurd (none-some side is)
long_tests true true true false e side is = absurd (none-some side is)
long_tests true true false d e side is = absurd (none-some side is)
long_tests true false c d e side is = absurd (none-some side is)
long_tests false b c d e side is = absurd (none-some side is)

three : (a b c : ℕ) → with_letter a ≡ byte "O" → with_letter b ≡ byte "-" → with_letter c ≡ byte "O" → map with_letter (c ∷ b ∷ a ∷ []) ≡ castling_text Short
three a b c is_a is_b is_c = rw (is_a, is_b, is_c) refl

five : (a b c d e : ℕ) → with_letter a ≡ byte "O" → with_letter b ≡ byte "-" → with_letter c ≡ byte "O" → with_letter d ≡ byte "-" → with_letter e ≡ byte "O"
    → map with_letter (e ∷ d ∷ c ∷ b ∷ a ∷ []) ≡ castling_text Long
five a b c d e is_a is_b is_c is_d is_e = rw (is_a, is_b, is_c, is_d, is_e) refl

side_spelled : (bytes : List ℕ) (side : Side) → castling bytes ≡ Some side → map with_letter (reverse bytes) ≡ castling_text side
side_spelled [] side is = absurd (none-some side is)
side_spelled (a ∷ []) side is = absurd (none-some side is)
side_spelled (a ∷ b ∷ []) side is = absurd (none-some side is)
side_spelled (a ∷ b ∷ c ∷ []) side is =
    let tests : (is_o a ≡ true) × (is_hyphen b ≡ true) × (is_o c ≡ true) × (Short ≡ side) = short_tests (is_o a) (is_hyphen b) (is_o c) side is in
    three a b c (o_letter a tests.0) (hyphen_stays b tests.1) (o_letter c tests.2) ∙ ap castling_text tests.3
side_spelled (a ∷ b ∷ c ∷ d ∷ []) side is = absurd (none-some side is)
side_spelled (a ∷ b ∷ c ∷ d ∷ e ∷ []) side is =
    let tests : (is_o a ≡ true) × (is_hyphen b ≡ true) × (is_o c ≡ true) × (is_hyphen d ≡ true) × (is_o e ≡ true) × (Long ≡ side) =
    long_tests (is_o a) (is_hyphen b) (is_o c) (is_hyphen d) (is_o e) side is in
    five a b c d e (o_letter a tests.0) (hyphen_stays b tests.1) (o_letter c tests.2) (hyphen_stays d tests.3) (o_letter e tests.4) ∙ ap castling_text tests.5
side_spelled (a ∷ b ∷ c ∷ d ∷ e ∷ f ∷ bytes) side is = absurd (none-some side is)

named_spelled : (bytes : List ℕ) (form : SanForm) (named : Option NamedMove) → named_move bytes ≡ named → option_map (λ form. Named form) named ≡ Some form → SpellsForm form (reverse bytes)
named_spelled bytes form None at is = absurd (none-some form is)
named_spelled bytes form (Some named) at is =
    subst (λ (form : SanForm). SpellsForm form (reverse bytes)) (same_Some (Named named) form is) (move_spelled bytes named at)

form_spelled_by : (bytes : List ℕ) (form : SanForm) (side : Option Side) → castling bytes ≡ side → chosen_form (named_move bytes) side ≡ Some form → SpellsForm form (reverse bytes)
form_spelled_by bytes form (Some side) at is =
    subst (λ (form : SanForm). SpellsForm form (reverse bytes)) (same_Some (Castling side) form is) (side_spelled bytes side at)
form_spelled_by bytes form None at is = named_spelled bytes form (named_move bytes) refl is

text_spelled : (text : List ℕ) (form : SanForm) → san_form text ≡ Some form → IsSpelled form text
text_spelled text form is =
    let unmarking : Unmarks (reverse text) = unmarks (reverse text) in
    let bytes : List ℕ = unmarked (reverse text) in
    record {
      body = reverse bytes;
      marks = unmarking.marks;
      text_is = sym (reverse-reverse text) ∙ ap (λ (xs : List ℕ). reverse xs) unmarking.bytes_are
          ∙ reverse-append (reverse unmarking.marks) bytes
          ∙ ap (λ (xs : List ℕ). reverse bytes ++ xs) (reverse-reverse unmarking.marks);
      are_marks = unmarking.are_marks;
      spells = form_spelled_by bytes form (castling bytes) refl is;
    }

pub forms-spelled : (text : List ℕ) (form : SanForm) → (san_form text ≡ Some form) ↔ IsSpelled form text
forms-spelled text form = (text_spelled text form, text_read text form)
