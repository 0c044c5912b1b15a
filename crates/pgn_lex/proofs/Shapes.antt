-- No item goes past the bytes.
use Rattle.std.proofs.Common.{◌≡◌, ℕ, ◌<◌, ◌≤◌, Bool, true, false, List, [], ◌∷◌, length, Option, Some, None, cond, nat_lt, ◌==◌, refl, arith}
use Rattle.std.specs.List.{prefix_len, position_or_len}
use Rattle.std.specs.Char.{is_ascii_digit}
use Rattle.std.proofs.lemmas.Bool.{ltb-true}
use Rattle.std.proofs.lemmas.List.Sums.{prefix_len-le-length}
use Rattle.explorer_model.specs.declared.archive.Tag.{Tag}
use Rattle.explorer_model.specs.Items.{Lead, White, Comment, Remark, Bracket, Symbol, Star, Mark, Dollar, Opening, Closing, Other, Shape, Dropped, Wrong, one_byte, comment_up_to, comment_of, remark_of, nag_of, pair_within, pair_of, pair_item_of, symbol_of, shape_by, shape_of, lead_of, continues_symbol}
use Rattle.pgn_lex.specs.Items.{shape_at}

closed_within : (most n : ℕ) (b : Bool) → nat_lt n most ≡ b → (comment_up_to (cond b (Some n) None)).more ≤ most
closed_within most n true e = omega (arith, ltb-true n most e)
closed_within most n false e = omega arith

comment_within : (bytes : List ℕ) → (comment_of bytes).more ≤ length bytes
unfolding comment_of
comment_within bytes = closed_within (length bytes) (position_or_len (λ b. b == 125) bytes) (nat_lt (position_or_len (λ b. b == 125) bytes) (length bytes)) refl

remark_within : (bytes : List ℕ) → (remark_of bytes).more ≤ length bytes
unfolding remark_of
remark_within bytes = prefix_len-le-length _ bytes

digits_within : (most digits : ℕ) (b : Bool) → digits ≤ most → (let nag : Shape = record { kind = Dropped; more = digits } in cond b (one_byte Wrong) nag).more ≤ most
digits_within most digits true le = omega arith
digits_within most digits false le = le

nag_within : (bytes : List ℕ) → (nag_of bytes).more ≤ length bytes
unfolding nag_of
nag_within bytes = digits_within (length bytes) (prefix_len is_ascii_digit bytes) (prefix_len is_ascii_digit bytes == 0) (prefix_len-le-length is_ascii_digit bytes)

found_within : (bytes : List ℕ) (found : Option (Tag × List ℕ)) → (pair_within bytes found).more ≤ length bytes
found_within bytes None = omega arith
found_within bytes (Some found) = omega arith

pair_item_within : (bytes : List ℕ) → (pair_item_of bytes).more ≤ length bytes
unfolding pair_item_of
pair_item_within bytes = found_within bytes (pair_of bytes)

symbol_within : (b : ℕ) (bytes : List ℕ) → (symbol_of b bytes).more ≤ length bytes
unfolding symbol_of
symbol_within b bytes = prefix_len-le-length continues_symbol bytes

by_lead : (lead : Lead) (b : ℕ) (bytes : List ℕ) → (shape_by lead b bytes).more ≤ length bytes
by_lead White b bytes = omega arith
by_lead Comment b bytes = comment_within bytes
by_lead Remark b bytes = remark_within bytes
by_lead Bracket b bytes = pair_item_within bytes
by_lead Symbol b bytes = symbol_within b bytes
by_lead Star b bytes = omega arith
by_lead Mark b bytes = omega arith
by_lead Dollar b bytes = nag_within bytes
by_lead Opening b bytes = omega arith
by_lead Closing b bytes = omega arith
by_lead Other b bytes = omega arith

pub shape_within : (fresh : Bool) (b : ℕ) (bytes : List ℕ) → (shape_of fresh b bytes).more ≤ length bytes
shape_within fresh b bytes = by_lead (lead_of fresh b) b bytes

pub shape_at-within : (fresh : Bool) (bytes : List ℕ) → 0 < length bytes → (shape_at fresh bytes).more < length bytes
shape_at-within fresh [] some = absurd (omega (arith, some))
shape_at-within fresh (b ∷ bytes) some = omega (arith, shape_within fresh b bytes)
