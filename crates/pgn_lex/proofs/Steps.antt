-- The items of a text, one after another.
use Rattle.std.proofs.Common.{◌≡◌, ℕ, zero, suc, ◌+◌, ◌<◌, ◌≤◌, Bool, true, List, [], ◌∷◌, length, get_or, take, drop, ◌-◌, ◌==◌, refl, sym, ap, ◌∙◌, add-zero, add-one, arith}
use Rattle.std.proofs.lemmas.List.{get_or-drop, drop-drop, length-drop, length-take, take_rest}
use Rattle.explorer_model.specs.Items.{Item, Shape, Blank, Dropped, Lead, White, lead_of, is_white, one_byte, shape_by, shape_of, items_from}
use Rattle.pgn_lex.specs.Items.{begins_line, shape_at, item_at}
use Rattle.pgn_lex.proofs.Shapes.{shape_within, shape_at-within}

abbrev item : Shape → ℕ → List ℕ → Item
item shape place text = record { kind = shape.kind; place = place; text = text }

-- whether a line begins behind the first bytes
abbrev fresh_behind : Bool → ℕ → List ℕ → Bool
fresh_behind fresh zero bytes = fresh
fresh_behind fresh (suc k) bytes = get_or bytes k 0 == 10

behind-cons : (fresh : Bool) (k b : ℕ) (bytes : List ℕ) → fresh_behind (b == 10) k bytes ≡ fresh_behind fresh (suc k) (b ∷ bytes)
behind-cons fresh zero b bytes = refl
behind-cons fresh (suc k) b bytes = refl

items_from-skip : (k : ℕ) (fresh : Bool) (place : ℕ) (bytes : List ℕ) → k ≤ length bytes → items_from k fresh place bytes ≡ items_from 0 (fresh_behind fresh k bytes) (place + k) (drop k bytes)
unfolding items_from
items_from-skip zero fresh place bytes le = ap (λ (n : ℕ). items_from 0 fresh n bytes) (sym (add-zero place))
items_from-skip (suc k) fresh place [] le = absurd (omega (arith, le))
items_from-skip (suc k) fresh place (b ∷ bytes) le =
    items_from-skip k (b == 10) (place + 1) bytes (omega (arith, le))
    ∙ ap (λ (f : Bool). items_from 0 f (place + 1 + k) (drop k bytes)) (behind-cons fresh k b bytes)
    ∙ ap (λ (n : ℕ). items_from 0 (fresh_behind fresh (suc k) (b ∷ bytes)) n (drop k bytes)) (omega arith)

-- the first item of the bytes, and the items behind it
pub items_from-front : (fresh : Bool) (place : ℕ) (bytes : List ℕ) (shape : Shape) (taken : ℕ) → 0 < length bytes → shape ≡ shape_at fresh bytes → taken ≡ suc shape.more
    → items_from 0 fresh place bytes ≡ item shape place (take taken bytes) ∷ items_from 0 (get_or bytes shape.more 0 == 10) (place + taken) (drop taken bytes)
unfolding items_from
items_from-front fresh place [] shape taken some e t = absurd (omega (arith, some))
items_from-front fresh place (b ∷ bytes) shape taken some e t =
    let within : suc (shape_of fresh b bytes).more ≤ length (b ∷ bytes) = omega (arith, shape_within fresh b bytes) in
    rw (t, e) (ap (λ (rest : List Item). item (shape_of fresh b bytes) place (b ∷ take (shape_of fresh b bytes).more bytes) ∷ rest) (items_from-skip (suc (shape_of fresh b bytes).more) fresh place (b ∷ bytes) within))

behind : (text : List ℕ) (at more next : ℕ) → next ≡ at + suc more → (get_or (drop at text) more 0 == 10) ≡ begins_line next text
behind text at more next e =
    let same : next ≡ suc (at + more) = omega (arith, e) in
    ap (λ (b : ℕ). b == 10) (get_or-drop at text more 0) ∙ sym (ap (λ (n : ℕ). begins_line n text) same)

pub items_from-step : (text : List ℕ) (at next : ℕ) → at < length text → next ≡ at + length (item_at at text).text
    → items_from 0 (begins_line at text) at (drop at text) ≡ item_at at text ∷ items_from 0 (begins_line next text) next (drop next text)
unfolding item_at
items_from-step text at next lt e =
    let bytes : List ℕ = drop at text in
    let shape : Shape = shape_at (begins_line at text) bytes in
    let some : 0 < length bytes = omega (arith, length-drop at text) in
    let within : shape.more < length bytes = shape_at-within (begins_line at text) bytes some in
    let taken : next ≡ at + suc shape.more = omega (arith, e, length-take (shape.more + 1) bytes, within) in
    let ahead : at + (shape.more + 1) ≡ next = omega (arith, taken) in
    items_from-front (begins_line at text) at bytes shape (shape.more + 1) some refl (add-one shape.more)
    ∙ ap (λ (f : Bool). item_at at text ∷ items_from 0 f (at + (shape.more + 1)) (drop (shape.more + 1) bytes)) (behind text at shape.more next taken)
    ∙ ap (λ (rest : List ℕ). item_at at text ∷ items_from 0 (begins_line next text) (at + (shape.more + 1)) rest) (drop-drop (shape.more + 1) at text)
    ∙ ap (λ (n : ℕ). item_at at text ∷ items_from 0 (begins_line next text) n (drop n text)) ahead

-- what the code finds in the rest of a text
module _ (text : List ℕ) (at : ℕ) (shape : Shape) (fresh : Bool) (is : shape ≡ shape_at fresh (take (length text - at) (drop at text))) (begins : fresh ≡ begins_line at text) where
  is_shape : shape ≡ shape_at (begins_line at text) (drop at text)
  is_shape = is ∙ ap (λ (f : Bool). shape_at f (take (length text - at) (drop at text))) begins ∙ ap (shape_at (begins_line at text)) (take_rest text at)

  pub found_within : at < length text → at + shape.more < length text
  found_within lt =
      let some : 0 < length (drop at text) = omega (arith, length-drop at text) in
      omega (arith, shape_at-within (begins_line at text) (drop at text) some, length-drop at text, ap (λ (s : Shape). s.more) is_shape)

  pub found_item : item shape at (take (shape.more + 1) (take (length text - at) (drop at text))) ≡ item_at at text
  unfolding item_at
  found_item =
      ap (λ (bytes : List ℕ). item shape at (take (shape.more + 1) bytes)) (take_rest text at) ∙ ap (λ (s : Shape). item s at (take (s.more + 1) (drop at text))) is_shape

-- the item that a white byte is
abbrev pub white_item : List ℕ → ℕ → Item
white_item text at = record { kind = Blank; place = at; text = take 1 (drop at text) }

white_lead : (fresh : Bool) (b : ℕ) → is_white b ≡ true → lead_of fresh b ≡ White
unfolding lead_of
white_lead fresh b e = rw e refl

white_shape : (fresh : Bool) (bytes : List ℕ) → 0 < length bytes → is_white (get_or bytes 0 0) ≡ true → shape_at fresh bytes ≡ one_byte Blank
white_shape fresh [] some e = absurd (omega (arith, some))
white_shape fresh (b ∷ bytes) some e = ap (λ (lead : Lead). shape_by lead b bytes) (white_lead fresh b e)

pub white_item-at : (text : List ℕ) (at : ℕ) → at < length text → is_white (get_or text at 0) ≡ true → white_item text at ≡ item_at at text
unfolding item_at
white_item-at text at lt white =
    let some : 0 < length (drop at text) = omega (arith, lt, length-drop at text) in
    let here : get_or (drop at text) 0 0 ≡ get_or text at 0 = get_or-drop at text 0 0 ∙ ap (λ (n : ℕ). get_or text n 0) (add-zero at) in
    let first : is_white (get_or (drop at text) 0 0) ≡ true = ap is_white here ∙ white in
    sym (ap (λ (s : Shape). item s at (take (s.more + 1) (drop at text))) (white_shape (begins_line at text) (drop at text) some first))

-- the item that a period is
abbrev pub period_item : List ℕ → ℕ → Item
period_item text at = record { kind = Dropped; place = at; text = take 1 (drop at text) }

period_shape : (fresh : Bool) (bytes : List ℕ) → 0 < length bytes → get_or bytes 0 0 ≡ 46 → shape_at fresh bytes ≡ one_byte Dropped
unfolding lead_of
period_shape fresh [] some e = absurd (omega (arith, some))
period_shape fresh (b ∷ bytes) some e = ap (λ (c : ℕ). shape_by (lead_of fresh c) c bytes) e

pub period_item-at : (text : List ℕ) (at : ℕ) → at < length text → get_or text at 0 ≡ 46 → period_item text at ≡ item_at at text
unfolding item_at
period_item-at text at lt period =
    let some : 0 < length (drop at text) = omega (arith, lt, length-drop at text) in
    let here : get_or (drop at text) 0 0 ≡ get_or text at 0 = get_or-drop at text 0 0 ∙ ap (λ (n : ℕ). get_or text n 0) (add-zero at) in
    sym (ap (λ (s : Shape). item s at (take (s.more + 1) (drop at text))) (period_shape (begins_line at text) (drop at text) some (here ∙ period)))
