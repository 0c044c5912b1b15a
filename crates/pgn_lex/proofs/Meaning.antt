-- Reading a text item by item is what the items mean.
use Rattle.std.proofs.Common.{◌≡◌, ℕ, ◌+◌, ◌<◌, ◌≤◌, Bool, true, false, List, [], ◌∷◌, ◌++◌, length, drop, Option, Some, None, Result, Ok, Err, ok_or, cond, refl, sym, ap, ◌∙◌, subst, get_or, append_assoc, arith}
use Rattle.std.proofs.lemmas.List.{at_drop_all, length-drop, length-take}
use Rattle.explorer_model.specs.declared.archive.Parts.{Parts}
use Rattle.explorer_model.specs.declared.archive.Tag.{Tag}
use Rattle.explorer_model.specs.declared.archive.Token.{Token}
use Rattle.explorer_model.specs.declared.fault.LexFault.{LexFault}
use Rattle.explorer_model.specs.Items.{Kind, Blank, Pair, Terminates, Word, Dropped, Opens, Closes, Wrong, Item, items, items_from, is_white}
use Rattle.explorer_model.specs.Parts.{Section, Heading, Moves, Variation, Ended, after, is_in_variation, with_kind, with_item, meaning, parts}
use Rattle.explorer_model.specs.Stop.{◌>>=◌}
use Rattle.pgn_lex.specs.Items.{begins_line, item_at}
use Rattle.pgn_lex.specs.Reading.{depth_of, Front, token_of, added_kind, added, onto, with_front, finished, IsReadUpTo}
use Rattle.pgn_lex.proofs.Steps.{items_from-step, white_item, white_item-at, period_item, period_item-at}

with_kind-behind : (kind : Kind) (item : Item) (front : Front) (found : Parts) → onto front (with_kind kind item found) ≡ onto (added_kind kind item front) found
with_kind-behind (Pair tag) item front found =
    ap (λ (tags : List Tag). let all : Parts = record { tags = tags; tokens = front.tokens ++ found.tokens; termination = found.termination } in all) (sym (append_assoc front.tags (tag ∷ []) found.tags))
with_kind-behind Word item front found =
    ap (λ (tokens : List Token). let all : Parts = record { tags = front.tags ++ found.tags; tokens = tokens; termination = found.termination } in all) (sym (append_assoc front.tokens (token_of item ∷ []) found.tokens))
with_kind-behind Blank item front found = refl
with_kind-behind (Terminates ending) item front found = refl
with_kind-behind Dropped item front found = refl
with_kind-behind Opens item front found = refl
with_kind-behind Closes item front found = refl
with_kind-behind Wrong item front found = refl

behind : (inside : Bool) (item : Item) (front : Front) (found : Parts) → onto front (cond inside found (with_kind item.kind item found)) ≡ onto (cond inside front (added_kind item.kind item front)) found
behind true item front found = refl
behind false item front found = with_kind-behind item.kind item front found

passed : (section : Section) (item : Item) (front : Front) (reading : Result Parts LexFault)
    → with_front front (reading >>= λ found. Ok (with_item section item found)) ≡ with_front (added section item front) reading
passed section item front (Ok found) = ap Ok (behind (is_in_variation section) item front found)
passed section item front (Err fault) = refl

abbrev fault_at : Item → LexFault
fault_at item = record { place = item.place }

meaning-item : (section : Section) (item : Item) (rest : List Item) (front : Front) (next : Section) → Some next ≡ after section item.kind item.place
    → with_front front (meaning section (item ∷ rest)) ≡ with_front (added section item front) (meaning next rest)
unfolding meaning
meaning-item section item rest front next e =
    ap (λ (o : Option Section). with_front front (ok_or o (fault_at item) >>= λ s. meaning s rest >>= λ found. Ok (with_item section item found))) (sym e)
    ∙ passed section item front (meaning next rest)

meaning-refused : (section : Section) (item : Item) (rest : List Item) (front : Front) → None ≡ after section item.kind item.place
    → with_front front (meaning section (item ∷ rest)) ≡ Err (fault_at item)
unfolding meaning
meaning-refused section item rest front e =
    ap (λ (o : Option Section). with_front front (ok_or o (fault_at item) >>= λ s. meaning s rest >>= λ found. Ok (with_item section item found))) (sym e)

nothing_before : (front : Front) (reading : Result Parts LexFault) → front.tags ≡ [] → front.tokens ≡ [] → with_front front reading ≡ reading
nothing_before front (Ok found) t k =
    ap (λ (tags : List Tag). Ok (let all : Parts = record { tags = tags ++ found.tags; tokens = front.tokens ++ found.tokens; termination = found.termination } in all)) t
    ∙ ap (λ (tokens : List Token). Ok (let all : Parts = record { tags = found.tags; tokens = tokens ++ found.tokens; termination = found.termination } in all)) k
nothing_before front (Err fault) t k = refl

pub starts : (text : List ℕ) (front : Front) → front.tags ≡ [] → front.tokens ≡ [] → IsReadUpTo text 0 Heading front
unfolding parts items
starts text front t k = record { within = omega arith; depth = omega arith; goes_on = nothing_before front (meaning Heading (items_from 0 true 0 text)) t k }

module _ (text : List ℕ) (at : ℕ) (section : Section) (front : Front) (so_far : IsReadUpTo text at section front) where
  pub goes_on : (item : Item) (next : Section) → at < length text → item ≡ item_at at text → Some next ≡ after section item.kind item.place → depth_of next ≤ depth_of section + 1
      → 0 < length item.text → at + length item.text ≤ length text → IsReadUpTo text (at + length item.text) next (added section item front)
  goes_on item next lt is stays deeper some within =
      let place : ℕ = at + length item.text in
      let here : items_from 0 (begins_line at text) at (drop at text) ≡ item ∷ items_from 0 (begins_line place text) place (drop place text) =
      items_from-step text at place lt (ap (λ (x : Item). at + length x.text) is) ∙ ap (λ (x : Item). x ∷ items_from 0 (begins_line place text) place (drop place text)) (sym is) in
      record {
        within = within;
        depth = omega (arith, deeper, some, so_far.depth);
        goes_on = sym (ap (λ (rest : List Item). with_front front (meaning section rest)) here ∙ meaning-item section item (items_from 0 (begins_line place text) place (drop place text)) front next stays) ∙ so_far.goes_on;
      }

  pub refused : (item : Item) → at < length text → item ≡ item_at at text → None ≡ after section item.kind item.place → parts text ≡ Err (record { place = item.place })
  refused item lt is stops =
      let place : ℕ = at + length item.text in
      let here : items_from 0 (begins_line at text) at (drop at text) ≡ item ∷ items_from 0 (begins_line place text) place (drop place text) =
      items_from-step text at place lt (ap (λ (x : Item). at + length x.text) is) ∙ ap (λ (x : Item). x ∷ items_from 0 (begins_line place text) place (drop place text)) (sym is) in
      sym so_far.goes_on ∙ ap (λ (rest : List Item). with_front front (meaning section rest)) here ∙ meaning-refused section item (items_from 0 (begins_line place text) place (drop place text)) front stops

  pub ends : length text ≤ at → finished section front ≡ parts text
  unfolding meaning items_from
  ends end = sym (ap (λ (rest : List Item). with_front front (meaning section rest)) (at_drop_all (items_from 0 (begins_line at text) at) text at end)) ∙ so_far.goes_on

blank_stays : (section : Section) (place : ℕ) → Some section ≡ after section Blank place
blank_stays Heading place = refl
blank_stays Moves place = refl
blank_stays (Variation inner outer) place = refl
blank_stays (Ended ending) place = refl

blank_adds : (section : Section) (item : Item) (front : Front) → item.kind ≡ Blank → added section item front ≡ front
blank_adds section item front e = ap (λ (kind : Kind). cond (is_in_variation section) front (added_kind kind item front)) e ∙ same (is_in_variation section)
  where
    same : (b : Bool) → cond b front front ≡ front
    same true = refl
    same false = refl

-- a white byte says nothing
pub white_passed : (text : List ℕ) (at : ℕ) (section : Section) (front : Front) → IsReadUpTo text at section front → at < length text
    → is_white (get_or text at 0) ≡ true → IsReadUpTo text (at + 1) section front
white_passed text at section front so_far lt white =
    let item : Item = white_item text at in
    let one : length item.text ≡ 1 = omega (arith, lt, length-drop at text, length-take 1 (drop at text)) in
    let most : at + length item.text ≤ length text = omega (arith, lt, one) in
    let next : IsReadUpTo text (at + length item.text) section (added section item front) =
    goes_on text at section front so_far item section lt (white_item-at text at lt white) (blank_stays section at) (omega arith) (omega (arith, one)) most in
    let P : Front → Type 0 = λ f. IsReadUpTo text (at + length item.text) section f in
    let Q : ℕ → Type 0 = λ n. IsReadUpTo text (at + n) section front in
    subst Q one (subst P (blank_adds section item front refl) next)

-- a period among the moves says nothing
pub period_passed : (text : List ℕ) (at : ℕ) (front : Front) → IsReadUpTo text at Moves front → at < length text
    → get_or text at 0 ≡ 46 → IsReadUpTo text (at + 1) Moves front
period_passed text at front so_far lt period =
    let item : Item = period_item text at in
    let one : length item.text ≡ 1 = omega (arith, lt, length-drop at text, length-take 1 (drop at text)) in
    let most : at + length item.text ≤ length text = omega (arith, lt, one) in
    let next : IsReadUpTo text (at + length item.text) Moves front =
    goes_on text at Moves front so_far item Moves lt (period_item-at text at lt period) refl (omega arith) (omega (arith, one)) most in
    subst (λ n. IsReadUpTo text (at + n) Moves front) one next
