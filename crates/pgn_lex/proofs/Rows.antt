-- Items and tokens by their places.
use Rattle.std.proofs.Common.{◌≡◌, ◌==◌, ℕ, zero, suc, ◌+◌, ◌-◌, ◌<◌, ◌≤◌, inl, inr, Bool, true, false, List, [], ◌∷◌, ◌++◌, length, take, drop, flat_map, Option, Some, None, Result, Ok, Err, ok_or, IfOk, IfErr, IfSome, cond, refl, sym, ap, subst, ◌∙◌, arith}
use Rattle.std.specs.Bool.{⊤}
use Rattle.std.proofs.lemmas.Bool.{cases_lt}
use Rattle.std.proofs.lemmas.List.{drop-drop, length-drop, length-take, take-append-drop, at_drop_all}
use Rattle.explorer_model.specs.declared.archive.Parts.{Parts}
use Rattle.explorer_model.specs.declared.archive.Token.{Token}
use Rattle.explorer_model.specs.declared.fault.LexFault.{LexFault}
use Rattle.explorer_model.specs.Items.{Kind, Blank, Pair, Terminates, Word, Dropped, Opens, Closes, Wrong, Item, Shape, items, items_from}
use Rattle.explorer_model.specs.Parts.{Section, Heading, Moves, Variation, Ended, after, after_in_moves, after_in_variation, at_end, is_in_variation, with_kind, with_item, meaning, parts}
use Rattle.explorer_model.specs.Stop.{◌>>=◌}
use Rattle.pgn_lex.specs.Items.{begins_line, shape_at, item_at}
use Rattle.pgn_lex.specs.Laws.{StandsAt, StandInARow, StandApart}
use Rattle.pgn_lex.proofs.Shapes.{shape_at-within}
use Rattle.pgn_lex.proofs.Steps.{items_from-step}

abbrev fault_at : Item → LexFault
fault_at item = record { place = item.place }

-- ---- items

pub length-item_at : (text : List ℕ) (at : ℕ) → at < length text → (0 < length (item_at at text).text) × (at + length (item_at at text).text ≤ length text)
unfolding item_at
length-item_at text at lt =
    let shape : Shape = shape_at (begins_line at text) (drop at text) in
    let some : 0 < length (drop at text) = omega (arith, length-drop at text) in
    let within : shape.more < length (drop at text) = shape_at-within (begins_line at text) (drop at text) some in
    (omega (arith, within, length-take (shape.more + 1) (drop at text)), omega (arith, within, length-take (shape.more + 1) (drop at text), length-drop at text))

take-length-take : (n : ℕ) (bytes : List ℕ) → n ≤ length bytes → take (length (take n bytes)) bytes ≡ take n bytes
take-length-take n bytes le = ap (λ (k : ℕ). take k bytes) (omega (arith, le, length-take n bytes))

pub item_at-stands : (text : List ℕ) (at : ℕ) → at < length text → ((item_at at text).place ≡ at) × StandsAt text at (item_at at text).text
unfolding item_at
item_at-stands text at lt =
    let shape : Shape = shape_at (begins_line at text) (drop at text) in
    let some : 0 < length (drop at text) = omega (arith, length-drop at text) in
    let within : shape.more + 1 ≤ length (drop at text) = omega (arith, shape_at-within (begins_line at text) (drop at text) some) in
    (refl, (omega (arith, within, length-take (shape.more + 1) (drop at text)), take-length-take (shape.more + 1) (drop at text) within))

row_from : (text : List ℕ) (turns at : ℕ) → at ≤ length text → length text ≤ at + turns → StandInARow text at (items_from 0 (begins_line at text) at (drop at text))
unfolding items_from
row_from text zero at le end = subst (StandInARow text at) (sym (at_drop_all (items_from 0 (begins_line at text) at) text at (omega (arith, end)))) (omega (arith, le, end))
row_from text (suc turns) at le end =
    elim (cases_lt at (length text)) [
      | inl lt ↦ let next : ℕ = at + length (item_at at text).text in
          let stands : ((item_at at text).place ≡ at) × StandsAt text at (item_at at text).text = item_at-stands text at lt in
          let rest : StandInARow text next (items_from 0 (begins_line next text) next (drop next text)) =
          row_from text turns next (length-item_at text at lt).1 (omega (arith, end, (length-item_at text at lt).0)) in
          subst (StandInARow text at) (sym (items_from-step text at next lt refl)) (stands.0, stands.1, rest)
      | inr ge ↦ subst (StandInARow text at) (sym (at_drop_all (items_from 0 (begins_line at text) at) text at ge)) (omega (arith, le, ge))
    ]

pub items-row : (text : List ℕ) → StandInARow text 0 (items text)
unfolding items
items-row text = row_from text (length text) 0 (omega arith) (omega arith)

row-joins : (text : List ℕ) (place : ℕ) (row : List Item) → StandInARow text place row → flat_map (λ item. item.text) row ≡ drop place text
row-joins text place [] end = sym (at_drop_all (λ (bytes : List ℕ). bytes) text place (omega (arith, end)))
row-joins text place (item ∷ row) h =
    let l : ℕ = length item.text in
    ap (λ (rest : List ℕ). item.text ++ rest) (row-joins text (place + l) row h.2)
    ∙ ap (λ (front : List ℕ). front ++ drop (place + l) text) (sym h.1.1)
    ∙ ap (λ (rest : List ℕ). take l (drop place text) ++ rest) (sym (drop-drop l place text))
    ∙ take-append-drop l (drop place text)

pub items-join : (text : List ℕ) → flat_map (λ item. item.text) (items text) ≡ text
items-join text = row-joins text 0 (items text) (items-row text)

-- ---- tokens

apart-sooner : (text : List ℕ) (place later : ℕ) (tokens : List Token) → place ≤ later → StandApart text later tokens → StandApart text place tokens
apart-sooner text place later [] le h = tt
apart-sooner text place later (token ∷ tokens) le h = (omega (arith, le, h.0), h.1, h.2)

module _ (text : List ℕ) (place : ℕ) (item : Item) (is : item.place ≡ place) (stands : StandsAt text place item.text) where
  kind-apart : (kind : Kind) (found : Parts) → StandApart text (place + length item.text) found.tokens → StandApart text place (with_kind kind item found).tokens
  kind-apart Word found h =
      let same : place ≡ item.place = sym is in
      (omega (arith, is), subst (λ (at : ℕ). StandsAt text at item.text) same stands, subst (λ (at : ℕ). StandApart text (at + length item.text) found.tokens) same h)
  kind-apart Blank found h = apart-sooner text place (place + length item.text) found.tokens (omega arith) h
  kind-apart (Pair tag) found h = apart-sooner text place (place + length item.text) found.tokens (omega arith) h
  kind-apart (Terminates ending) found h = apart-sooner text place (place + length item.text) found.tokens (omega arith) h
  kind-apart Dropped found h = apart-sooner text place (place + length item.text) found.tokens (omega arith) h
  kind-apart Opens found h = apart-sooner text place (place + length item.text) found.tokens (omega arith) h
  kind-apart Closes found h = apart-sooner text place (place + length item.text) found.tokens (omega arith) h
  kind-apart Wrong found h = apart-sooner text place (place + length item.text) found.tokens (omega arith) h

  item-apart : (inside : Bool) (found : Parts) → StandApart text (place + length item.text) found.tokens → StandApart text place (cond inside found (with_kind item.kind item found)).tokens
  item-apart true found h = apart-sooner text place (place + length item.text) found.tokens (omega arith) h
  item-apart false found h = kind-apart item.kind found h

  rest-apart : (section : Section) (reading : Result Parts LexFault) → IfOk reading (λ found. StandApart text (place + length item.text) found.tokens)
      → IfOk (reading >>= λ found. Ok (with_item section item found)) (λ found. StandApart text place found.tokens)
  rest-apart section (Ok found) h = item-apart (is_in_variation section) found h
  rest-apart section (Err fault) h = tt

  next-apart : (section : Section) (row : List Item) (o : Option Section) → ((next : Section) → IfOk (meaning next row) (λ found. StandApart text (place + length item.text) found.tokens))
      → IfOk (ok_or o (fault_at item) >>= λ next. meaning next row >>= λ found. Ok (with_item section item found)) (λ found. StandApart text place found.tokens)
  next-apart section row None h = tt
  next-apart section row (Some next) h = rest-apart section (meaning next row) (h next)

end-apart : (text : List ℕ) (place : ℕ) (section : Section) → IfOk (at_end section) (λ found. StandApart text place found.tokens)
end-apart text place Heading = tt
end-apart text place Moves = tt
end-apart text place (Variation inner outer) = tt
end-apart text place (Ended ending) = tt

meaning-apart : (text : List ℕ) (place : ℕ) (section : Section) (row : List Item) → StandInARow text place row → IfOk (meaning section row) (λ found. StandApart text place found.tokens)
unfolding meaning
meaning-apart text place section [] h = end-apart text place section
meaning-apart text place section (item ∷ row) h =
    next-apart text place item h.0 h.1 section row (after section item.kind item.place) (λ next. meaning-apart text (place + length item.text) next row h.2)

pub parts-apart : (text : List ℕ) → IfOk (parts text) (λ found. StandApart text 0 found.tokens)
unfolding parts
parts-apart text = meaning-apart text 0 Heading (items text) (items-row text)

-- ---- faults

row-within : (text : List ℕ) (place : ℕ) (row : List Item) → StandInARow text place row → place ≤ length text
row-within text place [] end = omega (arith, end)
row-within text place (item ∷ row) h = omega (arith, row-within text (place + length item.text) row h.2)

-- an open variation begins below the bound
abbrev OpensBelow : ℕ → Section → Type 0
OpensBelow most (Variation inner outer) = outer < most
OpensBelow most _ = ⊤

after_in_moves-below : (most place : ℕ) (kind : Kind) → place < most → IfSome (after_in_moves kind place) (OpensBelow most)
after_in_moves-below most place Blank lt = tt
after_in_moves-below most place (Pair tag) lt = tt
after_in_moves-below most place (Terminates ending) lt = tt
after_in_moves-below most place Word lt = tt
after_in_moves-below most place Dropped lt = tt
after_in_moves-below most place Opens lt = lt
after_in_moves-below most place Closes lt = tt
after_in_moves-below most place Wrong lt = tt

closed-below : (most inner outer : ℕ) (last : Bool) → outer < most → OpensBelow most (cond last Moves (Variation (inner - 1) outer))
closed-below most inner outer true lt = tt
closed-below most inner outer false lt = lt

after_in_variation-below : (most inner outer : ℕ) (kind : Kind) → outer < most → IfSome (after_in_variation inner outer kind) (OpensBelow most)
after_in_variation-below most inner outer Blank lt = tt
after_in_variation-below most inner outer (Pair tag) lt = tt
after_in_variation-below most inner outer (Terminates ending) lt = lt
after_in_variation-below most inner outer Word lt = lt
after_in_variation-below most inner outer Dropped lt = lt
after_in_variation-below most inner outer Opens lt = lt
after_in_variation-below most inner outer Closes lt = closed-below most inner outer (inner == 0) lt
after_in_variation-below most inner outer Wrong lt = tt

after-below : (most place : ℕ) (section : Section) (kind : Kind) → place < most → OpensBelow most section → IfSome (after section kind place) (OpensBelow most)
after-below most place section Blank lt h = h
after-below most place Heading (Pair tag) lt h = tt
after-below most place Heading kind lt h = after_in_moves-below most place kind lt
after-below most place Moves kind lt h = after_in_moves-below most place kind lt
after-below most place (Variation inner outer) kind lt h = after_in_variation-below most inner outer kind h
after-below most place (Ended ending) kind lt h = tt

rest-below : (most : ℕ) (section : Section) (item : Item) (reading : Result Parts LexFault) → IfErr reading (λ fault. fault.place < most)
    → IfErr (reading >>= λ found. Ok (with_item section item found)) (λ fault. fault.place < most)
rest-below most section item (Ok found) h = tt
rest-below most section item (Err fault) h = h

next-below : (most : ℕ) (section : Section) (item : Item) (row : List Item) (o : Option Section) → item.place < most → IfSome o (OpensBelow most)
    → ((next : Section) → OpensBelow most next → IfErr (meaning next row) (λ fault. fault.place < most))
    → IfErr (ok_or o (fault_at item) >>= λ next. meaning next row >>= λ found. Ok (with_item section item found)) (λ fault. fault.place < most)
next-below most section item row None lt opens h = lt
next-below most section item row (Some next) lt opens h = rest-below most section item (meaning next row) (h next opens)

end-below : (most : ℕ) (section : Section) → OpensBelow most section → IfErr (at_end section) (λ fault. fault.place < most)
end-below most Heading h = tt
end-below most Moves h = tt
end-below most (Variation inner outer) h = h
end-below most (Ended ending) h = tt

meaning-below : (text : List ℕ) (place : ℕ) (section : Section) (row : List Item) → StandInARow text place row → OpensBelow (length text) section
    → IfErr (meaning section row) (λ fault. fault.place < length text)
unfolding meaning
meaning-below text place section [] h opens = end-below (length text) section opens
meaning-below text place section (item ∷ row) h opens =
    let lt : item.place < length text = omega (arith, h.0, h.1.0, row-within text (place + length item.text) row h.2) in
    next-below (length text) section item row (after section item.kind item.place) lt (after-below (length text) item.place section item.kind lt opens)
    (λ next below. meaning-below text (place + length item.text) next row h.2 below)

pub faults-below : (text : List ℕ) → IfErr (parts text) (λ fault. fault.place < length text)
unfolding parts
faults-below text = meaning-below text 0 Heading (items text) (items-row text) tt
