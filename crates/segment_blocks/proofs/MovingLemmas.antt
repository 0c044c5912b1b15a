-- Rows of games that stand later, and blocks with more rows.
use Rattle.std.proofs.Common.{◌≡◌, ℕ, zero, suc, ◌+◌, ◌≤◌, Bool, true, false, cond, is_some, List, [], ◌∷◌, ◌++◌, map, length, get_or, set, refl, sym, ap, subst, ◌∙◌, append_assoc, append-nil, arith}
use Rattle.std.proofs.lemmas.List.{get_or_default}
use Rattle.best_lists.specs.declared.entry.Entry.{Entry}
use Rattle.best_lists.specs.Entry.{moved_by}
use Rattle.explorer_model.specs.Counting.{month_number}
use Rattle.tally_rows.specs.declared.row.Row.{Row}
use Rattle.tally_rows.specs.declared.single.Single.{Single}
use Rattle.tally_rows.specs.Row.{row_of, row_key_of, shifted_row}
use Rattle.explorer_model.specs.declared.archive.Outcome.{Outcome}
use Rattle.segment_blocks.specs.declared.mark.Mark.{Mark}
use Rattle.segment_blocks.specs.Both.{HaveBothMoved, MayBothMove}
use Rattle.segment_blocks.specs.Encoded.{row_key_at, single_of}
use Rattle.segment_blocks.specs.PackedRows.{AreInOrder, AreSome, ArePacked}
use Rattle.segment_blocks.specs.Walk.{rows_in}
use Rattle.segment_blocks.proofs.OrderLemmas.{in_order-front}
use Rattle.segment_blocks.proofs.PackedLemmas.{few-set}

-- ---- a game that stands later

cond-moved : (by : ℕ) (b : Bool) (e : Entry) → cond b (moved_by by e ∷ []) [] ≡ map (moved_by by) (cond b (e ∷ []) [])
cond-moved by true e = refl
cond-moved by false e = refl

pub game-shifted : (by : ℕ) (game : Single) → row_of (record game { number = game.number + by }) ≡ shifted_row by (row_of game)
unfolding row_of shifted_row
game-shifted by game = λ i. record (row_of game) {
  top = cond-moved by (is_some game.row_key.next) (record { rank = game.sum; number = game.number }) i;
  recent = cond-moved by (is_some game.row_key.next) (record { rank = month_number game.row_key.month; number = game.number }) i;
}

pub shifted-key : (by : ℕ) (row : Row) → (shifted_row by row).key ≡ row.key
unfolding shifted_row
shifted-key by row = refl

pub row_key-game : (key : List ℕ) (mark : Mark) (outcome : Outcome) → row_key_of (row_of (single_of key mark outcome)) ≡ row_key_at key mark
unfolding row_of
row_key-game key mark outcome = refl

-- ---- blocks

rows_in-more : (blocks : List (List Row)) (n : ℕ) (more : List Row) → suc n ≡ length blocks
    → rows_in (set blocks n (get_or blocks n [] ++ more)) ≡ rows_in blocks ++ more
rows_in-more [] n more e = absurd (omega arith)
rows_in-more (b ∷ []) zero more e = append-nil (b ++ more) ∙ ap (λ l. l ++ more) (sym (append-nil b))
rows_in-more (b ∷ d ∷ blocks) zero more e = absurd (omega arith)
rows_in-more (b ∷ blocks) (suc n) more e = ap (λ l. b ++ l) (rows_in-more blocks n more (omega arith)) ∙ sym (append_assoc b (rows_in blocks) more)

some-more : (blocks : List (List Row)) (n : ℕ) (more : List Row) → AreSome blocks → AreSome (set blocks n (get_or blocks n [] ++ more))
some-more [] n more h = tt
some-more ([] ∷ blocks) n more h = absurd h
some-more ((r ∷ rows) ∷ blocks) zero more h = h
some-more ((r ∷ rows) ∷ blocks) (suc n) more h = some-more blocks n more h

module _ (left_by right_by : ℕ) (blocks : List (List Row)) (n : ℕ) (e : suc n ≡ length blocks) (old new lefts left_rest rights right_rest : List Row)
    (is : old ≡ get_or blocks n old) (h : HaveBothMoved left_by right_by lefts left_rest rights right_rest old new) where
  grown : set blocks n new ≡ set blocks n (get_or blocks n [] ++ h.pushed)
  grown = ap (set blocks n) (h.behind ∙ ap (λ l. l ++ h.pushed) (is ∙ get_or_default blocks n old [] (omega (arith, e))))

  rows_in-grown : rows_in (set blocks n new) ≡ rows_in blocks ++ h.pushed
  rows_in-grown = ap rows_in grown ∙ rows_in-more blocks n h.pushed e

  pub HaveBothMoved-blocks : HaveBothMoved left_by right_by lefts left_rest rights right_rest (rows_in blocks) (rows_in (set blocks n new))
  HaveBothMoved-blocks = record {
    pushed = h.pushed;
    behind = rows_in-grown;
    left = h.left;
    left_parts = h.left_parts;
    right = h.right;
    right_parts = h.right_parts;
    count = h.count;
    first = h.first;
  }

  pub ArePacked-both : ArePacked blocks → MayBothMove left_by right_by lefts rights (rows_in blocks) → length new ≤ 128 → ArePacked (set blocks n new)
  ArePacked-both packed may few = record {
    few = few-set blocks n new packed.few few;
    some = subst AreSome (sym grown) (some-more blocks n h.pushed packed.some);
    ordered = subst AreInOrder (sym rows_in-grown)
        (in_order-front (rows_in blocks ++ h.pushed) (may.both left_rest right_rest)
        (subst AreInOrder (ap (λ l. rows_in blocks ++ l) (h.first may.both may.gives) ∙ sym (append_assoc (rows_in blocks) h.pushed (may.both left_rest right_rest))) may.ordered));
  }
