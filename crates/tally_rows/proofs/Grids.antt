-- Sums over the cells that are chosen.
use Rattle.std.proofs.Common.{◌≡◌, ℕ, zero, suc, ◌+◌, ◌<◌, ◌≤◌, Bool, true, false, ◌&&◌, cond, ◌⊎◌, inl, inr, List, [], ◌∷◌, ◌++◌, length, drop, get_or, set, refl, sym, ap, ◌∙◌, arith}
use Rattle.std.specs.Prelude.{replicate}
use Rattle.std.specs.List.{flat_map, items_where_true}
use Rattle.std.proofs.lemmas.List.{drop_more, drop_all, length-set, length-replicate}
use Rattle.std.proofs.lemmas.List.Elements.{All-set, All-replicate}
use Rattle.std.proofs.lemmas.List.Sums.{sum_by-cons, sum_by-append}
use Rattle.tally_rows.specs.declared.grid.Cell.{Cell}
use Rattle.tally_rows.specs.declared.row.Row.{Row}
use Rattle.tally_rows.specs.Grid.{IsShaped, no_games, zeros, plus, cell_of, added, Fit, total, chosen, HasRoom}

-- two cells are the same where their four numbers are
cell-same : (a b : Cell) → a.totals.white ≡ b.totals.white → a.totals.draws ≡ b.totals.draws → a.totals.black ≡ b.totals.black
    → a.ratings ≡ b.ratings → a ≡ b
cell-same a b white draws black ratings =
    λ i. record { totals = record { white = white i; draws = draws i; black = black i }; ratings = ratings i }

pub plus-assoc : (a b c : Cell) → plus (plus a b) c ≡ plus a (plus b c)
unfolding plus
plus-assoc a b c = cell-same _ _ (omega arith) (omega arith) (omega arith) (omega arith)

pub plus-none_left : (a : Cell) → plus no_games a ≡ a
unfolding plus
plus-none_left a = cell-same _ _ (omega arith) (omega arith) (omega arith) (omega arith)

pub plus-none_right : (a : Cell) → plus a no_games ≡ a
unfolding plus
plus-none_right a = cell-same _ _ (omega arith) (omega arith) (omega arith) (omega arith)

pub total-nil : total [] ≡ no_games
unfolding total
total-nil = refl

pub total-cons : (x : Cell) (xs : List Cell) → total (x ∷ xs) ≡ plus x (total xs)
unfolding total plus
total-cons x xs =
    cell-same _ _ (sum_by-cons (λ c. c.totals.white) x xs) (sum_by-cons (λ c. c.totals.draws) x xs)
    (sum_by-cons (λ c. c.totals.black) x xs) (sum_by-cons (λ c. c.ratings) x xs)

pub total-append : (xs ys : List Cell) → total (xs ++ ys) ≡ plus (total xs) (total ys)
unfolding total plus
total-append xs ys =
    cell-same _ _ (sum_by-append (λ c. c.totals.white) xs ys) (sum_by-append (λ c. c.totals.draws) xs ys)
    (sum_by-append (λ c. c.totals.black) xs ys) (sum_by-append (λ c. c.ratings) xs ys)

-- ---- sums that have room

Fit-room : (a b : Cell) (cells : List Cell) → HasRoom cells → plus a b ≡ total cells → Fit a b
unfolding plus total
Fit-room a b cells room e = record {
  white = omega (arith, room.white, ap (λ c. c.totals.white) e);
  draws = omega (arith, room.draws, ap (λ c. c.totals.draws) e);
  black = omega (arith, room.black, ap (λ c. c.totals.black) e);
  ratings = omega (arith, room.ratings, ap (λ c. c.ratings) e);
}

Fit-part : (a b c : Cell) → Fit a (plus b c) → Fit a b
unfolding plus
Fit-part a b c h = record {
  white = omega (arith, h.white);
  draws = omega (arith, h.draws);
  black = omega (arith, h.black);
  ratings = omega (arith, h.ratings);
}

-- the sum so far, a next part, and what is left are the whole, which has room: so has the sum with that part
pub Fit-next : (sum part rest : Cell) (cells : List Cell) → HasRoom cells → plus sum (plus part rest) ≡ total cells → Fit sum part
Fit-next sum part rest cells room e = Fit-part sum part rest (Fit-room sum (plus part rest) cells room e)

HasRoom-Fit : (cells : List Cell) (a b : Cell) → total cells ≡ b → Fit a b → HasRoom cells
unfolding total
HasRoom-Fit cells a b e h = record {
  white = omega (arith, h.white, ap (λ c. c.totals.white) e);
  draws = omega (arith, h.draws, ap (λ c. c.totals.draws) e);
  black = omega (arith, h.black, ap (λ c. c.totals.black) e);
  ratings = omega (arith, h.ratings, ap (λ c. c.ratings) e);
}

pub none-is : (a : Cell) → ((a.totals.white ≡ 0) × ((a.totals.draws ≡ 0) × (a.totals.black ≡ 0))) × (a.ratings ≡ 0) → a ≡ no_games
none-is a h = cell-same a no_games h.0.0 h.0.1.0 h.0.1.1 h.1

-- ---- one step of a sum over what is chosen, from what is left of both lists

module _ (sum whole x : Cell) (xs left : List Cell) (b : Bool) (bs flags : List Bool) (is : left ≡ x ∷ xs) (flag : flags ≡ b ∷ bs)
    (so_far : plus sum (total (items_where_true flags left)) ≡ whole) where
  open_cell : plus sum (total (items_where_true (b ∷ bs) (x ∷ xs))) ≡ whole
  open_cell = ap (λ l. plus sum (total (items_where_true (b ∷ bs) l))) (sym is) ∙ ap (λ l. plus sum (total (items_where_true l left))) (sym flag) ∙ so_far

  pub cell-taken : b ≡ true → plus sum (plus x (total (items_where_true bs xs))) ≡ whole
  cell-taken e =
      ap (plus sum) (sym (total-cons x (items_where_true bs xs)))
      ∙ ap (λ c. plus sum (total (items_where_true (c ∷ bs) (x ∷ xs)))) (sym e) ∙ open_cell

  pub cell-passed : b ≡ false → plus sum (total (items_where_true bs xs)) ≡ whole
  cell-passed e = ap (λ c. plus sum (total (items_where_true (c ∷ bs) (x ∷ xs)))) (sym e) ∙ open_cell

-- at the end of one list nothing is left
none-left : {X : Type 0} (flags : List Bool) (left : List X) → (length left ≡ 0) ⊎ (length flags ≡ 0) → items_where_true flags left ≡ []
none-left [] left h = refl
none-left (b ∷ bs) [] h = refl
none-left (b ∷ bs) (x ∷ xs) (inl e) = absurd (omega arith)
none-left (b ∷ bs) (x ∷ xs) (inr e) = absurd (omega arith)

pub sum-ends : (sum whole : Cell) (flags : List Bool) (left : List Cell) → (length left ≡ 0) ⊎ (length flags ≡ 0)
    → plus sum (total (items_where_true flags left)) ≡ whole → sum ≡ whole
sum-ends sum whole flags left h so_far =
    sym (ap (λ l. plus sum (total l)) (none-left flags left h) ∙ ap (plus sum) total-nil ∙ plus-none_right sum) ∙ so_far

-- what is chosen from a place on: the value there or not, and what is chosen behind it
module _ {X : Type 0} (bs : List Bool) (xs : List X) (i : ℕ) (d : X) (below : i < length bs) (within : i < length xs) where
  items-next : items_where_true (drop i bs) (drop i xs)
      ≡ items_where_true (get_or bs i false ∷ drop (i + 1) bs) (get_or xs i d ∷ drop (i + 1) xs)
  items-next =
      ap (λ l. items_where_true l (drop i xs)) (drop_more bs i false below)
      ∙ ap (λ l. items_where_true (get_or bs i false ∷ drop (i + 1) bs) l) (drop_more xs i d within)

  pub items-taken : get_or bs i false ≡ true → items_where_true (drop i bs) (drop i xs) ≡ get_or xs i d ∷ items_where_true (drop (i + 1) bs) (drop (i + 1) xs)
  items-taken e = items-next ∙ ap (λ b. items_where_true (b ∷ drop (i + 1) bs) (get_or xs i d ∷ drop (i + 1) xs)) e

  pub items-passed : get_or bs i false ≡ false → items_where_true (drop i bs) (drop i xs) ≡ items_where_true (drop (i + 1) bs) (drop (i + 1) xs)
  items-passed e = items-next ∙ ap (λ b. items_where_true (b ∷ drop (i + 1) bs) (get_or xs i d ∷ drop (i + 1) xs)) e

module _ (sum whole : Cell) (bs : List Bool) (i : ℕ) (below : i < length bs) where
  module _ (groups : List Bool) (grid : List (List Cell)) (d : List Cell) (within : i < length grid)
      (so_far : plus sum (total (chosen (drop i bs) groups (drop i grid))) ≡ whole) where
    pub line-taken : get_or bs i false ≡ true
        → plus sum (plus (total (items_where_true groups (get_or grid i d))) (total (chosen (drop (i + 1) bs) groups (drop (i + 1) grid)))) ≡ whole
    line-taken e =
        ap (plus sum) (sym (ap (λ l. total (flat_map (λ line. items_where_true groups line) l)) (items-taken bs grid i d below within e)
        ∙ total-append (items_where_true groups (get_or grid i d)) (chosen (drop (i + 1) bs) groups (drop (i + 1) grid))))
        ∙ so_far

    pub line-passed : get_or bs i false ≡ false → plus sum (total (chosen (drop (i + 1) bs) groups (drop (i + 1) grid))) ≡ whole
    line-passed e =
        ap (λ l. plus sum (total (flat_map (λ line. items_where_true groups line) l))) (sym (items-passed bs grid i d below within e)) ∙ so_far

-- at the end of the lists the sum is the whole
pub lines-end : (sum whole : Cell) (bs : List Bool) (i : ℕ) (groups : List Bool) (grid : List (List Cell)) → length bs ≤ i
    → plus sum (total (chosen (drop i bs) groups (drop i grid))) ≡ whole → sum ≡ whole
lines-end sum whole bs i groups grid past so_far =
    sym (ap (λ l. plus sum (total (chosen l groups (drop i grid)))) (drop_all i bs past) ∙ ap (plus sum) total-nil ∙ plus-none_right sum) ∙ so_far

-- a part of what has room has room
pub HasRoom-part : (part cells : List Cell) (sum rest : Cell) → HasRoom cells → plus sum (plus (total part) rest) ≡ total cells → HasRoom part
HasRoom-part part cells sum rest room e = HasRoom-Fit part sum (total part) refl (Fit-next sum (total part) rest cells room e)

-- ---- a row in the sum of one cell

plus-comm : (a b : Cell) → plus a b ≡ plus b a
unfolding plus
plus-comm a b = cell-same _ _ (omega arith) (omega arith) (omega arith) (omega arith)

sums : {X : Type 0} → (X → Cell) → List X → Cell
sums m [] = no_games
sums m (x ∷ xs) = plus (m x) (sums m xs)

total-sums : (xs : List Cell) → total xs ≡ sums (λ x. x) xs
unfolding sums
total-sums [] = total-nil
total-sums (x ∷ xs) = total-cons x xs ∙ ap (plus x) (total-sums xs)

total-flat_map : {X : Type 0} (f : X → List Cell) (xs : List X) → total (flat_map f xs) ≡ sums (λ x. total (f x)) xs
unfolding sums
total-flat_map f [] = total-nil
total-flat_map f (x ∷ xs) = total-append (f x) (flat_map f xs) ∙ ap (plus (total (f x))) (total-flat_map f xs)

-- where one value becomes one with more, the sum over what is chosen has that more, if the value is chosen
sums-set : {X : Type 0} (m : X → Cell) (bs : List Bool) (xs : List X) (i : ℕ) (d more : X) (w : Cell) → i < length bs → i < length xs
    → m more ≡ plus (m (get_or xs i d)) w
    → sums m (items_where_true bs (set xs i more)) ≡ plus (sums m (items_where_true bs xs)) (cond (get_or bs i false) w no_games)
unfolding sums
sums-set m [] xs i d more w below within e = absurd (omega arith)
sums-set m (b ∷ bs) [] i d more w below within e = absurd (omega arith)
sums-set m (true ∷ bs) (x ∷ xs) zero d more w below within e =
    let rest = sums m (items_where_true bs xs) in
    ap (λ c. plus c rest) e ∙ plus-assoc (m x) w rest ∙ ap (plus (m x)) (plus-comm w rest) ∙ sym (plus-assoc (m x) rest w)
sums-set m (false ∷ bs) (x ∷ xs) zero d more w below within e = sym (plus-none_right (sums m (items_where_true bs xs)))
sums-set m (true ∷ bs) (x ∷ xs) (suc i) d more w below within e =
    ap (plus (m x)) (sums-set m bs xs i d more w (omega arith) (omega arith) e)
    ∙ sym (plus-assoc (m x) (sums m (items_where_true bs xs)) (cond (get_or bs i false) w no_games))
sums-set m (false ∷ bs) (x ∷ xs) (suc i) d more w below within e = sums-set m bs xs i d more w (omega arith) (omega arith) e

cond-both : (a b : Bool) (w : Cell) → cond a (cond b w no_games) no_games ≡ cond (a && b) w no_games
cond-both true b w = refl
cond-both false b w = refl

pub total-added : (speeds groups : List Bool) (grid : List (List Cell)) (speed group : ℕ) (row : Row) → IsShaped (length speeds) (length groups) grid
    → speed < length speeds → group < length groups
    → total (chosen speeds groups (added grid speed group row))
    ≡ plus (total (chosen speeds groups grid)) (cond (get_or speeds speed false && get_or groups group false) (cell_of row) no_games)
unfolding added
total-added speeds groups grid speed group row shaped in_speeds in_groups =
    let line = get_or grid speed [] in
    let more = set line group (plus (get_or line group no_games) (cell_of row)) in
    let in_grid : speed < length grid = omega (arith, shaped.lines) in
    let in_line : group < length line = omega (arith, shaped.cells speed [] in_grid) in
    let of_line = λ (l : List Cell). total (items_where_true groups l) in
    let w = cond (get_or groups group false) (cell_of row) no_games in
    let line_more : of_line more ≡ plus (of_line line) w =
    total-sums (items_where_true groups more)
    ∙ sums-set (λ x. x) groups line group no_games (plus (get_or line group no_games) (cell_of row)) (cell_of row) in_groups in_line refl
    ∙ ap (λ c. plus c w) (sym (total-sums (items_where_true groups line))) in
    total-flat_map (λ l. items_where_true groups l) (items_where_true speeds (set grid speed more))
    ∙ sums-set of_line speeds grid speed [] more w in_speeds in_grid line_more
    ∙ ap (λ c. plus c (cond (get_or speeds speed false) w no_games)) (sym (total-flat_map (λ l. items_where_true groups l) (items_where_true speeds grid)))
    ∙ ap (plus (total (chosen speeds groups grid))) (cond-both (get_or speeds speed false) (get_or groups group false) (cell_of row))

pub IsShaped-added : (speeds groups : ℕ) (grid : List (List Cell)) (speed group : ℕ) (row : Row) → IsShaped speeds groups grid
    → speed < speeds → IsShaped speeds groups (added grid speed group row)
unfolding added
IsShaped-added speeds groups grid speed group row shaped below =
    let line = get_or grid speed [] in
    let more = set line group (plus (get_or line group no_games) (cell_of row)) in
    let within : speed < length grid = omega (arith, shaped.lines) in
    record {
      lines = length-set grid speed more ∙ shaped.lines;
      cells = All-set (λ l. length l ≡ groups) grid speed more
          (length-set line group (plus (get_or line group no_games) (cell_of row)) ∙ shaped.cells speed [] within) shaped.cells;
    }

pub IsShaped-zeros : (speeds groups : ℕ) → IsShaped speeds groups (zeros speeds groups)
IsShaped-zeros speeds groups = record {
  lines = length-replicate speeds (replicate groups no_games);
  cells = All-replicate (λ l. length l ≡ groups) speeds (replicate groups no_games) (length-replicate groups no_games);
}

-- where each value counts nothing, so does what is chosen
sums-none : {X : Type 0} (m : X → Cell) (bs : List Bool) (n : ℕ) (x : X) → m x ≡ no_games → sums m (items_where_true bs (replicate n x)) ≡ no_games
unfolding sums
sums-none m [] n x e = refl
sums-none m (b ∷ bs) zero x e = refl
sums-none m (true ∷ bs) (suc n) x e = ap (λ c. plus c (sums m (items_where_true bs (replicate n x)))) e ∙ plus-none_left _ ∙ sums-none m bs n x e
sums-none m (false ∷ bs) (suc n) x e = sums-none m bs n x e

pub total-zeros : (speeds groups : List Bool) (s r : ℕ) → total (chosen speeds groups (zeros s r)) ≡ no_games
total-zeros speeds groups s r =
    total-flat_map (λ l. items_where_true groups l) (items_where_true speeds (zeros s r))
    ∙ sums-none (λ l. total (items_where_true groups l)) speeds s (replicate r no_games)
    (total-sums (items_where_true groups (replicate r no_games)) ∙ sums-none (λ x. x) groups r no_games refl)
