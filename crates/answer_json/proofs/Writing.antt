-- Arrays that are written item by item, and objects that are written member by member.
use Rattle.std.proofs.Common.{◌≡◌, refl, sym, ap, ◌∙◌, ℕ, ◌+◌, ◌<◌, ◌≤◌, Bool, true, false, List, [], ◌∷◌, ◌++◌, take, length, get_or, Option, None, Some, codes, decimal, append_assoc}
use Rattle.std.proofs.lemmas.List.{append-nil, take_all, take_more}
use Rattle.serde_json.proofs.OnLiterals.{serde_json_on_literals}
use Rattle.serde_json.specs.Data.{Data, array, Items, no_items, item, object, string, member, no_members}
use Rattle.serde_json.specs.View.{view}
use Rattle.serde_json.specs.Written.{comma_if, compact_text, items_text}
use Rattle.serde_json.specs.declared.value.Value.{Value}
use Rattle.explorer_model.specs.declared.answer.MonthLine.{MonthLine}
use Rattle.explorer_model.specs.declared.opening.Opening.{Opening}
use Rattle.explorer_model.specs.Answer.{array_by, count_value, items_by, month_value, with_history}
use Rattle.answer_json.specs.Items.{items_with}
use Rattle.answer_json.specs.Lists.{history_text}
use Rattle.answer_json.proofs.Values.{get_or-with, length-with, values_with}

-- ---- an array

-- the items, without the closing bracket
abbrev pub joined : Bool → Items → List ℕ
joined later no_items = []
joined later (item d ds) = comma_if later ++ (compact_text d ++ joined true ds)

-- whether there is any
abbrev pub is_some_of : {A : Type 0} → List A → Bool
is_some_of [] = false
is_some_of (x ∷ xs) = true

joined-closed : (later : Bool) (ds : Items) → joined later ds ++ 93 ∷ [] ≡ items_text later ds
joined-closed later no_items = refl
joined-closed later (item d ds) = rw (← joined-closed true ds) (simp append_assoc)

joined-later : {A : Type 0} (value : A → Data) (xs : List A) (x : A)
    → joined true (items_by value (xs ++ x ∷ [])) ≡ joined true (items_by value xs) ++ (44 ∷ compact_text (value x))
joined-later value [] x = rw (append-nil (compact_text (value x))) refl
joined-later value (y ∷ ys) x = rw (joined-later value ys x) (simp append_assoc)

-- one item more
joined-more : {A : Type 0} (value : A → Data) (xs : List A) (x : A)
    → joined false (items_by value (xs ++ x ∷ []))
    ≡ joined false (items_by value xs) ++ (comma_if (is_some_of xs) ++ compact_text (value x))
joined-more value [] x = append-nil (compact_text (value x))
joined-more value (y ∷ ys) x = rw (joined-later value ys x) (simp append_assoc)

is_some_of-more : {A : Type 0} (xs : List A) (x : A) → is_some_of (xs ++ x ∷ []) ≡ true
is_some_of-more [] x = refl
is_some_of-more (y ∷ ys) x = refl

-- the first so many items stand behind the opening bracket, and the comma is that of the next one
pub record AreWritten {A : Type 0} (value : A → Data) (xs : List A) (n : ℕ) (start body comma : List ℕ) : Type 0 where
  pub text : body ≡ start ++ joined false (items_by value (take n xs))
  pub before : comma ≡ comma_if (is_some_of (take n xs))

pub none-written : {A : Type 0} (value : A → Data) (xs : List A) (start : List ℕ) → AreWritten value xs 0 start start []
none-written value xs start = record { text = sym (append-nil start); before = refl }

pub one-pushed : {A : Type 0} (value : A → Data) (xs : List A) (n : ℕ) (d : A) (start body comma new : List ℕ)
    → AreWritten value xs n start body comma → n < length xs → new ≡ body ++ (comma ++ compact_text (value (get_or xs n d)))
    → AreWritten value xs (n + 1) start new (44 ∷ [])
one-pushed value xs n d start body comma new written within pushed =
    let x = get_or xs n d in
    let more : take (n + 1) xs ≡ take n xs ++ x ∷ [] = take_more xs n d within in
    record {
      text =
          pushed
          ∙ rw (written.text, written.before, more, joined-more value (take n xs) x) (simp append_assoc);
      before = rw (more, is_some_of-more (take n xs) x) refl;
    }

pub one-written : {A : Type 0} (value : A → Data) (xs : List A) (n : ℕ) (d : A) (start body comma new : List ℕ) (one : Value)
    → AreWritten value xs n start body comma → n < length xs → view one ≡ value (get_or xs n d)
    → new ≡ body ++ (comma ++ compact_text (view one)) → AreWritten value xs (n + 1) start new (44 ∷ [])
one-written value xs n d start body comma new one written within is pushed =
    one-pushed value xs n d start body comma new written within (pushed ∙ ap (λ (v : Data). body ++ (comma ++ compact_text v)) is)

pub all-written : {A : Type 0} (value : A → Data) (xs : List A) (n : ℕ) (old start body comma new : List ℕ)
    → start ≡ old ++ 91 ∷ [] → length xs ≤ n → AreWritten value xs n start body comma → new ≡ body ++ 93 ∷ []
    → new ≡ old ++ compact_text (array_by value xs)
all-written value xs n old start body comma new begun all written pushed =
    let whole : take n xs ≡ xs = take_all n xs all in
    pushed ∙ rw (written.text, begun, whole, ← joined-closed false (items_by value xs)) (simp append_assoc)

-- ---- the body of an import

stored-regroup : (a n b r c k e : List ℕ)
    → ((([] ++ (a ++ n)) ++ b) ++ r) ++ (c ++ k) ++ e ≡ a ++ (n ++ (b ++ (r ++ (c ++ (k ++ e)))))
stored-regroup a n b r c k e = simp append_assoc

pub stored-pieces : (batches stored : ℕ) (refused : Data)
    → ((([] ++ (codes "{\"batches\":" ++ decimal batches)) ++ codes ",\"refused\":") ++ compact_text refused)
    ++ (codes ",\"stored\":" ++ decimal stored) ++ 125 ∷ []
    ≡ compact_text (object
    (member (codes "batches") (count_value batches)
    (member (codes "refused") refused
    (member (codes "stored") (count_value stored)
    no_members))))
unfolding serde_json_on_literals
stored-pieces batches stored refused =
    stored-regroup (codes "{\"batches\":") (decimal batches) (codes ",\"refused\":") (compact_text refused)
    (codes ",\"stored\":") (decimal stored) (125 ∷ [])

-- ---- lines of moves with their openings

module _ {A : Type 0} (value : A → Option Opening → Data) where
  -- the value itself
  abbrev pub same : Data → Data
  same d = d

  same-items : (lines : List A) (openings : List (Option Opening)) → items_by same (values_with value lines openings) ≡ items_with value lines openings
  same-items [] openings = refl
  same-items (line ∷ lines) [] = ap (λ (items : Items). item (value line None) items) (same-items lines [])
  same-items (line ∷ lines) (opening ∷ openings) = ap (λ (items : Items). item (value line opening) items) (same-items lines openings)

  -- the first so many lines stand behind the opening bracket
  abbrev pub AreLinesWritten : List A → List (Option Opening) → ℕ → List ℕ → List ℕ → List ℕ → Type 0
  AreLinesWritten lines openings n start body comma = AreWritten same (values_with value lines openings) n start body comma

  pub no-line-written : (lines : List A) (openings : List (Option Opening)) (start : List ℕ) → AreLinesWritten lines openings 0 start start []
  no-line-written lines openings start = none-written same (values_with value lines openings) start

  pub line-written : (lines : List A) (openings : List (Option Opening)) (n : ℕ) (line : A) (start body comma new : List ℕ)
      → AreLinesWritten lines openings n start body comma → n < length lines → line ≡ get_or lines n line
      → new ≡ body ++ (comma ++ compact_text (value line (get_or openings n None))) → AreLinesWritten lines openings (n + 1) start new (44 ∷ [])
  line-written lines openings n line start body comma new written within is pushed =
      let opening = get_or openings n None in
      let here = value line opening in
      let there : get_or (values_with value lines openings) n here ≡ here =
      get_or-with value lines openings n line here within ∙ ap (λ l. value l opening) (sym is) in
      one-pushed same (values_with value lines openings) n here start body comma new written (rw (length-with value lines openings) within)
      (pushed ∙ ap (λ (v : Data). body ++ (comma ++ compact_text v)) (sym there))

  pub lines-written : (lines : List A) (openings : List (Option Opening)) (n : ℕ) (old start body comma new : List ℕ)
      → start ≡ old ++ 91 ∷ [] → length lines ≤ n → AreLinesWritten lines openings n start body comma → new ≡ body ++ 93 ∷ []
      → new ≡ old ++ compact_text (array (items_with value lines openings))
  lines-written lines openings n old start body comma new begun all written pushed =
      all-written same (values_with value lines openings) n old start body comma new begun (rw (length-with value lines openings) all) written pushed
      ∙ ap (λ (items : Items). old ++ compact_text (array items)) (same-items lines openings)

move-regroup : (start before a b c d e f g game o opening s san u uci w white z : List ℕ)
    → ((((((start ++ before) ++ (a ++ b ++ c ++ d ++ e ++ f)) ++ (g ++ game)) ++ (o ++ opening)) ++ (s ++ san ++ u ++ uci)) ++ (w ++ white)) ++ z
    ≡ start ++ (before ++ (a ++ (b ++ (c ++ (d ++ (e ++ (f ++ (g ++ (game ++ (o ++ (opening ++ (s ++ (san ++ (u ++ (uci ++ (w ++ (white ++ z)))))))))))))))))
move-regroup start before a b c d e f g game o opening s san u uci w white z = simp append_assoc

-- what is written of a line, behind the name of its average
unfoldable pub line-text : (start before name : List ℕ) (average black draws white : ℕ) (game opening : Data) (san uci : List ℕ) → List ℕ
line-text start before name average black draws white game opening san uci =
    ((((((start ++ before) ++ (name ++ decimal average ++ codes ",\"black\":" ++ decimal black ++ codes ",\"draws\":" ++ decimal draws))
    ++ (codes ",\"game\":" ++ compact_text game)) ++ (codes ",\"opening\":" ++ compact_text opening))
    ++ (codes ",\"san\":" ++ compact_text (string san) ++ codes ",\"uci\":" ++ compact_text (string uci)))
    ++ (codes ",\"white\":" ++ decimal white)) ++ 125 ∷ []

opening-regroup : (start a eco b name z : List ℕ) → ((start ++ (a ++ eco)) ++ (b ++ name)) ++ z ≡ start ++ (a ++ (eco ++ (b ++ (name ++ z))))
opening-regroup start a eco b name z = simp append_assoc

pub opening-pieces : (start eco name : List ℕ)
    → ((start ++ (codes ",\"opening\":{\"eco\":" ++ compact_text (string eco))) ++ (codes ",\"name\":" ++ compact_text (string name))) ++ 125 ∷ []
    ≡ start ++ (codes ",\"opening\":" ++ compact_text (object
    (member (codes "eco") (string eco)
    (member (codes "name") (string name)
    no_members))))
unfolding serde_json_on_literals
opening-pieces start eco name =
    opening-regroup start (codes ",\"opening\":{\"eco\":") (compact_text (string eco)) (codes ",\"name\":") (compact_text (string name)) (125 ∷ [])

pub move-pieces : (start before : List ℕ) (average black draws white : ℕ) (game opening : Data) (san uci : List ℕ)
    → line-text start before (codes "{\"averageRating\":") average black draws white game opening san uci
    ≡ start ++ (before ++ compact_text (object
    (member (codes "averageRating") (count_value average)
    (member (codes "black") (count_value black)
    (member (codes "draws") (count_value draws)
    (member (codes "game") game
    (member (codes "opening") opening
    (member (codes "san") (string san)
    (member (codes "uci") (string uci)
    (member (codes "white") (count_value white)
    no_members))))))))))
unfolding serde_json_on_literals line-text
move-pieces start before average black draws white game opening san uci =
    move-regroup start before (codes "{\"averageRating\":") (decimal average) (codes ",\"black\":") (decimal black) (codes ",\"draws\":") (decimal draws)
    (codes ",\"game\":") (compact_text game) (codes ",\"opening\":") (compact_text opening) (codes ",\"san\":") (compact_text (string san))
    (codes ",\"uci\":") (compact_text (string uci)) (codes ",\"white\":") (decimal white) (125 ∷ [])

pub player-move-pieces : (start before : List ℕ) (average black draws white : ℕ) (game opening : Data) (san uci : List ℕ)
    → line-text start before (codes "{\"averageOpponentRating\":") average black draws white game opening san uci
    ≡ start ++ (before ++ compact_text (object
    (member (codes "averageOpponentRating") (count_value average)
    (member (codes "black") (count_value black)
    (member (codes "draws") (count_value draws)
    (member (codes "game") game
    (member (codes "opening") opening
    (member (codes "san") (string san)
    (member (codes "uci") (string uci)
    (member (codes "white") (count_value white)
    no_members))))))))))
unfolding serde_json_on_literals line-text
player-move-pieces start before average black draws white game opening san uci =
    move-regroup start before (codes "{\"averageOpponentRating\":") (decimal average) (codes ",\"black\":") (decimal black) (codes ",\"draws\":") (decimal draws)
    (codes ",\"game\":") (compact_text game) (codes ",\"opening\":") (compact_text opening) (codes ",\"san\":") (compact_text (string san))
    (codes ",\"uci\":") (compact_text (string uci)) (codes ",\"white\":") (decimal white) (125 ∷ [])

-- ---- an answer

pub lists-regroup : (start m v n o k r t g : List ℕ)
    → ((((start ++ m) ++ v) ++ (n ++ o)) ++ (k ++ r)) ++ (t ++ g) ≡ start ++ (m ++ v ++ n ++ o ++ k ++ r ++ t ++ g)
lists-regroup start m v n o k r t g = simp append_assoc

answer-regroup : (a b c d h m v n o k r t g w l e : List ℕ)
    → (((([] ++ (a ++ b)) ++ (c ++ d)) ++ h) ++ (m ++ v ++ n ++ o ++ k ++ r ++ t ++ g)) ++ (w ++ l) ++ e
    ≡ a ++ (b ++ (c ++ (d ++ (h ++ (m ++ (v ++ (n ++ (o ++ (k ++ (r ++ (t ++ (g ++ (w ++ (l ++ e))))))))))))))
answer-regroup a b c d h m v n o k r t g w l e = simp append_assoc

with-months : (i h rest : List ℕ) → (i ++ h) ++ rest ≡ i ++ (h ++ rest)
with-months i h rest = append_assoc i h rest

-- the members behind the months
later-text : (white : ℕ) (moves opening recent top : Data) → List ℕ
later-text white moves opening recent top =
    codes ",\"moves\":" ++ (compact_text moves ++ (codes ",\"opening\":" ++ (compact_text opening
    ++ (codes ",\"recentGames\":" ++ (compact_text recent ++ (codes ",\"topGames\":" ++ (compact_text top
    ++ (codes ",\"white\":" ++ (decimal white ++ 125 ∷ [])))))))))

history-pieces : (black draws white : ℕ) (history : Option (List MonthLine)) (moves opening recent top : Data)
    → codes "{\"black\":" ++ (decimal black ++ (codes ",\"draws\":" ++ (decimal draws ++ (history_text history ++ later-text white moves opening recent top))))
    ≡ compact_text (object
    (member (codes "black") (count_value black)
    (member (codes "draws") (count_value draws)
    (with_history history
    (member (codes "moves") moves
    (member (codes "opening") opening
    (member (codes "recentGames") recent
    (member (codes "topGames") top
    (member (codes "white") (count_value white)
    no_members)))))))))
unfolding serde_json_on_literals later-text
history-pieces black draws white None moves opening recent top = refl
history-pieces black draws white (Some months) moves opening recent top =
    ap (λ rest. codes "{\"black\":" ++ (decimal black ++ (codes ",\"draws\":" ++ (decimal draws ++ rest))))
    (with-months (codes ",\"history\":") (compact_text (array_by month_value months)) (later-text white moves opening recent top))

pub answer-pieces : (black draws white : ℕ) (history : Option (List MonthLine)) (moves opening recent top : Data)
    → (((([] ++ (codes "{\"black\":" ++ decimal black)) ++ (codes ",\"draws\":" ++ decimal draws)) ++ history_text history)
    ++ (codes ",\"moves\":" ++ compact_text moves ++ codes ",\"opening\":" ++ compact_text opening
    ++ codes ",\"recentGames\":" ++ compact_text recent ++ codes ",\"topGames\":" ++ compact_text top))
    ++ (codes ",\"white\":" ++ decimal white)
    ++ 125 ∷ []
    ≡ compact_text (object
    (member (codes "black") (count_value black)
    (member (codes "draws") (count_value draws)
    (with_history history
    (member (codes "moves") moves
    (member (codes "opening") opening
    (member (codes "recentGames") recent
    (member (codes "topGames") top
    (member (codes "white") (count_value white)
    no_members)))))))))
unfolding later-text
answer-pieces black draws white history moves opening recent top =
    answer-regroup (codes "{\"black\":") (decimal black) (codes ",\"draws\":") (decimal draws) (history_text history)
    (codes ",\"moves\":") (compact_text moves) (codes ",\"opening\":") (compact_text opening) (codes ",\"recentGames\":") (compact_text recent)
    (codes ",\"topGames\":") (compact_text top) (codes ",\"white\":") (decimal white) (125 ∷ [])
    ∙ history-pieces black draws white history moves opening recent top

-- ---- an answer about a player

player-regroup : (a b c d m v n o k r w l e : List ℕ)
    → ((((((([] ++ (a ++ b)) ++ (c ++ d)) ++ m) ++ v) ++ (n ++ o)) ++ (k ++ r)) ++ (w ++ l)) ++ e
    ≡ a ++ (b ++ (c ++ (d ++ (m ++ (v ++ (n ++ (o ++ (k ++ (r ++ (w ++ (l ++ e)))))))))))
player-regroup a b c d m v n o k r w l e = simp append_assoc

pub player-pieces : (black draws white : ℕ) (moves opening recent : Data)
    → ((((((([] ++ (codes "{\"black\":" ++ decimal black)) ++ (codes ",\"draws\":" ++ decimal draws)) ++ codes ",\"moves\":") ++ compact_text moves)
    ++ (codes ",\"opening\":" ++ compact_text opening)) ++ (codes ",\"recentGames\":" ++ compact_text recent))
    ++ (codes ",\"white\":" ++ decimal white))
    ++ 125 ∷ []
    ≡ compact_text (object
    (member (codes "black") (count_value black)
    (member (codes "draws") (count_value draws)
    (member (codes "moves") moves
    (member (codes "opening") opening
    (member (codes "recentGames") recent
    (member (codes "white") (count_value white)
    no_members)))))))
unfolding serde_json_on_literals
player-pieces black draws white moves opening recent =
    player-regroup (codes "{\"black\":") (decimal black) (codes ",\"draws\":") (decimal draws) (codes ",\"moves\":") (compact_text moves)
    (codes ",\"opening\":") (compact_text opening) (codes ",\"recentGames\":") (compact_text recent) (codes ",\"white\":") (decimal white) (125 ∷ [])
