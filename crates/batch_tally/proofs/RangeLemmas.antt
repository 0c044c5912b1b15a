-- The singles of games in a range of keys, and the rows of all ranges.
use Rattle.std.proofs.Common.{◌≡◌, ◌++◌, ◌+◌, ◌*◌, ◌<◌, ◌≤◌, ℕ, suc, Bool, true, false, cond, Some, None, List, [], ◌∷◌, map, take, length, get_or, sym, ap, ◌∙◌, subst, refl, arith}
use Rattle.std.specs.List.{All, AllByRecursion, AllZip, filter, flat_map}
use Rattle.std.proofs.lemmas.List.{append_assoc, append-nil, length-append, get_or-map, length-map, length-take-le, map_more}
use Rattle.std.proofs.lemmas.List.Elements.{filter-append, recursion_from_All}
use Rattle.std.proofs.Math.Seq.{take-suc}
use Rattle.std.proofs.Math.Numerals.{suc-eq-add-one}
use Rattle.tally_rows.specs.declared.key_range.KeyRange.{KeyRange}
use Rattle.tally_rows.specs.declared.row.Row.{Row}
use Rattle.tally_rows.specs.declared.single.Single.{Single}
use Rattle.tally_rows.specs.Games.{single_at, game_singles, singles_from}
use Rattle.tally_rows.specs.Tallied.{Tallied}
use Rattle.tally_rows.specs.Tally.{IsTrackOf}
use Rattle.tally_rows.specs.Track as tracks
use Rattle.tally_rows.specs.Track.{Track}
use Rattle.tally_rows.specs.Within.{TalliedWithin, is_in_range, is_word_in, FollowFrom}
use Rattle.batch_tally.specs.declared.accepting.Accepted.{Accepted}
use Rattle.batch_tally.specs.Accepting.{IsCounted}
use Rattle.batch_tally.specs.Singles.{AreTracksOf, AreRowsIn, AreRowsOf, numbered, is_kept, singles_in, singles_of, word_of}

-- ---- the singles in a range are those of the games' tracks

numbered-each : (track : Track) (n : ℕ) (steps : List tracks.Step) → map (numbered n) (map (single_at track.classes 0) steps) ≡ map (single_at track.classes n) steps
numbered-each track n [] = refl
numbered-each track n (step ∷ steps) = ap (λ l. single_at track.classes n step ∷ l) (numbered-each track n steps)

pub singles-in : (range : KeyRange) (first : ℕ) (games : List Accepted) (tracks : List Track) → AreTracksOf games tracks
    → singles_in range first games ≡ filter (is_kept range) (singles_from first tracks)
singles-in range first [] [] each = refl
singles-in range first [] (t ∷ tracks) each = absurd each
singles-in range first (a ∷ games) [] each = absurd each
singles-in range first (a ∷ games) (t ∷ tracks) each =
    let one : map (numbered first) (singles_of a.count) ≡ game_singles first t =
    ap (map (numbered first)) each.0.singles_are ∙ numbered-each t first _ in
    (λ i. filter (is_kept range) (one i) ++ singles-in range (first + 1) games tracks each.1 i)
    ∙ sym (filter-append (is_kept range) (game_singles first t) (singles_from (first + 1) tracks))

-- ---- one single more of a game

-- those of the first so many singles of a game that are in a range, under a number
abbrev pub kept_of : KeyRange → ℕ → List Single → ℕ → List Single
kept_of range number of_game place = filter (is_kept range) (map (numbered number) (take place of_game))

kept-next : (range : KeyRange) (number : ℕ) (of_game : List Single) (place : ℕ) (single : Single) → place < length of_game → get_or of_game place single ≡ single
    → kept_of range number of_game (place + 1) ≡ kept_of range number of_game place ++ filter (is_kept range) (numbered number single ∷ [])
kept-next range number of_game place single below is =
    ap (filter (is_kept range)) (map_more (numbered number) of_game place single below
    ∙ ap (λ s. map (numbered number) (take place of_game) ++ numbered number s ∷ []) is)
    ∙ filter-append (is_kept range) (map (numbered number) (take place of_game)) (numbered number single ∷ [])

-- the word at a place is that of the single there
pub record TellsOf (words : List ℕ) (of_game : List Single) (place : ℕ) (single : Single) : Type 0 where
  pub words_are : words ≡ map word_of of_game
  pub below : place < length of_game
  pub is : get_or of_game place single ≡ single

kept-by : (range : KeyRange) (number : ℕ) (words : List ℕ) (of_game : List Single) (place : ℕ) (single : Single) → TellsOf words of_game place single
    → filter (is_kept range) (numbered number single ∷ []) ≡ cond (is_word_in range (get_or words place 0)) (numbered number single ∷ []) []
kept-by range number words of_game place single tells =
    ap (λ n. cond (is_word_in range n) (numbered number single ∷ []) [])
    (sym (ap (λ l. get_or l place 0) tells.words_are ∙ get_or-map word_of of_game place single 0 tells.below ∙ ap word_of tells.is))

pub one-kept : (range : KeyRange) (number : ℕ) (words : List ℕ) (of_game before now more : List Single) (place : ℕ) (single : Single)
    → TellsOf words of_game place single → is_word_in range (get_or words place 0) ≡ true → more ≡ now ++ numbered number single ∷ []
    → now ≡ before ++ kept_of range number of_game place → more ≡ before ++ kept_of range number of_game (place + 1)
one-kept range number words of_game before now more place single tells kept pushed are =
    pushed ∙ ap (λ l. l ++ numbered number single ∷ []) are
    ∙ append_assoc before (kept_of range number of_game place) (numbered number single ∷ [])
    ∙ ap (λ l. before ++ l) (sym (kept-next range number of_game place single tells.below tells.is
    ∙ ap (λ l. kept_of range number of_game place ++ l) (kept-by range number words of_game place single tells
    ∙ ap (λ b. cond b (numbered number single ∷ []) []) kept)))

pub one-left : (range : KeyRange) (number : ℕ) (words : List ℕ) (of_game before now : List Single) (place : ℕ) (single : Single)
    → TellsOf words of_game place single → is_word_in range (get_or words place 0) ≡ false
    → now ≡ before ++ kept_of range number of_game place → now ≡ before ++ kept_of range number of_game (place + 1)
one-left range number words of_game before now place single tells left are =
    are ∙ ap (λ l. before ++ l) (sym (kept-next range number of_game place single tells.below tells.is
    ∙ ap (λ l. kept_of range number of_game place ++ l) (kept-by range number words of_game place single tells
    ∙ ap (λ b. cond b (numbered number single ∷ []) []) left)
    ∙ append-nil (kept_of range number of_game place)))

-- ---- one game more

in-push : (range : KeyRange) (first : ℕ) (games : List Accepted) (a : Accepted)
    → singles_in range first (games ++ a ∷ []) ≡ singles_in range first games ++ filter (is_kept range) (map (numbered (first + length games)) (singles_of a.count))
in-push range first [] a =
    append-nil (filter (is_kept range) (map (numbered first) (singles_of a.count)))
    ∙ ap (λ n. filter (is_kept range) (map (numbered n) (singles_of a.count))) (place first)
  where
    place : (n : ℕ) → n ≡ n + length {A = Accepted} []
    place n = omega arith
in-push range first (g ∷ games) a =
    let here = filter (is_kept range) (map (numbered first) (singles_of g.count)) in
    ap (λ l. here ++ l) (in-push range (first + 1) games a)
    ∙ sym (append_assoc here (singles_in range (first + 1) games) (filter (is_kept range) (map (numbered (first + 1 + length games)) (singles_of a.count))))
    ∙ ap (λ n. (here ++ singles_in range (first + 1) games) ++ filter (is_kept range) (map (numbered n) (singles_of a.count))) (place first (length games))
  where
    place : (n k : ℕ) → n + 1 + k ≡ n + suc k
    place n k = omega arith

filter-le : (test : Single → Bool) (singles : List Single) → length (filter test singles) ≤ length singles
filter-le test [] = omega arith
filter-le test (s ∷ ss) =
    let rest = filter-le test ss in
    elim (test s) as (λ b. length (cond b (s ∷ filter test ss) (filter test ss)) ≤ length (s ∷ ss)) [
      | true ↦ omega (arith, rest)
      | false ↦ omega (arith, rest)
    ]

-- the singles of the games before index
pub record Keeping (range : KeyRange) (games : List Accepted) (singles : List Single) (number index : ℕ) : Type 0 where
  pub singles_are : singles ≡ singles_in range 0 (take index games)
  pub numbered_by : number ≡ index
  pub within : index ≤ length games
  pub few : length singles ≤ 51 * index

pub starts-keeping : (range : KeyRange) (games : List Accepted) (singles : List Single) → singles ≡ [] → Keeping range games singles 0 0
starts-keeping range games singles none =
    record { singles_are = none; numbered_by = refl; within = omega arith; few = (let e = ap (λ l. length l) none in omega (arith, e)) }

pub one-game : (range : KeyRange) (games : List Accepted) → All IsCounted games → (singles more : List Single) (number next index : ℕ) (a : Accepted)
    → index < length games → get_or games index a ≡ a
    → more ≡ singles ++ filter (is_kept range) (map (numbered number) (singles_of a.count)) → next ≡ number + 1
    → Keeping range games singles number index → Keeping range games more next (index + 1)
one-game range games counted singles more number next index a below is pushed grown keeping =
    let short : length (singles_of a.count) ≤ 51 = subst (λ (x : Accepted). length (singles_of x.count) ≤ 51) is (counted index a below).singles.few in
    let new = filter (is_kept range) (map (numbered number) (singles_of a.count)) in
    let taken : take (index + 1) games ≡ take index games ++ a ∷ [] =
    ap (λ n. take n games) (sym (suc-eq-add-one index)) ∙ take-suc games index a below ∙ ap (λ x. take index games ++ x ∷ []) is in
    let long : length (take index games) ≡ index = length-take-le index games (omega (arith, below)) in
    let by : number ≡ 0 + length (take index games) = (let n = keeping.numbered_by in omega (arith, n, long)) in
    record {
      singles_are = pushed
          ∙ ap (λ l. l ++ new) keeping.singles_are
          ∙ ap (λ n. singles_in range 0 (take index games) ++ filter (is_kept range) (map (numbered n) (singles_of a.count))) by
          ∙ sym (in-push range 0 (take index games) a)
          ∙ ap (singles_in range 0) (sym taken);
      numbered_by = (let n = keeping.numbered_by in omega (arith, grown, n));
      within = omega (arith, below);
      few = (let e = ap (λ l. length l) pushed in
          let f = length-append singles new in
          let h = filter-le (is_kept range) (map (numbered number) (singles_of a.count)) in
          let m = length-map (singles_of a.count) (numbered number) in
          let g = keeping.few in omega (arith, e, f, g, h, m, short));
    }

-- ---- the tracks of counted games

-- some tracks
pub record SomeTracks (games : List Accepted) : Type 0 where
  pub tracks : List Track
  pub are_tracks : AreTracksOf games tracks

some-by : (games : List Accepted) → AllByRecursion IsCounted games → SomeTracks games
some-by [] each = record { tracks = []; are_tracks = tt }
some-by (a ∷ games) each =
    let rest = some-by games each.1 in
    record { tracks = each.0.singles.track ∷ rest.tracks; are_tracks = (each.0.singles.counts, rest.are_tracks) }

are-of-games : (games : List Accepted) (tracks : List Track) → AreTracksOf games tracks → AllZip IsTrackOf (map (λ a. a.game) games) tracks
are-of-games [] [] each = tt
are-of-games [] (t ∷ tracks) each = absurd each
are-of-games (a ∷ games) [] each = absurd each
are-of-games (a ∷ games) (t ∷ tracks) each = (each.0.is_track, are-of-games games tracks each.1)

-- ---- the rows of all ranges

abbrev pub RangesLaw : Type 0
RangesLaw = (tracks : List Track) (ranges : List KeyRange) (parts : List (List Row)) → FollowFrom 0 ranges
    → AllZip (λ range rows. TalliedWithin (is_in_range range) tracks rows) ranges parts → Tallied tracks (flat_map (λ rows. rows) parts)

module _ {V : Type 0} (items : V → List Row) where
  items-of : (parts : List V) → flat_map (λ rows. rows) (map items parts) ≡ flat_map items parts
  items-of [] = refl
  items-of (part ∷ parts) = ap (λ l. items part ++ l) (items-of parts)

  parts-at : (games : List Accepted) (tracks : List Track) → AreTracksOf games tracks → (ranges : List KeyRange) (parts : List V)
      → AllZip (λ range part. AreRowsIn games range (items part)) ranges parts
      → AllZip (λ range rows. TalliedWithin (is_in_range range) tracks rows) ranges (map items parts)
  parts-at games tracks of [] [] each = tt
  parts-at games tracks of [] (part ∷ parts) each = absurd each
  parts-at games tracks of (range ∷ ranges) [] each = absurd each
  parts-at games tracks of (range ∷ ranges) (part ∷ parts) each = (each.0 tracks of, parts-at games tracks of ranges parts each.1)

  pub rows-of-all : RangesLaw → (games : List Accepted) (ranges : List KeyRange) (parts : List V) → All IsCounted games → FollowFrom 0 ranges
      → AllZip (λ range part. AreRowsIn games range (items part)) ranges parts → AreRowsOf games (flat_map items parts)
  rows-of-all law games ranges parts counted follow each =
      let some = some-by games (recursion_from_All IsCounted games counted) in
      record {
        tracks = some.tracks;
        are_tracks = are-of-games games some.tracks some.are_tracks;
        tallied = (let T : List Row → Type 0 = λ rows. Tallied some.tracks rows in
            subst T (items-of parts) (law some.tracks ranges (map items parts) follow (parts-at games some.tracks some.are_tracks ranges parts each)));
      }

-- ---- ranges, one after another

-- ranges so far, behind which ranges from a number on follow
abbrev pub Leads : List KeyRange → ℕ → Type 0
Leads ranges from = (rest : List KeyRange) → FollowFrom from rest → FollowFrom 0 (ranges ++ rest)

first-from : (from : ℕ) (range : KeyRange) (ranges : List KeyRange) → FollowFrom from (range ∷ ranges) → range.from ≡ from
first-from from range [] follow = follow.0
first-from from range (next ∷ ranges) follow = follow.0

follow-more : (from below : ℕ) (range : KeyRange) (rest : List KeyRange) → range.from ≡ from → range.below ≡ Some below → from ≤ below
    → FollowFrom below rest → FollowFrom from (range ∷ rest)
follow-more from below range [] begins ends rising follow = absurd follow
follow-more from below range (next ∷ rest) begins ends rising follow =
    let starts = first-from below next rest follow in
    let F : ℕ → Type 0 = λ n. FollowFrom n (next ∷ rest) in (
      begins,
      ends ∙ ap (λ (n : ℕ). Some n) (sym starts),
      omega (arith, rising, starts),
      subst F (sym starts) follow,
    )

pub one-range : (ranges more : List KeyRange) (from below : ℕ) (range : KeyRange) → more ≡ ranges ++ range ∷ [] → range.from ≡ from
    → range.below ≡ Some below → from ≤ below → Leads ranges from → Leads more below
one-range ranges more from below range pushed begins ends rising leads rest follow =
    let F : List KeyRange → Type 0 = λ l. FollowFrom 0 l in
    subst F (sym (ap (λ l. l ++ rest) pushed ∙ append_assoc ranges (range ∷ []) rest))
    (leads (range ∷ rest) (follow-more from below range rest begins ends rising follow))

pub last-range : (ranges more : List KeyRange) (from : ℕ) (range : KeyRange) → more ≡ ranges ++ range ∷ [] → range.from ≡ from → range.below ≡ None
    → Leads ranges from → FollowFrom 0 more
last-range ranges more from range pushed begins ends leads =
    let F : List KeyRange → Type 0 = λ l. FollowFrom 0 l in
    subst F (sym pushed) (leads (range ∷ []) (begins, ends))
