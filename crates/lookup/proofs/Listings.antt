-- The games of entries are found by their numbers.
use Rattle.std.proofs.Common.{◌≡◌, ℕ, suc, ◌+◌, ◌-◌, ◌==◌, Bool, true, false, ◌&&◌, cond, inl, inr, List, [], ◌∷◌, ◌++◌, length, take, map, filter, Option, Some, None, is_some, option_map, bytes_eq, refl, sym, ap, ◌∙◌, subst, arith}
use Rattle.std.specs.Prelude.{option_and_then, filter_map}
use Rattle.std.specs.List.{All, AllByRecursion, AllZip, Contains, list_any, slice_get, enumerate_from, cons_option}
use Rattle.std.proofs.lemmas.Bool.Decides.{nat_tests}
use Rattle.std.proofs.lemmas.List.{map-append, length-map}
use Rattle.std.proofs.lemmas.List.Elements.{All-take}
use Rattle.std.proofs.lemmas.Slice.Eq.{bytes_eq-Decides}
use Rattle.std.proofs.lemmas.Option.{slice_get-map, slice_get_within}
use Rattle.plain_laws.specs.Lists.{get-front}
use Rattle.best_lists.proofs.BestLaws.{All-best}
use Rattle.best_lists.specs.Ranking.{before_by_rating, before_by_month}
use Rattle.best_lists.specs.declared.entry.Entry.{Entry}
use Rattle.explorer_model.specs.Best.{best}
use Rattle.explorer_model.specs.Counting.{any_next}
use Rattle.explorer_model.specs.declared.answer.Listed.{Listed}
use Rattle.explorer_model.specs.declared.archive.Classes.{Classes}
use Rattle.explorer_model.specs.declared.archive.Game.{Game}
use Rattle.explorer_model.specs.declared.chess.Move.{Move}
use Rattle.explorer_model.specs.declared.query.Filter.{Filter}
use Rattle.row_sums.specs.Hits.{NumberedRow}
use Rattle.lookup.specs.Hits.{rows_from}
use Rattle.row_sums.specs.Listing.{classes_in, lists_number, next_where, listed_where, AreBestOf}
use Rattle.segment_blocks.specs.Segment.{CountedSpan}
use Rattle.lookup.specs.Listing.{all_classes, AreListed}
use Rattle.row_sums.specs.Sums.{any_row, entries_where}
use Rattle.lookup.specs.Parts.{tracks_in}
use Rattle.row_sums.proofs.ListedRows.{IsFirst, best-stand, find-first, in-either, kept, stands-listed}
use Rattle.row_sums.proofs.Places.{get-right}
use Rattle.tally_rows.specs.declared.row_key.RowKey.{RowKey}
use Rattle.tally_rows.specs.declared.row.Row.{Row}
use Rattle.tally_rows.specs.Cover.{meets, listing, listed_by}
use Rattle.tally_rows.specs.Recount.{all_of, picks}
use Rattle.tally_rows.specs.Row.{row_key_of}
use Rattle.tally_rows.specs.Tallied.{entries, has_move, rating_sum, track_month, IsTally}
use Rattle.tally_rows.specs.Tally.{IsTrackOf}
use Rattle.lookup.specs.Parts.{Part, IsPart, segment_part}
use Rattle.tally_rows.specs.Track.{Track, visit, row_keys_at, has}
use Rattle.tally_rows.proofs.Members.{IsIn, All-from_IsIn, All-IsIn, IsIn-from_Contains, Found-map}
use Rattle.tally_rows.proofs.Visits.{has-row_keys_at}

-- ---- what is listed of parts

-- the rows are some of those of a position, and the entries are theirs
pub record AreEntriesOf (list : Row → List Entry) (key : List ℕ) (wanted : Filter) (parts : List Part) (hits : List NumberedRow)
    (test : Row → Bool) (entries : List Entry) : Type 0 where
  pub rows : All (Contains (rows_from key (meets wanted any_next) 0 parts)) hits
  pub stand : All (λ entry. Contains (entries_where hits test list) entry) entries

-- what is listed are the games of the entries, as the tracks of all games tell them
abbrev pub IsListingOf : (Row → List Entry) → List Part → List NumberedRow → List Entry → List Listed → Type 0
IsListingOf list parts hits entries listed =
    (key : List ℕ) (wanted : Filter) (test : Row → Bool) (each : AllByRecursion IsPart parts)
    → AreEntriesOf list key wanted parts hits test entries
    → map Some listed ≡ map (listing key (all_of (tracks_in parts each))) entries

-- ---- the game of an entry of a row

-- the entry's number is the place of a game that passes a test
pub record IsAt (test : Track → Bool) (first : ℕ) (tracks : List Track) (entry : Entry) : Type 0 where
  pub place : ℕ
  pub is : entry.number ≡ first + place
  pub track : Track
  pub at : slice_get tracks place ≡ Some track
  pub passes : test track ≡ true

module _ (rank : Track → ℕ) (test : Track → Bool) where
  entry_of : ℕ × Track → Entry
  entry_of p = record { rank = rank p.1; number = p.0 }

  at-later : (first : ℕ) (t : Track) (ts : List Track) (entry : Entry) → IsAt test (first + 1) ts entry → IsAt test first (t ∷ ts) entry
  at-later first t ts entry h = record { place = suc h.place; is = omega (arith, h.is); track = h.track; at = h.at; passes = h.passes }

  at-by : (first : ℕ) (t : Track) (ts : List Track) (rest : List (ℕ × Track)) (entry : Entry) (b : Bool) → test t ≡ b
      → (IsIn entry (map (λ p. record { rank = rank p.1; number = p.0 }) rest) → IsAt test (first + 1) ts entry)
      → IsIn entry (map (λ p. record { rank = rank p.1; number = p.0 }) (cond b ((first, t) ∷ rest) rest)) → IsAt test first (t ∷ ts) entry
  at-by first t ts rest entry true e later (inl is) =
      record { place = 0; is = (let n : entry.number ≡ first = ap (λ x. x.number) is in omega (arith, n)); track = t; at = refl; passes = e }
  at-by first t ts rest entry true e later (inr m) = at-later first t ts entry (later m)
  at-by first t ts rest entry false e later m = at-later first t ts entry (later m)

  entries-at : (first : ℕ) (tracks : List Track) (entry : Entry) → IsIn entry (entries rank test first tracks) → IsAt test first tracks entry
  unfolding entries
  entries-at first [] entry m = absurd m
  entries-at first (t ∷ ts) entry m =
      at-by first t ts (filter (λ p. test p.1) (enumerate_from (first + 1) ts)) entry (test t) refl (entries-at (first + 1) ts entry) m

  best-at : (before : Entry → Entry → Bool) (tracks : List Track) (list : List Entry) (entry : Entry)
      → list ≡ best before 4 (entries rank test 0 tracks) → IsIn entry list → IsAt test 0 tracks entry
  best-at before tracks list entry is m =
      let P : Entry → Type 0 = IsAt test 0 tracks in
      let all = entries rank test 0 tracks in
      All-IsIn P (best before 4 all) (All-best before P 4 all (All-from_IsIn P all (entries-at 0 tracks))) entry (subst (IsIn entry) is m)

-- the entries of a list of a row are games that have the row's parts, and a move among them
abbrev pub ListsGames : (Row → List Entry) → Type 0
ListsGames list = (tracks : List Track) (row : Row) → IsTally tracks row → (entry : Entry) → IsIn entry (list row) → IsAt (has_move (row_key_of row)) 0 tracks entry

pub top-lists : ListsGames (λ row. row.top)
top-lists tracks row part entry m = best-at rating_sum (has_move (row_key_of row)) before_by_rating tracks row.top entry part.top m

pub recent-lists : ListsGames (λ row. row.recent)
recent-lists tracks row part entry m = best-at track_month (has_move (row_key_of row)) before_by_month tracks row.recent entry part.recent m

-- the move of a row is what a game plays in the position
pub record Plays (key : List ℕ) (track : Track) (row : Row) : Type 0 where
  pub next : Move
  pub of_row : row.next ≡ Some next
  pub of_track : visit key track ≡ Some (Some next)

visited-by : (key : List ℕ) (t : Track) (o : Option (Option Move)) (c : RowKey)
    → option_map (λ next. record { key = key; next = next; month = t.classes.month; speed = t.classes.speed; group = t.classes.group }) o ≡ Some c
    → o ≡ Some c.next
visited-by key t None c e = cc
visited-by key t (Some next) c e =
    let same : c ≡ record { key = key; next = next; month = t.classes.month; speed = t.classes.speed; group = t.classes.group } = cc in
    ap Some (sym (ap (λ p. p.next) same))

visited : (key : List ℕ) (t : Track) (c : RowKey) → row_keys_at key t ≡ Some c → visit key t ≡ Some c.next
unfolding row_keys_at
visited key t c e = visited-by key t (visit key t) c e

plays-by : (key : List ℕ) (track : Track) (row : Row) → row.key ≡ key → (o : Option Move) → row.next ≡ o
    → (is_some o && has (row_key_of row) track) ≡ true → Plays key track row
plays-by key track row of None is plays = cc
plays-by key track row of (Some next) is plays =
    let there = visited row.key track (row_key_of row) (has-row_keys_at (row_key_of row) track plays) in
    record { next = next; of_row = is; of_track = ap (λ k. visit k track) (sym of) ∙ there ∙ ap Some is }

plays-there : (key : List ℕ) (track : Track) (row : Row) → row.key ≡ key → has_move (row_key_of row) track ≡ true → Plays key track row
plays-there key track row of plays = plays-by key track row of row.next refl plays

-- ---- the games of the entries of rows

-- the game at a place plays the move of the row
pub record IsPlayedAt (key : List ℕ) (tracks : List Track) (place : ℕ) (row : Row) : Type 0 where
  pub track : Track
  pub at : slice_get tracks place ≡ Some track
  pub plays : Plays key track row

-- so does the game of each entry of the list of a row, by its number
pub record Tells (list : Row → List Entry) (key : List ℕ) (first : ℕ) (tracks : List Track) (hit : NumberedRow) (entry : Entry) : Type 0 where
  pub place : ℕ
  pub is : entry.number + hit.first ≡ first + place
  pub played : IsPlayedAt key tracks place hit.row

games-long : (games : List Game) (tracks : List Track) → AllZip IsTrackOf games tracks → map (λ game. game.classes) games ≡ map (λ track. track.classes) tracks
games-long [] [] zip = refl
games-long [] (t ∷ tracks) zip = absurd zip
games-long (g ∷ games) [] zip = absurd zip
games-long (g ∷ games) (t ∷ tracks) zip =
    ap (λ c. c ∷ map {A = Game} (λ game. game.classes) games) (sym zip.0.classes) ∙ ap (λ l. t.classes ∷ l) (games-long games tracks zip.1)

own-classes : (part : Part) → (is : IsPart part) → part.classes ≡ map (λ track. track.classes) is.tally.tracks
own-classes part is = is.tally.classes_are ∙ games-long is.tally.games is.tally.tracks is.tally.are_tracks

left-true : (a b : Bool) → (a && b) ≡ true → a ≡ true
left-true true b e = refl
left-true false b e = e

module _ (list : Row → List Entry) (lists : ListsGames list) (key : List ℕ) (pick : RowKey → Bool) where
  picks-own_key : (row : Row) → picks key pick row ≡ true → row.key ≡ key
  unfolding picks
  picks-own_key row e = (bytes_eq-Decides row.key key).0 (left-true (bytes_eq row.key key) (pick (row_key_of row)) e)

  tells-here : (part : Part) (is : IsPart part) (first : ℕ) (rest : List Track) (row : Row) → IsIn row (filter (picks key pick) part.rows)
      → (entry : Entry) → IsIn entry (list row) → Tells list key first (is.tally.tracks ++ rest) (record { row = row; first = first }) entry
  tells-here part is first rest row m entry n =
      let tracks = is.tally.tracks in
      let k = kept (picks key pick) part.rows row m in
      let found = lists tracks row (All-IsIn (IsTally tracks) part.rows is.tally.tallied.each row k.is_in) entry n in
      record {
        place = found.place;
        is = omega (arith, found.is);
        played = record {
          track = found.track;
          at = get-front tracks rest found.place (slice_get_within tracks found.place found.track found.at) ∙ found.at;
          plays = plays-there key found.track row (picks-own_key row k.passes) found.passes;
        };
      }

  tells-later : (part : Part) (is : IsPart part) (first : ℕ) (rest : List Track) (hit : NumberedRow) (entry : Entry)
      → Tells list key (first + length part.classes) rest hit entry → Tells list key first (is.tally.tracks ++ rest) hit entry
  tells-later part is first rest hit entry told =
      let tracks = is.tally.tracks in
      let long : length part.classes ≡ length tracks = ap length (own-classes part is) ∙ length-map tracks (λ track. track.classes) in
      let place = length tracks + told.place in
      let back : place - length tracks ≡ told.place = omega arith in
      record {
        place = place;
        is = omega (arith, told.is, long);
        played = record {
          track = told.played.track;
          at = get-right tracks rest place (omega arith) ∙ ap (slice_get rest) back ∙ told.played.at;
          plays = told.played.plays;
        };
      }

  pub rows-tell : (parts : List Part) (each : AllByRecursion IsPart parts) (first : ℕ) (hit : NumberedRow) → IsIn hit (rows_from key pick first parts)
      → (entry : Entry) → IsIn entry (list hit.row) → Tells list key first (all_of (tracks_in parts each)) hit entry
  unfolding rows_from
  rows-tell [] each first hit m entry n = absurd m
  rows-tell (part ∷ parts) each first hit m entry n =
      elim (in-either (map {B = NumberedRow} (λ row. record { row = row; first = first }) (filter (picks key pick) part.rows)) (rows_from key pick (first + length part.classes) parts) hit m) [
        | inl here ↦ (
            let found = Found-map {Y = NumberedRow} (λ row. record { row = row; first = first }) (filter (picks key pick) part.rows) hit here in
            let own : IsIn entry (list found.value) = subst (λ h. IsIn entry (list h.row)) (sym found.holds) n in
            subst (λ h. Tells list key first (each.0.tally.tracks ++ all_of (tracks_in parts each.1)) h entry) found.holds
            (tells-here part each.0 first (all_of (tracks_in parts each.1)) found.value found.is_in entry own))
        | inr later ↦
            tells-later part each.0 first (all_of (tracks_in parts each.1)) hit entry
            (rows-tell parts each.1 (first + length part.classes) hit later entry n)
      ]

-- what is known of all games
pub classes-tracks : (parts : List Part) (each : AllByRecursion IsPart parts)
    → all_classes parts ≡ map (λ track. track.classes) (all_of (tracks_in parts each))
classes-tracks [] each = refl
classes-tracks (part ∷ parts) each =
    ap (λ l. l ++ all_classes parts) (own-classes part each.0)
    ∙ ap (λ l. map {A = Track} (λ track. track.classes) each.0.tally.tracks ++ l) (classes-tracks parts each.1)
    ∙ sym (map-append (λ track. track.classes) each.0.tally.tracks (all_of (tracks_in parts each.1)))

-- ---- the game of an entry is found

both-found : (next : Option Move) (classes : Option Classes) (m : Move) (c : Classes) → next ≡ Some m → classes ≡ Some c
    → option_and_then {U = Listed} (λ (n : Move). option_map {U = Listed} (λ (d : Classes). record { next = n; classes = d }) classes) next
    ≡ Some (record { next = m; classes = c })
both-found next classes m c is_next are =
    ap (option_and_then {U = Listed} (λ (n : Move). option_map {U = Listed} (λ (d : Classes). record { next = n; classes = d }) classes)) is_next
    ∙ ap (option_map {U = Listed} (λ (d : Classes). record { next = m; classes = d })) are

pub track-listed : (key : List ℕ) (found : Option Track) (track : Track) (m : Move) → found ≡ Some track → visit key track ≡ Some (Some m)
    → option_and_then (λ (t : Track). listed_by (visit key t) t) found ≡ Some (record { next = m; classes = track.classes })
track-listed key found track m is plays =
    ap (option_and_then (λ (t : Track). listed_by (visit key t) t)) is ∙ ap (λ v. listed_by v track) plays

record IsFoundAs (key : List ℕ) (tracks : List Track) (entry : Entry) (found : Option Listed) : Type 0 where
  game : Listed
  found_is : found ≡ Some game
  listing_is : listing key tracks entry ≡ Some game

module _ (list : Row → List Entry) (lists : ListsGames list) (key : List ℕ) (pick : RowKey → Bool)
    (parts : List Part) (each : AllByRecursion IsPart parts) (entry : Entry) where
  next-is : (hits : List NumberedRow) (first : IsFirst (lists_number list entry.number) hits) (m : Move) → first.value.row.next ≡ Some m
      → next_where list hits entry.number ≡ Some m
  unfolding next_where
  next-is hits first m is = ap (option_and_then (λ (hit : NumberedRow). hit.row.next)) first.is ∙ is

  entry-found : (hits : List NumberedRow) → All (Contains (rows_from key pick 0 parts)) hits → list_any (lists_number list entry.number) hits ≡ true
      → IsFoundAs key (all_of (tracks_in parts each)) entry (listed_where list (all_classes parts) hits entry.number)
  entry-found hits are listed =
      let tracks = all_of (tracks_in parts each) in
      let first = find-first (lists_number list entry.number) hits listed in
      let hit = first.value in
      let by = find-first (λ e. e.number + hit.first == entry.number) (list hit.row) first.passes in
      let told = rows-tell list lists key pick parts each 0 hit (IsIn-from_Contains (rows_from key pick 0 parts) hit (All-IsIn (Contains (rows_from key pick 0 parts)) hits are hit first.is_in)) by.value by.is_in in
      let same : by.value.number + hit.first ≡ entry.number = (let passes = by.passes in grind (arith, nat_tests)) in
      let place : told.place ≡ entry.number = omega (arith, told.is, same) in
      let track = told.played.track in
      let plays = told.played.plays in
      let at : slice_get tracks entry.number ≡ Some track = ap (slice_get tracks) (sym place) ∙ told.played.at in
      let classes : slice_get (all_classes parts) entry.number ≡ Some track.classes =
      ap (λ l. slice_get l entry.number) (classes-tracks parts each) ∙ slice_get-map (λ t. t.classes) tracks entry.number
      ∙ ap (option_map (λ (t : Track). t.classes)) at in
      let next = next-is hits first plays.next plays.of_row in
      record {
        game = record { next = plays.next; classes = track.classes };
        found_is = both-found (next_where list hits entry.number) (slice_get (all_classes parts) entry.number) plays.next track.classes next classes;
        listing_is = track-listed key (slice_get tracks entry.number) track plays.next at plays.of_track;
      }

-- and the games of entries, in order
some-cons : (g : Listed) (rest : List Listed) (found : Option Listed) → found ≡ Some g → map Some (cons_option found rest) ≡ Some g ∷ map Some rest
some-cons g rest found is = ap (λ f. map Some (cons_option f rest)) is

entries-found : (key : List ℕ) (tracks : List Track) (h : Entry → Option Listed) (entries : List Entry)
    → ((entry : Entry) → IsIn entry entries → IsFoundAs key tracks entry (h entry))
    → map Some (filter_map h entries) ≡ map (listing key tracks) entries
entries-found key tracks h [] each = refl
entries-found key tracks h (e ∷ es) each =
    let found = each e (inl refl) in
    some-cons found.game (filter_map h es) (h e) found.found_is
    ∙ ap (λ l. Some found.game ∷ l) (entries-found key tracks h es (λ x m. each x (inr m)))
    ∙ ap (λ g. g ∷ map (listing key tracks) es) (sym found.listing_is)

-- what is looked up by the numbers of entries are their games
pub listings : (list : Row → List Entry) → ListsGames list → (parts : List Part) (hits : List NumberedRow) (entries : List Entry) (listed : List Listed)
    → listed ≡ filter_map (λ entry. listed_where list (all_classes parts) hits entry.number) entries
    → IsListingOf list parts hits entries listed
listings list lists parts hits entries listed is = λ key wanted test each are.
    ap (map Some) is ∙ entries-found key (all_of (tracks_in parts each)) (λ entry. listed_where list (all_classes parts) hits entry.number) entries
    (λ entry m. entry-found list lists key (meets wanted any_next) parts each entry hits are.rows
    (stands-listed list test hits entry
    (IsIn-from_Contains (entries_where hits test list) entry
    (All-IsIn (λ e. Contains (entries_where hits test list) e) entries are.stand entry m))))

-- what segments say of their games
pub segment-classes : (segments : List CountedSpan) → classes_in segments ≡ all_classes (map segment_part segments)
segment-classes [] = refl
segment-classes (segment ∷ segments) = ap (λ l. segment.classes ++ l) (segment-classes segments)

-- the games of the first few of the best entries of rows, where they are looked up in rows that list them
pub listed-among : (list : Row → List Entry) (before : Entry → Entry → Bool) (parts : List Part) (hits rows : List NumberedRow) (best_four : List Entry)
    (most : ℕ) (listed : List Listed) → AreBestOf before list hits hits rows best_four → IsListingOf list parts rows (take most best_four) listed
    → IsListingOf list parts hits (take most (best before 4 (entries_where hits any_row list))) listed
listed-among list before parts hits rows best_four most listed of is = λ key wanted test each are.
    let all : List NumberedRow = rows_from key (meets wanted any_next) 0 parts in
    let among : All (Contains all) rows =
    All-from_IsIn (Contains all) rows (λ row m.
    All-IsIn (Contains all) hits are.rows row (IsIn-from_Contains hits row (All-IsIn (Contains hits) rows of.among row m))) in
    let stand : All (Contains (entries_where rows any_row list)) (take most best_four) =
    subst (λ (entries : List Entry). All (Contains (entries_where rows any_row list)) (take most entries)) (sym of.of_rows)
    (All-take (Contains (entries_where rows any_row list)) most (best before 4 (entries_where rows any_row list)) (best-stand before 4 (entries_where rows any_row list))) in
    is key wanted any_row each (record { rows = among; stand = stand })
    ∙ ap (λ entries. map (listing key (all_of (tracks_in parts each))) (take most entries)) of.of_all

-- so are the games that are listed of rows
pub listed-of : (list : Row → List Entry) → ListsGames list → (before : Entry → Entry → Bool) (games : List Classes) (parts : List Part) (hits : List NumberedRow)
    (most : ℕ) (listed : List Listed) → games ≡ all_classes parts → AreListed before list games hits most listed
    → IsListingOf list parts hits (take most (best before 4 (entries_where hits any_row list))) listed
listed-of list lists before games parts hits most listed known are =
    let found : listed ≡ filter_map (λ entry. listed_where list (all_classes parts) are.rows entry.number) (take most are.entries) =
    are.are_listed ∙ ap (λ (of : List Classes). filter_map (λ entry. listed_where list of are.rows entry.number) (take most are.entries)) known in
    listed-among list before parts hits are.rows are.entries most listed are.are_best
    (listings list lists parts are.rows (take most are.entries) listed found)
