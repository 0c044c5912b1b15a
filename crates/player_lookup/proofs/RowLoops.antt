-- The rows of games, one number after another.
use Rattle.std.proofs.Common.{◌≡◌, ℕ, ◌+◌, ◌<◌, List, [], ◌∷◌, ◌++◌, length, get_or, map, take, sym, ap, ◌∙◌, append-nil}
use Rattle.std.specs.List.{slice_get}
use Rattle.std.proofs.lemmas.List.{map-append, take_more}
use Rattle.std.proofs.lemmas.List.Concat.{flat_map-append}
use Rattle.explorer_model.specs.Visits.{GameAt}
use Rattle.explorer_model.specs.declared.player.PlayerQuery.{PlayerQuery}
use Rattle.player_index.specs.declared.entry.Entry.{Entry}
use Rattle.player_lookup.specs.Kept.{rows_of_game, rows_of_numbers}
use Rattle.row_sums.specs.Hits.{NumberedRow}

abbrev pub number_of : Entry → ℕ
number_of e = e.number

-- the rows with those of one game more
pub rows-next : (q : PlayerQuery) (key : List ℕ) (games : List GameAt) (entries : List Entry) (i : ℕ) (d : Entry) → i < length entries
    → (sofar own now : List NumberedRow) → sofar ≡ rows_of_numbers q key games (map number_of (take i entries))
    → own ≡ rows_of_game q key (get_or entries i d).number (slice_get games (get_or entries i d).number) → now ≡ sofar ++ own
    → now ≡ rows_of_numbers q key games (map number_of (take (i + 1) entries))
rows-next q key games entries i d within sofar own now so here joined =
    let entry = get_or entries i d in
    let one = λ (number : ℕ). rows_of_game q key number (slice_get games number) in
    let more : map number_of (take (i + 1) entries) ≡ map number_of (take i entries) ++ entry.number ∷ [] =
    ap (map number_of) (take_more entries i d within) ∙ map-append number_of (take i entries) (entry ∷ []) in
    joined ∙ (λ k. so k ++ here k)
    ∙ ap (λ l. rows_of_numbers q key games (map number_of (take i entries)) ++ l) (sym (append-nil (one entry.number)))
    ∙ sym (flat_map-append one (map number_of (take i entries)) (entry.number ∷ []))
    ∙ ap (rows_of_numbers q key games) (sym more)
