-- What is put together of rows with legal moves, over games with sound tags, is a sound answer.
use Rattle.std.proofs.Common.{ℕ, zero, suc, List, [], ◌∷◌, map, take, Option, None, Some, IfSome, option_map, sym, subst}
use Rattle.std.specs.Prelude.{option_and_then, filter_map}
use Rattle.std.specs.List.{AllByRecursion, AllZip, cons_option, slice_get}
use Rattle.best_lists.specs.declared.entry.Entry.{Entry}
use Rattle.explorer_model.specs.Best.{best}
use Rattle.explorer_model.specs.Chess.{Legal}
use Rattle.explorer_model.specs.San.{SanText}
use Rattle.explorer_model.specs.SoundClasses.{AreSoundClasses}
use Rattle.explorer_model.specs.declared.answer.Found.{Found}
use Rattle.explorer_model.specs.declared.answer.Listed.{Listed}
use Rattle.explorer_model.specs.declared.answer.MoveLine.{MoveLine}
use Rattle.explorer_model.specs.declared.archive.Classes.{Classes}
use Rattle.explorer_model.specs.declared.chess.Move.{Move}
use Rattle.explorer_model.specs.declared.chess.Position.{Position}
use Rattle.explorer_model.specs.declared.query.Query.{Query}
use Rattle.lookup.specs.Lines.{IsLineMade, IsPutTogether}
use Rattle.lookup.specs.Sound.{HasSoundClasses, IsSoundAnswer, IsSoundLine}
use Rattle.row_sums.specs.GroupSums.{shown_by}
use Rattle.row_sums.specs.Hits.{NumberedRow}
use Rattle.row_sums.specs.Listing.{listed_as, listed_where, next_where, shown_game}
use Rattle.row_sums.specs.MoveSums.{sum_as}
use Rattle.row_sums.specs.Sums.{before_by_total, entries_where, moves_in, plays}
use Rattle.row_sums.specs.declared.moves.MoveSum.{MoveSum}
use Rattle.row_sums.specs.declared.moves.Shown.{Shown}
use Rattle.row_sums.specs.declared.moves.Shown.TheVariants.{Nothing, One, Several}
use Rattle.row_sums.proofs.SortedLines.{sums-have}
use Rattle.tally_rows.specs.declared.row.Row.{Row}

-- ---- games that are found by their numbers

module _ (games : List Classes) (sound : AllByRecursion AreSoundClasses games) where
  at-number : (all : List Classes) → AllByRecursion AreSoundClasses all → (number : ℕ) → IfSome (slice_get all number) AreSoundClasses
  at-number [] each number = tt
  at-number (one ∷ all) each zero = each.0
  at-number (one ∷ all) each (suc number) = at-number all each.1 number

  with-move : (next : Move) (found : Option Classes) → IfSome found AreSoundClasses
      → IfSome (option_map {U = Listed} (λ (classes : Classes). record { next = next; classes = classes }) found) HasSoundClasses
  with-move next None holds = tt
  with-move next (Some classes) holds = holds

  as-sound : (next : Move) (number : ℕ) → IfSome (listed_as games next number) HasSoundClasses
  as-sound next number = with-move next (slice_get games number) (at-number games sound number)

  by-move : (number : ℕ) (next : Option Move) → IfSome (option_and_then (λ (m : Move). listed_as games m number) next) HasSoundClasses
  by-move number None = tt
  by-move number (Some next) = as-sound next number

  where-sound : (list : Row → List Entry) (rows : List NumberedRow) (number : ℕ) → IfSome (listed_where list games rows number) HasSoundClasses
  where-sound list rows number = by-move number (next_where list rows number)

  shown-sound : (next : Move) (shown : Shown) → IfSome (shown_game games next shown) HasSoundClasses
  shown-sound next Nothing = tt
  shown-sound next (One entry) = as-sound next entry.number
  shown-sound next Several = tt

  cons-sound : (found : Option Listed) (rest : List Listed) → IfSome found HasSoundClasses → AllByRecursion HasSoundClasses rest
      → AllByRecursion HasSoundClasses (cons_option found rest)
  cons-sound None rest holds each = each
  cons-sound (Some game) rest holds each = (holds, each)

  listed-sound : (list : Row → List Entry) (rows : List NumberedRow) (entries : List Entry)
      → AllByRecursion HasSoundClasses (filter_map (λ entry. listed_where list games rows entry.number) entries)
  listed-sound list rows [] = tt
  listed-sound list rows (entry ∷ entries) =
      cons-sound (listed_where list games rows entry.number) (filter_map (λ entry. listed_where list games rows entry.number) entries)
      (where-sound list rows entry.number) (listed-sound list rows entries)

  -- ---- lines

  line-sound : (at : Position) (hits : List NumberedRow) (m : Move) (line : MoveLine) → Legal at m → IsLineMade at games hits m line → IsSoundLine at line
  line-sound at hits m line legal made = record {
    legal = let L : Move → Type 0 = λ n. Legal at n in subst L (sym made.next) legal;
    san = let S : Move → Type 0 = λ n. SanText at n line.san in subst S (sym made.next) made.san;
    game = let G : Option Listed → Type 0 = λ g. IfSome g HasSoundClasses in
        subst G (sym made.game) (shown-sound m (shown_by (entries_where hits (plays m) (λ row. row.top))));
  }

  lines-sound : (at : Position) (hits : List NumberedRow) (sums : List MoveSum) (lines : List MoveLine)
      → AllZip (λ (sum : MoveSum) line. IsLineMade at games hits sum.next line) sums lines → AllByRecursion (λ (sum : MoveSum). Legal at sum.next) sums
      → AllByRecursion (IsSoundLine at) lines
  lines-sound at hits [] [] zip each = tt
  lines-sound at hits [] (line ∷ lines) zip each = absurd zip
  lines-sound at hits (sum ∷ sums) [] zip each = absurd zip
  lines-sound at hits (sum ∷ sums) (line ∷ lines) zip each =
      (line-sound at hits sum.next line each.0 zip.0, lines-sound at hits sums lines zip.1 each.1)

  pub sound-answer : (query : Query) (hits : List NumberedRow) (found : Found) → AllByRecursion (λ m. Legal query.at m) (moves_in hits)
      → IsPutTogether query games hits found → IsSoundAnswer query.at found
  sound-answer query hits found legal is =
      let H : List Listed → Type 0 = AllByRecursion HasSoundClasses in
      record {
        moves = lines-sound query.at hits (map (sum_as hits) (best (before_by_total hits) query.moves (moves_in hits))) found.moves is.lines
            (sums-have (λ m. Legal query.at m) hits query.moves legal);
        top = subst H (sym is.top.are_listed) (listed-sound (λ row. row.top) is.top.rows (take query.top is.top.entries));
        recent = subst H (sym is.recent.are_listed) (listed-sound (λ row. row.recent) is.recent.rows (take query.recent is.recent.entries));
      }

-- ---- moves

pub sound-legal : (at : Position) (lines : List MoveLine) → AllByRecursion (IsSoundLine at) lines → AllByRecursion (λ line. Legal at line.next) lines
sound-legal at [] each = tt
sound-legal at (line ∷ lines) each = (each.0.legal, sound-legal at lines each.1)
