-- Each part of a query string has one reading.
use Rattle.std.proofs.Common.{◌≡◌, ◌∙◌, sym, ap, subst, inl, inr, ℕ, List, [], ◌∷◌, Option, Some, None, Result, Ok, Err}
use Rattle.explorer_model.specs.declared.chess.Move.{Move}
use Rattle.explorer_model.specs.declared.chess.Position.{Position}
use Rattle.explorer_model.specs.declared.notation.FenFault.{FenFault}
use Rattle.explorer_model.specs.declared.notation.UciFault.{UciFault}
use Rattle.explorer_model.specs.declared.player.BadPlayerParameter.{BadPlayerParameter}
use Rattle.explorer_model.specs.declared.player.PlayerQuery.{PlayerQuery}
use Rattle.explorer_model.specs.declared.query.BadParameter.{BadParameter}
use Rattle.explorer_model.specs.declared.query.Query.{Query}
use Rattle.explorer_model.specs.Chess.{after}
use Rattle.explorer_model.specs.Fen.{FenReads}
use Rattle.explorer_model.specs.Players.{PlayerQueryReads, player_query_by}
use Rattle.explorer_model.specs.Query.{Line, RootReads, MovesRead, PlayReads, LineReads, QueryReads, onto_line, pieces_of, pairs_of, value_in}
use Rattle.query_params.specs.Lines.{query_by}
use Rattle.explorer_model.specs.declared.query.Parameter.TheVariants.{Fen, Play}
use Rattle.explorer_model.specs.Uci.{UciReads}

-- a text has one reading as a position, and one as a move of a position
pub record AreDetermined : Type 0 where
  pub fen : (text : List ℕ) (r s : Result Position FenFault) → FenReads text r → FenReads text s → r ≡ s
  pub uci : (p : Position) (text : List ℕ) (r s : Result Move UciFault) → UciReads p text r → UciReads p text s → r ≡ s

module _ (are : AreDetermined) where
  root_determined : (value : Option (List ℕ)) (r s : Result Position BadParameter) → RootReads value r → RootReads value s → r ≡ s
  root_determined None r s first second = first ∙ sym second
  root_determined (Some []) r s first second = first ∙ sym second
  root_determined (Some (b ∷ bytes)) r s (inl (p, reads, is)) (inl (q, others, same)) =
      let one : Ok p ≡ Ok q = are.fen (b ∷ bytes) (Ok p) (Ok q) reads others in cc
  root_determined (Some (b ∷ bytes)) r s (inl (p, reads, is)) (inr (fault, others, same)) =
      let one : Ok p ≡ Err fault = are.fen (b ∷ bytes) (Ok p) (Err fault) reads others in cc
  root_determined (Some (b ∷ bytes)) r s (inr (fault, reads, is)) (inl (q, others, same)) =
      let one : Err fault ≡ Ok q = are.fen (b ∷ bytes) (Err fault) (Ok q) reads others in cc
  root_determined (Some (b ∷ bytes)) r s (inr (fault, reads, is)) (inr (other, others, same)) = is ∙ sym same

  moves_determined : (texts : List (List ℕ)) (p : Position) (r s : Result Line BadParameter) → MovesRead p texts r → MovesRead p texts s → r ≡ s
  moves_determined [] p r s first second = first ∙ sym second
  moves_determined (text ∷ texts) p r s (inl (m, rest, reads, more, is)) (inl (n, others, reading, further, same)) =
      let one : Ok m ≡ Ok n = are.uci p text (Ok m) (Ok n) reads reading in
      let move : n ≡ m = cc in
      let P : Move → Type 0 = λ k. MovesRead (after p k) texts others in
      let tail : rest ≡ others = moves_determined texts (after p m) rest others more (subst P move further) in
      is ∙ (ap (λ k. onto_line k rest) (sym move) ∙ (ap (λ l. onto_line n l) tail ∙ sym same))
  moves_determined (text ∷ texts) p r s (inl (m, rest, reads, more, is)) (inr (fault, reading, same)) =
      let one : Ok m ≡ Err fault = are.uci p text (Ok m) (Err fault) reads reading in cc
  moves_determined (text ∷ texts) p r s (inr (fault, reads, is)) (inl (n, others, reading, further, same)) =
      let one : Err fault ≡ Ok n = are.uci p text (Err fault) (Ok n) reads reading in cc
  moves_determined (text ∷ texts) p r s (inr (fault, reads, is)) (inr (other, reading, same)) = is ∙ sym same

  play_determined : (root : Position) (value : Option (List ℕ)) (r s : Result Line BadParameter) → PlayReads root value r → PlayReads root value s → r ≡ s
  play_determined root None r s first second = first ∙ sym second
  play_determined root (Some []) r s first second = first ∙ sym second
  play_determined root (Some (b ∷ bytes)) r s first second = moves_determined (pieces_of (b ∷ bytes)) root r s first second

  line_determined : (root : Result Position BadParameter) (value : Option (List ℕ)) (r s : Result Line BadParameter) → LineReads root value r → LineReads root value s → r ≡ s
  line_determined (Err fault) value r s first second = first ∙ sym second
  line_determined (Ok root) value r s first second = play_determined root value r s first second

  -- what is made of the position and of the line is determined
  made_determined : {A : Type 0} (pairs : List (List ℕ × List ℕ)) (made : Result Position BadParameter → Result Line BadParameter → A)
      (root root' : Result Position BadParameter) (line line' : Result Line BadParameter)
      → RootReads (value_in Fen pairs) root → LineReads root (value_in Play pairs) line
      → RootReads (value_in Fen pairs) root' → LineReads root' (value_in Play pairs) line' → made root line ≡ made root' line'
  made_determined pairs made root root' line line' rooted lined rooted' lined' =
      let same_root : root' ≡ root = root_determined (value_in Fen pairs) root' root rooted' rooted in
      let P : Result Position BadParameter → Type 0 = λ x. LineReads x (value_in Play pairs) line' in
      let same_line : line ≡ line' = line_determined root (value_in Play pairs) line line' lined (subst P same_root lined') in
      ap (λ y. made root y) same_line ∙ ap (λ x. made x line') (sym same_root)

  pub query_determined : (text : List ℕ) (r s : Result Query BadParameter) → QueryReads text r → QueryReads text s → r ≡ s
  query_determined text r s (root, line, rooted, lined, is) (root', line', rooted', lined', is') =
      let pairs = pairs_of text in
      is ∙ (made_determined pairs (query_by pairs) root root' line line' rooted lined rooted' lined' ∙ sym is')

  pub player_query_determined : (text : List ℕ) (r s : Result PlayerQuery BadPlayerParameter)
      → PlayerQueryReads text r → PlayerQueryReads text s → r ≡ s
  player_query_determined text r s (root, line, rooted, lined, is) (root', line', rooted', lined', is') =
      let pairs = pairs_of text in
      is ∙ (made_determined pairs (player_query_by pairs) root root' line line' rooted lined rooted' lined' ∙ sym is')
