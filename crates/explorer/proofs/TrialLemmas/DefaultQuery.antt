-- A query string without a parameter asks something.
use Rattle.std.proofs.Common.{◌≡◌, true, [], Some, Result, Ok, Err, subst}
use Rattle.form_urlencoded.specs.Form.{raw_pairs, split}
use Rattle.explorer_model.specs.declared.chess.Position.{Position}
use Rattle.explorer_model.specs.declared.query.BadParameter.{BadParameter}
use Rattle.explorer_model.specs.declared.query.Query.{Query}
use Rattle.explorer_model.specs.Chess.{start}
use Rattle.explorer_model.specs.Query.{Line, LineReads, QueryReads, asked, query_from, standard_only, value_in}
use Rattle.explorer_model.specs.declared.query.Parameter.TheVariants.{Variant}
use Rattle.explorer_model.specs.Stop.{◌>>=◌}

-- the line of no move from the start
abbrev no_moves : Line
no_moves = record { moves = []; at = start }

-- it is not malformed
pub none_malformed : (bad : BadParameter) → QueryReads [] (Err bad) → ⊥
unfolding split raw_pairs value_in query_from
none_malformed bad (root, line, root_reads, line_reads, is) =
    let root_is : root ≡ Ok start = root_reads in
    let line_is : line ≡ Ok no_moves = subst (λ (r : Result Position BadParameter). LineReads r (Some []) line) root_is line_reads in
    let Q : Result Position BadParameter → Result Line BadParameter → Type 0 = λ r l.
    (let e : Result Query BadParameter = Err bad in e) ≡ (asked standard_only true Variant [] >>= λ standard. r >>= λ p. l >>= λ made. query_from [] p made) in
    let ends : Q (Ok start) (Ok no_moves) = subst (λ (l : Result Line BadParameter). Q (Ok start) l) line_is (subst (λ (r : Result Position BadParameter). Q r line) root_is is) in
    cc
