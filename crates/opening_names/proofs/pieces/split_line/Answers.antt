use Rattle.std.proofs.Common.{◌∷◌, ap, sym, ◌∙◌, arith}
use Rattle.std.specs.Option.{option_copied}
use Rattle.std.proofs.lemmas.List.Splits.{length-slice_split}
use Rattle.explorer_model.specs.Openings.{ends_line, lines_of}
use Rattle.opening_names.specs.Reading.{pieces_left}
use Rattle.opening_names.proofs.PieceLemmas.{line-first, line-last}
use Rattle.opening_names.proofs.pieces.split_line.Goals as goal

pub returns-in-None-clause-lines : goal.returns-in-None-clause-lines
returns-in-None-clause-lines c =
    let line = c.split_piece.result.0.now in
    line-last c.args.text.now line (c.split_piece.ensures.pieces ∙ ap (λ o. line ∷ pieces_left ends_line (option_copied o)) c.in-None.is)

pub returns-in-Some-clause-lines : goal.returns-in-Some-clause-lines
returns-in-Some-clause-lines c =
    let line = c.split_piece.result.0.now in
    let more = c.in-Some.more.now in
    line-first c.args.text.now line more
    (c.split_piece.ensures.pieces ∙ ap (λ o. line ∷ pieces_left ends_line (option_copied o)) c.in-Some.is)
    (omega (arith, length-slice_split ends_line more))
    ∙ ap (λ l. l ∷ lines_of more) (sym c.without_return.ensures)
