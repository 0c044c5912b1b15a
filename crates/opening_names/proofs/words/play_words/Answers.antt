use Rattle.std.proofs.Common.{◌≡◌, ℕ, List, Ok, Err, false, sym, ap, subst, ◌∙◌}
use Rattle.std.specs.Option.{option_copied}
use Rattle.explorer_model.specs.Openings.{is_empty, without_number}
use Rattle.explorer_model.specs.San.{SanReads}
use Rattle.opening_names.proofs.WordLemmas.{LeadsOn, empty-is, leads-nowhere, leads-played, leads-skipped}
use Rattle.opening_names.proofs.words.play_words.Goals as goal

pub returns-in_default-read_on : goal.returns-in_default-read_on
returns-in_default-read_on c =
    let text = c.args.text.now in
    let piece = c.split_piece.result.0.now in
    let word = c.without_number-word in
    let on = subst (λ o. LeadsOn text c.loop-rest.board (option_copied o)) c.in-Some.is c.loop-rest.invariant in
    let some : is_empty (without_number piece) ≡ false =
    ap is_empty (sym word.ensures) ∙ empty-is word.result.now ∙ sym c.is_empty.ensures ∙ c.if-not-is_empty.true in
    let R : List ℕ → Type 0 = λ w. SanReads c.loop-rest.board w (Err c.in_default-read_on.field-0) in
    leads-nowhere text c.loop-rest.board c.in-Some.text.now piece (option_copied c.split_piece.result.1) c.split_piece.ensures.pieces on
    c.in_default-read_on.field-0 some (subst R word.ensures c.in_default-read_on.ensures.reads)

pub loop-rest-preserved-in-Ok : goal.loop-rest-preserved-in-Ok
loop-rest-preserved-in-Ok c =
    let text = c.args.text.now in
    let piece = c.split_piece.result.0.now in
    let word = c.without_number-word in
    let on = subst (λ o. LeadsOn text c.loop-rest.board (option_copied o)) c.in-Some.is c.loop-rest.invariant in
    let some : is_empty (without_number piece) ≡ false =
    ap is_empty (sym word.ensures) ∙ empty-is word.result.now ∙ sym c.is_empty.ensures ∙ c.if-not-is_empty.true in
    let R : List ℕ → Type 0 = λ w. SanReads c.loop-rest.board w (Ok c.in-Ok.step) in
    leads-played text c.loop-rest.board c.in-Some.text.now piece (option_copied c.split_piece.result.1) c.split_piece.ensures.pieces on
    c.play_on.new.self c.in-Ok.step c.play_on.ensures some (subst R word.ensures c.in-Ok.ensures.reads)

pub loop-rest-preserved : goal.loop-rest-preserved
loop-rest-preserved c =
    let text = c.args.text.now in
    let on = subst (λ o. LeadsOn text c.loop-rest.board (option_copied o)) c.in-Some.is c.loop-rest.invariant in
    leads-skipped text c.loop-rest.board c.in-Some.text.now c.split_piece.result.0.now (option_copied c.split_piece.result.1) c.split_piece.ensures.pieces on
    (ap is_empty (sym c.without_number-word.ensures) ∙ empty-is c.without_number-word.result.now ∙ sym c.is_empty.ensures ∙ c.if-not-is_empty.false)
