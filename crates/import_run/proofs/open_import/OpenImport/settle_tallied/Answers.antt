use Rattle.std.proofs.Common.{◌∷◌, [], ◌∙◌, ◌<◌, ◌-◌, List, None, Some, Ok, ap, sym, subst, refl, arith, length}
use Rattle.explorer_model.specs.declared.fault.Refusal.{Refusal}
use Rattle.import_run.specs.Beside.{last_batches}
use Rattle.import_run.specs.Rounds.{AnswerDecided}
use Rattle.import_run.proofs.AnsweredLemmas.{comes_alone, comes_drawn, comes_lacking, draws_one, notes_of_group}
use Rattle.import_run.proofs.CloseLemmas.{above_last, extended, few_left, lacks_behind, notes_same, stops_behind}
use Rattle.import_run.proofs.HandLemmas.{lacks_still}
use Rattle.import_run.proofs.NextLemmas.{lacks_none, lacks_one}
use Rattle.ingest_desk.specs.Drawn.{DrawsFor}
use Rattle.import_run.specs.Draws.{DrawsAsAnswered, most_untold_by}
use Rattle.import_run.proofs.DrawLemmas.{draws-few, draws-lacking, draws-receipt, draws-same, few-one, stopped-draws}
use Rattle.import_run.proofs.SettledLemmas.{settled_more, settled_stopped, settled_stored}
use Rattle.import_run.proofs.TakingLemmas.{by_lacking}
use Rattle.import_run.proofs.open_import.OpenImport.settle_tallied.Goals as goal

pub returns-in_err-reserve-clause-settles : goal.returns-in_err-reserve-clause-settles
returns-in_err-reserve-clause-settles g c =
    let told = g.C.Committer.told c.args.committer.now in
    λ start closed hand ascend holds s.
    by_lacking c.from_residual.result _ _ c.from_residual.ensures.1
    (lacks_behind start closed c.args.self.now _ c.reserve.ensures.items refl refl (notes_same _ _ refl) told told hand s (λ known is. lacks_still c.args.self.now.group.label known (hand ∷ []) told is))

pub returns-in_err-reserve-2-clause-settles : goal.returns-in_err-reserve-2-clause-settles
returns-in_err-reserve-2-clause-settles g c =
    let told = g.C.Committer.told c.args.committer.now in
    λ start closed hand ascend holds s.
    by_lacking c.from_residual-in_err-reserve-2.result _ _ c.from_residual-in_err-reserve-2.ensures.1
    (lacks_behind start closed c.args.self.now _ c.reserve.ensures.items c.reserve-2.ensures.items refl (notes_same _ _ refl) told told hand s (λ known is. lacks_still c.args.self.now.group.label known (hand ∷ []) told is))

pub returns-in_err-answer-clause-settles : goal.returns-in_err-answer-clause-settles
returns-in_err-answer-clause-settles g c =
    let memory = comes_lacking c.args.self.now.group.label _ c.in_err-answer.ensures.comes in
    let told = g.C.Committer.told c.args.committer.now in
    λ start closed hand ascend holds s.
    by_lacking c.from_residual-in_err-answer.result _ _ c.from_residual-in_err-answer.ensures.1
    (lacks_behind start closed c.args.self.now _ c.reserve.ensures.items c.reserve-2.ensures.items refl (notes_of_group c.settle.ensures.comes.runs) told (g.C.Committer.told c.settle.new.committer) hand s
    (λ known is. memory known hand ascend holds is))

pub returns-in_err-extend_from_slice-clause-settles : goal.returns-in_err-extend_from_slice-clause-settles
returns-in_err-extend_from_slice-clause-settles g c =
    let d = c.in_ok-answer in
    let settles = comes_alone c.args.self.now.group.label d.field-0 d.ensures.comes None c.in_default.is in
    let told = g.C.Committer.told c.args.committer.now in
    let told' = g.C.Committer.told c.settle.new.committer in
    λ start closed hand ascend holds s.
    by_lacking c.from_residual-in_err-extend_from_slice.result _ _ c.from_residual-in_err-extend_from_slice.ensures.1
    (lacks_behind start closed c.args.self.now _ c.reserve.ensures.items (c.in_err-extend_from_slice.ensures.items ∙ c.reserve-2.ensures.items) refl (notes_of_group c.settle.ensures.comes.runs) told told' hand s
    (λ known is. lacks_none known hand d.field-0.refused.items told' (settles known hand ascend holds is)))

pub returns-in_default-clause-settles : goal.returns-in_default-clause-settles
returns-in_default-clause-settles g c = λ start closed hand ascend holds s.
    let d = c.in_ok-answer in
    let old = c.args.self.now in
    let refused = extended c.extend_from_slice.new.self.items c.reserve-2.new.self.items c.as_slice.result.now old.refused.items d.field-0.refused.items c.in_ok-extend_from_slice.ensures.items c.reserve-2.ensures.items c.as_slice.ensures.value in
    settled_more old _ s hand d.field-0 d.ensures.comes ascend holds refl c.in_default.is refused c.reserve.ensures.items

pub returns-then-batches-last_batches-clause-settles : goal.returns-then-batches-last_batches-clause-settles
returns-then-batches-last_batches-clause-settles g c =
    let d = c.in_ok-answer in
    let settles = comes_alone c.args.self.now.group.label d.field-0 d.ensures.comes (Some (Ok c.in-Ok.receipt)) (c.in-Some.is ∙ ap Some c.in-Ok.is) in
    let told = g.C.Committer.told c.args.committer.now in
    let told' = g.C.Committer.told c.settle.new.committer in
    λ start closed hand ascend holds s.
    lacks_behind start closed c.args.self.now _ c.reserve.ensures.items c.reserve-2.ensures.items refl (notes_of_group c.settle.ensures.comes.runs) told told' hand s
    (λ known is. lacks_one known hand d.field-0.refused.items c.in-Ok.receipt told' (settles known hand ascend holds is))

pub returns-in_err-extend_from_slice-in-Ok-clause-settles : goal.returns-in_err-extend_from_slice-in-Ok-clause-settles
returns-in_err-extend_from_slice-in-Ok-clause-settles g c =
    let d = c.in_ok-answer in
    let settles = comes_alone c.args.self.now.group.label d.field-0 d.ensures.comes (Some (Ok c.in-Ok.receipt)) (c.in-Some.is ∙ ap Some c.in-Ok.is) in
    let told = g.C.Committer.told c.args.committer.now in
    let told' = g.C.Committer.told c.settle.new.committer in
    λ start closed hand ascend holds s.
    by_lacking c.from_residual-in_err-extend_from_slice-in-Ok.result _ _ c.from_residual-in_err-extend_from_slice-in-Ok.ensures.1
    (lacks_behind start closed c.args.self.now _ c.reserve.ensures.items (c.in_err-extend_from_slice-in-Ok.ensures.items ∙ c.reserve-2.ensures.items) refl (notes_of_group c.settle.ensures.comes.runs) told told' hand s
    (λ known is. lacks_one known hand d.field-0.refused.items c.in-Ok.receipt told' (settles known hand ascend holds is)))

pub returns-in-Ok-clause-settles : goal.returns-in-Ok-clause-settles
returns-in-Ok-clause-settles g c = λ start closed hand ascend holds s.
    let d = c.in_ok-answer in
    let old = c.args.self.now in
    let answer = c.in-Some.is ∙ ap Some c.in-Ok.is in
    let refused = extended c.extend_from_slice-in-Ok.new.self.items c.reserve-2.new.self.items c.as_slice-in-Ok-2.result.now old.refused.items d.field-0.refused.items c.in_ok-extend_from_slice-in-Ok.ensures.items c.reserve-2.ensures.items c.as_slice-in-Ok-2.ensures.value in
    let receipts = extended c.push_reserved.new.self.items c.reserve.new.self.items (c.in-Ok.receipt ∷ []) old.receipts.items (c.in-Ok.receipt ∷ []) c.push_reserved.ensures.items c.reserve.ensures.items refl in
    let last = c.last_batches.ensures ∙ ap (λ l. last_batches 0 l) (c.as_slice-in-Ok.ensures.value ∙ c.reserve.ensures.items) in
    let above : last_batches 0 old.receipts.items < c.in-Ok.receipt.batches = above_last c.batches.result c.last_batches.result c.in-Ok.receipt.batches (last_batches 0 old.receipts.items) c.if-batches-last_batches.false c.batches.ensures last in
    settled_stored old _ s hand d.field-0 d.ensures.comes ascend holds refl c.in-Ok.receipt answer refused receipts above

pub returns-clause-settles : goal.returns-clause-settles
returns-clause-settles g c = λ start closed hand ascend holds s.
    let d = c.in_ok-answer in
    let answer = c.in-Some.is ∙ ap Some c.in-Err.is in
    let told = g.C.Committer.told c.args.committer.now in
    let told' = g.C.Committer.told c.settle.new.committer in
    let by = d.ensures.comes.comes.group c.args.self.now.group.label hand ascend holds in
    let few = few_left c.args.self.now.group.label hand c.args.tallied by.examinations by.number holds by.are_examinations in
    let long = ap (λ (l : List Refusal). length l) by.refused_are in
    stops_behind start closed c.args.self.now _ c.reserve.ensures.items c.reserve-2.ensures.items refl (notes_of_group c.settle.ensures.comes.runs) told told' hand s _
    (settled_stopped hand d.field-0 d.ensures.comes ascend holds c.in-Err.fault _ answer c.end_of.ensures refl)
    (omega (arith, few, long, c.in_ok-reserve-2.ensures.ok, c.len.ensures, c.len-2.ensures, c.args.tallied.places.ok.0, c.args.tallied.refused.ok.0))

-- ---- what is drawn

pub returns-in_err-reserve-clause-drawn : goal.returns-in_err-reserve-clause-drawn
returns-in_err-reserve-clause-drawn g c = λ before h.
    draws-same (most_untold_by c.from_residual.result) c.args.self.now.receipts.items _ before _ c.reserve.ensures.items h

pub returns-in_err-reserve-2-clause-drawn : goal.returns-in_err-reserve-2-clause-drawn
returns-in_err-reserve-2-clause-drawn g c = λ before h.
    draws-same (most_untold_by c.from_residual-in_err-reserve-2.result) c.args.self.now.receipts.items _ before _ c.reserve.ensures.items h

pub returns-in_err-answer-clause-drawn : goal.returns-in_err-answer-clause-drawn
returns-in_err-answer-clause-drawn g c = λ before h.
    let same = draws-same 0 c.args.self.now.receipts.items _ before _ c.reserve.ensures.items h in
    draws-lacking c.from_residual-in_err-answer.result _ before _ c.from_residual-in_err-answer.ensures.1
    (draws-few 1 _ before _ _ same (draws_one c.in_err-answer.ensures.comes.runs))

pub returns-in_err-extend_from_slice-clause-drawn : goal.returns-in_err-extend_from_slice-clause-drawn
returns-in_err-extend_from_slice-clause-drawn g c = λ before h.
    let old = g.C.Committer.drawing c.args.committer.now in
    let new = g.C.Committer.drawing c.settle.new.committer in
    let drawn = subst (λ a. DrawsAsAnswered a old new) c.in_default.is (comes_drawn c.in_ok-answer.field-0 c.in_ok-answer.ensures.comes) in
    draws-same (most_untold_by c.from_residual-in_err-extend_from_slice.result) c.args.self.now.receipts.items _ before _ c.reserve.ensures.items
    (subst (λ d. DrawsFor 0 c.args.self.now.receipts.items before d) (sym drawn) h)

pub returns-in_default-clause-drawn : goal.returns-in_default-clause-drawn
returns-in_default-clause-drawn g c = λ before h.
    let old = g.C.Committer.drawing c.args.committer.now in
    let new = g.C.Committer.drawing c.settle.new.committer in
    let drawn = subst (λ a. DrawsAsAnswered a old new) c.in_default.is (comes_drawn c.in_ok-answer.field-0 c.in_ok-answer.ensures.comes) in
    draws-same 0 c.args.self.now.receipts.items _ before _ c.reserve.ensures.items
    (subst (λ d. DrawsFor 0 c.args.self.now.receipts.items before d) (sym drawn) h)

pub returns-then-batches-last_batches-clause-drawn : goal.returns-then-batches-last_batches-clause-drawn
returns-then-batches-last_batches-clause-drawn g c = λ before h.
    let old = g.C.Committer.drawing c.args.committer.now in
    let new = g.C.Committer.drawing c.settle.new.committer in
    let drawn = subst (λ a. DrawsAsAnswered a old new) (c.in-Some.is ∙ ap Some c.in-Ok.is) (comes_drawn c.in_ok-answer.field-0 c.in_ok-answer.ensures.comes) in
    let same = draws-same 0 c.args.self.now.receipts.items _ before _ c.reserve.ensures.items h in
    draws-few 1 _ before _ _ same (few-one (c.in-Ok.receipt.batches - 1) _ _ drawn)

pub returns-in_err-extend_from_slice-in-Ok-clause-drawn : goal.returns-in_err-extend_from_slice-in-Ok-clause-drawn
returns-in_err-extend_from_slice-in-Ok-clause-drawn g c = λ before h.
    let old = g.C.Committer.drawing c.args.committer.now in
    let new = g.C.Committer.drawing c.settle.new.committer in
    let drawn = subst (λ a. DrawsAsAnswered a old new) (c.in-Some.is ∙ ap Some c.in-Ok.is) (comes_drawn c.in_ok-answer.field-0 c.in_ok-answer.ensures.comes) in
    let same = draws-same 0 c.args.self.now.receipts.items _ before _ c.reserve.ensures.items h in
    draws-lacking c.from_residual-in_err-extend_from_slice-in-Ok.result _ before _ c.from_residual-in_err-extend_from_slice-in-Ok.ensures.1
    (draws-few 1 _ before _ _ same (few-one (c.in-Ok.receipt.batches - 1) _ _ drawn))

pub returns-in-Ok-clause-drawn : goal.returns-in-Ok-clause-drawn
returns-in-Ok-clause-drawn g c = λ before h.
    let old = g.C.Committer.drawing c.args.committer.now in
    let new = g.C.Committer.drawing c.settle.new.committer in
    let drawn = subst (λ a. DrawsAsAnswered a old new) (c.in-Some.is ∙ ap Some c.in-Ok.is) (comes_drawn c.in_ok-answer.field-0 c.in_ok-answer.ensures.comes) in
    let receipts = extended c.push_reserved.new.self.items c.reserve.new.self.items (c.in-Ok.receipt ∷ []) c.args.self.now.receipts.items (c.in-Ok.receipt ∷ []) c.push_reserved.ensures.items c.reserve.ensures.items refl in
    draws-same 0 _ _ before _ receipts (draws-receipt c.args.self.now.receipts.items c.in-Ok.receipt before _ _ h drawn)

pub returns-clause-drawn : goal.returns-clause-drawn
returns-clause-drawn g c = λ before h.
    let answer = c.in-Some.is ∙ ap Some c.in-Err.is in
    let decided = subst (λ a. AnswerDecided a) answer c.in_ok-answer.ensures.comes.comes.decided in
    let old = g.C.Committer.drawing c.args.committer.now in
    let new = g.C.Committer.drawing c.settle.new.committer in
    let drawn = subst (λ a. DrawsAsAnswered a old new) answer (comes_drawn c.in_ok-answer.field-0 c.in_ok-answer.ensures.comes) in
    draws-same 0 c.args.self.now.receipts.items _ before _ c.reserve.ensures.items
    (subst (λ d. DrawsFor 0 c.args.self.now.receipts.items before d) (sym (stopped-draws c.in-Err.fault _ _ decided drawn)) h)
