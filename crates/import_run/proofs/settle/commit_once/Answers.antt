use Rattle.std.proofs.Common.{arith, ◌≤◌, ℕ, List, [], ◌∷◌, ◌++◌, Some, Ok, Err, length, option_map, ap, ◌∙◌, subst, refl}
use Rattle.std.proofs.lemmas.List.{length-map}
use Rattle.std.specs.List.{All, AllZip}
use Rattle.std.specs.Prelude.{is_none}
use Rattle.explorer_model.specs.declared.archive.Placed.{Placed}
use Rattle.explorer_model.specs.Cuts.{text_limit}
use Rattle.explorer_model.specs.Imports.{Candidate, candidates, numbers_of, verdicts}
use Rattle.batch_tally.specs.Tallying.{IsExaminationOfText}
use Rattle.ingest_desk.specs.Clashes.{clashes_from}
use Rattle.ingest_desk.specs.declared.fault.CommitFault.TheVariants as faults
use Rattle.import_run.specs.Answered.{Committed, notes_of}
use Rattle.import_run.specs.Grouping.{merged}
use Rattle.import_run.specs.Labelling.{under}
use Rattle.import_run.specs.Settling.{id_of, kept, left_by, placed}
use Rattle.import_run.proofs.AnsweredLemmas.{notes_both, notes_grow, once_again, once_before, once_behind, once_ended, once_for}
use Rattle.import_run.proofs.HandLemmas.{batch_texts, counted_ids, decided, left_lt, more, short, size_is, size_made}
use Rattle.import_run.proofs.CloseLemmas.{clash_names, extended}
use Rattle.import_run.proofs.LabelLemmas.{label_is}
use Rattle.import_run.proofs.VerdictLemmas.{again, fewer_fresh, fewer_read, hand_made}
use Rattle.import_run.proofs.settle.commit_once.Goals as goal

pub name-requires-clause-few : goal.name-requires-clause-few
name-requires-clause-few g c =
    let x = c.in-Clash in
    let cl = (rw x.is at c.in-Err.ensures.ran).allows.0.clash in
    let same = ap (λ b. length b.texts) c.in_ok-batch-in-Clash.ensures.batch in
    omega (arith, same, c.in_ok-batch-in-Clash.ensures.counted.batch.few)

pub name-requires-clause-long : goal.name-requires-clause-long
name-requires-clause-long g c =
    let h = c.requires.hand in
    let x = c.in-Clash in
    let cl = (rw x.is at c.in-Err.ensures.ran).allows.0.clash in
    let N = numbers_of cl.1.1.0 in
    let theirs = batch_texts c.args.counted.batch.label h.candidates c.args.counted.batch h.counts.batch in
    let texts = ap (λ b. b.texts) (c.in_ok-batch-in-Clash.ensures.batch ∙ ap (λ t. t.batch) cl.0) ∙ theirs in
    let pairs = cl.1.1.1.1 ∙ ap (clashes_from 0 N) (counted_ids h.candidates c.args.counted h.counts) in
    let size = ap length texts in
    let long = ap length (c.as_slice.ensures.value ∙ h.places_are) in
    omega (arith, size, long, length-map h.candidates (λ (a : Candidate). a.text), length-map h.candidates (λ (a : Candidate). a.place))

pub tally-requires-clause-few : goal.tally-requires-clause-few
tally-requires-clause-few g c =
    let h = c.requires.hand in
    let x = c.in-Clash in
    let cl = (rw x.is at c.in-Err.ensures.ran).allows.0.clash in
    let N = numbers_of cl.1.1.0 in
    let theirs = batch_texts c.args.counted.batch.label h.candidates c.args.counted.batch h.counts.batch in
    let texts = ap (λ b. b.texts) (c.in_ok-batch-in-Clash.ensures.batch ∙ ap (λ t. t.batch) cl.0) ∙ theirs in
    let pairs = cl.1.1.1.1 ∙ ap (clashes_from 0 N) (counted_ids h.candidates c.args.counted h.counts) in
    let named = c.in_ok-named-in-Clash.ensures h.candidates N texts (c.as_slice.ensures.value ∙ h.places_are) (c.as_slice-in-Clash.ensures.value ∙ pairs) in
    let less = left_lt N 0 h.candidates (λ e. cl.1.0 (pairs ∙ e)) in
    let size = size_is c.args.counted.batch.label h.candidates (Some c.args.counted) h.counts in
    let counted = rw cl.0 at c.in_ok-batch-in-Clash.ensures.counted in
    rw named.1 (omega (arith, less, size, counted.batch.few, length-map (left_by N h.candidates) placed))

pub tally-requires-clause-short : goal.tally-requires-clause-short
tally-requires-clause-short g c =
    let h = c.requires.hand in
    let x = c.in-Clash in
    let cl = (rw x.is at c.in-Err.ensures.ran).allows.0.clash in
    let N = numbers_of cl.1.1.0 in
    let theirs = batch_texts c.args.counted.batch.label h.candidates c.args.counted.batch h.counts.batch in
    let texts = ap (λ b. b.texts) (c.in_ok-batch-in-Clash.ensures.batch ∙ ap (λ t. t.batch) cl.0) ∙ theirs in
    let pairs = cl.1.1.1.1 ∙ ap (clashes_from 0 N) (counted_ids h.candidates c.args.counted h.counts) in
    let named = c.in_ok-named-in-Clash.ensures h.candidates N texts (c.as_slice.ensures.value ∙ h.places_are) (c.as_slice-in-Clash.ensures.value ∙ pairs) in
    let counted = rw cl.0 at c.in_ok-batch-in-Clash.ensures.counted in
    let P : List (List ℕ) → Type 0 = λ l. All (λ (t : List ℕ). length t ≤ text_limit) l in
    rw named.1 (λ κs le. short (λ (t : List ℕ). length t ≤ text_limit) N h.candidates (subst P theirs counted.batch.short))

-- the rest is tallied again, and is shorter
pub returns-in-Clash-clause-comes : goal.returns-in-Clash-clause-comes
returns-in-Clash-clause-comes g c =
    let h = c.requires.hand in
    let x = c.in-Clash in
    let ran = rw x.is at c.in-Err.ensures.ran in
    let cl = ran.allows.0.clash in
    let N = numbers_of cl.1.1.0 in
    let theirs = batch_texts c.args.counted.batch.label h.candidates c.args.counted.batch h.counts.batch in
    let texts = ap (λ b. b.texts) (c.in_ok-batch-in-Clash.ensures.batch ∙ ap (λ t. t.batch) cl.0) ∙ theirs in
    let pairs = cl.1.1.1.1 ∙ ap (clashes_from 0 N) (counted_ids h.candidates c.args.counted h.counts) in
    let named = c.in_ok-named-in-Clash.ensures h.candidates N texts (c.as_slice.ensures.value ∙ h.places_are) (c.as_slice-in-Clash.ensures.value ∙ pairs) in
    let less = left_lt N 0 h.candidates (λ e. cl.1.0 (pairs ∙ e)) in
    let size = size_is c.args.counted.batch.label h.candidates (Some c.args.counted) h.counts in
    let made = c.in_ok-again-in-Clash.ensures in
    let P : List Placed → Type 0 = λ l. AllZip IsExaminationOfText l made.examinations in
    let both = again c.game_is_determined.ensures (left_by N h.candidates) made.examinations (fewer_read (λ a. is_none (N (id_of a))) h.candidates h.read)
    (fewer_fresh (λ a. is_none (N (id_of a))) [] h.candidates h.fresh) (subst P named.1 made.are_examinations) in
    let rest = candidates (verdicts made.examinations) in
    let after = size_made _ rest c.in_ok-again-in-Clash.again.tally _ made.tally c.with_label.ensures ∙ ap length both.0 in
    let clash : Committed g.row.J.Denot = record { handed = c.args.counted; answer = Err (faults.Clash x.handed x.pairs x.note) } in
    once_again _ c.args.counted c.args.places.items c.args.refused.items clash tt ran
    (extended c.push_reserved.new.self.items c.reserve.new.self.items (x.note ∷ []) c.args.clashes.now.items (x.note ∷ []) c.push_reserved.ensures.items c.reserve.ensures.items refl)
    (hand_made _ c.in_ok-named-in-Clash.named.rest.items c.in_ok-again-in-Clash.again _ c.in_ok-again-in-Clash.ensures c.with_label.ensures)
    (omega (arith, less, size, after))
    (λ label cuts before r.
    let cs = kept r.by.number (verdicts r.by.examinations) in
    let theirs = batch_texts label cs c.args.counted.batch r.by.made.batch in
    let texts = ap (λ b. b.texts) (c.in_ok-batch-in-Clash.ensures.batch ∙ ap (λ t. t.batch) cl.0) ∙ theirs in
    let pairs = cl.1.1.1.1 ∙ ap (clashes_from 0 N) (counted_ids cs c.args.counted r.by.made) in
    let named = c.in_ok-named-in-Clash.ensures cs N texts (c.as_slice.ensures.value ∙ r.places_are) (c.as_slice-in-Clash.ensures.value ∙ pairs) in
    let refused = c.in_ok-refused-in-Clash.ensures ∙ ap (λ l. merged l c.as_slice-in-Clash-3.result.now) c.as_slice-in-Clash-2.ensures.value ∙ ap (merged c.args.refused.items) c.as_slice-in-Clash-3.ensures.value in
    let named_is = ap (λ b. b.label) (c.in_ok-batch-in-Clash.ensures.batch ∙ ap (λ t. t.batch) cl.0) ∙ label_is label cs c.args.counted.batch r.by.made.batch in
    let tally_is = c.with_label.ensures ∙ ap (λ (l : List ℕ). option_map (under l) c.in_ok-again-in-Clash.again.tally) named_is in
    more c.game_is_determined.ensures cuts c.args.counted c.args.places.items c.args.refused.items before (before ++ clash ∷ []) r
    N c.in_ok-named-in-Clash.named.refused.items c.in_ok-refused-in-Clash.refused.items c.in_ok-named-in-Clash.named.rest.items c.in_ok-again-in-Clash.again _
    (notes_grow before (clash ∷ []))
    (clash_names (notes_of before) (notes_of (before ++ clash ∷ [])) x.note cl.1.1.0 (notes_both before (clash ∷ [])) cl.1.1.1.0)
    named.0 named.1 refused c.in_ok-again-in-Clash.ensures tally_is)

-- ---- the commit was decided

pub returns-in-Ok-clause-comes : goal.returns-in-Ok-clause-comes
returns-in-Ok-clause-comes g c = once_ended (Ok c.in-Ok.receipt) _ c.args.counted c.args.places.items c.in-Ok.ensures.ran c.reserve.ensures.items tt refl

pub returns-clause-comes : goal.returns-clause-comes
returns-clause-comes g c =
    once_ended (Err c.in-Err.fault) _ c.args.counted c.args.places.items c.in-Err.ensures.ran c.reserve.ensures.items
    (decided c.in-Err.fault c.in_default.not-Clash c.in_default.not-OutOfMemory) refl

-- ---- memory was wanting

pub returns-in_err-reserve-clause-comes : goal.returns-in_err-reserve-clause-comes
returns-in_err-reserve-clause-comes g c = once_before c.from_residual.result _ c.args.counted c.args.places.items c.args.refused.items refl refl c.reserve.ensures.items c.from_residual.ensures.1

pub returns-in_err-batch-in-Clash-clause-comes : goal.returns-in_err-batch-in-Clash-clause-comes
returns-in_err-batch-in-Clash-clause-comes g c =
    let x = c.in-Clash in
    once_behind c.from_residual-in_err-batch-in-Clash.result _ c.args.counted c.args.places.items c.args.refused.items
    (record { handed = c.args.counted; answer = Err (faults.Clash x.handed x.pairs x.note) }) tt (rw x.is at c.in-Err.ensures.ran)
    (extended c.push_reserved.new.self.items c.reserve.new.self.items (x.note ∷ []) c.args.clashes.now.items (x.note ∷ []) c.push_reserved.ensures.items c.reserve.ensures.items refl) c.from_residual-in_err-batch-in-Clash.ensures.1

pub returns-in_err-named-in-Clash-clause-comes : goal.returns-in_err-named-in-Clash-clause-comes
returns-in_err-named-in-Clash-clause-comes g c =
    let x = c.in-Clash in
    once_behind c.from_residual-in_err-named-in-Clash.result _ c.args.counted c.args.places.items c.args.refused.items
    (record { handed = c.args.counted; answer = Err (faults.Clash x.handed x.pairs x.note) }) tt (rw x.is at c.in-Err.ensures.ran)
    (extended c.push_reserved.new.self.items c.reserve.new.self.items (x.note ∷ []) c.args.clashes.now.items (x.note ∷ []) c.push_reserved.ensures.items c.reserve.ensures.items refl) c.from_residual-in_err-named-in-Clash.ensures.1

pub returns-in_err-refused-in-Clash-clause-comes : goal.returns-in_err-refused-in-Clash-clause-comes
returns-in_err-refused-in-Clash-clause-comes g c =
    let x = c.in-Clash in
    once_behind c.from_residual-in_err-refused-in-Clash.result _ c.args.counted c.args.places.items c.args.refused.items
    (record { handed = c.args.counted; answer = Err (faults.Clash x.handed x.pairs x.note) }) tt (rw x.is at c.in-Err.ensures.ran)
    (extended c.push_reserved.new.self.items c.reserve.new.self.items (x.note ∷ []) c.args.clashes.now.items (x.note ∷ []) c.push_reserved.ensures.items c.reserve.ensures.items refl) c.from_residual-in_err-refused-in-Clash.ensures.1

pub returns-in_err-again-in-Clash-clause-comes : goal.returns-in_err-again-in-Clash-clause-comes
returns-in_err-again-in-Clash-clause-comes g c =
    let x = c.in-Clash in
    once_behind c.from_residual-in_err-again-in-Clash.result _ c.args.counted c.args.places.items c.args.refused.items
    (record { handed = c.args.counted; answer = Err (faults.Clash x.handed x.pairs x.note) }) tt (rw x.is at c.in-Err.ensures.ran)
    (extended c.push_reserved.new.self.items c.reserve.new.self.items (x.note ∷ []) c.args.clashes.now.items (x.note ∷ []) c.push_reserved.ensures.items c.reserve.ensures.items refl) c.from_residual-in_err-again-in-Clash.ensures.1

pub returns-in-OutOfMemory-clause-comes : goal.returns-in-OutOfMemory-clause-comes
returns-in-OutOfMemory-clause-comes g c =
    let x = c.in-OutOfMemory in
    once_for _ x.stored c.args.counted c.args.places.items c.args.refused.items (rw x.is at c.in-Err.ensures.ran) c.reserve.ensures.items
