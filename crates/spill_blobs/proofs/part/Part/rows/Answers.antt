use Rattle.std.proofs.Common.{◌≡◌, ◌<◌, ◌^◌, ℕ, List, length, refl, sym, ap, ◌∙◌, subst}
use Rattle.segment_blocks.specs.Kept.{KeptSpan}
use Rattle.spill_blobs.specs.Parts.{IsSpilled, Spilled}
use Rattle.spill_blobs.proofs.CostLemmas.{reads-of}
use Rattle.spill_blobs.proofs.JudgingLemmas.{cost-judged, found-given, found-judged, keyed-tidy, one-key, reads-found, reads-stopped, stopped-given, stopped-judged, judged-names, stopped-names}
use Rattle.spill_blobs.proofs.part.Part.rows.Goals as goal

pub judge_rows-requires-clause-keyed : goal.judge_rows-requires-clause-keyed
judge_rows-requires-clause-keyed g c = keyed-tidy c.args.at.now c.tidy_key-key.result c.tidy_key-key.ensures c.in-Ok.rows.items c.in-Ok.ensures.keyed

pub returns-in-Ok-clause-judged : goal.returns-in-Ok-clause-judged
returns-in-Ok-clause-judged g c =
    let part = c.args.self.now in
    let is : IsSpilled part = subst IsSpilled c.self.view_is c.self.invariant in
    let games_is : c.games.result ≡ length part.segment.classes =
    c.games.ensures ∙ ap (λ (k : KeptSpan). length k.classes) (ap (λ (p : Spilled). p.kept) c.self.view_is ∙ is.kept) in
    λ key tidy. found-judged part is c.args.at.now c.args.number c.games.result games_is c.tidy_key-key.result key
    (one-key c.tidy_is_determined.ensures c.args.at.now c.tidy_key-key.result key c.tidy_key-key.ensures tidy)
    (g.P.Port.port c.args.port.now) (g.P.Port.port c.rows_of.new.port) c.in-Ok.rows c.judge_rows.result c.in-Ok.ensures.comes c.judge_rows.ensures

pub returns-in-Ok-clause-found : goal.returns-in-Ok-clause-found
returns-in-Ok-clause-found g c =
    let part = c.args.self.now in
    let is : IsSpilled part = subst IsSpilled c.self.view_is c.self.invariant in
    let games_is : c.games.result ≡ length part.segment.classes =
    c.games.ensures ∙ ap (λ (k : KeptSpan). length k.classes) (ap (λ (p : Spilled). p.kept) c.self.view_is ∙ is.kept) in
    λ key tidy stands. found-given part is c.args.at.now c.args.number c.games.result games_is c.tidy_key-key.result key
    (one-key c.tidy_is_determined.ensures c.args.at.now c.tidy_key-key.result key c.tidy_key-key.ensures tidy)
    (g.P.Port.port c.args.port.now) (g.P.Port.port c.rows_of.new.port) c.in-Ok.ensures.begins stands c.in-Ok.rows c.judge_rows.result
    (c.tallied_rows_are_sound.ensures part.segment c.args.at.now c.tidy_key-key.result is.is_segment c.requires.valid c.tidy_key-key.ensures)
    c.in-Ok.ensures.comes c.judge_rows.ensures

pub returns-in-Ok-clause-faults : goal.returns-in-Ok-clause-faults
returns-in-Ok-clause-faults g c =
    reads-found c.args.at.now c.args.number c.games.result (g.P.Port.port c.args.port.now) (g.P.Port.port c.rows_of.new.port) c.in-Ok.rows.items c.judge_rows.result
    c.in-Ok.ensures.comes.1 c.judge_rows.ensures

pub returns-in-Err-clause-judged : goal.returns-in-Err-clause-judged
returns-in-Err-clause-judged g c =
    let part = c.args.self.now in
    let is : IsSpilled part = subst IsSpilled c.self.view_is c.self.invariant in
    λ key tidy. stopped-judged part is c.args.at.now c.args.number (length part.segment.classes) refl c.tidy_key-key.result key
    (one-key c.tidy_is_determined.ensures c.args.at.now c.tidy_key-key.result key c.tidy_key-key.ensures tidy)
    (g.P.Port.port c.args.port.now) (g.P.Port.port c.rows_of.new.port) c.in-Err.fault c.stop_of.result c.in-Err.ensures.comes c.stop_of.ensures

pub returns-in-Err-clause-found : goal.returns-in-Err-clause-found
returns-in-Err-clause-found g c =
    let part = c.args.self.now in
    let is : IsSpilled part = subst IsSpilled c.self.view_is c.self.invariant in
    λ key tidy stands. stopped-given part is c.args.at.now c.args.number (length part.segment.classes) refl c.tidy_key-key.result key
    (one-key c.tidy_is_determined.ensures c.args.at.now c.tidy_key-key.result key c.tidy_key-key.ensures tidy)
    (g.P.Port.port c.args.port.now) (g.P.Port.port c.rows_of.new.port) c.in-Err.ensures.begins stands c.in-Err.fault c.stop_of.result c.in-Err.ensures.comes
    c.stop_of.ensures

pub returns-in-Err-clause-faults : goal.returns-in-Err-clause-faults
returns-in-Err-clause-faults g c =
    reads-stopped c.args.at.now c.args.number 0 c.tidy_key-key.result _ _ (g.P.Port.port c.args.port.now) (g.P.Port.port c.rows_of.new.port) c.in-Err.fault
    c.stop_of.result c.in-Err.ensures.comes c.stop_of.ensures

pub returns-in-Ok-clause-reads : goal.returns-in-Ok-clause-reads
returns-in-Ok-clause-reads g c =
    let part = c.args.self.now in
    let is : IsSpilled part = subst IsSpilled c.self.view_is c.self.invariant in
    λ key digits tidy fits. reads-of c.tidy_key-key.result key part digits (g.P.Port.port c.args.port.now) c.args.steps.now c.rows_of.new.steps is.count
    (one-key c.tidy_is_determined.ensures c.args.at.now c.tidy_key-key.result key c.tidy_key-key.ensures tidy)
    (c.in-Ok.ensures.reads digits (subst (λ (ks : List (List ℕ)). length ks < 2 ^ digits) (sym is.index) fits))

pub returns-in-Err-clause-reads : goal.returns-in-Err-clause-reads
returns-in-Err-clause-reads g c =
    let part = c.args.self.now in
    let is : IsSpilled part = subst IsSpilled c.self.view_is c.self.invariant in
    λ key digits tidy fits. reads-of c.tidy_key-key.result key part digits (g.P.Port.port c.args.port.now) c.args.steps.now c.rows_of.new.steps is.count
    (one-key c.tidy_is_determined.ensures c.args.at.now c.tidy_key-key.result key c.tidy_key-key.ensures tidy)
    (c.in-Err.ensures.reads digits (subst (λ (ks : List (List ℕ)). length ks < 2 ^ digits) (sym is.index) fits))

pub returns-in-Ok-clause-cost : goal.returns-in-Ok-clause-cost
returns-in-Ok-clause-cost g c =
    let part = c.args.self.now in
    let is : IsSpilled part = subst IsSpilled c.self.view_is c.self.invariant in
    λ digits fits. cost-judged c.args.at.now c.args.number c.games.result c.in-Ok.rows.items c.judge_rows.result c.judge_rows.ensures c.args.steps.now c.rows_of.new.steps digits
    (c.in-Ok.ensures.cost digits (subst (λ (ks : List (List ℕ)). length ks < 2 ^ digits) (sym is.index) fits))

pub returns-in-Ok-clause-named : goal.returns-in-Ok-clause-named
returns-in-Ok-clause-named g c =
    judged-names c.args.at.now c.args.number c.games.result c.in-Ok.rows.items c.judge_rows.result c.judge_rows.ensures

pub returns-in-Err-clause-named : goal.returns-in-Err-clause-named
returns-in-Err-clause-named g c = stopped-names c.in-Err.fault c.args.number c.stop_of.result c.stop_of.ensures
