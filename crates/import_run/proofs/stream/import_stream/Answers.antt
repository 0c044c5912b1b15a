use Rattle.std.proofs.Common.{◌≡◌, ◌∙◌, ℕ, List, [], Option, Some, ap, sym, subst, arith}
use Rattle.published_index.specs.Places.{Drawing}
use Rattle.ingest_desk.specs.Drawn.{DrawsFor}
use Rattle.import_run.specs.declared.open_import.OpenImport.{OpenImport}
use Rattle.import_run.specs.declared.underway.Underway.{Underway}
use Rattle.import_run.specs.Committing.{Store, store_of}
use Rattle.import_run.specs.Underway.{CanSettle, IsUnderway, StopsReading}
use Rattle.import_run.proofs.DrawLemmas.{draws-none, draws-same, draws-told}
use Rattle.import_run.proofs.LabelLemmas.{imports_as, imports_beside_as}
use Rattle.import_run.proofs.OverLemmas.{lacking_beside, lacking_told, stopped_beside, stopped_told}
use Rattle.import_run.proofs.stream.import_stream.Goals as goal

module _ {J : Type 0} where
  settle_own : (label : List ℕ) (state : Underway J) → CanSettle label state → CanSettle state.import.group.label state
  settle_own label state can = subst (λ (l : List ℕ). CanSettle l state) (sym can.label_is) can

  module _ (label : List ℕ) (old mid : Underway J) (same : mid.import ≡ old.import) where
    -- what is settled is as it was
    same_label : CanSettle label old → mid.import.group.label ≡ label
    same_label can = ap (λ (i : OpenImport J). i.group.label) same ∙ can.label_is

    settle_on : (new : Underway J) → CanSettle label old → CanSettle mid.import.group.label new → CanSettle label new
    settle_on new can on = subst (λ (l : List ℕ). CanSettle l new) (same_label can) on

    settle_still : CanSettle old.import.group.label mid → CanSettle mid.import.group.label mid
    settle_still can = subst (λ (i : OpenImport J). CanSettle i.group.label mid) (sym same) can

    drawn_still : (before after : Drawing) → DrawsFor 0 old.import.receipts.items before after → DrawsFor 0 mid.import.receipts.items before after
    drawn_still before after drawn = subst (λ (i : OpenImport J). DrawsFor 0 i.receipts.items before after) (sym same) drawn

-- ---- a round

pub rounds-init : goal.rounds-init
rounds-init g c =
    let told = g.C.Committer.told c.args.committer.now in
    record {
      ready = c.new-state.ensures.ready;
      goes = c.new-state.ensures.starts (g.S.Source.source c.args.source.now) told;
      since = g.met.C.Committer.since_then c.args.committer.now;
      drawn = draws-same 0 [] _ _ _ c.new-state.ensures.none (draws-none _);
    }

pub end-requires : goal.end-requires
end-requires g c = record { ready = settle_own c.args.label c.rounds.state c.rounds.invariant.ready }

pub round-requires-clause-ready : goal.round-requires-clause-ready
round-requires-clause-ready g c = λ κs within. settle_still c.args.label c.rounds.state c.end.new.self c.end.ensures.import c.in-Ok-None.ensures.ready

pub round-requires-clause-work : goal.round-requires-clause-work
round-requires-clause-work g c = λ κs within. c.in-Ok-None.ensures.work c.in-Ok-None.field-0-is

pub rounds-preserved : goal.rounds-preserved
rounds-preserved g c =
    let before = c.rounds.invariant in
    let source = g.S.Source.source c.args.source.now in
    let told = g.C.Committer.told c.args.committer.now in
    let same = c.end.ensures.import in
    record {
      ready = settle_on c.args.label c.rounds.state c.end.new.self same c.round.new.self before.ready c.in-Ok.ensures.ready;
      goes = c.in-Ok.ensures.goes source told (c.in-Ok-None.ensures.goes c.in-Ok-None.field-0-is source told (g.C.Committer.told c.rounds.committer) before.goes);
      since = g.met.C.Committer.since_before c.args.committer.now c.rounds.committer c.round.new.committer before.since c.round.ensures.since;
      drawn = c.in-Ok.ensures.drawn _ (drawn_still c.args.label c.rounds.state c.end.new.self same _ _ before.drawn);
    }

pub rounds-smaller : goal.rounds-smaller
rounds-smaller g c = omega (arith, c.in-Ok.ensures.less, c.in-Ok-None.ensures.less)

-- ---- all that is whole is settled

pub returns-in-Ok-Some-clause-told : goal.returns-in-Ok-Some-clause-told
returns-in-Ok-Some-clause-told g c = λ start is.
    let before = c.rounds.invariant in
    let source = g.S.Source.source c.args.source.now in
    let told = g.C.Committer.told c.rounds.committer in
    let P : Option Store → Type 0 = λ s. IsUnderway source (g.S.Source.source c.rounds.source) s c.rounds.state told in
    imports_as (same_label c.args.label c.rounds.state c.end.new.self c.end.ensures.import before.ready)
    (c.report.ensures.told source (g.S.Source.source c.end.new.source) start told ((rw c.in-Ok-Some.field-0-is at c.in-Ok-Some.ensures.over) source (Some (store_of start)) told (subst P is before.goes)))

pub returns-in-Ok-Some-clause-beside : goal.returns-in-Ok-Some-clause-beside
returns-in-Ok-Some-clause-beside g c =
    let before = c.rounds.invariant in
    let source = g.S.Source.source c.args.source.now in
    let start = g.C.Committer.told c.args.committer.now in
    let told = g.C.Committer.told c.rounds.committer in
    imports_beside_as (same_label c.args.label c.rounds.state c.end.new.self c.end.ensures.import before.ready)
    (c.report.ensures.beside source (g.S.Source.source c.end.new.source) start told ((rw c.in-Ok-Some.field-0-is at c.in-Ok-Some.ensures.over) source start told before.goes))

pub returns-in-Ok-Some-clause-drawn : goal.returns-in-Ok-Some-clause-drawn
returns-in-Ok-Some-clause-drawn g c = c.report.ensures.drawn _ _ (drawn_still c.args.label c.rounds.state c.end.new.self c.end.ensures.import _ _ c.rounds.invariant.drawn)

pub returns-in-Ok-Some-clause-since : goal.returns-in-Ok-Some-clause-since
returns-in-Ok-Some-clause-since g c = c.rounds.invariant.since

-- ---- memory was wanting for the last cuts

pub returns-in-Err-clause-told : goal.returns-in-Err-clause-told
returns-in-Err-clause-told g c = λ start is.
    let before = c.rounds.invariant in
    let source = g.S.Source.source c.args.source.now in
    let told = g.C.Committer.told c.rounds.committer in
    let P : Option Store → Type 0 = λ s. IsUnderway source (g.S.Source.source c.rounds.source) s c.rounds.state told in
    let report = c.report-in-Err.ensures in
    imports_as (same_label c.args.label c.rounds.state c.end.new.self c.end.ensures.import before.ready)
    (lacking_told source (g.S.Source.source c.end.new.source) c.end.new.self.import c.report-in-Err.result told report.end report.receipts report.refused report.clashes start
    (c.in-Err.ensures.lacks source (Some (store_of start)) told (subst P is before.goes)))

pub returns-in-Err-clause-beside : goal.returns-in-Err-clause-beside
returns-in-Err-clause-beside g c =
    let before = c.rounds.invariant in
    let source = g.S.Source.source c.args.source.now in
    let start = g.C.Committer.told c.args.committer.now in
    let told = g.C.Committer.told c.rounds.committer in
    let report = c.report-in-Err.ensures in
    imports_beside_as (same_label c.args.label c.rounds.state c.end.new.self c.end.ensures.import before.ready)
    (lacking_beside source (g.S.Source.source c.end.new.source) c.end.new.self.import c.report-in-Err.result told report.end report.receipts report.refused report.clashes start
    (c.in-Err.ensures.lacks source start told before.goes))

pub returns-in-Err-clause-drawn : goal.returns-in-Err-clause-drawn
returns-in-Err-clause-drawn g c =
    draws-same _ _ _ _ _ c.report-in-Err.ensures.receipts (drawn_still c.args.label c.rounds.state c.end.new.self c.end.ensures.import _ _ c.rounds.invariant.drawn)

pub returns-in-Err-clause-since : goal.returns-in-Err-clause-since
returns-in-Err-clause-since g c = c.rounds.invariant.since

-- ---- a group ended the import

pub returns-in-Err-Fault-clause-told : goal.returns-in-Err-Fault-clause-told
returns-in-Err-Fault-clause-told g c = λ start is.
    let before = c.rounds.invariant in
    let source = g.S.Source.source c.args.source.now in
    let told = g.C.Committer.told c.rounds.committer in
    let P : Option Store → Type 0 = λ s. IsUnderway source (g.S.Source.source c.rounds.source) s c.rounds.state told in
    let stopped = c.report_stop.ensures in
    let goes = c.in-Ok-None.ensures.goes c.in-Ok-None.field-0-is source (Some (store_of start)) told (subst P is before.goes) in
    let told' = g.C.Committer.told c.round.new.committer in
    let stops : StopsReading source (g.S.Source.source c.round.new.source) (Some (store_of start)) c.round.new.self.import c.in-Err-Fault.stopped told' =
    (rw c.in-Err-Fault.field-0-is at c.in-Err-Fault.ensures.goes) source (Some (store_of start)) goes in
    imports_as (c.round.ensures.label ∙ same_label c.args.label c.rounds.state c.end.new.self c.end.ensures.import before.ready)
    (stopped_told source (g.S.Source.source c.round.new.source) c.round.new.self.import c.report_stop.result told' _ stopped.early stopped.beside stopped.comes start
    (subst (λ stopped. StopsReading source (g.S.Source.source c.round.new.source) (Some (store_of start)) c.round.new.self.import stopped told') (sym c.in-Err-Fault.stopped-is) stops))

pub returns-in-Err-Fault-clause-beside : goal.returns-in-Err-Fault-clause-beside
returns-in-Err-Fault-clause-beside g c =
    let before = c.rounds.invariant in
    let source = g.S.Source.source c.args.source.now in
    let start = g.C.Committer.told c.args.committer.now in
    let told = g.C.Committer.told c.rounds.committer in
    let stopped = c.report_stop.ensures in
    let goes = c.in-Ok-None.ensures.goes c.in-Ok-None.field-0-is source start told before.goes in
    let told' = g.C.Committer.told c.round.new.committer in
    let stops : StopsReading source (g.S.Source.source c.round.new.source) start c.round.new.self.import c.in-Err-Fault.stopped told' =
    (rw c.in-Err-Fault.field-0-is at c.in-Err-Fault.ensures.goes) source start goes in
    imports_beside_as (c.round.ensures.label ∙ same_label c.args.label c.rounds.state c.end.new.self c.end.ensures.import before.ready)
    (stopped_beside source (g.S.Source.source c.round.new.source) c.round.new.self.import c.report_stop.result told' _ stopped.early stopped.beside start
    (subst (λ stopped. StopsReading source (g.S.Source.source c.round.new.source) start c.round.new.self.import stopped told') (sym c.in-Err-Fault.stopped-is) stops))

pub returns-in-Err-Fault-clause-drawn : goal.returns-in-Err-Fault-clause-drawn
returns-in-Err-Fault-clause-drawn g c =
    c.report_stop.ensures.drawn _ _ ((rw c.in-Err-Fault.field-0-is at c.in-Err-Fault.ensures.drawn) _ (drawn_still c.args.label c.rounds.state c.end.new.self c.end.ensures.import _ _ c.rounds.invariant.drawn))

pub returns-in-Err-Fault-clause-since : goal.returns-in-Err-Fault-clause-since
returns-in-Err-Fault-clause-since g c = g.met.C.Committer.since_before c.args.committer.now c.rounds.committer c.round.new.committer c.rounds.invariant.since c.round.ensures.since

-- ---- memory was wanting in a round

pub returns-in-Err-OutOfMemory-clause-told : goal.returns-in-Err-OutOfMemory-clause-told
returns-in-Err-OutOfMemory-clause-told g c = λ start is.
    let before = c.rounds.invariant in
    let source = g.S.Source.source c.args.source.now in
    let told = g.C.Committer.told c.rounds.committer in
    let P : Option Store → Type 0 = λ s. IsUnderway source (g.S.Source.source c.rounds.source) s c.rounds.state told in
    let report = c.report-in-Err-OutOfMemory.ensures in
    let goes = c.in-Ok-None.ensures.goes c.in-Ok-None.field-0-is source (Some (store_of start)) told (subst P is before.goes) in
    imports_as (c.round.ensures.label ∙ same_label c.args.label c.rounds.state c.end.new.self c.end.ensures.import before.ready)
    (lacking_told source (g.S.Source.source c.round.new.source) c.round.new.self.import c.report-in-Err-OutOfMemory.result (g.C.Committer.told c.round.new.committer)
    report.end report.receipts report.refused report.clashes start ((rw c.in-Err-OutOfMemory.field-0-is at c.in-Err-OutOfMemory.ensures.goes) source (Some (store_of start)) goes))

pub returns-in-Err-OutOfMemory-clause-beside : goal.returns-in-Err-OutOfMemory-clause-beside
returns-in-Err-OutOfMemory-clause-beside g c =
    let before = c.rounds.invariant in
    let source = g.S.Source.source c.args.source.now in
    let start = g.C.Committer.told c.args.committer.now in
    let told = g.C.Committer.told c.rounds.committer in
    let report = c.report-in-Err-OutOfMemory.ensures in
    let goes = c.in-Ok-None.ensures.goes c.in-Ok-None.field-0-is source start told before.goes in
    imports_beside_as (c.round.ensures.label ∙ same_label c.args.label c.rounds.state c.end.new.self c.end.ensures.import before.ready)
    (lacking_beside source (g.S.Source.source c.round.new.source) c.round.new.self.import c.report-in-Err-OutOfMemory.result (g.C.Committer.told c.round.new.committer)
    report.end report.receipts report.refused report.clashes start ((rw c.in-Err-OutOfMemory.field-0-is at c.in-Err-OutOfMemory.ensures.goes) source start goes))

pub returns-in-Err-OutOfMemory-clause-drawn : goal.returns-in-Err-OutOfMemory-clause-drawn
returns-in-Err-OutOfMemory-clause-drawn g c =
    draws-told c.report-in-Err-OutOfMemory.result _ _ _ c.report-in-Err-OutOfMemory.ensures.end c.report-in-Err-OutOfMemory.ensures.receipts
    ((rw c.in-Err-OutOfMemory.field-0-is at c.in-Err-OutOfMemory.ensures.drawn) _ (drawn_still c.args.label c.rounds.state c.end.new.self c.end.ensures.import _ _ c.rounds.invariant.drawn))

pub returns-in-Err-OutOfMemory-clause-since : goal.returns-in-Err-OutOfMemory-clause-since
returns-in-Err-OutOfMemory-clause-since g c = g.met.C.Committer.since_before c.args.committer.now c.rounds.committer c.round.new.committer c.rounds.invariant.since c.round.ensures.since
