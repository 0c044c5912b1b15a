use Rattle.std.proofs.Common.{refl}
use Rattle.import_run.proofs.DrawLemmas.{draws-same}
use Rattle.import_run.proofs.ReportOverLemmas.{bound_over, bound_over_beside, fault_over, fault_over_beside, whole_over, whole_over_beside}
use Rattle.import_run.proofs.underway.Underway.report.Goals as goal

pub returns-in-Whole-clause-told : goal.returns-in-Whole-clause-told
returns-in-Whole-clause-told g c = λ before now start told o.
    whole_over before now c.args.self c.report.result told c.requires.ready.ahead.below c.report.ensures.end c.report.ensures.receipts c.report.ensures.refused c.report.ensures.clashes start (rw c.in-Whole.is at o)

pub returns-in-Whole-clause-beside : goal.returns-in-Whole-clause-beside
returns-in-Whole-clause-beside g c = λ before now start told o.
    whole_over_beside before now c.args.self c.report.result told c.requires.ready.ahead.below c.report.ensures.end c.report.ensures.receipts c.report.ensures.refused c.report.ensures.clashes start (rw c.in-Whole.is at o)

pub returns-in-Whole-clause-drawn : goal.returns-in-Whole-clause-drawn
returns-in-Whole-clause-drawn g c = λ before after h. draws-same _ c.args.self.import.receipts.items _ before after c.report.ensures.receipts h

pub cut_off-requires : goal.cut_off-requires
cut_off-requires g c = record { few = c.requires.ready.ahead.takes.few; short = c.requires.ready.ahead.takes.short }

pub returns-in-ReadFault-clause-told : goal.returns-in-ReadFault-clause-told
returns-in-ReadFault-clause-told g c = λ before now start told o.
    fault_over before now c.args.self c.cut_off.result told c.requires.ready.ahead.below (record c.args.self.import { group = c.args.self.ahead.group }) refl c.requires.ready.ahead.label_is refl refl refl
    c.cut_off.ensures.settled c.cut_off.ensures.beside c.in-ReadFault.before c.in-ReadFault.after c.cut_off.ensures.end start (rw c.in-ReadFault.is at o)

pub returns-in-ReadFault-clause-beside : goal.returns-in-ReadFault-clause-beside
returns-in-ReadFault-clause-beside g c = λ before now start told o.
    fault_over_beside before now c.args.self c.cut_off.result told c.requires.ready.ahead.below (record c.args.self.import { group = c.args.self.ahead.group }) refl c.requires.ready.ahead.label_is refl refl refl
    c.cut_off.ensures.settled c.cut_off.ensures.beside c.in-ReadFault.before c.in-ReadFault.after c.cut_off.ensures.end start (rw c.in-ReadFault.is at o)

pub returns-in-ReadFault-clause-drawn : goal.returns-in-ReadFault-clause-drawn
returns-in-ReadFault-clause-drawn g c = λ before after h. draws-same _ c.args.self.import.receipts.items _ before after c.cut_off.ensures.receipts h

pub cut_off-requires-in-TooMuch : goal.cut_off-requires-in-TooMuch
cut_off-requires-in-TooMuch g c = record { few = c.requires.ready.ahead.takes.few; short = c.requires.ready.ahead.takes.short }

pub returns-clause-told : goal.returns-clause-told
returns-clause-told g c = λ before now start told o.
    bound_over before now c.args.self c.cut_off-in-TooMuch.result told c.requires.ready.ahead.below (record c.args.self.import { group = c.args.self.ahead.group }) refl c.requires.ready.ahead.label_is refl refl refl
    c.cut_off-in-TooMuch.ensures.settled c.cut_off-in-TooMuch.ensures.beside _ c.cut_off-in-TooMuch.ensures.end refl start (rw c.in-TooMuch.is at o)

pub returns-clause-beside : goal.returns-clause-beside
returns-clause-beside g c = λ before now start told o.
    bound_over_beside before now c.args.self c.cut_off-in-TooMuch.result told c.requires.ready.ahead.below (record c.args.self.import { group = c.args.self.ahead.group }) refl c.requires.ready.ahead.label_is refl refl refl
    c.cut_off-in-TooMuch.ensures.settled c.cut_off-in-TooMuch.ensures.beside _ c.cut_off-in-TooMuch.ensures.end refl start (rw c.in-TooMuch.is at o)

pub returns-clause-drawn : goal.returns-clause-drawn
returns-clause-drawn g c = λ before after h. draws-same _ c.args.self.import.receipts.items _ before after c.cut_off-in-TooMuch.ensures.receipts h
