use Rattle.std.proofs.Common.{◌+◌, ℕ, Bool, arith, subst, sym, ap, ◌∙◌, inr}
use Rattle.outside.specs.Stream.{FailsToTake, Rises, Takes}
use Rattle.explorer_model.specs.declared.wire.Asked.TheVariants.{Done, Cut, ReadFault}
use Rattle.explorer_model.specs.Replies.{reply_text}
use Rattle.http_wire.specs.Asking.{Buffer}
use Rattle.session.specs.declared.serving.Ended.TheVariants as ends
use Rattle.session.specs.Backends.{state_of}
use Rattle.session.specs.Readers.{offer_of}
use Rattle.session.proofs.ConnectionLemmas.{comes-next, exchanged, reads-keep, served-idle, served-last, served-unwritten, serving-on}
use Rattle.session.proofs.ExchangeLemmas.{more-left}
use Rattle.session.proofs.serving.serve_one.Goals as goal

pub returns-in-Done-clause-served : goal.returns-in-Done-clause-served
returns-in-Done-clause-served g c link before i =
    let a = c.in-Done.ensures.asks c.requires.more in
    let write_faults = reads-keep a.got (g.L.Source.source c.args.link.now) (g.L.Source.source c.next-asked.new.link) a.reads in
    served-idle (offer_of c.args.reader.now) link before c.args.wire.now (g.L.Source.source c.args.link.now)
    (state_of g.I.Importer.importer c.args.backend.now) (g.L.Source.source c.next-asked.new.link)
    ends.Done a.got i a.reads (λ text wrote. wrote)
    (λ xs open_still count. inr (comes-next Done xs _ _ count open_still a.first, a.ended))
    (a.faults ∙ i.read_faults, write_faults ∙ i.write_faults)

pub returns-in-Cut-clause-served : goal.returns-in-Cut-clause-served
returns-in-Cut-clause-served g c link before i =
    let a = c.in-Cut.ensures.asks c.requires.more in
    let write_faults = reads-keep a.got (g.L.Source.source c.args.link.now) (g.L.Source.source c.next-asked.new.link) a.reads in
    served-idle (offer_of c.args.reader.now) link before c.args.wire.now (g.L.Source.source c.args.link.now)
    (state_of g.I.Importer.importer c.args.backend.now) (g.L.Source.source c.next-asked.new.link)
    ends.Cut a.got i a.reads (λ text wrote. wrote)
    (λ xs open_still count. (comes-next Cut xs _ _ count open_still a.first, a.ended))
    (a.faults ∙ i.read_faults, write_faults ∙ i.write_faults)

pub returns-in-ReadFault-clause-served : goal.returns-in-ReadFault-clause-served
returns-in-ReadFault-clause-served g c link before i =
    let a = c.in-ReadFault.ensures.asks c.requires.more in
    let write_faults = reads-keep a.got (g.L.Source.source c.args.link.now) (g.L.Source.source c.next-asked.new.link) a.reads in
    let rises = subst (λ (n : ℕ). Rises n (g.L.Source.source c.next-asked.new.link).read_faults) i.read_faults a.faults in
    served-idle (offer_of c.args.reader.now) link before c.args.wire.now (g.L.Source.source c.args.link.now)
    (state_of g.I.Importer.importer c.args.backend.now) (g.L.Source.source c.next-asked.new.link)
    ends.ReadFault a.got i a.reads (λ text wrote. wrote)
    (λ xs open_still count. comes-next ReadFault xs _ _ count open_still a.first)
    (rises, write_faults ∙ i.write_faults)

pub returns-in_default-reply-clause-served : goal.returns-in_default-reply-clause-served
returns-in_default-reply-clause-served g c link before i =
    let a = c.next-asked.ensures.asks c.requires.more in
    let l1 = g.L.Source.source c.args.link.now in
    let l2 = g.L.Source.source c.next-asked.new.link in
    let l3 = g.L.Source.source c.reply.new.link in
    let b1 = state_of g.I.Importer.importer c.args.backend.now in
    let b2 = state_of g.I.Importer.importer c.reply_to-reply.new.backend in
    let asked = c.next-asked.result in
    let reply = c.reply_to-reply.result in
    let e = exchanged (offer_of c.args.reader.now) link before c.args.wire.now c.next-asked.new.self l1 l2 b1 b2 asked reply c.requires.more i a c.reply_to-reply.ensures.replied in
    let fails = subst (λ (last : Bool). FailsToTake (reply_text reply last) l2 l3) c.closes-last.ensures c.in_default-reply.ensures.fails in
    served-unwritten (offer_of c.args.reader.now) link before asked reply c.next-asked.new.self.pending l2 b2 c.args.wire.now.more l3 e fails

pub returns-then-last-clause-served : goal.returns-then-last-clause-served
returns-then-last-clause-served g c link before i =
    let a = c.next-asked.ensures.asks c.requires.more in
    let l1 = g.L.Source.source c.args.link.now in
    let l2 = g.L.Source.source c.next-asked.new.link in
    let l3 = g.L.Source.source c.reply.new.link in
    let b1 = state_of g.I.Importer.importer c.args.backend.now in
    let b2 = state_of g.I.Importer.importer c.reply_to-reply.new.backend in
    let asked = c.next-asked.result in
    let reply = c.reply_to-reply.result in
    let e = exchanged (offer_of c.args.reader.now) link before c.args.wire.now c.next-asked.new.self l1 l2 b1 b2 asked reply c.requires.more i a c.reply_to-reply.ensures.replied in
    let takes = subst (λ (last : Bool). Takes (reply_text reply last) l2 l3) c.closes-last.ensures c.in-Ok.ensures.takes in
    served-last (offer_of c.args.reader.now) link before asked reply c.next-asked.new.self.pending l2 b2 c.args.wire.now.more l3 e takes (sym c.closes-last.ensures ∙ c.if-last.true)

pub returns-clause-serving : goal.returns-clause-serving
returns-clause-serving g c link before i =
    let a = c.next-asked.ensures.asks c.requires.more in
    let l1 = g.L.Source.source c.args.link.now in
    let l2 = g.L.Source.source c.next-asked.new.link in
    let l3 = g.L.Source.source c.reply.new.link in
    let b1 = state_of g.I.Importer.importer c.args.backend.now in
    let b2 = state_of g.I.Importer.importer c.reply_to-reply.new.backend in
    let asked = c.next-asked.result in
    let reply = c.reply_to-reply.result in
    let e = exchanged (offer_of c.args.reader.now) link before c.args.wire.now c.next-asked.new.self l1 l2 b1 b2 asked reply c.requires.more i a c.reply_to-reply.ensures.replied in
    let takes = subst (λ (last : Bool). Takes (reply_text reply last) l2 l3) c.closes-last.ensures c.in-Ok.ensures.takes in
    let stays = sym c.closes-last.ensures ∙ c.if-last.false in
    let left = more-left asked c.args.wire.now.more _ _ stays c.requires.more a.first in
    let pending = ap (λ (b : Buffer). b.pending) c.in-Ok.ensures.same in
    let more = ap (λ (b : Buffer). b.more + 1) c.in-Ok.ensures.same ∙ (ap (λ n. n + 1) a.more ∙ left.0) in
    serving-on (offer_of c.args.reader.now) link before asked reply c.next-asked.new.self.pending l2 b2 c.args.wire.now.more l3 e c.reply.new.self pending more takes stays

pub returns-clause-more : goal.returns-clause-more
returns-clause-more g c =
    let a = c.next-asked.ensures.asks c.requires.more in
    let stays = sym c.closes-last.ensures ∙ c.if-last.false in
    let left = more-left c.next-asked.result c.args.wire.now.more _ _ stays c.requires.more a.first in
    rw (c.in-Ok.ensures.same, a.more) left.1

pub returns-clause-fewer : goal.returns-clause-fewer
returns-clause-fewer g c =
    let a = c.next-asked.ensures.asks c.requires.more in
    let stays = sym c.closes-last.ensures ∙ c.if-last.false in
    let left = more-left c.next-asked.result c.args.wire.now.more _ _ stays c.requires.more a.first in
    rw (c.in-Ok.ensures.same, a.more) (omega (arith, left.0))
