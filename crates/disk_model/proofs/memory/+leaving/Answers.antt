use Rattle.std.proofs.Common.{◌≡◌, ◌∙◌, ◌+◌, ◌-◌, true, List, ℕ, sym, ◌∷◌, ◌++◌, [], Some, length, reverse, ap, refl, arith, rules}
use Rattle.std.proofs.lemmas.List.Elements.{All-pop}
use Rattle.disk_model.specs.Memory.{FitsIn, after_write, content_of, torn_piece}
use Rattle.disk_model.specs.declared.call.DiskCall.{DiskCall}
use Rattle.disk_model.specs.declared.call.DiskCall.TheVariants.{Wrote, Synced}
use Rattle.disk_model.proofs.CrashLemmas.{content-over, fits-over, left-by-none, left-by-synced, left-over, torn-no-longer}
use Rattle.disk_model.proofs.MemoryCalls.{pushed}
use Rattle.disk_model.proofs.memory.+leaving.Goals as goal

pub leave-leave_earlier-requires : goal.leave-leave_earlier-requires
leave-leave_earlier-requires t c =
    let w = c.in-Some-Wrote in
    let rest = c.pop.new.self.items in
    let fit = All-pop (FitsIn c.args.room) c.args.calls.now.items rest c.pop.result c.pop.ensures.items c.requires.fit in
    let fewer : length rest + 1 ≡ length c.args.calls.now.items = search rules in
    (search rules, (fit.0, c.requires.room))

pub leave-overwrite_if_no_gap-requires-clause-inside : goal.leave-overwrite_if_no_gap-requires-clause-inside
leave-overwrite_if_no_gap-requires-clause-inside t c =
    let w = c.in-Some-Wrote in
    let rest = c.pop.new.self.items in
    let split : c.args.calls.now.items ≡ rest ++ Wrote w.at w.piece w.field-0-2 ∷ [] = cc (w.ensures.items, w.field-0-is) in
    let fit = All-pop (FitsIn c.args.room) c.args.calls.now.items rest (Some (Wrote w.at w.piece w.field-0-2)) split c.requires.fit in
    omega (
      arith,
      fit.1,
      ap length c.deref.ensures.value,
      ap length c.tear-torn.ensures,
      torn-no-longer c.args.number c.saturating_sub.result w.piece.items,
    )

pub leave-returns-in-Some-Wrote-clause-content : goal.leave-returns-in-Some-Wrote-clause-content
leave-returns-in-Some-Wrote-clause-content t c =
    let w = c.in-Some-Wrote in
    let e = c.leave_earlier.new.calls.items in
    let size : c.len.result ≡ length c.leave_earlier.new.bytes.items = search rules in
    let is = c.tear-torn.ensures ∙ ap (λ n. torn_piece c.args.number n w.piece.items) (c.saturating_sub.ensures ∙ ap (λ n. n - w.at) size) in
    let was = pushed e e _ (Wrote w.at c.tear-torn.result true) refl c.push_reserved.ensures.items in
    content-over c.args.number (reverse e) w.at w.piece c.tear-torn.result c.leave_earlier.new.bytes.items is (reverse e) _ was
    c.leave_earlier.ensures.content
    ∙ sym (c.overwrite_if_no_gap.ensures.written ∙ ap (λ (p : List ℕ). after_write w.at p true c.leave_earlier.new.bytes.items) c.deref.ensures.value)

pub leave-returns-in-Some-Wrote-clause-left : goal.leave-returns-in-Some-Wrote-clause-left
leave-returns-in-Some-Wrote-clause-left t c =
    let w = c.in-Some-Wrote in
    let rest = c.pop.new.self.items in
    let split : c.args.calls.now.items ≡ rest ++ Wrote w.at w.piece w.field-0-2 ∷ [] = cc (w.ensures.items, w.field-0-is) in
    let whole = pushed rest rest c.args.calls.now.items (Wrote w.at w.piece w.field-0-2) refl split in
    let size : c.len.result ≡ length c.leave_earlier.new.bytes.items = search rules in
    let is = c.tear-torn.ensures ∙ ap (λ n. torn_piece c.args.number n w.piece.items) (c.saturating_sub.ensures ∙ ap (λ n. n - w.at) size) in
    c.overwrite_if_no_gap.ensures.written ∙ ap (λ (p : List ℕ). after_write w.at p true c.leave_earlier.new.bytes.items) c.deref.ensures.value
    ∙ left-over c.args.number (reverse rest) w.at w.piece c.tear-torn.result c.leave_earlier.new.bytes.items is w.field-0-2
    (reverse c.args.calls.now.items) whole c.leave_earlier.ensures.left

pub leave-returns-in-Some-Wrote-clause-fit : goal.leave-returns-in-Some-Wrote-clause-fit
leave-returns-in-Some-Wrote-clause-fit t c =
    let w = c.in-Some-Wrote in
    let rest = c.pop.new.self.items in
    let split : c.args.calls.now.items ≡ rest ++ Wrote w.at w.piece w.field-0-2 ∷ [] = cc (w.ensures.items, w.field-0-is) in
    let fit = All-pop (FitsIn c.args.room) c.args.calls.now.items rest (Some (Wrote w.at w.piece w.field-0-2)) split c.requires.fit in
    let size : c.len.result ≡ length c.leave_earlier.new.bytes.items = search rules in
    let is = c.tear-torn.ensures ∙ ap (λ n. torn_piece c.args.number n w.piece.items) (c.saturating_sub.ensures ∙ ap (λ n. n - w.at) size) in
    fits-over c.args.number (reverse rest) w.at w.piece c.tear-torn.result c.leave_earlier.new.bytes.items is c.args.room
    c.leave_earlier.new.calls.items c.push_reserved.new.self.items c.push_reserved.ensures.items c.leave_earlier.ensures.fit fit.1

pub leave-returns-in-Some-Synced-clause-left : goal.leave-returns-in-Some-Synced-clause-left
leave-returns-in-Some-Synced-clause-left t c =
    let w = c.in-Some-Synced in
    let rest = c.pop.new.self.items in
    let split : c.args.calls.now.items ≡ rest ++ Synced ∷ [] = cc (w.ensures.items, w.field-0-is) in
    let whole = pushed rest rest c.args.calls.now.items Synced refl split in
    c.replay.ensures.content ∙ ap (λ (l : List DiskCall). content_of (reverse l)) c.deref-in-Some-Synced.ensures.value
    ∙ left-by-synced c.args.number (reverse rest) (reverse c.args.calls.now.items) whole

pub leave-returns-in-None-clause-left : goal.leave-returns-in-None-clause-left
leave-returns-in-None-clause-left t c =
    let none : c.pop.new.self.items ≡ [] = search rules in
    let all : c.args.calls.now.items ≡ [] = search rules in
    c.replay-in-None.ensures.content ∙ ap (λ (l : List DiskCall). content_of (reverse l)) c.deref-in-None.ensures.value
    ∙ left-by-none c.args.number (reverse c.pop.new.self.items) (reverse c.args.calls.now.items) (ap reverse none) (ap reverse all)

pub leave_earlier-leave-requires : goal.leave_earlier-leave-requires
leave_earlier-leave-requires t c = (search rules, (c.requires.fit, c.requires.room))
