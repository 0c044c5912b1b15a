use Rattle.std.proofs.Common.{inl, inr, refl, string_bytes}
use Rattle.explorer.specs.Migrate.{NotReadFirst, ReadsFirst}
use Rattle.explorer.proofs.StoreLemmas.{uses}
use Rattle.explorer.proofs.migrate.read_old.Goals as goal

pub returns-in_default-clause-reads : goal.returns-in_default-clause-reads
returns-in_default-clause-reads g c =
    let refuses = rw c.as_str.ensures.value at c.in_default.ensures.refuses in
    inl (record { text = c.args.name; fault_is = refl; text_is = refl; refuses = refuses })

pub returns-in-Ok-read_first-clause-reads : goal.returns-in-Ok-read_first-clause-reads
returns-in-Ok-read_first-clause-reads g c =
    let hands = rw c.as_str.ensures.value at c.in-Ok.ensures.hands in
    let takes = rw c.as_str-in-Ok-read_first.ensures.value at c.close.ensures in
    uses (string_bytes c.args.name) (ReadsFirst c.in-Ok-read_first.opened.journal.items) _ _ _ _ _ c.read_first.ensures.sized hands c.in-Ok-read_first.ensures.reads takes

pub returns-clause-reads : goal.returns-clause-reads
returns-clause-reads g c =
    let hands = rw c.as_str.ensures.value at c.in-Ok.ensures.hands in
    let takes = rw c.as_str-in-Err.ensures.value at c.close-in-Err.ensures in
    inr (record {
      cause = c.in-Err.back.fault;
      fault_is = c.fault_of_opening.ensures;
      uses = uses (string_bytes c.args.name) (NotReadFirst c.in-Err.back.fault) _ _ _ _ _ c.read_first.ensures.sized hands c.in-Err.ensures.reads takes;
    })
