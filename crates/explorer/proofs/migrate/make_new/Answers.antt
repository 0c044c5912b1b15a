use Rattle.std.proofs.Common.{inl, inr, refl, string_bytes}
use Rattle.explorer.specs.Lines.{ending_of}
use Rattle.explorer.specs.Migrate.{IsMadeBy}
use Rattle.explorer.proofs.StoreLemmas.{uses}
use Rattle.explorer.proofs.migrate.make_new.Goals as goal

pub returns-in_default : goal.returns-in_default
returns-in_default g c =
    let refuses = rw c.as_str.ensures.value at c.in_default.ensures.refuses in
    inl (_, refl, record { text = c.args.name; fault_is = refl; text_is = refl; refuses = refuses })

pub returns : goal.returns
returns g c =
    let hands = rw c.as_str.ensures.value at c.in-Ok.ensures.hands in
    let takes = rw c.as_str-2.ensures.value at c.close.ensures in
    inr (uses (string_bytes c.args.name) (λ handed returned. IsMadeBy c.args.journal.now handed returned (ending_of c.make_of-disk.result.outcome)) _ _ _ _ _
    c.make_of-disk.ensures.sized hands c.make_of-disk.ensures.makes takes)
