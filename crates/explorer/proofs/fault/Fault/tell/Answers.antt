use Rattle.std.proofs.Common.{ℕ, List, ◌∷◌, [], codes, refl, subst, sym, string_bytes}
use Rattle.outside.specs.Stream.{Writes}
use Rattle.explorer.specs.declared.fault.Fault.{Fault}
use Rattle.explorer.specs.Lines.{TellsOf}
use Rattle.explorer.proofs.RunLemmas.{three_written}
use Rattle.explorer.proofs.fault.Fault.tell.Goals as goal

pub returns-in-CannotOpen : goal.returns-in-CannotOpen
returns-in-CannotOpen g c =
    let name = string_bytes c.in-CannotOpen.name in
    let old = g.S.Sink.sink c.args.sink.now in
    let first = g.S.Sink.sink c.put.new.sink in
    let second = g.S.Sink.sink c.put-in-CannotOpen.new.sink in
    let new = g.S.Sink.sink c.put-in-CannotOpen-2.new.sink in
    let named : Writes (name ∷ []) first second = subst (λ (l : List ℕ). Writes (l ∷ []) first second) c.as_bytes.ensures.value c.put-in-CannotOpen.ensures in
    subst (λ (f : Fault). TellsOf f old new) (sym c.in-CannotOpen.is) (
      codes "cannot open " ∷ name ∷ codes "\n" ∷ [],
      refl,
      three_written (codes "cannot open ") name (codes "\n") old first second new c.put.ensures named c.put-in-CannotOpen-2.ensures,
    )
