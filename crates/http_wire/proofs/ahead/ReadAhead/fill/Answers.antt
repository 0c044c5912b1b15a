use Rattle.std.proofs.Common.{◌≡◌, ◌≤◌, ◌-◌, ◌++◌, List, ℕ, length, take, slice_range, sym, subst, ap, ◌∙◌, arith}
use Rattle.std.proofs.lemmas.List.{length-take-le}
use Rattle.std.specs.List.{copy_within}
use Rattle.plain_laws.specs.Results.{OnErr-from}
use Rattle.outside.specs.Stream.{Stream}
use Rattle.outside.proofs.StreamLemmas.{reads-gives}
use Rattle.http_wire.specs.declared.ahead.ReadAhead.TheInside.{Inside}
use Rattle.http_wire.proofs.Places.{part-before, part-more, part-moved}
use Rattle.http_wire.proofs.ahead.ReadAhead.fill.Goals.{then-self-eq8192, else-self-eq8192}
use Rattle.http_wire.proofs.ahead.ReadAhead.fill.Goals as goal

-- what is read ahead stays where it is moved
record Stays (inside : Inside) (old : List ℕ) : Type 0 where
  kept : slice_range inside.bytes inside.start inside.end ≡ old
  ordered : inside.start ≤ inside.end
  fits : inside.end ≤ length inside.bytes

stays-moved : (inside now : Inside) (old bytes : List ℕ) → inside.start ≤ inside.end → inside.end ≤ length inside.bytes
    → slice_range inside.bytes inside.start inside.end ≡ old
    → bytes ≡ copy_within inside.bytes inside.start inside.end 0 → length bytes ≡ length inside.bytes
    → now ≡ record { bytes = bytes; start = 0; end = inside.end - inside.start } → Stays now old
stays-moved inside now old bytes ordered fits kept moved long is =
    subst (λ (a : Inside). Stays a old) (sym is) (record {
      kept =
          ap (λ (list : List ℕ). slice_range list 0 (inside.end - inside.start)) moved
          ∙ part-moved inside.bytes inside.start inside.end ordered fits ∙ kept;
      ordered = omega arith;
      fits = omega arith;
    })

stays-there : (inside now : Inside) (old : List ℕ) → inside.start ≤ inside.end → inside.end ≤ length inside.bytes
    → slice_range inside.bytes inside.start inside.end ≡ old → now ≡ inside → Stays now old
stays-there inside now old ordered fits kept is =
    subst (λ (a : Inside). Stays a old) (sym is) (record { kept = kept; ordered = ordered; fits = fits })

pub returns-in_err-count-clause-stays : goal.returns-in_err-count-clause-stays
returns-in_err-count-clause-stays g c =
    let old = c.self.inside in
    let fits : old.end ≤ length old.bytes = omega (arith, c.self.told, c.self.invariant.1) in
    let inside = c.if-self-eq8192.self-inside in
    let stays : Stays inside c.args.self.now = elim c.if-self-eq8192.branch [
      | then-self-eq8192 w ↦
          stays-moved old inside c.args.self.now w.copy_within.new.self c.self.invariant.0 fits c.self.view_is
          w.copy_within.ensures.after w.copy_within.ensures.len w.self-inside-is
      | else-self-eq8192 w ↦ stays-there old inside c.args.self.now c.self.invariant.0 fits c.self.view_is w.self-inside-is
    ] in
    OnErr-from c.from_residual.result _
    (part-before inside.bytes c.read.new.into inside.start inside.end (8192 - inside.end) stays.fits ∙ stays.kept)

pub returns-clause-fills : goal.returns-clause-fills
returns-clause-fills g c =
    let old = c.self.inside in
    let fits : old.end ≤ length old.bytes = omega (arith, c.self.told, c.self.invariant.1) in
    let inside = c.if-self-eq8192.self-inside in
    let into = c.read.new.into in
    let count = c.in_ok-count.count in
    let gives = c.in_ok-count.ensures.gives in
    let stays : Stays inside c.args.self.now = elim c.if-self-eq8192.branch [
      | then-self-eq8192 w ↦
          stays-moved old inside c.args.self.now w.copy_within.new.self c.self.invariant.0 fits c.self.view_is
          w.copy_within.ensures.after w.copy_within.ensures.len w.self-inside-is
      | else-self-eq8192 w ↦ stays-there old inside c.args.self.now c.self.invariant.0 fits c.self.view_is w.self-inside-is
    ] in
    record {
      got = take count into;
      counted = sym (length-take-le count into gives.within);
      behind =
          part-more inside.bytes into inside.start inside.end (8192 - inside.end) count stays.ordered stays.fits gives.within
          ∙ ap (λ front. front ++ take count into) stays.kept;
      reads = reads-gives count into _ _ gives;
      ended = gives.ended;
      faults = ap (λ (s : Stream). s.read_faults) gives.rest;
    }
