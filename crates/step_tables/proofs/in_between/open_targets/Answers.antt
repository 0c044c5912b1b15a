use Rattle.std.proofs.Common.{◌≡◌, ◌≢◌, ◌↔◌, ℕ, ◌<◌, ◌==◌, true, false, true≢false, ◌⊎◌, inl, inr, ⊎_elim, sym, subst, ◌∙◌}
use Rattle.std.proofs.lemmas.Bool.Decides.{eqb_tells}
use Rattle.step_tables.specs.Bitboard.{Holds}
use Rattle.step_tables.specs.Squares.{IsUnblocked}
use Rattle.step_tables.proofs.BitboardLemmas.{Holds-zero, Holds-or}
use Rattle.step_tables.proofs.in_between.open_targets.Goals as goal

-- P is that the square is unblocked; the target goes out of the rest
module _ (P : ℕ → Type 0) (targets seen rest later target : ℕ)
    (others : (b : ℕ) → b < 64 → Holds later b ↔ (Holds rest b × b ≢ target))
    (all : (b : ℕ) → b < 64 → Holds targets b → P b → ¬ Holds rest b → Holds seen b) where
  all_but : (b : ℕ) → b < 64 → Holds targets b → P b → ¬ Holds later b → (b ≡ target) ⊎ Holds seen b
  all_but b h x y z =
      ⊎_elim (λ (same : (b == target ≡ true) × (b ≡ target)). inl same.1)
      (λ (apart : (b == target ≡ false) × (b ≢ target)). inr (all b h x y (λ r. z ((others b h).1 (r, apart.1)))))
      (eqb_tells b target)

at_target : (P : ℕ → Type 0) (b target : ℕ) → b ≡ target → P target → P b
at_target P b target e p = subst P (sym e) p

pub loop-rest-preserved-then-is_disjoint : goal.loop-rest-preserved-then-is_disjoint
loop-rest-preserved-then-is_disjoint c =
    let Open : ℕ → Type 0 = λ b. IsUnblocked c.args.occupied c.args.square b in
    let Taken : ℕ → Type 0 = λ b. Holds c.args.targets b × Open b in
    let loop = c.loop-rest.invariant in
    let either = Holds-or c.loop-rest.seen c.only-seen.result in
    let here : Taken c.lowest-target.result = (
      loop.left _ c.lowest-target.ensures.on_board c.lowest-target.ensures.within,
      λ s h x. c.is_disjoint.ensures.0 c.if-is_disjoint.true s h ((c.between.ensures s h).1 x),
    ) in
    record {
      left = λ b h x. loop.left b h ((c.without-rest.ensures.others b h).0 x).0;
      taken = λ b h x. ⊎_elim (loop.taken b h) (λ o. at_target Taken b _ ((c.only-seen.ensures b h).0 o) here) ((either b).0 x);
      all = λ b h x y z. (either b).1
          (⊎_elim (λ e. inr ((c.only-seen.ensures b h).1 e)) (λ o. inl o)
          (all_but Open c.args.targets c.loop-rest.seen c.loop-rest.rest c.without-rest.result c.lowest-target.result
          c.without-rest.ensures.others loop.all b h x y z));
    }

pub loop-rest-preserved : goal.loop-rest-preserved
loop-rest-preserved c =
    let Open : ℕ → Type 0 = λ b. IsUnblocked c.args.occupied c.args.square b in
    let loop = c.loop-rest.invariant in
    let blocked : ¬ Open c.lowest-target.result = λ clear.
    true≢false (sym (c.is_disjoint.ensures.1 (λ s h x. clear s h ((c.between.ensures s h).0 x))) ∙ c.if-is_disjoint.false) in
    record {
      left = λ b h x. loop.left b h ((c.without-rest.ensures.others b h).0 x).0;
      taken = loop.taken;
      all = λ b h x y z.
          ⊎_elim (λ e. absurd (blocked (at_target Open _ b (sym e) y))) (λ o. o)
          (all_but Open c.args.targets c.loop-rest.seen c.loop-rest.rest c.without-rest.result c.lowest-target.result
          c.without-rest.ensures.others loop.all b h x y z);
    }

pub returns : goal.returns
returns c =
    let none : (b : ℕ) → ¬ Holds c.loop-rest.rest b = λ b h.
    let P : ℕ → Type 0 = λ m. Holds m b in Holds-zero b (subst P c.loop-rest-test.false h) in
    λ b h. (c.loop-rest.invariant.taken b h, λ x. c.loop-rest.invariant.all b h x.0 x.1 (none b))
