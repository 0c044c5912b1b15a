use Rattle.std.proofs.Common.{ℕ, Option, Some, subst}
use Rattle.lru.specs.LruCache.{LruCache}
use Rattle.session.specs.KeptAnswers.{AreNamedBy, KeptAnswer}
use Rattle.session.proofs.KeptLemmas.{promoted-named}
use Rattle.session.proofs.kept_answers.Answers.touch.Goals as goal
use Rattle.session.proofs.kept_answers.Answers.touch.Goals.{in-Some, in_default}

pub invariant_of-self : goal.invariant_of-self
invariant_of-self g c =
    let book = c.self.inside.book.now in
    elim c.match-self.branch [
      | in-Some w ↦
          let named : AreNamedBy book (Some w.in-Some.kept) =
          subst (λ (kept : Option (LruCache ℕ KeptAnswer)). AreNamedBy book kept) w.in-Some.is c.self.invariant in
          rw w.self-inside-is (promoted-named book _ w.in-Some.kept w.promote.new.self named w.promote.ensures.entries)
      | in_default w ↦ rw w.self-inside-is c.self.invariant
    ]
