use Rattle.std.proofs.Common.{◌∙◌, ℕ, Option, Some, nat_eq, subst, sym}
use Rattle.lru.specs.LruCache.{LruCache}
use Rattle.session.specs.KeptAnswers.{AreNamedBy, KeptAnswer}
use Rattle.session.proofs.KeptLemmas.{put-anyhow}
use Rattle.session.proofs.kept_answers.Answers.put.Goals as goal
use Rattle.session.proofs.kept_answers.Answers.put.Goals.{in-Some+in-Ok+in-Some-1, in-Some+in-Ok+in-None-1, in-Some+in-Err-1, in_default}

pub invariant_of-self : goal.invariant_of-self
invariant_of-self g c =
    let book = c.self.inside.book.now in
    let by = c.requires ∙ sym c.self.view_is in
    elim c.match-self.branch [
      | in-Some+in-Ok+in-Some-1 w ↦
          let named : AreNamedBy book (Some w.in-Some.kept) =
          subst (λ (kept : Option (LruCache ℕ KeptAnswer)). AreNamedBy book kept) w.in-Some.is c.self.invariant in
          rw w.self-inside-is (put-anyhow w.put.result book nat_eq w.in-Some.kept w.put.new.self c.args.key c.args.answer by named w.put.ensures.entries w.put.ensures.err)
      | in-Some+in-Ok+in-None-1 w ↦
          let named : AreNamedBy book (Some w.in-Some.kept) =
          subst (λ (kept : Option (LruCache ℕ KeptAnswer)). AreNamedBy book kept) w.in-Some.is c.self.invariant in
          rw w.self-inside-is (put-anyhow w.put.result book nat_eq w.in-Some.kept w.put.new.self c.args.key c.args.answer by named w.put.ensures.entries w.put.ensures.err)
      | in-Some+in-Err-1 w ↦
          let named : AreNamedBy book (Some w.in-Some.kept) =
          subst (λ (kept : Option (LruCache ℕ KeptAnswer)). AreNamedBy book kept) w.in-Some.is c.self.invariant in
          rw w.self-inside-is (put-anyhow w.put.result book nat_eq w.in-Some.kept w.put.new.self c.args.key c.args.answer by named w.put.ensures.entries w.put.ensures.err)
      | in_default w ↦ rw w.self-inside-is c.self.invariant
    ]
