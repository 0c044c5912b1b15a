use Rattle.std.proofs.Common.{◌≡◌, ℕ, List, Option, Some, IfSome, subst, sym}
use Rattle.lru.specs.LruCache.{LruCache}
use Rattle.explorer_model.specs.Openings.{NamedPosition}
use Rattle.session.specs.KeptAnswers.{AreNamedBy, KeptAnswer}
use Rattle.session.proofs.KeptLemmas.{found-named}
use Rattle.session.proofs.kept_answers.Answers.kept_at.Goals as goal

pub returns : goal.returns
returns g c =
    let book = c.self.inside.book.now in
    let named : AreNamedBy book (Some c.in_ok-as_ref.field-0.now) =
    subst (λ (kept : Option (LruCache ℕ KeptAnswer)). AreNamedBy book kept) (sym c.in_ok-as_ref.ensures.value) c.self.invariant in
    subst (λ (b : List NamedPosition). IfSome c.peek.result (λ kept. kept.now.book ≡ b)) c.self.view_is
    (found-named book _ c.in_ok-as_ref.field-0.now c.peek.result named c.peek.ensures)
