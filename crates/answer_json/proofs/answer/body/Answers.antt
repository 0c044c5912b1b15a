use Rattle.std.proofs.Common.{◌≡◌, ℕ, List, [], IfOk, refl, subst}
use Rattle.answer_json.proofs.Unnamed.{nothing-reached}
use Rattle.answer_json.proofs.answer.body.Goals as goal

pub returns : goal.returns
returns c =
    let Gives : List ℕ → Type 0 = λ body. IfOk c.lent_body.result (λ bytes. bytes.items ≡ body) in
    subst Gives (nothing-reached c.args.found.now [] refl) c.lent_body.ensures
