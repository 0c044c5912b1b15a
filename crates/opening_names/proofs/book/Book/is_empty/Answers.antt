use Rattle.std.proofs.Common.{◌≡◌, ◌==◌, List, length, ap, subst, sym, ◌∙◌}
use Rattle.std.proofs.lemmas.List.{length-map}
use Rattle.explorer_model.specs.Openings.{NamedPosition}
use Rattle.opening_names.specs.Held.{named_line}
use Rattle.opening_names.proofs.book.Book.is_empty.Goals as goal

pub returns : goal.returns
returns c =
    let lines = c.self.inside.lines in
    let N : List NamedPosition → Type 0 = λ book. c.is_empty.result ≡ (length book == 0) in
    subst N c.self.view_is (c.is_empty.ensures ∙ ap (λ n. n == 0) (lines.ok.0 ∙ sym (length-map lines.items named_line)))
