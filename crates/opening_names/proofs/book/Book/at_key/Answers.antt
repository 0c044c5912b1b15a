use Rattle.std.proofs.Common.{◌≡◌, ◌<◌, length, map, List, Option, Some, None, sym, ap, subst, ◌∙◌, arith}
use Rattle.std.specs.Option.{option_copied}
use Rattle.explorer_model.specs.declared.opening.Opening.{Opening}
use Rattle.explorer_model.specs.Openings.{NamedPosition, OpeningOf}
use Rattle.opening_names.specs.declared.line.NamedLine.{NamedLine}
use Rattle.opening_names.specs.Held.{named_line, opening_by, place_of}
use Rattle.opening_names.proofs.HeldLemmas.{found-at, none-found, opening-of}
use Rattle.opening_names.proofs.book.Book.at_key.Goals as goal

pub returns-in-None : goal.returns-in-None
returns-in-None c = λ at board tidy.
    let lines = c.self.inside.lines.items in
    let bytes = c.args.key in
    let told : place_of lines bytes ≡ None = sym (c.self.invariant.1 bytes) ∙ sym c.get.ensures.value ∙ ap option_copied c.in-None.is in
    let named = opening-of (record {
      decides = c.tidy_forms_decide_same.ensures;
      keys = c.equal_keys_mean_equal_positions.ensures;
    }) at bytes board tidy lines c.self.invariant.0 in
    let B : List NamedPosition → Type 0 = λ book. OpeningOf book at None in
    let O : Option Opening → Type 0 = λ o. OpeningOf (map named_line lines) at o in
    subst B c.self.view_is (subst O (none-found lines bytes told) named)

pub index-requires : goal.index-requires
index-requires c =
    let lines = c.self.inside.lines.items in
    let bytes = c.args.key in
    let told : place_of lines bytes ≡ Some c.in-Some.place.now = sym (c.self.invariant.1 bytes) ∙ sym c.get.ensures.value ∙ ap option_copied c.in-Some.is in
    let within : c.in-Some.place.now < length lines = (found-at lines bytes c.in-Some.place.now told).0 in
    omega (arith, within, c.self.inside.lines.ok.0)

pub returns-in-Some : goal.returns-in-Some
returns-in-Some c = λ at board tidy.
    let lines = c.self.inside.lines.items in
    let bytes = c.args.key in
    let told : place_of lines bytes ≡ Some c.in-Some.place.now = sym (c.self.invariant.1 bytes) ∙ sym c.get.ensures.value ∙ ap option_copied c.in-Some.is in
    let found : opening_by lines bytes ≡ Some c.index.result.now.opening =
    (found-at lines bytes c.in-Some.place.now told).1 c.index.result.now ∙ sym (ap (λ (l : NamedLine). Some l.opening) c.index.ensures) in
    let named = opening-of (record {
      decides = c.tidy_forms_decide_same.ensures;
      keys = c.equal_keys_mean_equal_positions.ensures;
    }) at bytes board tidy lines c.self.invariant.0 in
    let B : List NamedPosition → Type 0 = λ book. OpeningOf book at (Some c.index.result.now.opening) in
    let O : Option Opening → Type 0 = λ o. OpeningOf (map named_line lines) at o in
    subst B c.self.view_is (subst O found named)
