use Rattle.std.proofs.Common.{◌≡◌, ◌∙◌, ap, sym, true, List, Bool, Some}
use Rattle.std.specs.List.{list_all}
use Rattle.explorer_model.specs.Query.{is_among, pieces_of, group_names}
use Rattle.query_params.proofs.Names.{names_listed}
use Rattle.query_params.proofs.lists.groups_named.Goals as goal

pub returns : goal.returns
returns c =
    let all : list_all (is_among group_names) (pieces_of c.args.text.now) ≡ true = sym c.are_among.ensures ∙ c.if-not-are_among.false in
    ap (λ (given : List Bool). Some given) c.mark_given.ensures ∙ sym (names_listed group_names c.args.text.now all)
