use Rattle.std.proofs.Common.{rules, tests, ◌==◌, ℕ, List, codes}
use Rattle.std.proofs.lemmas.Iterator.Search.{any_from_yields_List}
use Rattle.std.proofs.lemmas.Iterator.Splits.{YieldsList-from_slice_split}
use Rattle.httparse.specs.Grammar.{trim_ows}
use Rattle.explorer_model.specs.Letters.{is_same_word}
use Rattle.http_wire.proofs.fields.has_close.Goals as goal

pub returns : goal.returns
returns c =
    any_from_yields_List (λ (word : List ℕ). is_same_word (codes "close") (trim_ows word)) _ _ _ c.any.ensures.ran
    (YieldsList-from_slice_split _ (λ (b : ℕ). b == 44) c.args.value.now
    c.split.ensures.rest c.split.ensures.done c.split.ensures.closure (λ x b q k. search (rules, tests)))
    (λ x b q k. search (rules, tests))
