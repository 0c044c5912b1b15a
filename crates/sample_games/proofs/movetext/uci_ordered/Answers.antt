use Rattle.std.proofs.Common.{rules, ◌≡◌, sym, ap, subst, IsSortedByKey, IsPermutation, All, List}
use Rattle.std.specs.Cmp.Lexicographic.{slice_cmp}
use Rattle.std.specs.Ordering.{nat_cmp, is_lt}
use Rattle.std.proofs.lemmas.Cmp.{nat_list_cmp_total}
use Rattle.std.proofs.lemmas.Fn.{always_returns_same}
use Rattle.std.proofs.lemmas.List.Sorted.{ranks_by, All-permutation}
use Rattle.explorer_model.specs.declared.chess.Move.{Move}
use Rattle.explorer_model.specs.Chess.{Legal}
use Rattle.explorer_model.specs.Uci.{uci_text}
use Rattle.sample_games.specs.Samples.{InUciOrder}
use Rattle.sample_games.proofs.Ordered.{ordered, put-back}
use Rattle.sample_games.proofs.movetext.uci_ordered.Goals as goal

pub returns-clause-ordered : goal.returns-clause-ordered
returns-clause-ordered c =
    let permuted : IsPermutation c.legal-moves.result.items c.sort_unstable_by.new.self =
    subst (λ (xs : List Move). IsPermutation xs c.sort_unstable_by.new.self) c.deref_mut.ensures.value c.sort_unstable_by.ensures.permutation in
    let sorted : IsSortedByKey uci_text (slice_cmp nat_cmp) c.sort_unstable_by.new.self =
    c.sort_unstable_by.ensures.sorted (λ x y. is_lt (slice_cmp nat_cmp (uci_text x) (uci_text y))) (ranks_by nat_list_cmp_total uci_text)
    (always_returns_same _ _ _ (λ a r q k. let told : (r ≡ slice_cmp nat_cmp (uci_text a.0.now) (uci_text a.1.0.now)) × (q ≡ _) = search rules in (ap is_lt told.0, told.1))) in
    subst (InUciOrder c.args.board.now) (sym (put-back c.legal-moves.result.items c.sort_unstable_by.new.self permuted))
    (ordered c.args.board.now c.legal-moves.result.items c.sort_unstable_by.new.self c.legal-moves.ensures.each c.legal-moves.ensures.once permuted sorted)

pub returns-clause-sound : goal.returns-clause-sound
returns-clause-sound c =
    let permuted : IsPermutation c.legal-moves.result.items c.sort_unstable_by.new.self =
    subst (λ (xs : List Move). IsPermutation xs c.sort_unstable_by.new.self) c.deref_mut.ensures.value c.sort_unstable_by.ensures.permutation in
    subst (All (λ m. Legal c.args.board.now m)) (sym (put-back c.legal-moves.result.items c.sort_unstable_by.new.self permuted))
    (All-permutation (λ m. Legal c.args.board.now m) c.legal-moves.result.items c.sort_unstable_by.new.self permuted c.legal-moves.ensures.sound)
