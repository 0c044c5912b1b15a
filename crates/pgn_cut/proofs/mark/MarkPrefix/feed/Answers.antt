use Rattle.std.specs.Prelude.{refl}
use Rattle.std.proofs.Common.{◌∙◌, arith}
use Rattle.pgn_cut.proofs.Marks.{passes, without_mark}
use Rattle.pgn_cut.proofs.mark.MarkPrefix.feed.Goals as goal

pub returns-then-starts_with : goal.returns-then-starts_with
returns-then-starts_with c = record {
  within = c.if-starts_with.ensures.bound refl;
  came = omega (arith, c.split_at.ensures.back_len, c.args.self.short);
  cuts = λ n enough _. passes c.args.self.count c.args.piece.now c.split_at.result.1.now c.split_at.ensures.back (c.if-starts_with.ensures.value) n enough;
}

pub returns : goal.returns
returns c = record {
  within = omega arith;
  came = c.without_mark.ensures.came ∙ omega arith;
  cuts = λ n _ enough rest.
      rw (c.without_mark.ensures.came, c.without_mark.ensures.first, c.without_mark.ensures.matched)
      (without_mark c.args.self.count c.args.piece.now c.split_at.result.1.now c.args.self.short c.split_at.ensures.back
      (c.if-starts_with.ensures.value) (c.if-starts_with-2.ensures.value) n enough rest);
}
