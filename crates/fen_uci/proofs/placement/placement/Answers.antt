use Rattle.std.proofs.Common.{◌∙◌, sym, ap, ◌*◌, ◌-◌, drop, arith, rules}
use Rattle.std.specs.Option.{option_copied}
use Rattle.explorer_model.specs.Fen.{placement}
use Rattle.fen_uci.specs.Ranks.{ranks_of}
use Rattle.fen_uci.proofs.Ranks.{reading_begins, reading_ends, rank_read_at, rank_written_size, rank_faulty_at, rank_missing, rank_too_many_at}
use Rattle.fen_uci.proofs.placement.placement.Goals as goal

pub loop-rank-init : goal.loop-rank-init
loop-rank-init c = record { read = reading_begins c.args.text.now; size = search rules }

pub returns-in_err-rest : goal.returns-in_err-rest
returns-in_err-rest c =
    c.from_residual.ensures
    ∙ sym (rank_missing (placement c.args.text.now) c.loop-rank.rank (drop (8 * c.loop-rank.rank) c.loop-rank.squares) (option_copied c.loop-rank.rest)
    c.loop-rank-test.true c.loop-rank.invariant.read (ap option_copied c.in_err-rest.was))

pub returns-in_err-rank_squares : goal.returns-in_err-rank_squares
returns-in_err-rank_squares c =
    c.from_residual-in_err-rank_squares.ensures
    ∙ sym (rank_faulty_at (placement c.args.text.now) c.loop-rank.rank (drop (8 * c.loop-rank.rank) c.loop-rank.squares) (ranks_of (option_copied c.loop-rank.rest)) _ _
    c.loop-rank-test.true c.loop-rank.invariant.read (ap (λ o. ranks_of (option_copied o)) c.in_ok-rest.was ∙ c.split_rank.ensures) (sym c.in_err-rank_squares.ensures))

pub loop-rank-preserved : goal.loop-rank-preserved
loop-rank-preserved c = record {
  read =
      rank_read_at (placement c.args.text.now) c.loop-rank.rank c.loop-rank.squares c.in_ok-rank_squares.field-0 c.copy_from_slice.new.self _ (ranks_of (option_copied c.loop-rank.rest)) _ _
      c.loop-rank-test.true c.loop-rank.auto.rank c.loop-rank.invariant.size (omega arith) c.copy_from_slice.ensures.after (search rules)
      c.loop-rank.invariant.read (ap (λ o. ranks_of (option_copied o)) c.in_ok-rest.was ∙ c.split_rank.ensures) (sym c.in_ok-rank_squares.ensures);
  size =
      rank_written_size c.loop-rank.squares c.in_ok-rank_squares.field-0 c.copy_from_slice.new.self (8 * (c.loop-rank.rank - 1)) _ (omega arith)
      c.loop-rank.invariant.size (omega arith) c.copy_from_slice.ensures.after (search rules);
}

pub returns-in-Some : goal.returns-in-Some
returns-in-Some c =
    sym (rank_too_many_at (placement c.args.text.now) c.loop-rank.rank (drop (8 * c.loop-rank.rank) c.loop-rank.squares) (option_copied c.loop-rank.rest) c.in-Some.field-0.now
    c.loop-rank-test.false c.loop-rank.invariant.read (ap option_copied c.in-Some.is))

pub returns-in-None : goal.returns-in-None
returns-in-None c =
    sym (reading_ends (placement c.args.text.now) c.loop-rank.rank c.loop-rank.squares (option_copied c.loop-rank.rest) c.loop-rank-test.false c.loop-rank.invariant.read
    (ap option_copied c.in-None.is))
