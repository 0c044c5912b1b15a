use Rattle.std.proofs.Common.{◌∷◌, [], refl, arith}
use Rattle.pgn_cut.specs.Cut.{meaning}
use Rattle.import_run.proofs.TakingLemmas.{by_lacking, lacks_open, taken_closed}
use Rattle.import_run.proofs.DrawLemmas.{draws-within}
use Rattle.import_run.proofs.open_import.OpenImport.push.Goals as goal

pub returns-in_err-push-clause-taken : goal.returns-in_err-push-clause-taken
returns-in_err-push-clause-taken g c = λ start taken ascend so_far.
    by_lacking c.from_residual.result _ _ c.from_residual.ensures.1
    (lacks_open start taken (meaning c.args.cut ∷ []) c.args.self.now _ (g.C.Committer.told c.args.committer.now) c.push.ensures.label refl refl refl so_far)

pub returns-clause-taken : goal.returns-clause-taken
returns-clause-taken g c = λ start taken.
    taken_closed start taken _ c.args.self.now _ (g.C.Committer.told c.args.committer.now) c.in_ok-push.ensures.group c.push.ensures.label refl refl refl c.close.new.self (g.C.Committer.told c.close.new.committer)
    c.close.result c.requires.ready.few (omega arith) c.close.ensures.group c.close.ensures.settles

pub returns-in_err-push-clause-drawn : goal.returns-in_err-push-clause-drawn
returns-in_err-push-clause-drawn g c = λ before h. draws-within 0 _ _ before _ (omega arith) h

pub returns-clause-drawn : goal.returns-clause-drawn
returns-clause-drawn g c = λ before h. c.close.ensures.drawn before h
