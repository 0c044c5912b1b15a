use Rattle.std.proofs.Common.{length, refl, ap, arith}
use Rattle.import_run.specs.Ahead.{left_of}
use Rattle.import_run.specs.declared.ahead.Ahead.{Ahead}
use Rattle.import_run.proofs.ClosingLemmas.{lacks_over, last_left, one_left, over_bound, own_label, reading_less, settle_on, some_on, underway_on}
use Rattle.import_run.proofs.HandLemmas.{on_err}
use Rattle.import_run.proofs.underway.Underway.last_byte.Goals as goal

pub read_last-requires-clause-ready : goal.read_last-requires-clause-ready
read_last-requires-clause-ready g c = own_label c.args.self.now.import.group.label c.args.self.now.ahead c.requires.ready.ahead

pub returns-in_err-read_last-clause-lacks : goal.returns-in_err-read_last-clause-lacks
returns-in_err-read_last-clause-lacks g c =
    on_err c.from_residual.result
    (λ before start told u.
    lacks_over before (g.S.Source.source c.args.source.now) (g.S.Source.source c.read_last.new.source) start c.args.self.now (record c.args.self.now { ahead = c.read_last.new.self }) told refl c.in_err-read_last.ensures.lacks u)

-- ---- the last byte came

pub returns-then-branch-clause-ready : goal.returns-then-branch-clause-ready
returns-then-branch-clause-ready g c =
    settle_on c.args.self.now.import.group.label c.args.self.now (record c.args.self.now { ahead = c.read_last.new.self }) refl refl c.requires.ready c.in_ok-read_last.ensures.ready

pub returns-then-branch-clause-less : goal.returns-then-branch-clause-less
returns-then-branch-clause-less g c =
    let same = ap (λ (a : Ahead). left_of a) (c.in_ok-read_last.ensures.gives c.if-branch.true).0 in
    reading_less (left_of c.args.self.now.ahead) (left_of c.read_last.new.self) (length c.args.self.now.ahead.whole.items) (length c.read_last.new.self.whole.items) (length c.args.self.now.counted.items) c.in_ok-read_last.ensures.few (omega (arith, same))

pub returns-then-branch-clause-over : goal.returns-then-branch-clause-over
returns-then-branch-clause-over g c = λ before start told u.
    let came = c.in_ok-read_last.ensures.gives c.if-branch.true in
    over_bound before (g.S.Source.source c.args.source.now) (g.S.Source.source c.read_last.new.source) start c.args.self.now (record c.args.self.now { ahead = c.read_last.new.self }) told refl came.1.0 came.0
    c.requires.none c.requires.none_whole c.requires.reading c.requires.last came.1.1 u

-- ---- it did not

pub returns-clause-ready : goal.returns-clause-ready
returns-clause-ready g c =
    settle_on c.args.self.now.import.group.label c.args.self.now (record c.args.self.now { ahead = c.read_last.new.self }) refl refl c.requires.ready c.in_ok-read_last.ensures.ready

pub returns-clause-less : goal.returns-clause-less
returns-clause-less g c =
    let less = c.in_ok-read_last.ensures.less c.if-branch.false in
    reading_less (left_of c.args.self.now.ahead) (left_of c.read_last.new.self) (length c.args.self.now.ahead.whole.items) (length c.read_last.new.self.whole.items) (length c.args.self.now.counted.items) c.in_ok-read_last.ensures.few (omega (arith, less))

pub returns-clause-work : goal.returns-clause-work
returns-clause-work g c = λ is none.
    let less = c.in_ok-read_last.ensures.less c.if-branch.false in
    let before = one_left c.args.self.now.ahead c.requires.reading c.requires.last in
    let ready = c.in_ok-read_last.ensures.ready in
    let left = last_left c.read_last.new.self (c.over.ensures.none is none) ready.below in
    absurd (omega (arith, less, before, left))

pub returns-clause-goes : goal.returns-clause-goes
returns-clause-goes g c = λ is before start told u.
    underway_on before (g.S.Source.source c.args.source.now) (g.S.Source.source c.read_last.new.source) start c.args.self.now (record c.args.self.now { ahead = c.read_last.new.self }) told refl refl
    (c.in_ok-read_last.ensures.holds c.if-branch.false) u

pub returns-clause-over : goal.returns-clause-over
returns-clause-over g c =
    some_on c.over.result _ _
    (λ over ends before start told u.
    ends c.requires.none before (g.S.Source.source c.read_last.new.source) start told
    (underway_on before (g.S.Source.source c.args.source.now) (g.S.Source.source c.read_last.new.source) start c.args.self.now (record c.args.self.now { ahead = c.read_last.new.self }) told refl refl
    (c.in_ok-read_last.ensures.holds c.if-branch.false) u))
    c.over.ensures.over
