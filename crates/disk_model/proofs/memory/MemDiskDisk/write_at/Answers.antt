use Rattle.std.proofs.Common.{◌∙◌, not, ap, sym, rules}
use Rattle.disk_model.proofs.MemoryCalls.{content-done, content-failed, writes-done, fails-same, elapses-wrote}
use Rattle.disk_model.proofs.memory.MemDiskDisk.write_at.Goals as goal

-- a write that is to fail
pub invariant_of-self-then-fails : goal.invariant_of-self-then-fails
invariant_of-self-then-fails c =
    let noted = c.in-Ok.ensures.noted in
    let was = c.self.invariant in
    (content-failed _ _ _ _ _ noted.2 (ap not c.if-fails.true) ∙ was.0, was.1, was.2, search rules, λ off. c.in-Ok.ensures.spare)

pub returns-then-fails-clause-fails : goal.returns-then-fails-clause-fails
returns-then-fails-clause-fails c =
    let noted = c.in-Ok.ensures.noted in
    rw (← c.self.view_is)
    (fails-same _ _ _ c.args.at _ _ (content-failed _ _ _ _ _ noted.2 (ap not c.if-fails.true))
    c.raise-then-fails.ensures)

pub returns-then-fails-clause-undone : goal.returns-then-fails-clause-undone
returns-then-fails-clause-undone c =
    let noted = c.in-Ok.ensures.noted in
    rw (← c.self.view_is) (content-failed _ _ _ _ _ noted.2 (ap not c.if-fails.true))

pub returns-then-fails-clause-crash : goal.returns-then-fails-clause-crash
returns-then-fails-clause-crash c =
    let noted = c.in-Ok.ensures.noted in
    rw (← c.self.view_is) (elapses-wrote _ _ c.args.at noted.0 _ c.args.piece.now noted.1 noted.2)

-- one that is done
pub invariant_of-self-2 : goal.invariant_of-self-2
invariant_of-self-2 c =
    let noted = c.in-Ok.ensures.noted in
    let was = c.self.invariant in
    let inside = rw (← c.self.view_is) at c.requires.no_gap in (
      content-done _ _ _ _ _ noted.2 c.args.piece.now c.self.inside.bytes.items noted.1 was.0 (ap not c.if-fails.false) inside
          ∙ sym c.overwrite.ensures.written,
      search rules,
      search rules,
      search rules,
      λ off. c.in-Ok.ensures.spare,
    )

pub returns-clause-done : goal.returns-clause-done
returns-clause-done c =
    let noted = c.in-Ok.ensures.noted in
    let inside = rw (← c.self.view_is) at c.requires.no_gap in
    rw (← c.self.view_is) (writes-done _ _ _ c.args.at noted.0 _ c.args.piece.now noted.2 noted.1 (ap not c.if-fails.false) inside)

pub returns-clause-crash : goal.returns-clause-crash
returns-clause-crash c =
    let noted = c.in-Ok.ensures.noted in
    rw (← c.self.view_is) (elapses-wrote _ _ c.args.at noted.0 _ c.args.piece.now noted.1 noted.2)
