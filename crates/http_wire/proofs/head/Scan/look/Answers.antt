use Rattle.std.proofs.Common.{◌≡◌, inl, inr, length, sym, arith}
use Rattle.http_wire.proofs.Ends.{sight-whole, sight-long, sight-full, sight-begun}
use Rattle.http_wire.proofs.head.Scan.look.Goals.{else-skipped-self-le-HEAD_LIMIT-via-then-skipped-self-le-HEAD_LIMIT+else-self-le-LINE_LIMIT, else-skipped-self-le-HEAD_LIMIT-via-else-skipped-self-le-HEAD_LIMIT, then-skipped-text-via-then-skipped-text, then-skipped-text-via-else-skipped-text+then-self-ge-LINE_LIMIT}
use Rattle.http_wire.proofs.head.Scan.look.Goals as goal

pub returns-then-self-le-LINE_LIMIT-clause-sight : goal.returns-then-self-le-LINE_LIMIT-clause-sight
returns-then-self-le-LINE_LIMIT-clause-sight c =
    let scan = c.advance.new.self in
    sight-whole c.args.skipped c.args.text.now scan.at scan.lines scan.stage c.advance.ensures.within
    (sym c.if-is_whole.ensures) c.advance.ensures.scanned
    c.if-skipped-self-le-HEAD_LIMIT.true c.if-self-le-LINE_LIMIT.true

pub returns-then-is_whole-clause-sight : goal.returns-then-is_whole-clause-sight
returns-then-is_whole-clause-sight c =
    let scan = c.advance.new.self in
    sight-long c.args.skipped c.args.text.now scan.at scan.lines scan.stage c.advance.ensures.within
    (sym c.if-is_whole.ensures) c.advance.ensures.scanned
    (elim c.else-skipped-self-le-HEAD_LIMIT.branch [
      | else-skipped-self-le-HEAD_LIMIT-via-then-skipped-self-le-HEAD_LIMIT+else-self-le-LINE_LIMIT w ↦
          inr w.if-self-le-LINE_LIMIT.false
      | else-skipped-self-le-HEAD_LIMIT-via-else-skipped-self-le-HEAD_LIMIT w ↦
          inl w.if-skipped-self-le-HEAD_LIMIT.false
    ])

pub returns-then-skipped-text-clause-sight : goal.returns-then-skipped-text-clause-sight
returns-then-skipped-text-clause-sight c =
    let scan = c.advance.new.self in
    let all : scan.at ≡ length c.args.text.now = elim c.advance.ensures.done [ inl whole ↦ cc c.if-is_whole.ensures | inr all ↦ all ] in
    sight-full c.args.skipped c.args.text.now scan.at scan.lines scan.stage all
    (sym c.if-is_whole.ensures) c.advance.ensures.scanned
    (elim c.then-skipped-text.branch [
      | then-skipped-text-via-then-skipped-text w ↦ inl (omega (arith, w.if-skipped-text.true))
      | then-skipped-text-via-else-skipped-text+then-self-ge-LINE_LIMIT w ↦ inr w.if-self-ge-LINE_LIMIT.true
    ])

pub returns-clause-sight : goal.returns-clause-sight
returns-clause-sight c =
    let scan = c.advance.new.self in
    let all : scan.at ≡ length c.args.text.now = elim c.advance.ensures.done [ inl whole ↦ cc c.if-is_whole.ensures | inr all ↦ all ] in
    sight-begun c.args.skipped c.args.text.now scan.at scan.lines scan.stage all
    (sym c.if-is_whole.ensures) c.advance.ensures.scanned c.requires.begun
    (omega arith) c.if-self-ge-LINE_LIMIT.false
