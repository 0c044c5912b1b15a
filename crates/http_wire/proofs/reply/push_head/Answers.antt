use Rattle.std.proofs.Common.{decimal}
use Rattle.explorer_model.specs.Replies.{status_text, own_line, close_line}
use Rattle.http_wire.proofs.Sending.{head-pieces}
use Rattle.http_wire.proofs.reply.push_head.Goals as goal

pub returns : goal.returns
returns c =
    let pieces = head-pieces (status_text c.args.reply.now) (decimal c.args.size) (own_line c.args.reply.now) (close_line c.args.last) in
    rw (
      c.push-5.ensures.text,
      c.push_close_line.ensures.text,
      c.push_own_line.ensures.text,
      c.push-4.ensures.text,
      c.push_number.ensures.text,
      c.push-3.ensures.text,
      c.push-2.ensures.text,
      c.status_text.ensures.text,
      c.push.ensures.text,
      c.requires,
    )
    pieces
