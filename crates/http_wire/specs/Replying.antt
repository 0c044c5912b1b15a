-- Bridge: a reply in pieces.
use Rattle.std.specs.Prelude.{ℕ, Bool, List, [], ◌++◌, codes, decimal}
use Rattle.explorer_model.specs.Replies.{status_text, own_line, close_line, line, reply_body}
use Rattle.explorer_model.specs.declared.wire.Reply.{Reply}
use Rattle.explorer_model.specs.declared.wire.Reply.TheVariants as replies

-- what stands before the body, which has so many bytes
abbrev pub head_text : Reply → ℕ → Bool → List ℕ
head_text reply size last =
    line (codes "HTTP/1.1 " ++ status_text reply)
    ++ line (codes "Content-Type: application/json")
    ++ line (codes "Content-Length: " ++ decimal size)
    ++ own_line reply
    ++ close_line last
    ++ line []

-- the body, where the reply does not bring it
abbrev pub own_body : Reply → List ℕ
own_body (replies.Found batches body) = []
own_body (replies.Stored batches body) = []
own_body reply = reply_body reply
