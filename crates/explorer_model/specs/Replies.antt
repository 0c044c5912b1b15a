-- Statement: what is written to a connection, and the reply to a query (RFC 9112, 4 to 6).
use Rattle.std.specs.Prelude.{◌≡◌, ℕ, Bool, List, [], ◌∷◌, ◌++◌, length, map, codes, decimal, if◌then◌else◌, Ok, Err}
use Rattle.serde_json.specs.Data.{Data, string, object, Members, member, no_members}
use Rattle.serde_json.specs.Written.{compact_text}
use Rattle.explorer_model.specs.declared.answer.Found.{Found}
use Rattle.explorer_model.specs.declared.archive.Batch.{Batch}
use Rattle.explorer_model.specs.declared.fault.Refusal.{Refusal}
use Rattle.explorer_model.specs.declared.opening.Naming.{Naming}
use Rattle.explorer_model.specs.declared.query.Query.{Query}
use Rattle.explorer_model.specs.declared.wire.Method.{Method}
use Rattle.explorer_model.specs.declared.wire.Method.TheVariants as methods
use Rattle.explorer_model.specs.declared.wire.Reply.{Reply}
use Rattle.explorer_model.specs.declared.wire.Reply.TheVariants as replies
use Rattle.explorer_model.specs.Answer.{answer_body, named_body, array_by, count_value}
use Rattle.explorer_model.specs.Finds.{IsFound}
use Rattle.explorer_model.specs.Openings.{IsNaming, NamedPosition}
use Rattle.explorer_model.specs.Query.{QueryReads, parameter_text, player_parameter_text}
use Rattle.explorer_model.specs.Refusals.{why_text}

-- ---- bodies

abbrev pub refusal_value : Refusal → Data
refusal_value refusal = object
    (member (codes "place") (count_value refusal.place)
    (member (codes "why") (string (why_text refusal.why))
    no_members))

-- the body of an import: the journal's batches, the games stored, and what was refused
unfoldable pub stored_body : ℕ → ℕ → List Refusal → List ℕ
stored_body batches stored refused = compact_text (object
    (member (codes "batches") (count_value batches)
    (member (codes "refused") (array_by refusal_value refused)
    (member (codes "stored") (count_value stored)
    no_members))))

-- the words of an error, before other members
abbrev pub error_body : List ℕ → Members → List ℕ
error_body words others = compact_text (object (member (codes "error") (string words) others))

-- an error behind which so many games are stored
abbrev pub stored_error_body : List ℕ → ℕ → List ℕ
stored_error_body words stored =
    error_body words (member (codes "stored") (count_value stored) no_members)

abbrev pub full_body : ℕ → ℕ → ℕ → List ℕ
full_body games bytes stored = compact_text (object
    (member (codes "bytes") (count_value bytes)
    (member (codes "error") (string (codes "full"))
    (member (codes "games") (count_value games)
    (member (codes "stored") (count_value stored)
    no_members)))))

unfoldable pub reply_body : Reply → List ℕ
reply_body (replies.Found batches body) = body
reply_body (replies.Stored batches body) = body
reply_body (replies.BadParameter name) =
    error_body (codes "malformed parameter")
    (member (codes "parameter") (string (parameter_text name)) no_members)
reply_body (replies.BadPlayerParameter name) =
    error_body (codes "malformed parameter")
    (member (codes "parameter") (string (player_parameter_text name)) no_members)
reply_body replies.BadRequest = error_body (codes "bad request") no_members
reply_body replies.NotFound = error_body (codes "not found") no_members
reply_body (replies.NotAllowed allow) = error_body (codes "method not allowed") no_members
reply_body replies.TooLarge = error_body (codes "body too large") no_members
reply_body replies.HeadTooLarge = error_body (codes "head too large") no_members
reply_body (replies.DiskFault stored) = stored_error_body (codes "disk fault") stored
reply_body (replies.Closed stored) = stored_error_body (codes "closed") stored
reply_body (replies.Full games bytes stored) = full_body games bytes stored
reply_body replies.NoMemory = error_body (codes "out of memory") no_members
reply_body replies.Unread = error_body (codes "no reading") no_members

-- ---- heads

abbrev pub status_text : Reply → List ℕ
status_text (replies.Found batches body) = codes "200 OK"
status_text (replies.Stored batches body) = codes "200 OK"
status_text (replies.BadParameter name) = codes "400 Bad Request"
status_text (replies.BadPlayerParameter name) = codes "400 Bad Request"
status_text replies.BadRequest = codes "400 Bad Request"
status_text replies.NotFound = codes "404 Not Found"
status_text (replies.NotAllowed allow) = codes "405 Method Not Allowed"
status_text replies.TooLarge = codes "413 Content Too Large"
status_text replies.HeadTooLarge = codes "431 Request Header Fields Too Large"
status_text (replies.DiskFault stored) = codes "500 Internal Server Error"
status_text (replies.Closed stored) = codes "500 Internal Server Error"
status_text (replies.Full games bytes stored) = codes "507 Insufficient Storage"
status_text replies.NoMemory = codes "503 Service Unavailable"
status_text replies.Unread = codes "503 Service Unavailable"

abbrev pub line : List ℕ → List ℕ
line text = text ++ (13 ∷ 10 ∷ [])

abbrev pub batches_line : ℕ → List ℕ
batches_line batches = line (codes "X-Explorer-Batches: " ++ decimal batches)

-- no name stands for the methods that are neither
abbrev pub method_text : Method → List ℕ
method_text methods.Get = codes "GET"
method_text methods.Post = codes "POST"
method_text methods.Other = []

-- the line that only some replies have
abbrev pub own_line : Reply → List ℕ
own_line (replies.Found batches body) = batches_line batches
own_line (replies.Stored batches body) = batches_line batches
own_line (replies.NotAllowed allow) = line (codes "Allow: " ++ method_text allow)
own_line _ = []

abbrev pub close_line : Bool → List ℕ
close_line last = if last then line (codes "Connection: close") else []

-- the bytes of a reply; last: the connection is closed behind it
unfoldable pub reply_text : Reply → Bool → List ℕ
reply_text reply last =
    line (codes "HTTP/1.1 " ++ status_text reply)
    ++ line (codes "Content-Type: application/json")
    ++ line (codes "Content-Length: " ++ decimal (length (reply_body reply)))
    ++ own_line reply
    ++ close_line last
    ++ line []
    ++ reply_body reply

-- ---- the reply to a query

-- the body is that of what is found in the journal, and the number is that of its batches
pub record IsFoundIn (text : List ℕ) (journal : List Batch) (batches : ℕ) (body : List ℕ)
    : Type 0 where
  pub number : batches ≡ length journal
  pub query : Query
  pub asks : QueryReads text (Ok query)
  pub found : Found
  pub is_found : IsFound journal query found
  pub is_body : body ≡ answer_body found

-- the reply answers the query string over the journal
abbrev pub IsAnswerOf : List ℕ → List Batch → Reply → Type 0
IsAnswerOf text journal (replies.Found batches body) = IsFoundIn text journal batches body
IsAnswerOf text journal (replies.BadParameter name) = QueryReads text (Err (record { name = name }))
IsAnswerOf text journal _ = ⊥

-- ---- the reply to a query, with openings

-- the body is that of what is found in the journal with the openings that the book names for it,
-- and the number is that of the journal's batches
pub record IsNamedFoundIn (book : List NamedPosition) (text : List ℕ) (journal : List Batch)
    (batches : ℕ) (body : List ℕ) : Type 0 where
  pub number : batches ≡ length journal
  pub query : Query
  pub asks : QueryReads text (Ok query)
  pub found : Found
  pub is_found : IsFound journal query found
  pub naming : Naming
  pub is_naming : IsNaming book query (map (λ line. line.next) found.moves) naming
  pub is_body : body ≡ named_body found naming

-- the reply answers the query string over the journal by the book
abbrev pub IsNamedAnswerOf : List NamedPosition → List ℕ → List Batch → Reply → Type 0
IsNamedAnswerOf book text journal (replies.Found batches body) =
    IsNamedFoundIn book text journal batches body
IsNamedAnswerOf book text journal (replies.BadParameter name) =
    QueryReads text (Err (record { name = name }))
IsNamedAnswerOf book text journal _ = ⊥
