-- Connections worked out by hand: what is asked in their bytes, and the text of replies.
use Rattle.std.proofs.Common.{◌≡◌, ℕ, Bool, true, false, IsTrue, List, [], ◌∷◌, ◌++◌, Ok, Err, codes, refl, inl, lit<, lit≤}
use Rattle.std.specs.List.{repeat, list_all}
use lib.Utf8.{encode}
use Rattle.std.specs.Fmt.{digits}
use Rattle.std.proofs.lemmas.Bool.Decides.{Decides-by_and}
use Rattle.std.proofs.lemmas.List.Elements.{All-from_recursion}
use Rattle.serde_json.proofs.OnLiterals.{serde_json_on_literals}
use Rattle.httparse.proofs.OnLiterals.{httparse_on_literals}
use Rattle.httparse.specs.Grammar.{RequestHead, Field, IsField, AllPass, crlf, is_token_byte, is_uri_byte, is_value_byte, print_request}
use Rattle.explorer_model.specs.declared.fault.Refusal.{Refusal}
use Rattle.explorer_model.specs.declared.fault.Why.TheVariants.{Repeated}
use Rattle.explorer_model.specs.declared.query.Parameter.TheVariants.{Fen}
use Rattle.explorer_model.specs.declared.wire.Asked.TheVariants.{Wanted, Refused, Done, Cut}
use Rattle.explorer_model.specs.declared.wire.Method.TheVariants as methods
use Rattle.explorer_model.specs.declared.wire.Path.TheVariants as paths
use Rattle.explorer_model.specs.declared.wire.Request.{Request}
use Rattle.explorer_model.specs.declared.wire.RequestFault.TheVariants.{BadRequest, TooLarge, HeadTooLarge}
use Rattle.explorer_model.specs.declared.wire.Reply.TheVariants as replies
use Rattle.explorer_model.specs.Replies.{reply_body, reply_text, stored_body}
use Rattle.explorer_model.specs.Wire.{Whole, Refuses, Unfinished, Empty, head_len, Head, TooLong, Begun, Blank, opening, values_of, body_len, is_last, request_of, IsAsked, IsHeadOf}

-- the texts as lines, each ended by 13 and 10
lines : List (List ℕ) → List ℕ
lines [] = []
lines (text ∷ texts) = text ++ (13 ∷ 10 ∷ lines texts)

-- ---- replies

nothing-there : reply_text replies.NotFound false
    ≡ lines (codes "HTTP/1.1 404 Not Found" ∷ codes "Content-Type: application/json" ∷ codes "Content-Length: 21" ∷ [] ∷ [])
    ++ codes "{\"error\":\"not found\"}"
unfolding lines reply_text reply_body digits serde_json_on_literals
nothing-there = refl

an-answer-that-is-the-last : reply_text (replies.Found 3 (codes "{}")) true
    ≡ lines (codes "HTTP/1.1 200 OK" ∷ codes "Content-Type: application/json" ∷ codes "Content-Length: 2"
    ∷ codes "X-Explorer-Batches: 3" ∷ codes "Connection: close" ∷ [] ∷ [])
    ++ codes "{}"
unfolding lines reply_text reply_body digits serde_json_on_literals
an-answer-that-is-the-last = refl

another-method : reply_text (replies.NotAllowed methods.Get) false
    ≡ lines (codes "HTTP/1.1 405 Method Not Allowed" ∷ codes "Content-Type: application/json" ∷ codes "Content-Length: 30"
    ∷ codes "Allow: GET" ∷ [] ∷ [])
    ++ codes "{\"error\":\"method not allowed\"}"
unfolding lines reply_text reply_body digits serde_json_on_literals
another-method = refl

a-malformed-parameter : reply_body (replies.BadParameter Fen) ≡ codes "{\"error\":\"malformed parameter\",\"parameter\":\"fen\"}"
unfolding reply_body digits serde_json_on_literals
a-malformed-parameter = refl

a-full-store : reply_body (replies.Full 64 12416 0) ≡ codes "{\"bytes\":12416,\"error\":\"full\",\"games\":64,\"stored\":0}"
unfolding reply_body digits serde_json_on_literals
a-full-store = refl

a-disk-fault : reply_body (replies.DiskFault 512) ≡ codes "{\"error\":\"disk fault\",\"stored\":512}"
unfolding reply_body digits serde_json_on_literals
a-disk-fault = refl

refused : Refusal
refused = record { place = 205; why = Repeated 7 }

an-import : stored_body 2 1 (refused ∷ []) ≡ codes "{\"batches\":2,\"refused\":[{\"place\":205,\"why\":\"Repeated 7\"}],\"stored\":1}"
unfolding refused stored_body digits serde_json_on_literals
an-import = refl

-- ---- heads in bytes

a-head-ends-at-its-empty-line : opening (lines (codes "GET / HTTP/1.1" ∷ codes "A: b" ∷ [] ∷ []) ++ codes "rest")
    ≡ Head (lines (codes "GET / HTTP/1.1" ∷ codes "A: b" ∷ [] ∷ [])) (codes "rest")
unfolding lines opening head_len
a-head-ends-at-its-empty-line = refl

a-line-may-end-in-10-alone : opening (codes "GET / HTTP/1.1" ++ (10 ∷ 10 ∷ 10 ∷ [])) ≡ Head (codes "GET / HTTP/1.1" ++ (10 ∷ 10 ∷ [])) (10 ∷ [])
unfolding opening head_len
a-line-may-end-in-10-alone = refl

line-ends-before-a-request : opening (13 ∷ 10 ∷ 10 ∷ (codes "G" ++ (10 ∷ 13 ∷ 10 ∷ []))) ≡ Head (codes "G" ++ (10 ∷ 13 ∷ 10 ∷ [])) []
unfolding opening head_len
line-ends-before-a-request = refl

line-ends-alone : opening (13 ∷ 10 ∷ 13 ∷ []) ≡ Blank
unfolding opening head_len
line-ends-alone = refl

a-head-that-does-not-end : opening (lines (codes "GET / HTTP/1.1" ∷ [])) ≡ Begun
unfolding lines opening head_len
a-head-that-does-not-end = refl

-- each with its 10
some-lines : ℕ → List ℕ
some-lines count = repeat count (97 ∷ 10 ∷ [])

thirty-two-fields : opening (some-lines 33 ++ (10 ∷ [])) ≡ Head (some-lines 33 ++ (10 ∷ [])) []
unfolding some-lines opening head_len
thirty-two-fields = refl

thirty-three-fields : opening (some-lines 34 ++ (10 ∷ [])) ≡ TooLong
unfolding some-lines opening head_len
thirty-three-fields = refl

-- refused before the head ends
a-34th-line-that-is-not-the-last : opening (some-lines 34) ≡ TooLong
unfolding some-lines opening head_len
a-34th-line-that-is-not-the-last = refl

thirty-three-lines-may-still-end : opening (some-lines 33) ≡ Begun
unfolding some-lines opening head_len
thirty-three-lines-may-still-end = refl

-- ---- what heads ask

field : List ℕ → List ℕ → Field
field name raw = record { name = name; raw = raw; end = crlf }

head : ℕ → List ℕ → List ℕ → List Field → RequestHead
head minor method target fields = record {
  blank = [];
  method = method;
  target = target;
  minor = minor;
  line_end = crlf;
  fields = fields;
  last = crlf;
}

post : List Field → RequestHead
post fields = head 1 (codes "POST") (codes "/import") fields

the-text-of-a-head : print_request (post (field (codes "Content-Length") (codes " 5") ∷ []))
    ≡ lines (codes "POST /import HTTP/1.1" ∷ codes "Content-Length: 5" ∷ [] ∷ [])
unfolding lines field head post httparse_on_literals
the-text-of-a-head = refl

five-bytes : body_len (post (field (codes "CONTENT-length") (codes " 5 ") ∷ [])) ≡ Ok 5
unfolding field head post values_of httparse_on_literals
five-bytes = refl

no-length-is-no-body : body_len (post []) ≡ Ok 0
unfolding head post values_of
no-length-is-no-body = refl

two-lengths : body_len (post (field (codes "Content-Length") (codes " 5") ∷ field (codes "content-length") (codes " 5") ∷ [])) ≡ Err BadRequest
unfolding field head post values_of httparse_on_literals
two-lengths = refl

a-length-of-eleven-digits : body_len (post (field (codes "Content-Length") (codes "00000000005") ∷ [])) ≡ Err BadRequest
unfolding field head post values_of httparse_on_literals
a-length-of-eleven-digits = refl

a-length-with-a-sign : body_len (post (field (codes "Content-Length") (codes "+5") ∷ [])) ≡ Err BadRequest
unfolding field head post values_of httparse_on_literals
a-length-with-a-sign = refl

the-longest-body : body_len (post (field (codes "Content-Length") (codes "4194304") ∷ [])) ≡ Ok 4194304
unfolding field head post values_of httparse_on_literals
the-longest-body = refl

a-longer-body : body_len (post (field (codes "Content-Length") (codes "4194305") ∷ [])) ≡ Err TooLarge
unfolding field head post values_of httparse_on_literals
a-longer-body = refl

-- another coding leaves the length open, whatever is said of it
a-transfer-coding : body_len (post (field (codes "Content-Length") (codes "9999999999") ∷ field (codes "Transfer-Encoding") (codes "chunked") ∷ [])) ≡ Err BadRequest
unfolding field head post values_of httparse_on_literals
a-transfer-coding = refl

kept-open : is_last 2 (post (field (codes "Connection") (codes " keep-alive") ∷ [])) ≡ false
unfolding field head post values_of is_last httparse_on_literals
kept-open = refl

a-word-that-closes : is_last 2 (post (field (codes "connection") (codes " keep-alive ,\tCLOSE") ∷ [])) ≡ true
unfolding field head post values_of is_last httparse_on_literals
a-word-that-closes = refl

any-connection-field-closes : is_last 2 (post (field (codes "Connection") (codes "a") ∷ field (codes "Connection") (codes "close") ∷ [])) ≡ true
unfolding field head post values_of is_last httparse_on_literals
any-connection-field-closes = refl

an-older-version-closes : is_last 2 (head 0 (codes "GET") (codes "/lichess") []) ≡ true
unfolding head values_of is_last
an-older-version-closes = refl

the-thousandth-closes : is_last 1 (post []) ≡ true
unfolding head post values_of is_last
the-thousandth-closes = refl

a-query : request_of 2 (head 1 (codes "GET") (codes "/lichess?fen=a?b") []) []
    ≡ record { method = methods.Get; path = paths.Lichess; query = codes "fen=a?b"; body = []; last = false }
unfolding head values_of is_last
a-query = refl

other-words : request_of 2 (head 1 (codes "get") (codes "/lichess/") []) []
    ≡ record { method = methods.Other; path = paths.Other; query = []; body = []; last = false }
unfolding head values_of is_last
other-words = refl

-- ---- a whole connection

passes : (test : ℕ → Bool) (bytes : List ℕ) → list_all test bytes ≡ true → AllPass test bytes
passes test bytes =
    (Decides-by_and test (λ b. IsTrue (test b)) (list_all test) (λ b. (λ h. h, λ h. h)) refl (λ _ _. refl) bytes).0

asking : RequestHead
asking = head 1 (codes "GET") (codes "/lichess?moves=1") []

storing : RequestHead
storing = post (field (codes "Content-Length") (codes " 3") ∷ field (codes "Connection") (codes " close") ∷ [])

asking-text : List ℕ
asking-text = lines (codes "GET /lichess?moves=1 HTTP/1.1" ∷ [] ∷ [])

storing-text : List ℕ
storing-text = lines (codes "POST /import HTTP/1.1" ∷ codes "Content-Length: 3" ∷ codes "Connection: close" ∷ [] ∷ [])

asking-is-read : IsHeadOf asking-text asking
unfolding lines head asking asking-text encode httparse_on_literals
asking-is-read = record {
  reads = (
    record {
      method = (lit< tt, passes is_token_byte (codes "GET") refl);
      target = (lit< tt, passes is_uri_byte (codes "/lichess?moves=1") refl);
      target_text = (codes "/lichess?moves=1", (refl, refl));
      minor = lit≤ tt;
      fields = All-from_recursion IsField [] tt;
    },
    refl,
  );
  few = lit≤ tt;
}

storing-is-read : IsHeadOf storing-text storing
unfolding lines field head post storing storing-text encode httparse_on_literals
storing-is-read = record {
  reads = (
    record {
      method = (lit< tt, passes is_token_byte (codes "POST") refl);
      target = (lit< tt, passes is_uri_byte (codes "/import") refl);
      target_text = (codes "/import", (refl, refl));
      minor = lit≤ tt;
      fields = All-from_recursion IsField
          (field (codes "Content-Length") (codes " 3") ∷ field (codes "Connection") (codes " close") ∷ []) (
            record { name = (lit< tt, passes is_token_byte (codes "Content-Length") refl); raw = passes is_value_byte (codes " 3") refl },
            (record { name = (lit< tt, passes is_token_byte (codes "Connection") refl); raw = passes is_value_byte (codes " close") refl }, tt),
          );
    },
    refl,
  );
  few = lit≤ tt;
}

query-asked : Request
query-asked = record { method = methods.Get; path = paths.Lichess; query = codes "moves=1"; body = []; last = false }

import-asked : Request
import-asked = record { method = methods.Post; path = paths.Import; query = []; body = codes "abc"; last = true }

-- a query, an import that closes the connection, and what is not asked any more
two-requests : IsAsked (asking-text ++ (storing-text ++ codes "abcGET")) (Wanted query-asked ∷ Wanted import-asked ∷ Done ∷ [])
unfolding lines field head post asking storing asking-text storing-text query-asked import-asked opening head_len values_of is_last httparse_on_literals
two-requests = (
  Whole query-asked (storing-text ++ codes "abcGET"),
  (Ok (record { head = asking; body_len = 0 }), inl (asking, asking-is-read, refl), refl),
  refl,
  (
    Whole import-asked (codes "GET"),
    (Ok (record { head = storing; body_len = 3 }), inl (storing, storing-is-read, refl), refl),
    refl,
    refl,
  ),
)

-- the same without the last byte of the body
a-body-that-does-not-end : IsAsked (storing-text ++ codes "ab") (Cut ∷ [])
unfolding lines field head post storing storing-text opening head_len values_of is_last httparse_on_literals
a-body-that-does-not-end = (
  Unfinished,
  (Ok (record { head = storing; body_len = 3 }), inl (storing, storing-is-read, refl), refl),
  refl,
  refl,
)

nothing-is-asked : IsAsked (13 ∷ 10 ∷ []) (Done ∷ [])
unfolding opening head_len
nothing-is-asked = (Empty, refl, refl, refl)

too-many-lines-are-refused : IsAsked (some-lines 34) (Refused HeadTooLarge ∷ Done ∷ [])
unfolding some-lines opening head_len
too-many-lines-are-refused = (Refuses HeadTooLarge, refl, refl, refl)
