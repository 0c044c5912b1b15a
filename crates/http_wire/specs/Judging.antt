-- Statement: what a head's text says of its request.
use Rattle.std.specs.Prelude.{◌≡◌, ℕ, Bool, ◌||◌, ◌==◌, ⊤, List, codes, Ok, Err}
use Rattle.std.specs.List.{list_any, before_first, after_first}
use Rattle.std.specs.Str.{byte}
use Rattle.httparse.specs.Grammar.{RequestHead}
use Rattle.httparse.specs.declared.spans.HeaderSpan.{HeaderSpan}
use Rattle.httparse.specs.declared.spans.RequestSpans.{RequestSpans}
use Rattle.httparse.specs.Spans.{IsRequestAt}
use Rattle.explorer_model.specs.Wire.{IsHeadOf, HeadReads, values_of, has_close, body_len, method_of, path_of}
use Rattle.explorer_model.specs.declared.wire.Asked.{Asked}
use Rattle.explorer_model.specs.declared.wire.Asked.TheVariants.{Refused, NoMemory}
use Rattle.explorer_model.specs.declared.wire.Request.{Request}
use Rattle.http_wire.specs.declared.judging.Judged.{Judged}

abbrev pub is_question : ℕ → Bool
is_question b = b == byte "?"

-- the version or a field closes the connection
abbrev pub is_closing : RequestHead → Bool
is_closing head = head.minor == 0 || list_any has_close (values_of (codes "connection") head)

-- the text is this head, which says this of its request
pub record Says (text : List ℕ) (judged : Judged) (head : RequestHead) : Type 0 where
  pub is_head : IsHeadOf text head
  pub method : judged.method ≡ method_of head.method
  pub path : judged.path ≡ path_of (before_first is_question head.target)
  pub query : judged.query ≡ after_first is_question head.target
  pub closes : judged.closes ≡ is_closing head
  pub body_len : body_len head ≡ Ok judged.body_len

-- the text is a head, whose parts the spans cover
abbrev pub IsWholeHead : List ℕ → List HeaderSpan → RequestSpans → Type 0
IsWholeHead text headers spans =
    (head : RequestHead) × IsHeadOf text head × IsRequestAt text headers spans head

abbrev pub IsNoHead : List ℕ → Type 0
IsNoHead text = (head : RequestHead) → ¬ IsHeadOf text head

-- what is asked in place of a request
abbrev pub IsRefusal : List ℕ → Asked → Type 0
IsRefusal text (Refused fault) = HeadReads text (Err fault)
IsRefusal text NoMemory = ⊤
IsRefusal text _ = ⊥

-- the request that is made of a head and a body
abbrev pub request_by : Judged → List ℕ → ℕ → Request
request_by judged body more = record {
  method = judged.method;
  path = judged.path;
  query = judged.query;
  body = body;
  last = judged.closes || more == 1;
}
