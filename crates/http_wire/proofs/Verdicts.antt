-- What a parsed head says.
use Rattle.std.proofs.Common.{◌≡◌, ℕ, suc, ◌+◌, ◌==◌, ◌||◌, Bool, true, false, if◌then◌else◌, List, [], ◌∷◌, length, map, filter, take, drop, codes, Ok, Err, refl, sym, ap, ◌∙◌, subst, inl, inr, arith, length-take}
use Rattle.std.specs.Result.{result_map_both}
use Rattle.std.specs.List.{list_any, position_or_len}
use Rattle.std.proofs.lemmas.List.{append-nil, drop_all}
use Rattle.httparse.specs.declared.spans.HeaderSpan.{HeaderSpan}
use Rattle.httparse.specs.declared.spans.RequestSpans.{RequestSpans}
use Rattle.httparse.specs.Grammar.{Field, field_value, RequestHead, print_request, ReadsRequest}
use Rattle.httparse.specs.Spans.{header_bytes, name_and_value, span_bytes, IsRequestAt}
use Rattle.explorer_model.specs.Letters.{is_same_word}
use Rattle.explorer_model.specs.Wire.{values_of, body_len, has_close, is_last, method_of, path_of, request_of, IsHeadOf, HeadReads}
use Rattle.explorer_model.specs.declared.wire.RequestFault.{RequestFault}
use Rattle.explorer_model.specs.declared.wire.RequestFault.TheVariants.{BadRequest}
use Rattle.http_wire.specs.Fields.{values_in, body_len_in}
use Rattle.http_wire.specs.Judging.{IsNoHead, is_question, Says, request_by}
use Rattle.http_wire.specs.declared.judging.Judged.{Judged}

abbrev Pair : Type 0
Pair = List ℕ × List ℕ

taken-same : (is_taken : Bool) (field : Field) (fields : List Field) (pairs : List Pair)
    → map field_value fields ≡ map (λ (pair : Pair). pair.1) pairs
    → map field_value (if is_taken then field ∷ fields else fields)
    ≡ map (λ (pair : Pair). pair.1) (if is_taken then name_and_value field ∷ pairs else pairs)
taken-same true field fields pairs same = ap (λ values. field_value field ∷ values) same
taken-same false field fields pairs same = same

values-same : (name : List ℕ) (fields : List Field)
    → map field_value (filter (λ (field : Field). is_same_word name field.name) fields)
    ≡ values_in name (map name_and_value fields)
values-same name [] = refl
values-same name (field ∷ fields) =
    taken-same (is_same_word name field.name) field
    (filter (λ (f : Field). is_same_word name f.name) fields)
    (filter (λ (pair : Pair). is_same_word name pair.0) (map name_and_value fields))
    (values-same name fields)

pub values-of : (name : List ℕ) (head : RequestHead) (pairs : List Pair) → pairs ≡ map name_and_value head.fields
    → values_of name head ≡ values_in name pairs
unfolding values_of
values-of name head pairs same = values-same name head.fields ∙ ap (values_in name) (sym same)

pub body_len-of : (head : RequestHead) (pairs : List Pair) → pairs ≡ map name_and_value head.fields
    → body_len head ≡ body_len_in pairs
body_len-of head pairs same =
    rw (values-of (codes "transfer-encoding") head pairs same, values-of (codes "content-length") head pairs same) refl

pub refused-fields : (text : List ℕ) (head : RequestHead) (fault : RequestFault) → IsHeadOf text head
    → body_len head ≡ Err fault → HeadReads text (Err fault)
refused-fields text head fault is_head refused =
    inl (head, is_head, ap (result_map_both (λ (count : ℕ). record { head = head; body_len = count }) (λ f. f)) (sym refused))

pub refused-text : (text : List ℕ) → IsNoHead text → HeadReads text (Err BadRequest)
refused-text text none = inr (none, refl)

length-map-of : {A B : Type 0} (f : A → B) (xs : List A) → length (map f xs) ≡ length xs
length-map-of f [] = refl
length-map-of f (x ∷ xs) = ap suc (length-map-of f xs)

-- a head that the whole text is
pub whole-head : (text : List ℕ) (headers : List HeaderSpan) (spans : RequestSpans) (head : RequestHead)
    → length headers ≡ 32 → spans.len ≡ length text → IsRequestAt text headers spans head → IsHeadOf text head
whole-head text headers spans head room all is = record {
  reads = subst (ReadsRequest text head) (drop_all spans.len text (omega arith)) is.reads;
  few =
      let count = length-map-of name_and_value head.fields in
      let spanned = length-map-of (header_bytes text) (take spans.headers headers) in
      let same = ap length is.fields in
      let taken = length-take spans.headers headers in
      omega arith;
}

-- a head has no other length
pub whole-len : (text : List ℕ) (headers : List HeaderSpan) (spans : RequestSpans) (head : RequestHead)
    → IsHeadOf text head → IsRequestAt text headers spans head → spans.len ≡ length text
whole-len text headers spans head is_head is =
    is.len ∙ ap length (sym (append-nil (print_request head))) ∙ ap length (sym is_head.reads.1)

-- what is said of a head, in the words of what is read of it
pub says-head : (text : List ℕ) (headers : List HeaderSpan) (spans : RequestSpans) (head : RequestHead) (judged : Judged)
    (target : List ℕ) (mark : ℕ) (pairs : List Pair)
    → IsHeadOf text head → IsRequestAt text headers spans head → pairs ≡ map name_and_value head.fields
    → target ≡ span_bytes text spans.path → mark ≡ position_or_len is_question target
    → judged.method ≡ method_of (span_bytes text spans.method) → judged.path ≡ path_of (take mark target)
    → judged.query ≡ drop (mark + 1) target → Ok judged.body_len ≡ body_len_in pairs
    → judged.closes ≡ (spans.version == 0 || list_any has_close (values_in (codes "connection") pairs))
    → Says text judged head
says-head text headers spans head judged target mark pairs is_head is same targeted marked method path query sizes closes =
    let whole : target ≡ head.target = targeted ∙ is.path in
    let place : mark ≡ position_or_len is_question head.target = marked ∙ ap (position_or_len is_question) whole in
    record {
      is_head = is_head;
      method = method ∙ ap method_of is.method;
      path = path ∙ ap (λ n. path_of (take n target)) place ∙ ap (λ t. path_of (take (position_or_len is_question head.target) t)) whole;
      query = query ∙ ap (λ n. drop (n + 1) target) place ∙ ap (λ t. drop (position_or_len is_question head.target + 1) t) whole;
      closes =
          closes
          ∙ ap (λ version. version == 0 || list_any has_close (values_in (codes "connection") pairs)) is.version
          ∙ ap (λ values. head.minor == 0 || list_any has_close values) (sym (values-of (codes "connection") head pairs same));
      body_len = body_len-of head pairs same ∙ sym sizes;
    }

pub sized-of : (text : List ℕ) (judged : Judged) (head : RequestHead) → Says text judged head
    → HeadReads text (Ok (record { head = head; body_len = judged.body_len }))
sized-of text judged head says =
    inl (
      head,
      says.is_head,
      ap (result_map_both (λ (count : ℕ). record { head = head; body_len = count }) (λ (fault : RequestFault). fault)) (sym says.body_len),
    )

pub request-of : (text body : List ℕ) (judged : Judged) (head : RequestHead) (more : ℕ) → Says text judged head
    → request_by judged body more ≡ request_of more head body
unfolding is_last
request-of text body judged head more says = rw (says.method, says.path, says.query, says.closes) refl
