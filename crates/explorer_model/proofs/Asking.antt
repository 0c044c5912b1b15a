-- What stands first in the bytes of a connection is determined.
use Rattle.std.proofs.Common.{◌≡◌, ℕ, ◌-◌, ◌≤◌, ◌==◌, ◌||◌, Bool, true, false, MatchBool, nat_le, if◌then◌else◌, List, [], ◌∷◌, length, take, drop, codes, Option, Some, None, Result, Ok, Err, IfOk, refl, sym, ap, ◌∙◌, subst, inl, inr, arith, length-take}
use Rattle.std.specs.List.{list_any}
use Rattle.std.specs.Result.{result_map_both}
use Rattle.std.proofs.lemmas.Bool.Decides.{nat_tests}
use Rattle.httparse.specs.Grammar.{RequestHead}
use Rattle.httparse.proofs.GrammarLemmas.{request_unique}
use Rattle.explorer_model.specs.declared.wire.Asked.{Asked}
use Rattle.explorer_model.specs.declared.wire.Asked.TheVariants.{Done}
use Rattle.explorer_model.specs.declared.wire.RequestFault.{RequestFault}
use Rattle.explorer_model.specs.declared.wire.Request.{Request}
use Rattle.explorer_model.specs.declared.wire.RequestFault.TheVariants.{BadRequest, TooLarge}
use Rattle.explorer_model.specs.Wire.{body_limit, values_of, is_there, length_by, within_limit, body_len, has_close, is_last, request_of, IsHeadOf, Sized, sized, HeadReads, Opening, Head, TooLong, Begun, Blank, opening, Front, Whole, Refuses, Unfinished, Empty, front_of, IsFrontBy, IsFront, asked_by, AsksBehind, AsksFrom}

one-head : (text : List ℕ) (a b : RequestHead) → IsHeadOf text a → IsHeadOf text b → a ≡ b
one-head text a b first second = (request_unique text a b [] [] first.reads second.reads).0

one-reading : (text : List ℕ) (r s : Result Sized RequestFault) → HeadReads text r → HeadReads text s → r ≡ s
one-reading text r s (inl first) (inl second) =
    first.2 ∙ ap sized (one-head text first.0 second.0 first.1 second.1) ∙ sym second.2
one-reading text r s (inl first) (inr second) = absurd (second.0 first.0 first.1)
one-reading text r s (inr first) (inl second) = absurd (first.0 second.0 second.1)
one-reading text r s (inr first) (inr second) = first.1 ∙ sym second.1

one-front-by : (more : ℕ) (opening : Opening) (f g : Front) → IsFrontBy more opening f → IsFrontBy more opening g → f ≡ g
one-front-by more (Head text behind) f g first second =
    first.2 ∙ ap (λ reading. front_of more reading behind) (one-reading text first.0 second.0 first.1 second.1) ∙ sym second.2
one-front-by more TooLong f g first second = first ∙ sym second
one-front-by more Begun f g first second = first ∙ sym second
one-front-by more Blank f g first second = first ∙ sym second

pub one-front : (more : ℕ) (bytes : List ℕ) (f g : Front) → IsFront more bytes f → IsFront more bytes g → f ≡ g
one-front more bytes f g first second = one-front-by more (opening bytes) f g first second

one-behind-by : (last : Bool) (others more : List Asked) (A B : Type 0) → (A → B → others ≡ more)
    → MatchBool last (others ≡ Done ∷ []) A → MatchBool last (more ≡ Done ∷ []) B → others ≡ more
one-behind-by true others more A B same first second = first ∙ sym second
one-behind-by false others more A B same first second = same first second

one-behind : (front : Front) (others more : List Asked) (A B : List ℕ → Type 0)
    → ((rest : List ℕ) → A rest → B rest → others ≡ more)
    → AsksBehind A front others → AsksBehind B front more → others ≡ more
one-behind (Whole request rest) others more A B same first second =
    one-behind-by request.last others more (A rest) (B rest) (same rest) first second
one-behind (Refuses fault) others more A B same first second = first ∙ sym second
one-behind Unfinished others more A B same first second = first ∙ sym second
one-behind Empty others more A B same first second = first ∙ sym second

pub asked-once : (more : ℕ) (bytes : List ℕ) (asked others : List Asked)
    → AsksFrom more bytes asked → AsksFrom more bytes others → asked ≡ others
asked-once more bytes [] others first second = absurd first
asked-once more bytes (a ∷ asked) [] first second = absurd second
asked-once more bytes (a ∷ asked) (b ∷ others) first second =
    let front : first.0 ≡ second.0 = one-front more bytes first.0 second.0 first.1 second.1 in
    let B : List ℕ → Type 0 = λ rest. AsksFrom (more - 1) rest others in
    let at : Front → Type 0 = λ f. AsksBehind B f others in
    let item : a ≡ b = first.2 ∙ ap asked_by front ∙ sym second.2 in
    let later : asked ≡ others =
    one-behind first.0 asked others (λ rest. AsksFrom (more - 1) rest asked) B
    (λ rest. asked-once (more - 1) rest asked others) first.3 (subst at (sym front) second.3) in
    λ i. item i ∷ later i

-- ---- what holds of each request

-- the request, if there is one, meets the test
abbrev IfWhole : (Request → Type 0) → Front → Type 0
IfWhole P (Whole request rest) = P request
IfWhole P _ = Unit {0}

if-front : (P : Request → Type 0) (more : ℕ) (reading : Result Sized RequestFault) (behind : List ℕ)
    → IfOk reading (λ sized. P (request_of more sized.head (take sized.body_len behind))) → IfWhole P (front_of more reading behind)
if-front P more (Err fault) behind holds = tt
if-front P more (Ok sized) behind holds = by (nat_le sized.body_len (length behind))
  where
    by : (fits : Bool)
        → IfWhole P (if fits then Whole (request_of more sized.head (take sized.body_len behind)) (drop sized.body_len behind) else Unfinished)
    by true = holds
    by false = tt

abbrev IsNoWhole : Front → Type 0
IsNoWhole (Whole request rest) = ⊥
IsNoWhole _ = Unit {0}

abbrev sized_as : RequestHead → ℕ → Sized
sized_as head n = record { head = head; body_len = n }

-- what holds of each request that a head asks holds of each that stands first
each-request : (P : Request → Type 0) (more : ℕ)
    → ((head : RequestHead) (behind : List ℕ) → IfOk (sized head) (λ sized. P (request_of more sized.head (take sized.body_len behind))))
    → (opening : Opening) (request : Request) (rest : List ℕ) → IsFrontBy more opening (Whole request rest) → P request
each-request P more each (Head text behind) request rest (reading, inl read, is) =
    let holds : Result Sized RequestFault → Type 0 = λ reading. IfOk reading (λ sized. P (request_of more sized.head (take sized.body_len behind))) in
    subst (IfWhole P) (sym is) (if-front P more reading behind (subst holds (sym read.2) (each read.0 behind)))
each-request P more each (Head text behind) request rest (reading, inr refused, is) =
    let holds : Result Sized RequestFault → Type 0 = λ reading. IfOk reading (λ sized. P (request_of more sized.head (take sized.body_len behind))) in
    subst (IfWhole P) (sym is) (if-front P more reading behind (subst holds (sym refused.1) tt))
each-request P more each TooLong request rest is = absurd (subst IsNoWhole (sym is) tt)
each-request P more each Begun request rest is = absurd (subst IsNoWhole (sym is) tt)
each-request P more each Blank request rest is = absurd (subst IsNoWhole (sym is) tt)

limited : (count : Option ℕ) → IfOk (within_limit count) (λ n. n ≤ body_limit)
limited None = tt
limited (Some n) = by (nat_le n body_limit) refl
  where
    by : (fits : Bool) → nat_le n body_limit ≡ fits → IfOk (if fits then Ok n else Err TooLarge) (λ n. n ≤ body_limit)
    by true fits = grind (arith, nat_tests)
    by false fits = tt

body-limited : (head : RequestHead) → IfOk (body_len head) (λ n. n ≤ body_limit)
body-limited head = by (is_there (values_of (codes "transfer-encoding") head))
  where
    by : (coded : Bool) → IfOk (if coded then Err BadRequest else within_limit (length_by (values_of (codes "content-length") head))) (λ n. n ≤ body_limit)
    by true = tt
    by false = limited (length_by (values_of (codes "content-length") head))

sized-if : (P : Sized → Type 0) (head : RequestHead) (count : Result ℕ RequestFault)
    → IfOk count (λ n. P (record { head = head; body_len = n }))
    → IfOk (result_map_both (λ n. sized_as head n) (λ fault. fault) count) P
sized-if P head (Ok n) holds = holds
sized-if P head (Err fault) holds = tt

weaker : (P Q : ℕ → Type 0) (count : Result ℕ RequestFault) → ((n : ℕ) → P n → Q n) → IfOk count P → IfOk count Q
weaker P Q (Ok n) each holds = each n holds
weaker P Q (Err fault) each holds = tt

always : (P : ℕ → Type 0) (count : Result ℕ RequestFault) → ((n : ℕ) → P n) → IfOk count P
always P (Ok n) each = each n
always P (Err fault) each = tt

pub body-bounded : (more : ℕ) (bytes : List ℕ) (request : Request) (rest : List ℕ) → IsFront more bytes (Whole request rest)
    → length request.body ≤ body_limit
body-bounded more bytes request rest is =
    each-request (λ request. length request.body ≤ body_limit) more (λ head behind.
    sized-if (λ sized. length (take sized.body_len behind) ≤ body_limit) head (body_len head)
    (weaker (λ n. n ≤ body_limit) (λ n. length (take n behind) ≤ body_limit) (body_len head) (λ n fits. omega (arith, length-take n behind)) (body-limited head)))
    (opening bytes) request rest is

or-true : (a b : Bool) → (a || b || true) ≡ true
or-true true b = refl
or-true false true = refl
or-true false false = refl

last-is-last : (head : RequestHead) → is_last 1 head ≡ true
unfolding is_last
last-is-last head = or-true (head.minor == 0) (list_any has_close (values_of (codes "connection") head))

pub last-closes : (bytes : List ℕ) (request : Request) (rest : List ℕ) → IsFront 1 bytes (Whole request rest) → request.last ≡ true
last-closes bytes request rest is =
    each-request (λ request. request.last ≡ true) 1 (λ head behind.
    sized-if (λ sized. is_last 1 sized.head ≡ true) head (body_len head)
    (always (λ n. is_last 1 head ≡ true) (body_len head) (λ n. last-is-last head)))
    (opening bytes) request rest is
