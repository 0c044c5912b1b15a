-- What is read of the arguments of a command, and what its words ask for.
use Rattle.std.proofs.Common.{◌≡◌, ◌∙◌, ℕ, ◌≤◌, Bool, true, false, cond, List, [], ◌∷◌, Option, None, Some, Result, Ok, Err, refl, sym, ap, subst, unwrap_or, option_map, Bor, inl, inr, arith, map}
use Rattle.std.specs.Prelude.{◌≢◌}
use Rattle.std.specs.Str.Parse.{ParsesUnsigned, digits_value, without_leading_plus}
use Rattle.clap.specs.Faults.{fault_of}
use Rattle.clap.specs.Kinds.{HasKind, Kinds}
use Rattle.clap.specs.Matches.{ReadsOne}
use Rattle.clap.specs.Simple.{subcommand_of}
use Rattle.clap.specs.Values.{Accepts, kind_of}
use Rattle.clap.specs.ValueTests.{is_unsigned_in}
use Rattle.clap.specs.Walk.{Row, Text}
use Rattle.clap.proofs.ValueTestLemmas.{accepts-Accepts, Accepts-accepts}
use Rattle.clap.specs.declared.builder.value_parser.ValueParser.TheVariants as parser
use Rattle.clap.specs.declared.error.Error.{Error}
use Rattle.clap.specs.declared.error.kind.ErrorKind.TheVariants as ErrorKind
use Rattle.explorer_model.specs.declared.fault.Stop.{Stop}
use Rattle.explorer_model.specs.declared.fault.Stop.TheVariants as stops
use Rattle.command_line.specs.declared.words.UsageError.{UsageError}
use Rattle.command_line.specs.Task.{Bounds, Task, explorer_app, number_of, task_of, task_said, task_unless}
use Rattle.command_line.specs.Words.{IsTaken, IsTold, Refuses}
use Rattle.command_line.proofs.TakenLemmas.{taken}

-- ---- arguments

abbrev within_test : Bounds → Text → Bool
within_test bounds text = is_unsigned_in bounds.least bounds.most text

within_by : (bounds : Bounds) (text : Text) (default : ℕ) (b : Bool) → within_test bounds text ≡ b → number_of bounds default (Some text) ≡ cond b (digits_value 10 (without_leading_plus text)) default
within_by bounds text default true is = rw is refl
within_by bounds text default false is = rw is refl

-- the number that is read is the one that is given
pub is_given : {E : Type 0} (G : Text → Result ℕ E → Type 0) (bounds : Bounds) (text : Option Text) (number default : ℕ)
    → ((t : Text) → text ≡ Some t → ReadsOne G t (Some number)) → ((t : Text) (r : Result ℕ E) → G t r → ParsesUnsigned 64 10 t r)
    → (text ≡ None → Some number ≡ None) → bounds.least ≤ number → number ≤ bounds.most → number ≡ number_of bounds default text
is_given G bounds None number default reads parses none low high = absurd (let bad = none refl in cc)
is_given G bounds (Some text) number default reads parses none low high =
    let parsed = parses text (Ok number) (reads text refl) in
    let is : number ≡ digits_value 10 (without_leading_plus text) = parsed.1 in
    let within : Accepts false (parser.Unsigned bounds.least bounds.most) text =
    (parsed.0.0, parsed.0.1, subst (λ (n : ℕ). bounds.least ≤ n) is low, subst (λ (n : ℕ). n ≤ bounds.most) is high) in
    is ∙ sym (within_by bounds text default true (Accepts-accepts false (parser.Unsigned bounds.least bounds.most) text within))

-- a number out of the bounds is not taken
pub is_out : {E : Type 0} (G : Text → Result ℕ E → Type 0) (bounds : Bounds) (text : Option Text) (number default : ℕ)
    → ((t : Text) → text ≡ Some t → ReadsOne G t (Some number)) → ((t : Text) (r : Result ℕ E) → G t r → ParsesUnsigned 64 10 t r)
    → (bounds.least ≤ number → number ≤ bounds.most → ⊥) → default ≡ number_of bounds default text
is_out G bounds None number default reads parses out = refl
is_out G bounds (Some text) number default reads parses out = go (within_test bounds text) refl
  where
    go : (b : Bool) → within_test bounds text ≡ b → default ≡ number_of bounds default (Some text)
    go false e = sym (within_by bounds text default false e)
    go true e =
        let accepted : Accepts false (parser.Unsigned bounds.least bounds.most) text = accepts-Accepts false (parser.Unsigned bounds.least bounds.most) text e in
        let is : number ≡ digits_value 10 (without_leading_plus text) = (parses text (Ok number) (reads text refl)).1 in
        absurd (out (omega (arith, accepted.2, is)) (omega (arith, accepted.3, is)))

-- where none is read, none is given
pub none_given : {E : Type 0} (G : Text → Result ℕ E → Type 0) (bounds : Bounds) (text : Option Text) (default : ℕ)
    → ((t : Text) → text ≡ Some t → ReadsOne {T = ℕ} {E = E} G t None) → ((t : Text) (r : Result ℕ E) → G t r → ParsesUnsigned 64 10 t r)
    → default ≡ number_of bounds default text
none_given G bounds None default reads parses = refl
none_given {E} G bounds (Some text) default reads parses = go (within_test bounds text) refl
  where
    failed : (e : E) × G text (Err e)
    failed = reads text refl

    go : (b : Bool) → within_test bounds text ≡ b → default ≡ number_of bounds default (Some text)
    go false e = sym (within_by bounds text default false e)
    go true e =
        let accepted : Accepts false (parser.Unsigned bounds.least bounds.most) text = accepts-Accepts false (parser.Unsigned bounds.least bounds.most) text e in
        absurd (parses text (Err failed.0) failed.1 (accepted.0, accepted.1))

-- the text that is given, or none
pub given_or_none : (given : Option (Bor Text)) (none : Bor Text) (text : Option Text) → none.now ≡ [] → option_map (λ s. s.now) given ≡ text
    → (unwrap_or given none).now ≡ unwrap_or text []
given_or_none None none text empty is = empty ∙ ap (λ t. unwrap_or t []) is
given_or_none (Some s) none text empty is = ap (λ t. unwrap_or t []) is

-- all texts that are given, or none
pub given_none : (given : Option (Bor (List (Bor Text)))) (texts : Option (List Text)) → given ≡ None → option_map (λ s. map (λ v. v.now) s.now) given ≡ texts → [] ≡ unwrap_or texts []
given_none None texts is are = ap (λ (t : Option (List Text)). unwrap_or t []) are
given_none (Some s) texts is are = cc

pub given_list : (given : Option (Bor (List (Bor Text)))) (some : Bor (List (Bor Text))) (texts : Option (List Text)) → given ≡ Some some → option_map (λ s. map (λ v. v.now) s.now) given ≡ texts
    → map (λ (v : Bor Text). v.now) some.now ≡ unwrap_or texts []
given_list None some texts is are = cc
given_list (Some s) some texts is are =
    let same : s ≡ some = cc in
    ap (λ (b : Bor (List (Bor Text))). map (λ (v : Bor Text). v.now) b.now) (sym same) ∙ ap (λ (t : Option (List Text)). unwrap_or t []) are

-- ---- words that are taken

-- they ask for what their subcommand says
pub task_taken : (words : List Text) (task : Task) → fault_of explorer_app words ≡ [] → task_said (subcommand_of explorer_app words) ≡ Some task → task_of words ≡ Some task
task_taken words task none said = ap (λ (kinds : Kinds). task_unless kinds (task_said (subcommand_of explorer_app words))) none ∙ said

said_something : (given : Option (Text × List Row)) → IsTaken given → task_said given ≡ None → ⊥
said_something None is none = absurd is
said_something (Some (name, rows)) is none = absurd (is none)

-- ---- words that are refused

refused_by : (kinds : Kinds) (task : Option Task) → kinds ≢ [] → task_unless kinds task ≡ None
refused_by [] task some = absurd (some refl)
refused_by (kind ∷ kinds) task some = refl

-- the command line refuses words exactly where they ask for nothing
pub asks_nothing : (words : List Text) → fault_of explorer_app words ≢ [] → task_of words ≡ None
asks_nothing words faulty = refused_by (fault_of explorer_app words) (task_said (subcommand_of explorer_app words)) faulty

pub is_refused : (words : List Text) → task_of words ≡ None → fault_of explorer_app words ≢ []
is_refused words nothing none =
    said_something (subcommand_of explorer_app words) (taken words none)
    (sym (ap (λ (kinds : Kinds). task_unless kinds (task_said (subcommand_of explorer_app words))) none) ∙ nothing)

pub refused : (words : List Text) (error : Error) (stop : Stop UsageError) → (kind_of error ≡ ErrorKind.OutOfMemory → stop ≡ stops.OutOfMemory)
    → IsTold stop → HasKind (fault_of explorer_app words) error → Refuses words stop
refused words error stops.OutOfMemory memory told has = tt
refused words error (stops.Fault usage) memory told has = (asks_nothing words faulty, told)
  where
    faulty : fault_of explorer_app words ≡ [] → ⊥
    faulty none = elim (subst (λ (kinds : Kinds). HasKind kinds error) none has) [ inl out ↦ different (memory out) | inr among ↦ among ]
      where
        different : stops.Fault usage ≡ stops.OutOfMemory → ⊥
        different same = cc
