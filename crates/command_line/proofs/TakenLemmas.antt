-- Words that the command line takes name one of its subcommands.
use Rattle.std.proofs.Common.{◌≡◌, Bool, true, false, cond, List, [], ◌∷◌, Option, None, Some, is_some, option_map, refl}
use Rattle.std.specs.Prelude.{◌≢◌, IfSome}
use Rattle.std.specs.List.{AllByRecursion, find}
use Rattle.clap.specs.Faults.{check_fault, defaults_fault, entered_fault, fault_of, is_simple_and_free, settle_fault, walk_fault}
use Rattle.clap.specs.Kinds.{Kinds, or_else}
use Rattle.clap.specs.Simple.{App, Shape, argument_words, built, entered, is_simple, label_of, names_of, rows_at, subcommand_of}
use Rattle.clap.specs.Walk.{Row, Text, answers_to, finished, nothing_held, settled, stop_after, walk, walk_from}
use Rattle.command_line.specs.Task.{explorer_app, task_named}
use Rattle.command_line.specs.Words.{IsTaken}

or_left : (a b : Kinds) → or_else a b ≡ [] → a ≡ []
or_left [] b e = refl
or_left (k ∷ ks) b e = e

or_right : (a b : Kinds) → or_else a b ≡ [] → b ≡ []
or_right [] b e = e
or_right (k ∷ ks) b e = cc

-- the shape's name is that of a task
abbrev IsKnown : Shape → Type 0
IsKnown s = (rows : List Row) → task_named s.name rows ≢ None

find-known : (p : Shape → Bool) (subs : List Shape) → AllByRecursion IsKnown subs → IfSome (find p subs) IsKnown
find-known p [] h = tt
find-known p (s ∷ subs) h = go (p s) (find-known p subs h.1)
  where
    go : (b : Bool) → IfSome (find p subs) IsKnown → IfSome (cond b (Some s) (find p subs)) IsKnown
    go true rest = h.0
    go false rest = rest

abbrev explorer_built : App
explorer_built = built explorer_app

subcommands_known : AllByRecursion IsKnown explorer_built.subs
subcommands_known = ((λ rows e. cc), ((λ rows e. cc), ((λ rows e. cc), ((λ rows e. cc), ((λ rows e. cc), ((λ rows e. cc), ((λ rows e. cc), ((λ rows e. cc), tt))))))))

found-taken : (found : Option Shape) (words : List Text) (rows : List Row) → IfSome found IsKnown
    → check_fault explorer_built.top rows (is_some (option_map (λ s. rows_at s words) found)) ≡ []
    → IsTaken (option_map (λ s. rows_at s words) found)
found-taken None words rows known f = cc
found-taken (Some s) words rows known f = known (rows_at s words).1

stop-taken : (stop : Option (Text × List Text)) (rows : List Row)
    → check_fault explorer_built.top rows (is_some (entered explorer_built stop)) ≡ [] → IsTaken (entered explorer_built stop)
stop-taken None rows f = cc
stop-taken (Some p) rows f = found-taken (find (λ s. answers_to p.0 (label_of s)) explorer_built.subs) p.1 rows (find-known (λ s. answers_to p.0 (label_of s)) explorer_built.subs subcommands_known) f

-- words that the command line takes name a subcommand that it has
pub taken : (words : List Text) → fault_of explorer_app words ≡ [] → IsTaken (subcommand_of explorer_app words)
taken words e =
    let top = explorer_built.top in
    let names = names_of explorer_built in
    let given = argument_words explorer_built words in
    let stop = stop_after top.rules names given in
    let end = (walk top.rules names nothing_held given).held in
    let below = or_right (walk_fault top names (walk_from nothing_held) given) _ e in
    let settles = or_right (entered_fault explorer_built stop) _ below in
    let fills = or_right (settle_fault top.rules top.args_override_self end) _ settles in
    stop-taken stop (finished top.rules end) (or_right (defaults_fault (settled top.rules end).rows top.rules) _ fills)

pub explorer_is_free : is_simple_and_free explorer_app ≡ true
explorer_is_free = refl

pub explorer_is_simple : is_simple explorer_app ≡ true
explorer_is_simple = refl
