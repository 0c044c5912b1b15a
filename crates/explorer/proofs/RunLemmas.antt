-- What a run comes to whose words are refused, or for which there is no memory.
use Rattle.std.proofs.Common.{◌≡◌, inl, inr, ℕ, List, [], ◌∷◌, Option, None, Some, refl, sym, subst, ap, ◌∙◌}
use Rattle.outside.specs.Stream.{Stream, Writes}
use Rattle.explorer_model.specs.Openings.{NamedPosition}
use Rattle.host.specs.Hosts.{HostState}
use Rattle.outside.proofs.StreamLemmas.{writes-trans}
use Rattle.explorer.specs.declared.fault.Fault.TheVariants as faults
use Rattle.command_line.specs.Words.{EndsLine}
use Rattle.explorer.specs.Lines.{Done, Ending, IsTold, Stopped, Tells, TellsOf, status_of}
use Rattle.explorer.specs.Run.{Ends, Meets, Runs}
use Rattle.explorer.specs.Serve.Served.{Service}
use Rattle.command_line.specs.Task.{Task, task_of}
use Rattle.explorer.specs.World.{World, world}

pub refused_run : (words : List (List ℕ)) (input output errors errors' : Stream) (host : HostState) (text : List ℕ) (status : ℕ) → task_of words ≡ None → EndsLine text → status ≡ 2 → Writes (text ∷ []) errors errors'
    → Runs words (world input output errors host) (world input output errors' host) status
refused_run words input output errors errors' host text status none ends is writes = record {
  ending = Stopped faults.Usage;
  status_is = is;
  ended = world input output errors host;
  meets = inr (subst (λ (task : Option Task). Meets task (world input output errors host) (world input output errors host) (Stopped faults.Usage)) (sym none) (refl, refl));
  tells = ((text ∷ [], (text, ends, refl), writes), refl);
}

pub starved_run : (words : List (List ℕ)) (input output errors errors' : Stream) (host : HostState) (status : ℕ) → status ≡ 9 → TellsOf faults.OutOfMemory errors errors'
    → Runs words (world input output errors host) (world input output errors' host) status
starved_run words input output errors errors' host status is told = record {
  ending = Stopped faults.OutOfMemory;
  status_is = is;
  ended = world input output errors host;
  meets = inl (refl, refl);
  tells = (told, refl);
}

-- three pieces one after another
pub three_written : (a b c : List ℕ) (old first second new : Stream) → Writes (a ∷ []) old first → Writes (b ∷ []) first second → Writes (c ∷ []) second new → Writes (a ∷ b ∷ c ∷ []) old new
three_written a b c old first second new before named ended = writes-trans (a ∷ []) (b ∷ c ∷ []) old first new before (writes-trans (b ∷ []) (c ∷ []) first second new named ended)

-- what words ask for was done, or was stopped and that was told
pub ended_run : (words : List (List ℕ)) (task : Task) (before ended : World) (errors : Stream) (ending : Ending) (status : ℕ) → task_of words ≡ Some task → Ends task before ended ending → status ≡ status_of ending
    → IsTold ending ended.errors errors → Runs words before (record ended { errors = errors }) status
ended_run words task before ended errors ending status asked ends is told = record {
  ending = ending;
  status_is = is;
  ended = ended;
  meets = inr (subst (λ (t : Option Task). Meets t before ended ending) (sym asked) ends);
  tells = tells ending told;
}
  where
    tells : (e : Ending) → IsTold e ended.errors errors → Tells e ended (record ended { errors = errors })
    tells Done same = ap (λ (s : Stream). record ended { errors = s }) same
    tells (Stopped fault) of = (of, refl)

-- ---- what is asked of `serve`

abbrev pub service : List ℕ → List ℕ → List (List ℕ) → ℕ → ℕ → ℕ → List NamedPosition → Service
service store address files workers readers connections book = record {
  store = store;
  address = address;
  files = files;
  workers = workers;
  readers = readers;
  connections = connections;
  book = book;
}

pub same_service : (s s' a a' : List ℕ) (f f' : List (List ℕ)) (w w' r r' c : ℕ) (b : List NamedPosition) → s ≡ s' → a ≡ a' → f ≡ f' → w ≡ w' → r ≡ r'
    → service s a f w r c b ≡ service s' a' f' w' r' c b
same_service s s' a a' f f' w w' r r' c b store address files workers readers =
    ap (λ (x : List ℕ). service x a f w r c b) store ∙ ap (λ (x : List ℕ). service s' x f w r c b) address ∙ ap (λ (x : List (List ℕ)). service s' a' x w r c b) files
    ∙ ap (λ (x : ℕ). service s' a' f' x r c b) workers ∙ ap (λ (x : ℕ). service s' a' f' w' x c b) readers
