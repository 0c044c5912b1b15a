-- What is handed out, one thing after another.
use Rattle.std.proofs.Common.{◌≡◌, ℕ, zero, suc, ◌+◌, ◌<◌, List, [], ◌∷◌, ◌++◌, length, map, take, slice_index_or, Some, refl, sym, ap, subst, ◌∙◌, append_assoc, append-nil, arith}
use Rattle.std.specs.List.{AllByRecursion, AllZip}
use Rattle.std.proofs.lemmas.List.{length-map, map-append, reverse-append}
use Rattle.std.proofs.lemmas.Slice.Zip.{all_zipped_more}
use Rattle.outside.specs.Doors.{Connections}
use Rattle.outside.specs.Stream.{Stream}
use Rattle.host.specs.Hosts.{FileOut, HandsFile, HostCall, HostState, RefusesFile, added, noted}
use Rattle.explorer_model.specs.declared.archive.Batch.{Batch}
use Rattle.explorer_model.specs.Timeline.{IsPrefix}
use Rattle.published_index.specs.Places.{new_drawing}
use Rattle.published_index.specs.States.{Watching, watching}
use Rattle.explorer.specs.declared.serve.workers.FileWork.{FileWork}
use Rattle.explorer.specs.declared.serve.workers.ReaderWork.{ReaderWork}
use Rattle.explorer.specs.declared.serve.workers.Worker.{Worker}
use Rattle.explorer.specs.declared.serve.workers.Worker.TheVariants.{File, Reader, Merger}
use Rattle.explorer.specs.Serve.Served.{file_at, files_out}
use Rattle.explorer.specs.Serve.Workers.{FilesOut, FilesRefused, HasReaders, IsFileOf, IsReaderOf, name_at}
use Rattle.explorer.proofs.ServeLemmas.HostCalls.{name_is}

-- the first i + 1 of texts
pub take-one-more : {A : Type 0} (text : A → List ℕ) (xs : List A) (i : ℕ) (d : A) → i < length xs
    → take (i + 1) (map text xs) ≡ take i (map text xs) ++ text (slice_index_or xs i d) ∷ []
take-one-more text [] i d below = absurd (omega arith)
take-one-more text (x ∷ xs) zero d below = refl
take-one-more {A} text (x ∷ xs) (suc i) d below =
    let same : suc i + 1 ≡ suc (i + 1) = omega arith in
    ap (λ (n : ℕ). take n (map text (x ∷ xs))) same
    ∙ ap (λ (l : List (List ℕ)). text x ∷ l) (take-one-more text xs i d (omega arith))

front-of : {A : Type 0} (n : ℕ) (xs : List A) → IsPrefix (take n xs) xs
front-of zero xs = record { rest = xs; is = refl }
front-of (suc n) [] = record { rest = []; is = refl }
front-of (suc n) (x ∷ xs) = let p = front-of n xs in record { rest = p.rest; is = ap (λ l. x ∷ l) p.is }

pub files-out-last : (names : List (List ℕ)) (name : List ℕ) → files_out (names ++ name ∷ []) ≡ FileOut name ∷ files_out names
files-out-last names name = ap (λ (l : List (List ℕ)). map FileOut l) (reverse-append names (name ∷ []))

pub files-out-more : {F G J : Type 0} (source : F → Stream) (names : List (List ℕ)) (name : List ℕ) (workers : List (Worker F G J))
    (file : FileWork F J) (before now after : HostState) → FilesOut source names workers before now
    → HandsFile name (source file.source) now after → file.drawer ≡ new_drawing
    → FilesOut source (names ++ name ∷ []) (workers ++ File file ∷ []) before after
files-out-more source names name workers file before now after out hands new = record {
  files = all_zipped_more (IsFileOf source before) names workers name (File file) out.files
      (hands.stood ∙ ap (λ (h : HostState). file_at h name) out.rest, new);
  rest = hands.rest
      ∙ (ap (λ (h : HostState). record h { calls = noted (FileOut name) h.calls }) out.rest
      ∙ ap (λ (calls : List HostCall). record before { calls = added calls before.calls }) (sym (files-out-last names name)));
}

pub files-refused : {F G J : Type 0} {A : Type 0} (text : A → List ℕ) (source : F → Stream) (all : List A) (i : ℕ) (d : A) (name : List ℕ)
    (workers : List (Worker F G J)) (before now after : HostState) → i < length all → length workers ≡ i → name ≡ text (slice_index_or all i d)
    → FilesOut source (take i (map text all)) workers before now → RefusesFile name now after
    → FilesRefused source (map text all) workers before after
files-refused text source all i d name workers before now after below count is out refuses = record {
  front = take i (map text all);
  name = name;
  next = rw is (subst (λ (front : List (List ℕ)). IsPrefix front (map text all)) (take-one-more text all i d below) (front-of (i + 1) (map text all)));
  at = is ∙ (sym (name_is text all i d (omega (arith, below, length-map all text))) ∙ ap (λ (k : ℕ). name_at (map text all) k) (sym count));
  middle = now;
  handed = out;
  refused = refuses;
}

-- ---- readers

-- readers were put behind others, one for each door that is not left
pub record HasSomeReaders {F G J : Type 0} (door : G → Connections) (opening : List Batch) (doors left : List G)
    (passes : List Watching) (others all : List (Worker F G J)) : Type 0 where
  pub handed : List G
  pub doors_are : doors ≡ handed ++ left
  pub readers : List (Worker F G J)
  pub all_are : all ≡ others ++ readers
  pub are_readers : AllZip (IsReaderOf door opening) (map door handed) readers
  pub passes_are : AllByRecursion (λ pass. pass ≡ watching opening) passes

pub no-readers : {F G J : Type 0} (door : G → Connections) (opening : List Batch) (doors : List G) (passes : List Watching)
    (others : List (Worker F G J)) → AllByRecursion (λ pass. pass ≡ watching opening) passes
    → HasSomeReaders door opening doors doors passes others others
no-readers door opening doors passes others are = record {
  handed = [];
  doors_are = refl;
  readers = [];
  all_are = sym (append-nil others);
  are_readers = tt;
  passes_are = are;
}

all-front : {A : Type 0} (P : A → Type 0) (xs : List A) (x : A) → AllByRecursion P (xs ++ x ∷ []) → AllByRecursion P xs × P x
all-front P [] x all = (tt, all.0)
all-front P (y ∷ ys) x all = let rest = all-front P ys x all.1 in ((all.0, rest.0), rest.1)

pub more-readers : {F G J : Type 0} (door : G → Connections) (opening : List Batch) (doors left left' : List G)
    (passes passes' : List Watching) (others all all' : List (Worker F G J)) (reader : ReaderWork G J)
    → left ≡ reader.door ∷ left' → passes ≡ passes' ++ reader.pass ∷ [] → all' ≡ all ++ Reader reader ∷ []
    → reader.drawer ≡ Some new_drawing
    → HasSomeReaders door opening doors left passes others all
    → HasSomeReaders door opening doors left' passes' others all'
more-readers door opening doors left left' passes passes' others all all' reader d p a new h =
    let are = all-front (λ pass. pass ≡ watching opening) passes' reader.pass
    (subst (λ (ps : List Watching). AllByRecursion (λ pass. pass ≡ watching opening) ps) p h.passes_are) in
    record {
      handed = h.handed ++ reader.door ∷ [];
      doors_are = h.doors_are ∙ (ap (λ l. h.handed ++ l) d ∙ sym (append_assoc h.handed (reader.door ∷ []) left'));
      readers = h.readers ++ Reader reader ∷ [];
      all_are = a ∙ (ap (λ l. l ++ Reader reader ∷ []) h.all_are ∙ append_assoc others h.readers (Reader reader ∷ []));
      are_readers = subst (λ (ds : List Connections). AllZip (IsReaderOf door opening) ds (h.readers ++ Reader reader ∷ []))
          (sym (map-append door h.handed (reader.door ∷ [])))
          (all_zipped_more (IsReaderOf door opening) (map door h.handed) h.readers (door reader.door) (Reader reader) h.are_readers (refl, are.1, new));
      passes_are = are.0;
    }

-- no door is left
pub all-readers : {F G J : Type 0} (door : G → Connections) (opening : List Batch) (doors left : List G)
    (passes : List Watching) (others all all' : List (Worker F G J)) → left ≡ [] → all' ≡ all ++ Merger ∷ []
    → HasSomeReaders door opening doors left passes others all
    → HasReaders door opening (map door doors) others all'
all-readers door opening doors left passes others all all' none a h = record {
  readers = h.readers;
  are = a ∙ (ap (λ l. l ++ Merger ∷ []) h.all_are ∙ append_assoc others h.readers (Merger ∷ []));
  are_readers = subst (λ (ds : List _). AllZip (IsReaderOf door opening) (map door ds) h.readers)
      (sym (h.doors_are ∙ (ap (λ l. h.handed ++ l) none ∙ append-nil h.handed))) h.are_readers;
}
