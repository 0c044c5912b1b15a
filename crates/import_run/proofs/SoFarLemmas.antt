-- The groups of a stream that may go on.
use Rattle.std.proofs.Common.{◌≡◌, ℕ, ◌-◌, ◌<◌, ◌≤◌, ◌⊎◌, inl, inr, Bool, true, false, nat_lt, List, [], ◌∷◌, ◌++◌, Option, length, take, refl, sym, ap, subst, ◌∙◌, append_assoc, length-append, arith, suc}
use Rattle.std.proofs.lemmas.Bool.{ltb-true, ltb-false}
use Rattle.std.proofs.lemmas.List.{append-nil}
use Rattle.std.proofs.lemmas.Grind.{flat_map-append}
use Rattle.plain_laws.specs.Lists.{each-append}
use Rattle.explorer_model.specs.Cuts.{Cut, cuts}
use Rattle.import_run.specs.declared.open_import.OpenImport.{OpenImport}
use Rattle.import_run.specs.declared.open_import.Stopped.{Stopped}
use Rattle.import_run.specs.Committing.{Store}
use Rattle.import_run.specs.SoFar.{AreGroupsSoFar, AreInGroups, IsWhole, ended_cuts}
use Rattle.import_run.specs.Taking.{LacksWithin, StopsWithin}
use Rattle.import_run.proofs.GroupLemmas.{texts_in, all_cuts}
use Rattle.import_run.proofs.HoldLemmas.{is_whole}

-- ---- any cuts stand in groups

-- whole groups, and a group in hand
pub record InGroups (cuts : List Cut) : Type 0 where
  pub whole : List (List Cut)
  pub hand : List Cut
  pub are : AreInGroups cuts whole hand

few_or_many : (n : ℕ) → (n < 512) ⊎ (512 ≤ n)
few_or_many n = by_test (nat_lt n 512) refl
  where
    by_test : (b : Bool) → nat_lt n 512 ≡ b → (n < 512) ⊎ (512 ≤ n)
    by_test true is = inl (ltb-true n 512 is)
    by_test false is = inr (ltb-false n 512 is)

-- one more cut closes the group in hand, or goes on with it
one_more : (hand : List Cut) (cut : Cut) (cuts : List Cut) → texts_in hand < 512 → (texts_in (hand ++ cut ∷ []) < 512 → InGroups ((hand ++ cut ∷ []) ++ cuts)) → InGroups cuts
    → (texts_in (hand ++ cut ∷ []) < 512) ⊎ (512 ≤ texts_in (hand ++ cut ∷ [])) → InGroups (hand ++ cut ∷ cuts)
one_more hand cut cuts few on later (inl few_still) = subst InGroups (append_assoc hand (cut ∷ []) cuts) (on few_still)
one_more hand cut cuts few on later (inr many) =
    let whole : IsWhole (hand ++ cut ∷ []) = is_whole hand cut few many in
    record {
      whole = (hand ++ cut ∷ []) ∷ later.whole;
      hand = later.hand;
      are = record {
        all =
            sym (append_assoc hand (cut ∷ []) cuts) ∙ ap (λ (l : List Cut). (hand ++ cut ∷ []) ++ l) later.are.all
            ∙ sym (append_assoc (hand ++ cut ∷ []) (all_cuts later.whole) later.hand);
        each = (whole, later.are.each);
        few = later.are.few;
      };
    }

pub in_groups_behind : (hand : List Cut) (cuts : List Cut) → texts_in hand < 512 → InGroups (hand ++ cuts)
in_groups_behind hand [] few = record {
  whole = [];
  hand = hand;
  are = record { all = append-nil hand; each = tt; few = few };
}
in_groups_behind hand (cut ∷ cuts) few =
    one_more hand cut cuts few (λ still. in_groups_behind (hand ++ cut ∷ []) cuts still) (in_groups_behind [] cuts (omega arith)) (few_or_many (texts_in (hand ++ cut ∷ [])))

pub in_groups : (cuts : List Cut) → InGroups cuts
in_groups cuts = in_groups_behind [] cuts (omega arith)

-- ---- the cuts that have ended

pub take_front : (front back : List Cut) → 0 < length back → take (length (front ++ back) - 1) (front ++ back) ≡ front ++ take (length back - 1) back
take_front [] back some = refl
take_front (cut ∷ front) back some =
    let long : length ((cut ∷ front) ++ back) - 1 ≡ suc (length (front ++ back) - 1) = omega (arith, length-append front back, some) in
    ap (λ (n : ℕ). take n (cut ∷ (front ++ back))) long ∙ ap (λ (l : List Cut). cut ∷ l) (take_front front back some)

pub ended_front : (stream : List ℕ) (front back : List Cut) → front ++ back ≡ cuts stream → 0 < length back → ended_cuts stream ≡ front ++ take (length back - 1) back
ended_front stream front back all some = ap (λ (l : List Cut). take (length l - 1) l) (sym all) ∙ take_front front back some

-- all cuts that have come, where no more than one more is to come
pub ended_taken : (stream : List ℕ) (taken last : List Cut) → taken ++ last ≡ cuts stream → length last ≤ 1 → (0 < length taken → 0 < length last) → ended_cuts stream ≡ taken
ended_taken stream [] [] all few begun = ap (λ (l : List Cut). take (length l - 1) l) (sym all)
ended_taken stream (cut ∷ taken) [] all few begun = absurd (let some = begun (omega arith) in omega (arith, some))
ended_taken stream taken (last ∷ []) all few begun = ended_front stream taken (last ∷ []) all (omega arith) ∙ append-nil taken
ended_taken stream taken (last ∷ more ∷ rest) all few begun = absurd (omega (arith, few))

-- ---- groups of which one is named, or a front is settled

pub regroup : (closed : List (List Cut)) (next : List Cut) (rest : List (List Cut)) (hand : List Cut) → (all_cuts closed ++ next) ++ (all_cuts rest ++ hand) ≡ all_cuts (closed ++ next ∷ rest) ++ hand
regroup closed next rest hand =
    sym (append_assoc (all_cuts closed ++ next) (all_cuts rest) hand)
    ∙ ap (λ (l : List Cut). l ++ hand) (append_assoc (all_cuts closed) next (all_cuts rest) ∙ sym (flat_map-append (λ (group : List Cut). group) closed (next ∷ rest)))

pub regroup_all : (closed rest : List (List Cut)) (hand : List Cut) → all_cuts closed ++ (all_cuts rest ++ hand) ≡ all_cuts (closed ++ rest) ++ hand
regroup_all closed rest hand =
    sym (append_assoc (all_cuts closed) (all_cuts rest) hand)
    ∙ ap (λ (l : List Cut). l ++ hand) (sym (flat_map-append (λ (group : List Cut). group) closed rest))

-- ---- a stream within which an import ended

-- groups, and others behind them, are the first of those so far
abbrev pub BeginSoFar : List ℕ → Option (List ℕ) → List (List Cut) → List (List Cut) → Type 0
BeginSoFar stream left_over done others = (more : List (List Cut)) × AreGroupsSoFar stream left_over (done ++ (others ++ more))

module _ {J : Type 0} (start : Option Store) (stream : List ℕ) (left_over : Option (List ℕ)) (import : OpenImport J) (told : Option Store) where
  -- by a commit of a group
  pub stopped_so_far : (stopped : Stopped J) (w : StopsWithin start stream import stopped told) → (rest : List (List Cut)) × AreGroupsSoFar stream left_over (w.stops.closed ++ w.stops.next ∷ rest)
  stopped_so_far stopped w =
      let s = w.stops in
      let later = in_groups (take (length w.more - 1) w.more) in (
        later.whole,
        inl (
          later.hand,
          record {
            all =
                ended_front stream w.taken w.more w.cut w.some
                ∙ ap (λ (l : List Cut). l ++ take (length w.more - 1) w.more) s.all
                ∙ ap (λ (l : List Cut). (all_cuts s.closed ++ s.next) ++ l) later.are.all
                ∙ regroup s.closed s.next later.whole later.hand;
            each = each-append IsWhole s.closed (s.next ∷ later.whole) s.each (s.whole, later.are.each);
            few = later.are.few;
          },
        ),
      )

  -- for want of memory
  pub lacking_so_far : (w : LacksWithin start stream import told) → BeginSoFar stream left_over w.lacks.closed w.lacks.others
  lacking_so_far w = by_more w.more w.cut w.begun
    where
      behind : (rest : List Cut) → ended_cuts stream ≡ all_cuts w.lacks.closed ++ (all_cuts w.lacks.others ++ rest) → BeginSoFar stream left_over w.lacks.closed w.lacks.others
      behind rest is =
          let l = w.lacks in
          let later = in_groups rest in
          let more = l.others ++ later.whole in (
            later.whole,
            inl (
              later.hand,
              record {
                all =
                    is
                    ∙ ap (λ (k : List Cut). all_cuts l.closed ++ (all_cuts l.others ++ k)) later.are.all
                    ∙ ap (λ (k : List Cut). all_cuts l.closed ++ k) (regroup_all l.others later.whole later.hand)
                    ∙ regroup_all l.closed more later.hand;
                each = each-append IsWhole l.closed more l.each (each-append IsWhole l.others later.whole l.each_other later.are.each);
                few = later.are.few;
              },
            ),
          )

      some_ended : (more : List Cut) → w.taken ++ more ≡ cuts stream → 0 < length more → BeginSoFar stream left_over w.lacks.closed w.lacks.others
      some_ended more cut some =
          let l = w.lacks in
          let ended = take (length more - 1) more in
          behind (l.hand ++ take (length more - 1) more)
          (ended_front stream w.taken more cut some
          ∙ ap (λ (k : List Cut). k ++ ended) l.all
          ∙ append_assoc (all_cuts l.closed) (all_cuts l.others ++ l.hand) ended
          ∙ ap (λ (k : List Cut). all_cuts l.closed ++ k) (append_assoc (all_cuts l.others) l.hand ended))

      none_ended : (taken : List Cut) → taken ≡ w.taken → w.taken ++ [] ≡ cuts stream → (0 < length w.taken → ⊥) → BeginSoFar stream left_over w.lacks.closed w.lacks.others
      none_ended (cut ∷ taken) is_taken cut_is none = absurd (none (omega (arith, ap length is_taken)))
      none_ended [] is_taken cut_is none =
          let l = w.lacks in
          let empty : ended_cuts stream ≡ [] = ap (λ (k : List Cut). take (length k - 1) k) (sym cut_is ∙ ap (λ (k : List Cut). k ++ []) (sym is_taken)) in
          behind l.hand (empty ∙ is_taken ∙ l.all)

      by_more : (more : List Cut) → w.taken ++ more ≡ cuts stream → (0 < length w.taken → 0 < length more) → BeginSoFar stream left_over w.lacks.closed w.lacks.others
      by_more [] cut begun = none_ended w.taken refl cut (λ some. absurd (omega (arith, begun some)))
      by_more (one ∷ more) cut begun = some_ended (one ∷ more) cut (omega arith)
