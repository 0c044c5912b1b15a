use Rattle.std.proofs.Common.{◌≡◌, ◌+◌, ◌<◌, ◌++◌, ◌∷◌, [], ℕ, List, Option, Some, drop, zero, suc, map, slice_get, rules, arith, refl, sym, ap, ◌∙◌, ◌⊎◌, inl, inr, add-one}
use Rattle.std.proofs.lemmas.Bool.{cases_eq}
use Rattle.std.proofs.lemmas.List.{map-append}
use Rattle.std.proofs.lemmas.Grind.{common_steps}
use Rattle.std.specs.Vec.Iter.{into_iter_items}
use Rattle.plain_laws.specs.Lists.{get-between, get-front}
use Rattle.outside.specs.Memory.{MemoryDoor, stream_of}
use Rattle.outside.specs.Stream.{Stream}
use Rattle.host.specs.Hosts.{AreFresh, fresh}
use Rattle.host.specs.Memory.{each_links, links_of}
use Rattle.host.proofs.memory.doors_of.Goals as goal

fresh_more : (k connections : ℕ) (links : ℕ → Option (List Stream)) (doors : List MemoryDoor) (door : MemoryDoor) (items : List MemoryDoor)
    → AreFresh k connections links (map (λ (d : MemoryDoor). d.connections) doors) → door.connections ≡ fresh connections (links k)
    → items ≡ doors ++ door ∷ [] → AreFresh (k + 1) connections links (map (λ (d : MemoryDoor). d.connections) items)
fresh_more k connections links doors door items are is items_is = record {
  number = rw items_is (grind (arith, common_steps, are.number));
  each = λ j below. rw (items_is, map-append) (by j (cases_eq j k) below);
}
  where
    by : (j : ℕ) → (j ≡ k) ⊎ (j ≡ k → ⊥) → j < k + 1
        → slice_get (map (λ (d : MemoryDoor). d.connections) doors ++ door.connections ∷ []) j ≡ Some (fresh connections (links j))
    by j (inl same) below = rw (same, ← are.number) (get-between (map (λ (d : MemoryDoor). d.connections) doors) door.connections [] ∙ ap Some (rw are.number is))
    by j (inr differs) below =
        let under : j < k = omega (arith, below, differs) in
        get-front (map (λ (d : MemoryDoor). d.connections) doors) _ j (rw are.number under) ∙ are.each j under

drop_next : {A : Type 0} (k : ℕ) (xs : List A) → slice_get (drop k xs) 0 ≡ slice_get xs k
drop_next zero xs = refl
drop_next (suc k) [] = refl
drop_next (suc k) (x ∷ xs) = drop_next k xs

drop_more : {A : Type 0} (k : ℕ) (xs : List A) → drop 1 (drop k xs) ≡ drop (k + 1) xs
drop_more zero xs = refl
drop_more (suc k) [] = rw add-one refl
drop_more (suc k) (x ∷ xs) = let e = drop_more k xs in rw add-one (rw add-one at e)

pub loop-preserved : goal.loop-preserved
loop-preserved c =
    let l = c.loop.invariant in
    let it = c.args.address.doors.items in
    let next : links_of (slice_get (into_iter_items c.loop.rest) 0) ≡ Some (map stream_of c.next_links-links.result.links.items) = c.next_links-links.ensures.links in
    let here : each_links (Some c.args.address) c.loop.counter ≡ Some (map stream_of c.next_links-links.result.links.items) =
    ap links_of (sym (drop_next c.loop.counter it)) ∙ (ap (λ (xs : _). links_of (slice_get xs 0)) (sym l.left) ∙ next) in
    let door : c.in_ok-new.field-0.connections ≡ fresh c.args.connections (each_links (Some c.args.address) c.loop.counter) =
    ap (λ (d : MemoryDoor). d.connections) c.in_ok-new.ensures ∙ ap (fresh c.args.connections) (sym here) in
    record {
      fresh = fresh_more c.loop.counter c.args.connections (each_links (Some c.args.address)) c.loop.doors.items c.in_ok-new.field-0 c.push_reserved.new.self.items l.fresh door c.push_reserved.ensures.items;
      left = c.next_links-links.ensures.rest ∙ (ap (drop 1) l.left ∙ drop_more c.loop.counter it);
      room = search rules;
    }
