-- Sample games one behind another.
use Rattle.std.proofs.Common.{◌≡◌, ℕ, ◌+◌, ◌≤◌, List, [], ◌∷◌, ◌++◌, length, refl, sym, ap, subst, ◌∙◌, arith, length-append}
use Rattle.rand_pcg.specs.Lcg.{Lcg}
use Rattle.sample_games.specs.Samples.{IsSample}
use Rattle.sample_games.specs.Streams.{generator}
use Rattle.sample_games.specs.StreamLaws.{joined-on, samples-on}
use Rattle.explorer.specs.Trial.Trying.{AreDrawn, AreShort, IsLastOf}

-- ---- one more sample

short-on : (texts : List (List ℕ)) (text : List ℕ) → AreShort texts → length text ≤ 2048 → AreShort (texts ++ text ∷ [])
short-on [] text all short = (short, tt)
short-on (one ∷ texts) text all short = (all.0, short-on texts text all.1 short)

last-on : (texts : List (List ℕ)) (text : List ℕ) → IsLastOf (texts ++ text ∷ []) text
last-on [] text = ([], refl)
last-on (one ∷ texts) text = (one ∷ texts, refl)

-- nothing is drawn
pub begins : (seed : ℕ) (stream last : List ℕ) (draws : Lcg) → stream ≡ [] → draws ≡ generator seed → AreDrawn 0 seed stream last draws
begins seed stream last draws none same = record { texts = []; drawn = same; count = refl; short = tt; joined_is = none; last_is = tt }

-- one more game is drawn
pub goes_on : (games seed : ℕ) (stream more last next : List ℕ) (draws behind : Lcg) → AreDrawn games seed stream last draws → IsSample games draws next behind → length next ≤ 2048 → more ≡ stream ++ next
    → AreDrawn (games + 1) seed more next behind
goes_on games seed stream more last next draws behind are sample short is =
    let number : games ≡ 0 + length are.texts = omega (arith, are.count) in
    record {
      texts = are.texts ++ next ∷ [];
      drawn = samples-on 0 (generator seed) draws behind are.texts next are.drawn (subst (λ (n : ℕ). IsSample n draws next behind) number sample);
      count = omega (arith, length-append are.texts (next ∷ []), are.count);
      short = short-on are.texts next are.short short;
      joined_is = is ∙ ap (λ (l : List ℕ). l ++ next) are.joined_is ∙ sym (joined-on are.texts next);
      last_is = last-on are.texts next;
    }

-- ---- the last text

pub last_short : (earlier : List (List ℕ)) (text : List ℕ) → AreShort (earlier ++ text ∷ []) → length text ≤ 2048
last_short [] text all = all.0
last_short (one ∷ earlier) text all = last_short earlier text all.1
