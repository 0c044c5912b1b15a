-- Laws: orderings, one after another.
use Rattle.std.proofs.Common.{◌≡◌, true, Ordering, Less, Equal, Greater, is_lt, refl, ap}
use Rattle.std.specs.Ordering.{ordering_then}

pub less-is : (o : Ordering) → is_lt o ≡ true → o ≡ Less
less-is Less e = refl
less-is Equal e = cc
less-is Greater e = cc

pub then-less : (o next : Ordering) → o ≡ Less → ordering_then o next ≡ Less
then-less o next e = ap (λ p. ordering_then p next) e
