use Rattle.std.proofs.Common.{◌≡◌, sym, ◌∙◌}
use Rattle.outside.specs.Ports.{Scratch}
use Rattle.host.proofs.laws.what_is_handed_out_is_determined.Goals as goal

same_scratch : (port other : Scratch) → port.appended ≡ other.appended → port.size ≡ other.size
    → port.faults ≡ other.faults → port ≡ other
same_scratch port other appended size faults =
    λ i. record { appended = appended i; size = size i; faults = faults i }

pub returns-clause-port : goal.returns-clause-port
returns-clause-port c = λ name port other before after later hands hands'. (
  same_scratch port other (hands.told ∙ sym hands'.told) (hands.empty ∙ sym hands'.empty) (hands.faultless ∙ sym hands'.faultless),
  hands.rest ∙ sym hands'.rest,
)
