-- The number of each refusal, as the C header's table has them: an edit that exchanges two numbers in the definition and in the code is
-- refused here. By computation; assumes nothing.
use mathlib.Core.Path.{◌≡◌, refl}
use Rattle.refusals.specs.declared.Refusal.TheVariants.{NetworkEnds, NetworkNotShortest, NetworkContinues, NetworkLimits, SameEnds, LinkLoop, NetworkRemains, BufferShort, HorizonLimits, CutShort, AmountLimits, NoChain, PlanBufferShort, PlanEnds, PlanNotShortest, PlanContinues, PlanLimits, PlanRemains, LogEntry, LogDistance, LogSlot, AnotherNetwork}
use Rattle.refusals.specs.Numbers.{number_of}

pub numbers : (number_of NetworkEnds ≡ 1)
    × (number_of NetworkNotShortest ≡ 2)
    × (number_of NetworkContinues ≡ 3)
    × (number_of NetworkLimits ≡ 4)
    × (number_of SameEnds ≡ 5)
    × (number_of LinkLoop ≡ 6)
    × (number_of NetworkRemains ≡ 7)
    × (number_of BufferShort ≡ 8)
    × (number_of HorizonLimits ≡ 9)
    × (number_of CutShort ≡ 10)
    × (number_of AmountLimits ≡ 11)
    × (number_of NoChain ≡ 12)
    × (number_of PlanBufferShort ≡ 13)
    × (number_of PlanEnds ≡ 14)
    × (number_of PlanNotShortest ≡ 15)
    × (number_of PlanContinues ≡ 16)
    × (number_of PlanLimits ≡ 17)
    × (number_of PlanRemains ≡ 18)
    × (number_of LogEntry ≡ 20)
    × (number_of LogDistance ≡ 21)
    × (number_of LogSlot ≡ 22)
    × (number_of AnotherNetwork ≡ 23)
numbers = (refl, refl, refl, refl, refl, refl, refl, refl, refl, refl, refl, refl, refl, refl, refl, refl, refl, refl, refl, refl, refl, refl)
