-- No refusal has the number 0, which says in the C interface that nothing was refused. By cases; assumes nothing.
use Prim.Native.Nat.{◌<◌}
use native.Mathlib.Omega.{arith}
use Rattle.refusals.specs.declared.Refusal.{Refusal}
use Rattle.refusals.specs.declared.Refusal.TheVariants.{NetworkEnds, NetworkNotShortest, NetworkContinues, NetworkLimits, SameEnds, LinkLoop, NetworkRemains, BufferShort, HorizonLimits, CutShort, AmountLimits, NoChain, PlanBufferShort, PlanEnds, PlanNotShortest, PlanContinues, PlanLimits, PlanRemains, LogEntry, LogDistance, LogSlot, AnotherNetwork}
use Rattle.refusals.specs.Numbers.{number_of}

pub positive : (e : Refusal) → 0 < number_of e
positive NetworkEnds = omega arith
positive NetworkNotShortest = omega arith
positive NetworkContinues = omega arith
positive NetworkLimits = omega arith
positive SameEnds = omega arith
positive LinkLoop = omega arith
positive NetworkRemains = omega arith
positive BufferShort = omega arith
positive HorizonLimits = omega arith
positive CutShort = omega arith
positive AmountLimits = omega arith
positive NoChain = omega arith
positive PlanBufferShort = omega arith
positive PlanEnds = omega arith
positive PlanNotShortest = omega arith
positive PlanContinues = omega arith
positive PlanLimits = omega arith
positive PlanRemains = omega arith
positive LogEntry = omega arith
positive LogDistance = omega arith
positive LogSlot = omega arith
positive AnotherNetwork = omega arith
