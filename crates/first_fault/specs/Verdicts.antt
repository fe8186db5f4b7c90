-- The numbers of the verdicts on a plan.
use Rattle.std.specs.Prelude.{ℕ}
use Rattle.first_fault.specs.declared.Verdict.{Verdict}
use Rattle.first_fault.specs.declared.Verdict.TheVariants.{Passes, Unchained, Overloaded, Late, Missummed, Miscut, Unproven, Mismeasured}

abbrev pub number_of : Verdict → ℕ
number_of Passes = 0
number_of Unchained = 1
number_of Overloaded = 2
number_of Late = 3
number_of Missummed = 4
number_of Miscut = 5
number_of Unproven = 6
number_of Mismeasured = 7
