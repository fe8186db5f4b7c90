-- The answer as the code holds it, in numbers.
use Rattle.std.specs.Prelude.{Result, Ok, Err}
use Rattle.refusals.specs.declared.Refusal.{Refusal}
use Rattle.refusals.specs.Numbers.{number_of}
use Rattle.first_fault.specs.Verdicts as verdicts
use Rattle.judge.specs.declared.Judged.{Judged}
use Rattle.examiner.specs.Examine.{Examined, Refused, Verdict}

abbrev pub answer_of : Result Judged Refusal → Examined
answer_of (Ok found) = Verdict (verdicts.number_of found.verdict) found.bound
answer_of (Err e) = Refused (number_of e)
