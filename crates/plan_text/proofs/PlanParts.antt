-- A plan's text in the order in which it is put. Assumes nothing.
use mathlib.Core.Path.{◌≡◌}
use mathlib.Core.List.{List, ◌++◌, append_assoc}
use Prim.Native.Nat.{ℕ}
use Rattle.flows.specs.Plan.{Plan}
use Rattle.texts.specs.Decimal.{decimal}
use Rattle.texts.specs.Words as words
use Rattle.texts.specs.Put.{ending}
use Rattle.texts.proofs.Spaces.{opens, between}
use Rattle.plan_lines.specs.PlanText.{verdict_line, amount_line, plan_tail, plan_body, plan_text}

abbrev pub of_verdict : ℕ → List ℕ
of_verdict v = ending (opens words.verdict) v

abbrev pub of_amount : ℕ → List ℕ
of_amount n = opens words.amount ++ decimal n

abbrev pub of_horizon : ℕ → List ℕ
of_horizon n = ending (between words.horizon) n

in_order : (a b c d : List ℕ) → a ++ ((b ++ c) ++ d) ≡ ((a ++ b) ++ c) ++ d
in_order a b c d = simp append_assoc

pub text_parts : (v b : ℕ) (p : Plan) → plan_text v b p ≡ ((of_verdict v ++ of_amount p.amount) ++ of_horizon p.horizon) ++ plan_tail b p
unfolding plan_text plan_body verdict_line amount_line
text_parts v b p = in_order (of_verdict v) (of_amount p.amount) (of_horizon p.horizon) (plan_tail b p)
