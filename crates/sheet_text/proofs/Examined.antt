-- The sheet by what `examine` answers for the input's two records: what it refuses is the sheet's line, and under its verdict 0 the sheet's
-- total is the amount. By what reading the network and then the plan gives. Assumes nothing.
use mathlib.Core.Path.{◌≡◌, refl, sym, ap, ◌∙◌}
use mathlib.Core.List.{List, [], ◌∷◌}
use Prim.Native.Nat.{ℕ}
use lib.ListN.{length}
use native.Mathlib.Omega.{arith}
use Rattle.refusals.specs.Numbers.{number_of}
use Rattle.numbers.specs.Field.{Parse, refused, accepted, and_then}
use Rattle.flows.specs.Network.{Network, count}
use Rattle.flows.specs.Plan.{Plan}
use Rattle.network.specs.Record.{read_network}
use Rattle.plans.specs.Carried.{read_carrying}
use Rattle.texts.specs.Decimal.{decimal}
use Rattle.texts.specs.Words as words
use Rattle.texts.specs.Lines.{line, refused_text}
use Rattle.texts.specs.Page.{text_of}
use Rattle.inputs.specs.Frame.{framed}
use Rattle.inputs.specs.Input.{Input, read_records, read_input}
use Rattle.examiner.specs.Examine.{Examined, Refused, Verdict, examined_plan, examined_for, examined, examine_refusal_of, verdict_of}
use Rattle.examiner.proofs.Demand2.{Shown, answered, shown_of}
use Rattle.sheet_text.specs.Text.{sheeted}
use Rattle.sheet_text.specs.Printed.{AddsUp}
use Rattle.sheet_text.proofs.Adding.{sheet_amount}

-- the line of a refusal by its number
abbrev pub refused_line : ℕ → List ℕ
refused_line e = line words.refused (decimal e ∷ [])

-- 1 for a verdict, 0 for a refusal
abbrev judged : Examined → ℕ
judged (Refused e) = 0
judged (Verdict v b) = 1

-- an input that is read, whose sheet has a line for each row and the amount for their total
pub record Delivers (input : List ℕ) : Type 0 where
  pub read : Input
  pub rest : List ℕ
  pub reads : read_input input ≡ accepted read rest
  pub adds_up : AddsUp (sheeted input) (length read.plan.rows) read.plan.amount

module _ (input octets plan rest : List ℕ) (found : framed input ≡ accepted (record { network = octets; plan = plan }) rest) where
  shown_read : (s : Shown octets plan) → read_input input ≡ accepted (record { network = s.network; plan = s.shown }) s.plan_left
  unfolding read_input read_records and_then
  shown_read s = rw (found, s.network_read, s.plan_read)

  -- "prints its refusals"
  pub examined_refused : (e : ℕ) → examined octets plan ≡ Refused e → sheeted input ≡ refused_line e
  unfolding examined examined_for examined_plan sheeted read_input read_records and_then text_of refused_text
  examined_refused e a = from_network (read_network octets) refl
    where
      from_plan : (N : Network) (r : List ℕ) → read_network octets ≡ accepted N r → (q : Parse Plan)
          → read_carrying octets N.places (count N) plan ≡ q → sheeted input ≡ refused_line e
      from_plan N r n (refused f) p =
          let same : number_of f ≡ e = ap examine_refusal_of (rw (n, p) at a) in
          rw (found, n, p) (ap refused_line same)
      from_plan N r n (accepted w s) p = absurd (let one : ◌≡◌ {A = ℕ} 1 0 = ap judged (rw (n, p) at a) in omega arith)

      from_network : (q : Parse Network) → read_network octets ≡ q → sheeted input ≡ refused_line e
      from_network (refused f) n =
          let same : number_of f ≡ e = ap examine_refusal_of (rw n at a) in
          rw (found, n) (ap refused_line same)
      from_network (accepted N r) n = from_plan N r n (read_carrying octets N.places (count N) plan) refl

  pub examined_amount : (b : ℕ) → examined octets plan ≡ Verdict 0 b → Delivers input
  examined_amount b a =
      let s : Shown octets plan = shown_of octets plan (ap examine_refusal_of a) (ap verdict_of a) in
      let is = answered octets plan s.network s.shown s.octets_left s.plan_left s.network_read s.plan_read in
      record {
        read = record { network = s.network; plan = s.shown };
        rest = s.plan_left;
        reads = shown_read s;
        adds_up = sheet_amount input _ s.plan_left (shown_read s) (ap verdict_of (sym is ∙ a));
      }
