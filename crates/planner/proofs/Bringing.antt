-- The ways of `plan_network`, each as the case of the promise that it meets. Assumes nothing.
use mathlib.Core.Path.{◌≡◌, refl, ap, ◌∙◌}
use mathlib.Core.Logic.{inl, inr}
use mathlib.Core.List.{List}
use Prim.Native.Nat.{ℕ, ◌≤◌}
use native.Mathlib.Omega.{arith}
use lib.ListN.{length, take, drop}
use lib.Seq.{take_at, drop_at}
use Rattle.std.specs.Prelude.{Ok, Err}
use Rattle.refusals.specs.declared.Refusal.{Refusal}
use Rattle.refusals.specs.declared.Refusal.TheVariants.{NoChain}
use Rattle.limits.specs.Limits.{most_links, most_network_octets}
use Rattle.numbers.specs.Leb128.{over}
use Rattle.numbers.proofs.Written.{length_over}
use Rattle.flows.specs.Network.{Network, count}
use Rattle.flows.specs.Plan.{Plan}
use Rattle.flows.proofs.Holding.{verdict_unheld}
use Rattle.statics.specs.Reach.{Reachable}
use Rattle.statics.proofs.Holding.{least_is_unheld}
use Rattle.network.specs.Record.{record_of}
use Rattle.network_writer.proofs.RoundTrip.{longest_network_record_lem, record_length_most}
use Rattle.plans.specs.Carried.{carrying}
use Rattle.plans.specs.InLimits.{InLimits}
use Rattle.plans.proofs.Carried.{written_carrying, carrying_short, longest_carrying_lem}
use Rattle.plans.proofs.WritePlan.{limits_fewer}
use Rattle.plan_carrier.specs.Carriable.{opening}
use Rattle.plan_carrier.proofs.Carrying.{opening_short}
use Rattle.certificate.specs.Made.{Made}
use Rattle.planner.specs.Askable.{Askable}
use Rattle.planner.specs.Promise.{Brought, RefusedWith, PlannedFor}

-- a refusal that leaves the buffer alone
pub refused_kept : (refusal : Refusal) (buffer : List ℕ) → RefusedWith refusal buffer buffer (Err refusal)
refused_kept refusal buffer =
    record { number = refl; refusal_number = refl; horizon_number = refl; length_number = refl; kept = refl }

module _ {N : Network} {amount : ℕ} {before : List ℕ} (asked : Askable N amount before) where
  pub unreachable : (Reachable N → ⊥) → PlannedFor N amount before before (Err NoChain)
  unreachable none = inr (none, refused_kept NoChain before)

  -- the network's record can be carried
  pub short : length (record_of N) ≤ most_network_octets
  short = omega (arith, record_length_most N asked.well_formed, longest_network_record_lem)

  module _ {p : Plan} (made : Made N amount p) where
    -- the plan that carries it
    abbrev whole : List ℕ
    whole = carrying (record_of N) p

    pub in_limits : InLimits N.places most_links p
    in_limits = limits_fewer (count N) most_links asked.well_formed.links_most N.places p made.limits

    pub fits : length whole ≤ length before
    fits =
        let w = asked.well_formed in
        omega (
          arith,
          carrying_short (record_of N) N.places (count N) p short w.places_most w.links_most made.limits,
          longest_carrying_lem,
          asked.room,
        )

    pub opening_fits : length (opening (record_of N)) ≤ length before
    opening_fits = omega (arith, fits, opening_short (record_of N) p)

    brought : (after : List ℕ) → after ≡ over whole before → Brought (record_of N) N amount before after (Ok (record { horizon = p.horizon; length = length whole }))
    brought after e =
        let rest : List ℕ = drop (length whole) before in
        record {
          plan = p;
          written = refl;
          refusal_number = refl;
          horizon_number = refl;
          length_number = refl;
          amount_kept = made.amount_kept;
          front = ap (take (length whole)) e ∙ take_at whole rest (length whole) refl;
          rest = ap (drop (length whole)) e ∙ drop_at whole rest (length whole) refl;
          size = ap length e ∙ length_over whole before fits;
          readable = written_carrying (record_of N) N.places (count N) p short asked.well_formed.links_most made.limits;
          passes = made.passes;
          simple = made.simple;
          least = made.least;
          unheld = verdict_unheld p asked.well_formed.connects made.limits.one_per_place made.passes;
          least_unheld = least_is_unheld asked.well_formed.connects made.least;
        }

    pub planned : Reachable N → (after : List ℕ) (horizon size : ℕ) → after ≡ over whole before → horizon ≡ p.horizon
        → size ≡ length whole → PlannedFor N amount before after (Ok (record { horizon = horizon; length = size }))
    planned reachable after horizon size e h l = rw (h, l) (inl (reachable, brought after e))
