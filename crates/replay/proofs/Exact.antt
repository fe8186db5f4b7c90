-- What a replay's answer means, of the records handed over: the findings over all slots, the figure, and the log of a plan that passes.
-- By the theorems about the definitions, for logs that were read. Assumes nothing.
use mathlib.Core.Path.{◌≡◌, refl, sym, ap, ◌∙◌}
use mathlib.Core.Logic.{◌↔◌, ◌≢◌}
use mathlib.Core.List.{List, []}
use lib.ListN.{length}
use Prim.Native.Nat.{ℕ, suc, ◌+◌, ◌≤◌, ◌<◌}
use native.Mathlib.Omega.{arith}
use Rattle.numbers.specs.Field.{accepted}
use Rattle.flows.specs.Clock.{counting}
use Rattle.flows.specs.Network.{Network, link, count, WellFormed}
use Rattle.flows.specs.Flow.{left, arrived}
use Rattle.flows.specs.Rows.{load}
use Rattle.flows.specs.Plan.{Plan, verdict}
use Rattle.network.specs.Record.{read_network}
use Rattle.network.proofs.WellFormed.{well_formed}
use Rattle.logs.specs.declared.Entry.{Entry}
use Rattle.logs.specs.Log.{logged, last_slot}
use Rattle.logs.specs.Finding.{finding, figure}
use Rattle.logs.specs.Record.{read_entries, read_log}
use Rattle.logs.proofs.Reading.{log_read}
use Rattle.logs.proofs.Exact.{Keeps, Overfull, Oversent, Ready, finding_0, finding_1, finding_2, figure_0, figure_none, empty_log}
use Rattle.logs.proofs.Plans.{laid, plan_kept, plan_figure}
use Rattle.std.specs.Prelude.{Ok}
use Rattle.replay.specs.declared.Finding.TheVariants.{Kept}
use Rattle.replay.specs.Replay.{found, replayed_log, replayed_for, replayed, finding_of, delivered_of}
use Rattle.replay.proofs.Answers.{found_numbers}

module _ (octets log : List ℕ) (N : Network) (r : List ℕ) (network_read : read_network octets ≡ accepted N r) where
  formed : WellFormed N
  formed = well_formed octets N r network_read

  module _ (es : List Entry) (s : List ℕ) (taken : read_log (count N) log ≡ accepted es s) where
    ready : Ready N es
    ready =
        let g = (log_read (count N) log es s taken).good in
        record { known = λ i p. omega (arith, g.known i p, formed.links_least); ordered = g.ordered }

    -- the answer has the finding and the figure
    pub answered : replayed octets log ≡ Ok (found (finding N es) (figure N es))
    unfolding replayed replayed_for replayed_log
    answered = rw (network_read, taken)

    finding_is : finding_of (replayed octets log) ≡ finding N es
    finding_is = ap finding_of answered ∙ (found_numbers N es).0

    figure_is : delivered_of (replayed octets log) ≡ figure N es
    figure_is = ap delivered_of answered ∙ (found_numbers N es).1

    -- "0 exactly when the log keeps capacities and no place but the origin sends more by any slot than reached it by then"
    pub zero_exactly : (finding_of (replayed octets log) ≡ 0) ↔ Keeps N (logged es)
    zero_exactly = let w = finding_0 N es ready in (λ e. w.0 (sym finding_is ∙ e), λ k. finding_is ∙ w.1 k)

    -- "1 for capacity"
    pub one_exactly : (finding_of (replayed octets log) ≡ 1) ↔ Overfull N (logged es)
    one_exactly = let w = finding_1 N es ready in (λ e. w.0 (sym finding_is ∙ e), λ k. finding_is ∙ w.1 k)

    -- "2 for sending too much", "1 first"
    pub two_exactly : (finding_of (replayed octets log) ≡ 2)
        ↔ (((e t : ℕ) → e < count N → logged es e t ≤ (link N e).capacity) × Oversent N (logged es))
    two_exactly = let w = finding_2 N es ready in (λ e. w.0 (sym finding_is ∙ e), λ k. finding_is ∙ w.1 k)

    -- "arrivals less departures at the archive up to and with the last slot logged", never negative
    pub figure_exactly : finding_of (replayed octets log) ≡ 0
        → delivered_of (replayed octets log) + left N (logged es) N.destination (counting (suc (last_slot es)))
        ≡ arrived N (logged es) N.destination (counting (suc (last_slot es)))
    figure_exactly e = omega (arith, figure_is, figure_0 N es ready formed.connects (sym finding_is ∙ e))

    -- "under 1 or 2 the figure is 0"
    pub figure_under : finding_of (replayed octets log) ≢ 0 → delivered_of (replayed octets log) ≡ 0
    figure_under q = figure_is ∙ figure_none N es (λ e. q (finding_is ∙ e))

  -- a log that is the rows of a plan that passes, laid out slot by slot: kept, however many slots it has, and with its amount once it has
  -- the plan's horizon
  module _ (p : Plan) (size : length p.cut ≡ N.places) (passes : verdict N p ≡ 0) (k : ℕ) (s : List ℕ)
      (taken : read_log (count N) log ≡ accepted (laid (load N p.rows) (count N) k) s) where
    pub plan_replays : finding_of (replayed octets log) ≡ 0
    plan_replays = finding_is _ s taken ∙ plan_kept N p formed.connects size passes k

    pub plan_delivers : p.horizon ≤ k → 1 ≤ k → replayed octets log ≡ Ok (Kept p.amount)
    plan_delivers l q =
        answered _ s taken
        ∙ (λ j. Ok (found (plan_kept N p formed.connects size passes k j)
        (plan_figure N p formed.connects size passes (omega (arith, formed.links_least)) k l q j)))

-- "an empty log gives 0 and the figure 0"
pub empty_replays : (octets : List ℕ) (N : Network) (r : List ℕ) → read_network octets ≡ accepted N r → replayed octets [] ≡ Ok (Kept 0)
unfolding read_log read_entries
empty_replays octets N r h = answered octets [] N r h [] [] refl ∙ (λ j. Ok (found ((empty_log N).0 j) ((empty_log N).1 j)))
