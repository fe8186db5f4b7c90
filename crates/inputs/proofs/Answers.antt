-- What a caller of `take` learns from its answer. Assumes nothing.
use mathlib.Core.Path.{◌≡◌, refl, sym, ap, subst, ◌∙◌}
use mathlib.Core.List.{List, []}
use Prim.Native.Nat.{ℕ}
use native.Mathlib.Omega.{arith}
use Rattle.std.specs.Prelude.{Ok, Err}
use Rattle.refusals.specs.declared.Refusal.{Refusal}
use Rattle.numbers.specs.Field.{Parse, refused, accepted, and_then}
use Rattle.flows.specs.Network.{count}
use Rattle.flows.specs.Network as model-network
use Rattle.flows.specs.Plan as model-plan
use Rattle.network.specs.Record.{read_network}
use Rattle.network.specs.Held as network-held
use Rattle.network.proofs.Links.{links_some}
use Rattle.network.proofs.Answers as networks
use Rattle.plans.specs.Carried.{read_carrying}
use Rattle.plans.specs.Held as plan-held
use Rattle.plans.proofs.Answers as plans
use Rattle.inputs.specs.declared.Input as struct
use Rattle.inputs.specs.Frame.{Records, framed}
use Rattle.inputs.specs.Input.{Input, read_records, read_input}
use Rattle.inputs.specs.Answer.{input_answer}
use Rattle.inputs.proofs.Taking.{counted}

----- What was read

-- both records, as their structs hold them
pub record WereRead (octets written : List ℕ) (r : struct.Input) : Type 0 where
  pub network : networks.WasRead octets r.network
  pub plan : plans.WasRead octets r.network.places r.network.count written r.plan

module _ (octets written : List ℕ) where
  -- the plan after the network N
  plan_read : (N : model-network.Network) (rest : List ℕ) → read_network octets ≡ accepted N rest → networks.WasRead octets (network-held.held N)
      → (x : Parse model-plan.Plan) → read_carrying octets N.places (count N) written ≡ x → (i : struct.Input)
      → input_answer (and_then x λ p none. accepted (record { network = N; plan = p }) none) ≡ Ok i → WereRead octets written i
  unfolding and_then input_answer plan-held.read_answer network-held.held network-held.with_links
  plan_read N rest f n (refused e) g i h = absurd (let z : ◌≡◌ {A = ℕ} 0 1 = cc in omega arith)
  plan_read N rest f n (accepted p more) g i h =
      let told : Ok (plan-held.held p) ≡ plan-held.read_answer (read_carrying octets N.places (count N) written) = ap plan-held.read_answer (sym g) in
      let w : plans.WasRead octets N.places (count N) written (plan-held.held p) =
      plans.was_read octets N.places (count N) written (links_some (network-held.held N) n.well_formed) (plan-held.held p) told in
      let d : record { network = network-held.held N; plan = plan-held.held p } ≡ i = cc in
      subst (WereRead octets written) d (record { network = n; plan = w })

  network_read : (x : Parse model-network.Network) → read_network octets ≡ x → (i : struct.Input)
      → input_answer
      (and_then x λ N none. and_then (read_carrying octets N.places (count N) written) λ p none. accepted (record { network = N; plan = p }) none)
      ≡ Ok i → WereRead octets written i
  unfolding and_then input_answer network-held.read_answer
  network_read (refused e) f i h = absurd (let z : ◌≡◌ {A = ℕ} 0 1 = cc in omega arith)
  network_read (accepted N rest) f i h =
      let told : Ok (network-held.held N) ≡ network-held.read_answer (read_network octets) = ap network-held.read_answer (sym f) in
      plan_read N rest f (networks.was_read octets (network-held.held N) told) (read_carrying octets N.places (count N) written) refl i h

-- an input that was read
pub record WasRead (input : List ℕ) (r : struct.Input) : Type 0 where
  pub octets : List ℕ
  pub written : List ℕ
  pub are : WereRead octets written r
  pub reads : read_input input
      ≡ accepted (record { network = network-held.model_of r.network; plan = plan-held.model_of r.network.places r.plan }) []

records_are : (octets written : List ℕ) (r : struct.Input) → WereRead octets written r
    → read_records octets written
    ≡ accepted (record { network = network-held.model_of r.network; plan = plan-held.model_of r.network.places r.plan }) []
unfolding read_records and_then
records_are octets written r w =
    rw (w.network.reads, counted octets written r.network w.network, w.plan.reads)

module _ (input : List ℕ) where
  pub was_refused : (e : Refusal) → Err e ≡ input_answer (read_input input) → read_input input ≡ refused e
  unfolding input_answer
  was_refused e answers = go (read_input input) answers
    where
      go : (x : Parse Input) → Err e ≡ input_answer x → x ≡ refused e
      go (refused d) h = let q : e ≡ d = cc in ap refused (sym q)
      go (accepted i rest) h = cc

  pub was_read : (i : struct.Input) → Ok i ≡ input_answer (read_input input) → WasRead input i
  unfolding read_input read_records and_then framed input_answer
  was_read i answers = go (framed input) refl (sym answers)
    where
      go : (x : Parse Records) → framed input ≡ x → input_answer (and_then x λ q none. read_records q.network q.plan) ≡ Ok i → WasRead input i
      go (refused e) f h = absurd (let z : ◌≡◌ {A = ℕ} 0 1 = cc in omega arith)
      go (accepted q rest) f h =
          let both : WereRead q.network q.plan i = network_read q.network q.plan (read_network q.network) refl i h in
          record {
            octets = q.network;
            written = q.plan;
            are = both;
            reads = ap (λ (x : Parse Records). and_then x λ q none. read_records q.network q.plan) f ∙ records_are q.network q.plan i both;
          }
