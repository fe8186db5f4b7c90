-- Plans over the structs, with the network's record that they carry: what `read` answers, writing turns back into the octets that were
-- read, and what writing leaves in a buffer, `read` turns back into a struct that holds the same plan. Writing puts the length and the
-- network's record first and `write` the plan's numbers from there on, which makes `carrying` (plan_carrier/proofs/Carrying, `carried`).
-- From the round trips of a plan that carries its network and of its struct. Assumes nothing.
use mathlib.Core.Path.{◌≡◌, refl, sym, ap, subst, ◌∙◌}
use mathlib.Core.List.{List, [], ◌++◌}
use Prim.Native.Nat.{ℕ, ◌+◌, ◌≤◌, ◌<◌}
use native.Mathlib.Omega.{arith}
use lib.ListN.{length, get_or, take, length-append}
use lib.Seq.{take-append_seam}
use Rattle.limits.specs.Limits.{most_places, most_links, most_network_octets}
use Rattle.numbers.specs.Leb128.{groups, Octets, shortest, encode, over}
use Rattle.std.specs.Prelude.{Result, Ok, Err}
use Rattle.refusals.specs.declared.Refusal.{Refusal}
use Rattle.numbers.specs.Field.{Parse, accepted}
use Rattle.flows.specs.Plan as model
use Rattle.plans.specs.declared.Plan.{Plan}
use Rattle.plans.specs.Record.{numbers_of, record_of}
use Rattle.plans.specs.Carried.{read_carrying, carrying}
use Rattle.plans.specs.Held.{held, model_of, read_answer}
use Rattle.plans.specs.InLimits.{InLimits, past_row}
use Rattle.plans.specs.WritablePlan.{WritablePlan}
use Rattle.plans.specs.Fields.{fields_of, Arrays}
use Rattle.plans.proofs.Model.{model_held}
use Rattle.plans.proofs.Carried.{carrying_in_limits, carrying_written, written_carrying}
use Rattle.plans.proofs.WritePlan.{held_writable}
use Rattle.plans.proofs.Fields.{held_fields, model_fields}

-- the length of a network's record, the record, and these numbers
abbrev pub behind_network : List ℕ → List ℕ → List ℕ
behind_network network ns = shortest groups (length network) ++ (network ++ encode ns)

-- the position after the network's record, from which on the plan's numbers stand
abbrev pub after_network : List ℕ → ℕ
after_network network = length (shortest groups (length network)) + length network

carrying_numbers : (network : List ℕ) (p : model.Plan) → carrying network p ≡ behind_network network (numbers_of p)
unfolding carrying record_of
carrying_numbers network p = refl

carrying_length : (network : List ℕ) (p : model.Plan) → length (carrying network p) ≡ after_network network + length (record_of p)
unfolding carrying
carrying_length network p =
    omega (arith, length-append (shortest groups (length network)) (network ++ record_of p), length-append network (record_of p))

-- the struct in an answer; where it is a refusal, that of a plan of zeros
unfoldable pub struct_in : Result Plan Refusal → Plan
struct_in (Ok plan) = plan
struct_in (Err e) = held (record { amount = 0; horizon = 0; cut = []; rows = [] })

-- the struct that reading these octets answers
abbrev pub answered : List ℕ → ℕ → ℕ → List ℕ → Plan
answered network places links s = struct_in (read_answer (read_carrying network places links s))

-- it is the struct of the plan that is read
answered_held : (network : List ℕ) (places links : ℕ) (s : List ℕ) (p : model.Plan) (rest : List ℕ)
    → read_carrying network places links s ≡ accepted p rest → answered network places links s ≡ held p
unfolding read_answer struct_in
answered_held network places links s p rest h = ap (λ (q : Parse model.Plan). struct_in (read_answer q)) h

----- What is read was written

module _ (network : List ℕ) (places links : ℕ) (s : List ℕ) (p : model.Plan) (rest : List ℕ) (some : 1 ≤ links)
    (h : read_carrying network places links s ≡ accepted p rest) where
  within : InLimits places links p
  within = carrying_in_limits network places links s p rest h some

  pub answered_model : model_of places (answered network places links s) ≡ p
  answered_model = ap (model_of places) (answered_held network places links s p rest h) ∙ model_held p places within.one_per_place

  -- its fields, in record order, are the numbers of the octets behind the network's record
  pub answered_fields : Octets s → behind_network network (fields_of places (answered network places links s)) ≡ s
  answered_fields o =
      ap (λ (plan : Plan). behind_network network (fields_of places plan)) (answered_held network places links s p rest h)
      ∙ ap (behind_network network) (held_fields p places within.one_per_place)
      ∙ sym (carrying_numbers network p)
      ∙ sym (carrying_written network places links s p rest h o)

  pub answered_record : Octets s → carrying network (model_of places (answered network places links s)) ≡ s
  answered_record o = ap (carrying network) answered_model ∙ sym (carrying_written network places links s p rest h o)

  -- What read accepts, write takes behind the network's record wherever there is room for the octets that were read, and they are written.
  pub read_then_write : places ≤ most_places → links ≤ most_links → Octets s → (b : List ℕ) → length s ≤ length b
      → WritablePlan places (answered network places links s) b (after_network network)
      × (length (carrying network (model_of places (answered network places links s))) ≡ length s)
      × (over (carrying network (model_of places (answered network places links s))) b ≡ over s b)
  read_then_write few m o b room =
      let e : carrying network p ≡ s = sym (carrying_written network places links s p rest h o) in
      let w : WritablePlan places (held p) b (after_network network) =
      held_writable places links p b (after_network network) few m within (omega (arith, ap length e, carrying_length network p)) in (
        subst (λ (plan : Plan). WritablePlan places plan b (after_network network)) (sym (answered_held network places links s p rest h)) w,
        ap length (answered_record o),
        ap (λ (octets : List ℕ). over octets b) (answered_record o),
      )

----- What is written is read

-- a network with this number of links has each link that the plan's rows name
abbrev pub LinksBelow : ℕ → model.Plan → Type 0
LinksBelow links p =
    (i : ℕ) → i < length p.rows → (k : ℕ) → k < length (get_or p.rows i past_row).links → get_or (get_or p.rows i past_row).links k 0 < links

-- the octets that writing leaves in a buffer, up to the answered length
abbrev pub written : List ℕ → ℕ → Plan → List ℕ → List ℕ
written network places plan b =
    take (length (carrying network (model_of places plan))) (over (carrying network (model_of places plan)) b)

module _ (network : List ℕ) (places : ℕ) (plan : Plan) (b : List ℕ) (w : WritablePlan places plan b (after_network network)) where
  -- they are the network's record and those of the struct's fields in record order
  pub written_fields : Arrays plan → written network places plan b ≡ behind_network network (fields_of places plan)
  written_fields a =
      take-append_seam (carrying network (model_of places plan)) _
      ∙ carrying_numbers network (model_of places plan)
      ∙ ap (behind_network network) (model_fields places plan a w.countable)

  module _ (short : length network ≤ most_network_octets) (links : ℕ) (m : links ≤ most_links) (below : LinksBelow links (model_of places plan)) where
    fewer : InLimits places links (model_of places plan)
    fewer =
        let l = w.limits in
        record {
          amount = l.amount;
          horizon = l.horizon;
          one_per_place = l.one_per_place;
          cut = l.cut;
          count = l.count;
          rows = λ i h.
              let r = l.rows i h in
              record { count = r.count; numbers = below i h; long = r.long; rate = r.rate; first = r.first; departures = r.departures };
        }

    -- What is written, read turns back into the plan that the struct holds.
    pub write_then_read : read_carrying network places links (written network places plan b) ≡ accepted (model_of places plan) []
    write_then_read =
        ap (read_carrying network places links) (take-append_seam (carrying network (model_of places plan)) _)
        ∙ written_carrying network places links (model_of places plan) short m fewer

    -- the struct that read answers has the fields of the one that was written
    pub write_then_read_fields : Arrays plan
        → fields_of places (answered network places links (written network places plan b)) ≡ fields_of places plan
    write_then_read_fields a =
        ap (fields_of places) (answered_held network places links (written network places plan b) (model_of places plan) [] write_then_read)
        ∙ held_fields (model_of places plan) places w.limits.one_per_place
        ∙ model_fields places plan a w.countable
