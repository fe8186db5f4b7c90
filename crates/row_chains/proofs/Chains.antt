-- A row's links one after another: what is still to be tested from link j on. Assumes nothing.
use mathlib.Core.Path.{◌≡◌, sym, ap, ap₂, ◌∙◌}
use mathlib.Core.Logic.{◌≢◌}
use mathlib.Core.Bool.{Bool, false, not}
use mathlib.Core.List.{List, [], ◌∷◌}
use Prim.Native.Nat.{ℕ, ◌+◌, ◌≤◌, ◌<◌}
use native.Mathlib.Numerals.{add-one}
use native.Mathlib.Omega.{arith}
use lib.ListN.{get_or, drop, drop_of_length-le}
use lib.Seq.{drop-cons}
use lib.Dec.{eqb}
use borrow.Author.Tests.{lt-ltb, eq-eqb, ne_eqb}
use Rattle.flows.specs.declared.Link.{Link}
use Rattle.flows.specs.Network.{count}
use Rattle.flows.specs.Rows as model_rows
use Rattle.flows.specs.Plan.{leads}
use Rattle.network.specs.declared.Network.{Network}
use Rattle.network.specs.Held.{link_at, model_of}
use Rattle.network.proofs.Model.{origin_model, destination_model}
use Rattle.network.proofs.Links.{is_link, start_is, end_is}
use Rattle.plans.specs.declared.Row.{Row}
use Rattle.plans.specs.Held.{row_of}
use Rattle.row_uses.specs.Given.{GivenRow}
use Rattle.row_uses.proofs.Given.{links_length, links_at}
use Rattle.row_chains.specs.Chains.{Ends, stray_row}

module _ (net : Network) (r : Row) (given : GivenRow net r) where
  -- the links from number j on
  abbrev pub from : ℕ → List ℕ
  from j = drop j (row_of r).links

  -- link j, then the others
  from_step : (j : ℕ) → j < r.count → from j ≡ get_or r.links j 0 ∷ from (j + 1)
  from_step j h =
      rw (add-one, drop-cons (row_of r).links j 0 (omega (arith, links_length r given.stands)), links_at r given.stands j h)

  from_end : (j : ℕ) → r.count ≤ j → from j ≡ []
  from_end j h = drop_of_length-le (row_of r).links {i = j} (omega (arith, links_length r given.stands))

  module _ (u w j : ℕ) where
    pub leads_step : j < r.count → (link_at net (get_or r.links j 0)).start ≡ u
        → leads (model_of net) u w (from j) ≡ leads (model_of net) (link_at net (get_or r.links j 0)).end w (from (j + 1))
    leads_step h s =
        let e : ℕ = get_or r.links j 0 in
        let k : e < net.count = given.known j h in
        rw (
          from_step j h,
          lt-ltb e (count (model_of net)) (is_link net e k),
          start_is net e k,
          end_is net e k,
          eq-eqb (link_at net e).start u s,
        )

    pub leads_stop : j < r.count → (link_at net (get_or r.links j 0)).start ≢ u → leads (model_of net) u w (from j) ≡ false
    leads_stop h s =
        let e : ℕ = get_or r.links j 0 in
        let k : e < net.count = given.known j h in
        rw (
          from_step j h,
          lt-ltb e (count (model_of net)) (is_link net e k),
          start_is net e k,
          ne_eqb (link_at net e).start u s,
        )

    pub leads_end : r.count ≤ j → leads (model_of net) u w (from j) ≡ eqb u w
    leads_end h = rw (from_end j h)

-- a row of a network is no chain from origin to destination
pub stray_is : (net : Network) {origin destination : ℕ} {links : List Link} → Ends net origin destination links → (r : model_rows.Row) (b : Bool)
    → b ≡ leads (model_of net) origin destination r.links → not b ≡ stray_row (model_of net) r
stray_is net ends r b e =
    ap not
    (e
    ∙ sym
    (ap₂ (λ (u w : ℕ). leads (model_of net) u w r.links) (origin_model net ∙ ends.is_origin) (destination_model net ∙ ends.is_destination)))
