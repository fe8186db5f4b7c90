-- The network that a struct holds, link by link: by recursion over the links below a number. Assumes nothing.
use mathlib.Core.Path.{◌≡◌, refl, sym, ap, ap₂, ◌∙◌}
use mathlib.Core.List.{List, [], ◌∷◌, ◌++◌}
use Prim.Native.Nat.{ℕ, zero, suc, ◌≤◌, ◌<◌}
use native.Mathlib.Omega.{arith}
use native.Mathlib.Decide.{dec_lt}
use lib.ListN.{length, get_or, take, length-append, get_or-append, get_or-eq_default}
use lib.Seq.{get_or_at, take-suc}
use Rattle.flows.specs.declared.Link.{Link}
use Rattle.flows.specs.Network.{count, link, no_link}
use Rattle.network.specs.declared.Network.{Network}
use Rattle.network.specs.Held.{link_at, links_below, model_of}

pub length_links : (net : Network) (n : ℕ) → length (links_below net n) ≡ n
length_links net zero = refl
length_links net (suc n) = length-append (links_below net n) (link_at net n ∷ []) ∙ omega (arith, length_links net n)

pub get_or_links : (net : Network) (n e : ℕ) → e < n → get_or (links_below net n) e no_link ≡ link_at net e
get_or_links net zero e h = absurd (omega arith)
get_or_links net (suc n) e h =
    elim (dec_lt e n) [
      | yes l ↦ get_or-append (links_below net n) (link_at net n ∷ []) no_link e (omega (arith, length_links net n)) ∙ get_or_links net n e l
      | no g ↦ let q : e ≡ n = omega arith in rw q (get_or_at (links_below net n) (link_at net n) [] no_link n (length_links net n))
    ]

-- they stand at the head of the struct's array, where it has as many
pub links_taken : (net : Network) (n : ℕ) → n ≤ length net.links → links_below net n ≡ take n net.links
links_taken net zero h = refl
links_taken net (suc n) h =
    ap (λ (ls : List Link). ls ++ (link_at net n ∷ [])) (links_taken net n (omega arith)) ∙ sym (take-suc net.links n no_link (omega arith))

module _ (net : Network) where
  pub count_model : count (model_of net) ≡ net.count
  unfolding model_of
  count_model = length_links net net.count

  pub link_model : (e : ℕ) → e < net.count → link (model_of net) e ≡ link_at net e
  unfolding model_of link
  link_model e h = get_or_links net net.count e h

  pub known_link : (e : ℕ) → e < count (model_of net) → link (model_of net) e ≡ link_at net e
  known_link e h = link_model e (omega (arith, count_model))

  pub places_model : (model_of net).places ≡ net.places
  unfolding model_of
  places_model = refl

  -- what is made of a network's counts is made of its struct's
  pub by_counts : {A : Type 0} (f : ℕ → ℕ → A) → f (model_of net).places (count (model_of net)) ≡ f net.places net.count
  by_counts f = ap₂ f places_model count_model

  pub origin_model : (model_of net).origin ≡ net.origin
  unfolding model_of
  origin_model = refl

  pub destination_model : (model_of net).destination ≡ net.destination
  unfolding model_of
  destination_model = refl

past_links : (net : Network) (e : ℕ) → (e < net.count → ⊥) → link (model_of net) e ≡ no_link
unfolding link
past_links net e p = get_or-eq_default (model_of net).links no_link {n = e} (omega (arith, count_model net))

-- a part of a link that two structs with as many links agree on
pub same_part : (net other : Network) → other.count ≡ net.count → (f : Link → ℕ)
    → ((e : ℕ) → f (link_at other e) ≡ f (link_at net e)) → (e : ℕ) → f (link (model_of other) e) ≡ f (link (model_of net) e)
same_part net other n f h e =
    elim (dec_lt e net.count) [
      | yes p ↦ ap f (link_model other e (omega arith)) ∙ h e ∙ sym (ap f (link_model net e p))
      | no p ↦ ap f (past_links other e (λ q. p (omega arith))) ∙ sym (ap f (past_links net e p))
    ]

-- the links that count, as they are lent
module _ (net : Network) (ls : List Link) (lent : ls ≡ links_below net net.count) where
  pub lent_count : length ls ≡ net.count
  lent_count = ap (λ (xs : List Link). length xs) lent ∙ length_links net net.count

  pub lent_link : (e : ℕ) → e < net.count → get_or ls e no_link ≡ link_at net e
  lent_link e h = rw lent (get_or_links net net.count e h)
