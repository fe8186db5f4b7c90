-- What links last by a table of links: link after link; and of a network's struct it is their duration, since its array is the table.
-- Assumes nothing.
use mathlib.Core.Path.{◌≡◌, refl, ◌∙◌}
use mathlib.Core.List.{List, [], ◌∷◌, ◌++◌}
use Prim.Native.Nat.{ℕ, ◌+◌, ◌≤◌, ◌<◌}
use native.Mathlib.Numerals.{add-one}
use native.Mathlib.Omega.{arith}
use lib.ListN.{length, get_or, take, length-take}
use lib.Seq.{get_or-take, take-suc}
use Rattle.limits.specs.Limits.{most_row_links}
use Rattle.flows.specs.Lists.{All}
use Rattle.flows.specs.declared.Link.{Link}
use Rattle.flows.specs.Network.{no_link, count, WellFormed}
use Rattle.flows.specs.Rows.{duration}
use Rattle.network.specs.declared.Network.{Network}
use Rattle.network.specs.Held.{model_of}
use Rattle.network.proofs.Model.{count_model}
use Rattle.network.proofs.Links.{links_few, transit_is, transit_most}
use Rattle.durations.specs.Lasting.{lasting, Timed}

module _ (table : List Link) where
  lasting_append : (es fs : List ℕ) → lasting table (es ++ fs) ≡ lasting table es + lasting table fs
  lasting_append [] fs = omega arith
  lasting_append (e ∷ es) fs = omega (arith, lasting_append es fs)

  -- with one link more
  pub lasting_more : (es : List ℕ) (j : ℕ) → j < length es → lasting table (take (j + 1) es) ≡ lasting table (take j es) + (get_or table (get_or es j 0) no_link).transit
  lasting_more es j h = rw (add-one, take-suc es j 0 h) (lasting_append (take j es) (get_or es j 0 ∷ []) ∙ omega arith)

module _ (net : Network) where
  pub lasting_is : (es : List ℕ) → All (λ e. e < count (model_of net)) es → lasting net.links es ≡ duration (model_of net) es
  lasting_is [] known = refl
  lasting_is (e ∷ es) known = omega (arith, transit_is net e (omega (arith, known.0, count_model net)), lasting_is es known.1)

  -- links of a well_formed network can be timed
  pub timed : WellFormed (model_of net) → (links : List ℕ) (n : ℕ) → n ≤ most_row_links → ((j : ℕ) → j < n → get_or links j 0 < net.count)
      → Timed net.links links n
  timed formed links n size known =
      record {
        size = size;
        few = λ j p. omega (arith, known j p, links_few net formed);
        brief = λ j p. transit_most net (get_or links j 0) (known j p) formed;
      }

-- links at the head of an array that can be timed can be timed as a list of their own
pub timed_taken : (table : List Link) (links : List ℕ) (n : ℕ) → Timed table links n → Timed table (take n links) (length (take n links))
timed_taken table links n t =
    let most : length (take n links) ≤ n = omega (arith, length-take n links) in
    let same : (j : ℕ) → j < length (take n links) → get_or (take n links) j 0 ≡ get_or links j 0 = λ j p. get_or-take n links j 0 (omega arith) in
    record {
      size = omega (arith, t.size);
      few = λ j p. omega (arith, same j p, t.few j (omega arith));
      brief = λ j p. rw (same j p) (t.brief j (omega arith));
    }
