-- `without_transits` sets a link's transit to 0 in a turn. Assumes nothing.
use Rattle.std.proofs.Common.{◌≡◌, ◌++◌, ◌+◌, ◌<◌, ◌≤◌, ◌∙◌, List, ℕ, refl, ap, map, length, get_or, set, take, drop, arith, rules}
use Rattle.std.proofs.lemmas.List.{take_all, get_or_default, length-set}
use Rattle.std.proofs.lemmas.List.Edits.{map_over_more}
use lib.ListN.{drop_of_length-le}
use mathlib.Core.List.{append-nil}
use Rattle.flows.specs.declared.Link.{Link}
use Rattle.flows.specs.Network.{no_link}
use Rattle.network.specs.declared.Network.{Network}
use Rattle.routes.specs.Route.{still_link, without_transits}
use Rattle.routes.proofs.finding.without_transits.Invariants.{Stilling}
use Rattle.routes.proofs.finding.without_transits.Goals as goal

module _ {net still : Network} {e : ℕ} (s : Stilling net still e) where
  links_so_far : still.links ≡ map still_link (take e net.links) ++ drop e net.links
  links_so_far = ap (λ (n : Network). n.links) s.is

  more : e < 256 → Stilling net (record still { links = set still.links e (still_link (get_or still.links e no_link)) }) (e + 1)
  more p = record {
    long = s.long;
    whole = length-set still.links e (still_link (get_or still.links e no_link)) ∙ s.whole;
    most = omega arith;
    is =
        ap (λ (n : Network). record n { links = set still.links e (still_link (get_or still.links e no_link)) }) s.is
        ∙ ap (λ (ls : List Link). record net { links = ls })
        (map_over_more still_link net.links still.links e (get_or still.links e no_link) (omega (arith, s.long)) links_so_far
        (get_or_default still.links e no_link (get_or still.links e no_link) (omega (arith, s.whole))));
  }

  all : 256 ≤ e → still ≡ without_transits net
  all p =
      let n : length net.links ≤ e = omega (arith, s.long) in
      s.is ∙ ap (λ (ls : List Link). record net { links = ls })
      (rw (take_all e net.links n, drop_of_length-le net.links {i = e} n) (append-nil (map still_link net.links)))

pub loop-e-init : goal.loop-e-init
loop-e-init c = record { long = search rules; whole = search rules; most = omega arith; is = refl }

pub loop-e-preserved : goal.loop-e-preserved
loop-e-preserved c = more c.loop-e.invariant (omega arith)

pub returns : goal.returns
returns c = all c.loop-e.invariant (omega arith)
