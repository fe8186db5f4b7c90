-- The links passed have the transit 0, and those still to come are as they were.
use Rattle.std.proofs.Common.{◌≡◌, ◌++◌, ◌≤◌, ℕ, map, length, take, drop}
use Rattle.network.specs.declared.Network.{Network}
use Rattle.routes.specs.Route.{still_link}
use Rattle.routes.proofs.finding.without_transits.Given as goal

pub record Stilling (net still : Network) (e : ℕ) : Type 0 where
  pub long : length net.links ≡ 256
  pub whole : length still.links ≡ 256
  pub most : e ≤ 256
  pub is : still ≡ record net { links = map still_link (take e net.links) ++ drop e net.links }

abbrev pub invariant-loop-e : goal.invariant-loop-e
invariant-loop-e l = Stilling l.initial.still l.still l.e
