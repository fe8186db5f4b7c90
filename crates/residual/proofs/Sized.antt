-- A network within document 01's limits is one that a search has room for. Assumes nothing.
use Rattle.flows.specs.Network.{Network, WellFormed}
use Rattle.residual.specs.Tree.{Sized}

pub sized : {N : Network} → WellFormed N → Sized N
sized w = record { connects = w.connects; places_most = w.places_most; links_most = w.links_most; transit_most = w.transit_most }
