-- The struct that holds a network: the model's network from the struct, and the struct from the model's network.
use Rattle.std.specs.Prelude.{List, [], ◌∷◌, ◌++◌, ℕ, zero, suc, ◌-◌, length, get_or, replicate, Result, Ok, Err}
use Rattle.limits.specs.Limits.{most_links}
use Rattle.refusals.specs.declared.Refusal.{Refusal}
use Rattle.numbers.specs.Field.{Parse, refused, accepted}
use Rattle.flows.specs.declared.Link.{Link}
use Rattle.flows.specs.Network.{no_link}
use Rattle.flows.specs.Network as model
use Rattle.network.specs.declared.Network.{Network}

-- a struct whose array of links holds the links ls, then zeros
unfoldable pub with_links : ℕ → ℕ → ℕ → ℕ → List Link → Network
with_links places origin destination count ls = record {
  places = places;
  origin = origin;
  destination = destination;
  count = count;
  links = ls ++ replicate (most_links - length ls) no_link;
}

-- the struct of a network: "links past the number of links are 0 when read"
unfoldable pub held : model.Network → Network
held N = with_links N.places N.origin N.destination (length N.links) N.links

-- link e of a struct
abbrev pub link_at : Network → ℕ → Link
link_at net e = get_or net.links e no_link

-- the first n links of a struct
abbrev pub links_below : Network → ℕ → List Link
links_below net zero = []
links_below net (suc n) = links_below net n ++ (link_at net n ∷ [])

-- the network that a struct holds: "links past the number of links are .. not looked at when written"
unfoldable pub model_of : Network → model.Network
model_of net = record {
  places = net.places;
  origin = net.origin;
  destination = net.destination;
  links = links_below net net.count;
}

-- what reading answers
unfoldable pub read_answer : Parse model.Network → Result Network Refusal
read_answer (refused e) = Err e
read_answer (accepted N rest) = Ok (held N)
