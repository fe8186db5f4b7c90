-- The refusal of a network's numbers: "numbers in record order with 4, 5, 6 as above".
use Rattle.std.specs.Prelude.{List, [], ◌∷◌, cond, ℕ, ◌-◌, length, ltb, eqb, Result, Ok, Err}
use Rattle.refusals.specs.declared.Refusal.{Refusal}
use Rattle.refusals.specs.declared.Refusal.TheVariants.{NetworkLimits, SameEnds, LinkLoop}
use Rattle.limits.specs.Limits.{fewest_places, most_places, fewest_links, most_links, most_capacity, most_transit}
use Rattle.flows.specs.declared.Link.{Link}
use Rattle.flows.specs.Network as model

-- what tests answer: nothing to refuse, or the first refusal
abbrev pub Tested : Type 0
Tested = Result (Unit {0}) Refusal

abbrev pub fine : Tested
fine = Ok tt

-- a number outside its limits is refused: otherwise what comes after the number decides
abbrev pub limit : ℕ → ℕ → ℕ → Tested → Tested
limit low high n next = cond (ltb n low) (Err NetworkLimits) (cond (ltb high n) (Err NetworkLimits) next)

-- a link's refusal; "6 for a link whose end is its start"
unfoldable pub link_refusal : ℕ → Link → Tested → Tested
link_refusal places l next =
    limit 0 (places - 1) l.start
    (limit 0 (places - 1) l.end
    (cond (eqb l.start l.end) (Err LinkLoop)
    (limit 0 most_capacity l.capacity
    (limit 0 most_transit l.transit
    next))))

unfoldable pub links_refusal : ℕ → List Link → Tested
links_refusal places [] = fine
links_refusal places (l ∷ ls) = link_refusal places l (links_refusal places ls)

-- a network's refusal, if there is one; "5 for a destination equal to the origin"
unfoldable pub network_refusal : model.Network → Tested
network_refusal N =
    limit fewest_places most_places N.places
    (limit 0 (N.places - 1) N.origin
    (limit 0 (N.places - 1) N.destination
    (cond (eqb N.destination N.origin) (Err SameEnds)
    (limit fewest_links most_links (length N.links)
    (links_refusal N.places N.links)))))
