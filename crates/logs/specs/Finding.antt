-- What the replay of a log finds: "0 exactly when the log keeps capacities and no place but the origin sends more by any slot than
-- reached it by then; else 1 for capacity, 2 for sending too much, 1 first". The tests end with the last slot logged, so that they
-- compute; `logs/proofs/Exact` says that they are the same as those over all slots.
use Rattle.std.specs.Prelude.{List, Bool, cond, not, ◌&&◌, ℕ, suc, ltb, eqb}
use Rattle.flows.specs.Sums.{some}
use Rattle.flows.specs.Network.{Network, link, count}
use Rattle.flows.specs.Flow.{left, arrived, delivered}
use Rattle.logs.specs.declared.Entry.{Entry}
use Rattle.logs.specs.Log.{logged, last_slot}

-- some link took more than its capacity in some slot
unfoldable pub overfull : Network → List Entry → Bool
overfull N es = some (λ e. some (λ s. ltb (link N e).capacity (logged es e s)) (suc (last_slot es))) (count N)

-- the place v sent more up to some slot than had reached it up to that slot
unfoldable pub oversends : Network → List Entry → ℕ → Bool
oversends N es v = some (λ s. ltb (arrived N (logged es) v (suc s)) (left N (logged es) v (suc s))) (suc (last_slot es))

-- some place but the origin did
unfoldable pub oversent : Network → List Entry → Bool
oversent N es = some (λ v. not (eqb v N.origin) && oversends N es v) N.places

unfoldable pub finding : Network → List Entry → ℕ
finding N es = cond (overfull N es) 1 (cond (oversent N es) 2 0)

-- "arrivals less departures at the archive up to and with the last slot logged; under 1 or 2 the figure is 0"
unfoldable pub figure : Network → List Entry → ℕ
figure N es = cond (eqb (finding N es) 0) (delivered N (suc (last_slot es)) (logged es)) 0
