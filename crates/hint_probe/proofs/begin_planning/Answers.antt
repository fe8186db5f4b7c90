-- `begin_planning` meets its contract: where the first search reaches the archive a plan exists. Assumes nothing.
use Rattle.network_planner.proofs.First.{plannable}
use Rattle.hint_probe.proofs.begin_planning.Goals as goal

pub returns-then-amount-le-MOST_AMOUNT : goal.returns-then-amount-le-MOST_AMOUNT
returns-then-amount-le-MOST_AMOUNT c =
    let begun = c.in_ok-begun.ensures in
    (plannable c.in_ok-begun.begun.graph.formed begun c.if-begun.true c.if-amount-ge-LEAST_AMOUNT.true c.if-amount-le-MOST_AMOUNT.true, begun)
