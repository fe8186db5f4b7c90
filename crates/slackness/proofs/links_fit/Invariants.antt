-- `links_fit` tests one link in a turn: those passed fit. Assumes nothing.
use Rattle.slackness.proofs.Links.{Fitting}
use Rattle.slackness.proofs.links_fit.Given as goal

abbrev pub invariant-loop-e : goal.invariant-loop-e
invariant-loop-e l = Fitting l.network l.state.flow l.state.potential l.e
