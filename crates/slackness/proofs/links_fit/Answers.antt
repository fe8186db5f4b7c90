-- `links_fit` tests one link in a turn: those passed fit. Assumes nothing.
use Rattle.network.proofs.Links.{links_few}
use Rattle.slackness.proofs.Links.{lent_in, lent_start, lent_end, fitting_more, fitting_all}
use Rattle.slackness.proofs.links_fit.Goals as goal

pub links-link-items-requires : goal.links-link-items-requires
links-link-items-requires c = links_few _ c.requires

pub bounds-state-link : goal.bounds-state-link
bounds-state-link c = lent_start _ _ c.links-link-items.ensures c.requires _ c.loop-e-test.true

pub bounds-state-link-in-loop-e : goal.bounds-state-link-in-loop-e
bounds-state-link-in-loop-e c = lent_end _ _ c.links-link-items.ensures c.requires _ c.loop-e-test.true

pub bounds-state-e : goal.bounds-state-e
bounds-state-e c = lent_in _ _ c.links-link-items.ensures c.requires _ c.loop-e-test.true

pub loop-e-preserved : goal.loop-e-preserved
loop-e-preserved c = fitting_more _ _ c.links-link-items.ensures _ _ _ c.loop-e.invariant c.loop-e-test.true (c.fits.ensures c.if-not-fits.false)

pub returns : goal.returns
returns c = λ e. fitting_all _ _ c.links-link-items.ensures _ _ _ c.loop-e.invariant c.loop-e-test.false
