-- `begin` meets its contract: the first augmentation is too short for the amount, since no flow brings nothing, and so is a proposal that
-- passes both tests. Assumes nothing.
use Rattle.network.specs.Held.{model_of}
use Rattle.quickest.specs.Quickest.{TooShort}
use Rattle.quickest.proofs.Turns.{first_raisable, first_augmentable, first_short}
use Rattle.quickest_flow.proofs.Proposed.{sound_short}
use Rattle.quickest_flow.proofs.begin.Goals as goal
use Rattle.quickest_flow.proofs.begin.Goals.{After-augment-augmented}

pub raise-raised-requires : goal.raise-raised-requires
raise-raised-requires c = first_raisable c.requires.0 c.requires.1 c.begin.ensures

pub augment-augmented-requires : goal.augment-augmented-requires
augment-augmented-requires c =
    first_augmentable c.requires.0 c.requires.1 c.begin.ensures _ c.raise-raised.ensures

-- no flow brings nothing, so the first augmentation is too short
first : (c : After-augment-augmented) → TooShort (model_of c.args.graph.now.network) c.args.amount c.augment-augmented.result
first c =
    let p = c.requires in
    first_short p.0 p.1 c.begin.ensures _ c.raise-raised.ensures _ c.augment-augmented.ensures

pub returns-then-wanted-value : goal.returns-then-wanted-value
returns-then-wanted-value c = first (goal.at.returns-then-wanted-value c).After-augment-augmented

pub returns-then-bound-wanted : goal.returns-then-bound-wanted
returns-then-bound-wanted c =
    sound_short _ c.args.graph.now.formed (c.accepts.ensures c.if-accepts.true) c.bound.ensures (rw c.from-wanted.ensures at c.if-bound-wanted.true)

pub returns : goal.returns
returns c = first (goal.at.returns c).After-augment-augmented
