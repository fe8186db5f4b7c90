-- Safety of `of_plan`: the first augmentation, as `quickest` makes it. Assumes nothing.
use Rattle.quickest.proofs.Turns.{first_raisable, first_augmentable}
use Rattle.hint_probe.proofs.of_plan.Goals as goal

pub raise-raised-requires : goal.raise-raised-requires
raise-raised-requires c = first_raisable c.requires.0 c.requires.1 c.begin.ensures

pub augment-augmented-requires : goal.augment-augmented-requires
augment-augmented-requires c =
    first_augmentable c.requires.0 c.requires.1 c.begin.ensures _ c.raise-raised.ensures
