-- The number falls: each call is for a group fewer.
use Rattle.number_writer.proofs.+number_length.Given as goal

abbrev pub decreases-number_length : goal.decreases-number_length
decreases-number_length l = l.n
