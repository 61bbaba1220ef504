-- The sets go down.
use Rattle.test_explore.proofs.cut.Cut.slots.Given as goal

abbrev pub decreases-loop-bits : goal.decreases-loop-bits
decreases-loop-bits l = l.bits
