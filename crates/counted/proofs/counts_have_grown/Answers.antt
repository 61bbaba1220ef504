-- `counted::counts_have_grown` meets its contract: by the theorem.
-- Tried with this law named on the function: the check does not find it alone.
use Rattle.counted.proofs.Counting.{counts_have_grown}
use Rattle.counted.proofs.counts_have_grown.Goals as goal

pub returns : goal.returns
returns c = counts_have_grown
