-- `claim::demand_3` meets its contract: by the theorem.
-- Tried with this law named on the function: the check does not find it alone.
use Rattle.claim.proofs.Demand3.{demand_3}
use Rattle.claim.proofs.demand_3.Goals as goal

pub returns : goal.returns
returns c = demand_3
