-- `places::nothing_else_changed` meets its contract: by the theorem.
-- Tried with this law named on the function: the check does not find it alone.
use Rattle.places.proofs.Before.{nothing_else_changed}
use Rattle.places.proofs.nothing_else_changed.Goals as goal

pub returns : goal.returns
returns c = nothing_else_changed
