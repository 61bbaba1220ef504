-- `foreign::foreign_bytes_stay` meets its contract: by the theorem.
-- Tried with this law named on the function: the check does not find it alone.
use Rattle.foreign.proofs.Stays.{foreign_bytes_stay}
use Rattle.foreign.proofs.foreign_bytes_stay.Goals as goal

pub returns : goal.returns
returns c = foreign_bytes_stay
