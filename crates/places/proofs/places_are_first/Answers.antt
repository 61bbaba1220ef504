-- `places::places_are_first` meets its contract: by the theorem.
-- Tried with this law named on the function: the check does not find it alone.
use Rattle.places.proofs.First.{places_are_first}
use Rattle.places.proofs.places_are_first.Goals as goal

pub returns : goal.returns
returns c = places_are_first
