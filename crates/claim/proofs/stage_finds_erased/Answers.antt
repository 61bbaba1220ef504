-- `claim::stage_finds_erased` meets its contract: by the theorem.
-- Tried with this law named on the function: the check does not find it alone.
use Rattle.claim.proofs.Erased.{stage_finds_erased}
use Rattle.claim.proofs.stage_finds_erased.Goals as goal

pub returns : goal.returns
returns c = stage_finds_erased
