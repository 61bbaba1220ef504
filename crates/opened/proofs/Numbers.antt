-- The refusal in each answer of an opening and an append for C is the one that the answer's own definition numbers.
-- Assumes nothing.
use Rattle.std.specs.Prelude.{Ok, Err}
use mathlib.Core.Path.{◌≡◌, refl}
use Rattle.waymaker_core.specs.Refusals.{refusal_of}
use Rattle.journal.specs.declared.Journal.{Journal}
use Rattle.journal.specs.Opening.{Opening}
use Rattle.progress.specs.Phases.{StepAnswer}
use Rattle.progress.specs.declared.Progress.TheVariants.{Staged, Confirmed, Committed}
use Rattle.numbers.specs.Refusing.{refused_as}
use Rattle.opened.specs.Appending.{opened_by, progress_by}

pub opening_numbers : (z : Opening) → (opened_by z).refused ≡ refused_as (refusal_of z)
opening_numbers (Ok j) = refl
opening_numbers (Err e) = refl

pub progress_numbers : (j : Journal) (z : StepAnswer) → (progress_by j z).refused ≡ refused_as (refusal_of z)
progress_numbers j (Ok Staged) = refl
progress_numbers j (Ok Confirmed) = refl
progress_numbers j (Ok (Committed w)) = refl
progress_numbers j (Err e) = refl
