-- The refusal in each answer for C is the one that the answer's own definition numbers.
-- Assumes nothing.
use Rattle.std.specs.Prelude.{Ok, Err, Some, None}
use mathlib.Core.Path.{◌≡◌, refl}
use Rattle.waymaker_core.specs.Refusals.{refusal_of}
use Rattle.recovery.specs.Next.{Answer}
use Rattle.scan.specs.Scan.{Scanned}
use Rattle.find.specs.Find.{Finding}
use Rattle.answers.specs.declared.stepped.RecoveryState.{RecoveryState}
use Rattle.answers.specs.declared.stepped.ScanState.{ScanState}
use Rattle.numbers.specs.Refusing.{refused_as}
use Rattle.answers.specs.Stepping.{recovery_step_to, scan_step_to, finding_by}

pub step_numbers : (s : RecoveryState) (z : Answer) → (recovery_step_to s z).refused ≡ refused_as (refusal_of z)
step_numbers s (Ok (Some x)) = refl
step_numbers s (Ok None) = refl
step_numbers s (Err e) = refl

pub scan_numbers : (s : ScanState) (z : Scanned) → (scan_step_to s z).refused ≡ refused_as (refusal_of z)
scan_numbers s (Ok (Some f)) = refl
scan_numbers s (Ok None) = refl
scan_numbers s (Err e) = refl

pub finding_numbers : (z : Finding) → (finding_by z).refused ≡ refused_as (refusal_of z)
finding_numbers (Ok (Some o)) = refl
finding_numbers (Ok None) = refl
finding_numbers (Err e) = refl
