-- Instances of the theorem on the counts, over an erased region of 64 bytes, program unit 4, read unit 1, opened from
-- counts: so the theorem speaks of something.
use Rattle.std.specs.Prelude.{List, [], ◌∷◌, ℕ, Ok, Err}
use Rattle.waymaker_core.specs.declared.error.Refusal.TheVariants.{Interrupted}
use Rattle.counts.specs.declared.WriteAmplification.{WriteAmplification}
use Rattle.counts.specs.Counts.{counts}
use Rattle.journal.specs.declared.Journal.{Journal}
use Rattle.journal.specs.Opening.{idle, opened_with, Opens}
use Rattle.progress.specs.declared.Progress.TheVariants.{Staged, Confirmed}
use Rattle.progress.specs.Phases.{busy}
use Rattle.claim.specs.Events.{Large}
use Rattle.claim.specs.Claim.{units}
use Rattle.claim.specs.Instances.{blank, fired, bodied}
use Rattle.foreign.specs.Steps.{barrier, foreign, Leads}
use Rattle.counted.specs.Counted.{Anything}
use Rattle.instances.specs.Foreign.{noted, noted_behind, stages_to, goes_through}

-- what earlier openings have written
abbrev pub handed : WriteAmplification
handed = counts 9 8 7 6 5

-- the journal opened from it, with the record of 20 bytes confirmed, and behind it
abbrev pub handed_on : Journal
handed_on = idle (units 64 4 1) 0 handed

abbrev pub half_way : Journal
half_way = busy handed_on 2 16 0 0x71f237f2 (counts 9 24 8 7 6)

abbrev pub behind_it : Journal
behind_it = idle (units 64 4 1) 20 (counts 9 28 9 8 5)

-- programmed bytes, as the theorem has it: 8 and the body's 16, then 8 and the advance of 20; uncommitted appends: 5
-- and one, then 5
pub record Instances : Type 0 where
  pub opens : (large : List ℕ) → Large large
      → Opens handed 4 1 blank large (Ok handed_on) (opened_with handed 4 1 blank large).page
  -- a record is under way, and a second stage is refused
  pub under_way : Leads Anything handed_on blank
      (stages_to fired (Ok Staged) ∷ barrier (Ok Confirmed) ∷ stages_to fired (Err Interrupted) ∷ [])
      half_way (bodied blank 0 fired)
  -- something else writes, and the record is committed
  pub committed : Leads Anything handed_on blank (foreign noted ∷ goes_through []) behind_it noted_behind
