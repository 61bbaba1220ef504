-- Instances of the theorem on what something else has written, over a region of 64 bytes, program unit 4, read unit 1,
-- of which it has written bytes 30 and 31: so the theorem speaks of something.
use Rattle.std.specs.Prelude.{List, [], ◌∷◌, ◌++◌, ℕ, replicate, Ok, Err}
use Rattle.waymaker_core.specs.declared.error.Span.TheVariants.{Ahead}
use Rattle.waymaker_core.specs.declared.error.Refusal.TheVariants.{NotErased, OutOfOrder}
use Rattle.counts.specs.Counts.{counts, unwritten}
use Rattle.journal.specs.declared.Journal.{Journal}
use Rattle.journal.specs.Opening.{idle}
use Rattle.progress.specs.declared.Progress.TheVariants.{Staged, Confirmed, Committed}
use Rattle.progress.specs.Phases.{StepAnswer}
use Rattle.claim.specs.Claim.{units}
use Rattle.claim.specs.Saying.{Given}
use Rattle.claim.specs.Instances.{armed, fired}
use Rattle.foreign.specs.Steps.{Event, stage, barrier, commit, foreign, Leads}
use Rattle.foreign.specs.Foreign.{Spares}

-- what it has written
abbrev pub note : List ℕ
note = 0x6e ∷ 0x6f ∷ []

-- the region with it
abbrev pub noted : List ℕ
noted = replicate 30 255 ++ (note ++ replicate 32 255)

-- the record of 20 bytes, written out
abbrev pub fired_bytes : List ℕ
fired_bytes =
    0x57 ∷ 0x4d ∷ 1 ∷ 6 ∷ 3 ∷ 0 ∷ 0 ∷ 0 ∷ 0 ∷ 0 ∷ 0x1a ∷ 0x1a ∷ 0xf2 ∷ 0x37 ∷ 0xf2 ∷ 0x71
    ∷ 0x72 ∷ 0x37 ∷ 0x72 ∷ 0x71 ∷ []

-- the same with that record before it
abbrev pub noted_behind : List ℕ
noted_behind = fired_bytes ++ (replicate 10 255 ++ (note ++ replicate 32 255))

-- the same with byte 50 written too, later
abbrev pub noted_twice : List ℕ
noted_twice = fired_bytes ++ (replicate 10 255 ++ (note ++ (replicate 18 255 ++ (0 ∷ replicate 13 255))))

-- a journal that is ready at the start, and one behind that record
abbrev pub at_start : Journal
at_start = idle (units 64 4 1) 0 unwritten

abbrev pub behind : Journal
behind = idle (units 64 4 1) 20 (counts 0 20 2 2 0)

-- refused for byte 30, the first that is not 0xFF
abbrev pub spoiled : StepAnswer
spoiled = Err (NotErased Ahead 30)

-- a stage with that answer, lent a page of 64 bytes
abbrev pub stages_to : Given → StepAnswer → Event
stages_to x = stage x.«record» x.free (replicate 64 0)

-- an append of the record of 20 bytes goes through
abbrev pub goes_through : List Event → List Event
goes_through es =
    stages_to fired (Ok Staged) ∷ barrier (Ok Confirmed) ∷ commit (Ok (Committed (counts 0 20 2 2 0))) ∷ es

-- bytes 30 and 31 stay, each where the other events leave it
pub record Instances : Type 0 where
  -- a record of 40 bytes is refused, which leaves nothing under way
  pub refused : Leads (Spares 30) at_start noted (stages_to armed spoiled ∷ barrier (Err OutOfOrder) ∷ [])
      at_start noted
  -- one of 20 bytes is committed before them, and the next is refused
  pub before : Leads (Spares 30) at_start noted (goes_through (stages_to fired spoiled ∷ [])) behind noted_behind
  -- byte 50 is written later, and stays from then on
  pub later : Leads (Spares 31) at_start noted (goes_through (foreign noted_twice ∷ stages_to fired spoiled ∷ []))
      behind noted_twice
  pub from_then : Leads (Spares 50) behind noted_twice (stages_to armed spoiled ∷ []) behind noted_twice
