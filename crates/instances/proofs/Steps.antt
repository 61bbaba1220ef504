-- A list of steps of an append, each by its definition.
-- Assumes nothing.
use mathlib.Core.Path.{◌≡◌}
use mathlib.Core.List.{List, [], ◌∷◌}
use Prim.Native.Nat.{ℕ}
use lib.ListN.{replicate}
use Rattle.journal.specs.declared.Journal.{Journal}
use Rattle.progress.specs.declared.Advanced.{Advanced}
use Rattle.progress.specs.Phases.{StepLeft}
use Rattle.staging.specs.Stage.{staged}
use Rattle.staging.proofs.Staging.{stages_by}
use Rattle.append.specs.Append.{barred, committed}
use Rattle.append.proofs.Onward.{confirms_by, commits_by}
use Rattle.claim.specs.Saying.{Given}
use Rattle.foreign.specs.Steps.{Event, barrier, commit, Leads, stages, confirms, commits}
use Rattle.instances.specs.Foreign.{stages_to}

-- a page of 64 bytes
abbrev pub page : List ℕ
page = replicate 64 0

-- each step by its definition, and the list that goes on from what it leaves
module _ (May : List ℕ → List ℕ → Type 0) (k : Journal) (t : List ℕ) (es : List Event) (j : Journal) (s : List ℕ) where
  pub by_stage : (x : Given) (l : StepLeft) → l ≡ staged j x.«record» x.free s page → Leads May l.out.journal l.region es k t
      → Leads May j s (stages_to x l.out.progress ∷ es) k t
  by_stage x l e = stages j k s l.region t es x.«record» x.free page l.page l.out (stages_by e)

  pub by_barrier : (out : Advanced) → record { out = out; region = s; page = [] } ≡ barred j s → Leads May out.journal s es k t → Leads May j s (barrier out.progress ∷ es) k t
  by_barrier out e = confirms j k s t es out (confirms_by e)

  pub by_commit : (l : StepLeft) → record { out = l.out; region = l.region; page = [] } ≡ committed j s → Leads May l.out.journal l.region es k t
      → Leads May j s (commit l.out.progress ∷ es) k t
  by_commit l e = commits j k s l.region t es l.out (commits_by e)
