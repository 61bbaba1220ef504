-- A list of the steps of an append, refused ones too, and of what something else writes between them; no cut.
-- j and k are journals, s, t and u regions.
use Rattle.std.specs.Prelude.{List, [], ◌∷◌, ℕ}
use Rattle.waymaker_core.specs.declared.«record».Record.{Record}
use Rattle.journal.specs.declared.Journal.{Journal}
use Rattle.progress.specs.declared.Advanced.{Advanced}
use Rattle.progress.specs.Phases.{StepAnswer}
use Rattle.staging.specs.Stage.{Stages}
use Rattle.append.specs.Append.{Confirms, Commits}

-- a step of an append with its answer, stage with what it is given too; or a write by something else, with the region
-- that it leaves
pub data Event : Type 0 where
  stage : Record → List ℕ → List ℕ → StepAnswer → Event
  barrier : StepAnswer → Event
  commit : StepAnswer → Event
  foreign : List ℕ → Event

-- a list that leads from j and s to k and t: each step is given the journal last given, and has any results that keep
-- its promise; something else writes at any moment, as far as it may: of a region s it makes u only where May s u
pub data Leads (May : List ℕ → List ℕ → Type 0) : Journal → List ℕ → List Event → Journal → List ℕ → Type 0 where
  rests : (j : Journal) (s : List ℕ) → Leads May j s [] j s
  stages : (j k : Journal) (s s' t : List ℕ) (es : List Event) (x : Record) (free page page' : List ℕ) (out : Advanced)
      → Stages j x free s page out s' page'
      → Leads May out.journal s' es k t
      → Leads May j s (stage x free page out.progress ∷ es) k t
  confirms : (j k : Journal) (s t : List ℕ) (es : List Event) (out : Advanced)
      → Confirms j s out s
      → Leads May out.journal s es k t
      → Leads May j s (barrier out.progress ∷ es) k t
  commits : (j k : Journal) (s s' t : List ℕ) (es : List Event) (out : Advanced)
      → Commits j s out s'
      → Leads May out.journal s' es k t
      → Leads May j s (commit out.progress ∷ es) k t
  writes : (j k : Journal) (s u t : List ℕ) (es : List Event)
      → May s u
      → Leads May j u es k t
      → Leads May j s (foreign u ∷ es) k t
