-- What a list keeps: a property of journal and region that no step and no other write breaks.
-- Assumes nothing.
use mathlib.Core.Path.{sym, subst}
use mathlib.Core.List.{List, []}
use Prim.Native.Nat.{ℕ}
use Rattle.waymaker_core.specs.declared.«record».Record.{Record}
use Rattle.journal.specs.declared.Journal.{Journal}
use Rattle.progress.specs.Phases.{StepLeft}
use Rattle.staging.specs.Stage.{staged}
use Rattle.append.specs.Append.{barred, committed}
use Rattle.foreign.specs.Steps.{Event, Leads, rests, stages, confirms, commits, writes}

-- the property of what a step leaves
abbrev pub Left : (Journal → List ℕ → Type 0) → StepLeft → Type 0
Left P l = P l.out.journal l.region

-- no step breaks it, refused or not, nor what something else may write
pub record Kept (May : List ℕ → List ℕ → Type 0) (P : Journal → List ℕ → Type 0) : Type 0 where
  pub by_stage : (j : Journal) (s : List ℕ) → P j s → (x : Record) (free page : List ℕ) → Left P (staged j x free s page)
  pub by_barrier : (j : Journal) (s : List ℕ) → P j s → Left P (barred j s)
  pub by_commit : (j : Journal) (s : List ℕ) → P j s → Left P (committed j s)
  pub by_others : (j : Journal) (s u : List ℕ) → P j s → May s u → P j u

module _ (May : List ℕ → List ℕ → Type 0) (P : Journal → List ℕ → Type 0) (k : Kept May P) where
  pub along : (j j' : Journal) (s t : List ℕ) (es : List Event) → P j s → Leads May j s es j' t → P j' t
  along j j' s t es h (rests i r) = h
  along j j' s t es h (stages i i' r s' t' es' x free page page' out p l) =
      along out.journal j' s' t es' (subst (Left P) (sym p.all) (k.by_stage j s h x free page)) l
  along j j' s t es h (confirms i i' r t' es' out p l) = along out.journal j' s t es' (subst (Left P) (sym p.all) (k.by_barrier j s h)) l
  along j j' s t es h (commits i i' r s' t' es' out p l) = along out.journal j' s' t es' (subst (Left P) (sym p.all) (k.by_commit j s h)) l
  along j j' s t es h (writes i i' r u t' es' e l) = along j j' u t es' (k.by_others j s u h e) l
