-- Every listing that is not refused has a last line: a walk with no page ends clean, damaged or unsealed.
-- Assumes nothing.
use mathlib.Core.Path.{◌≡◌, refl, subst}
use mathlib.Core.Bool.{Bool, true, false}
use mathlib.Core.List.{List}
use Prim.Native.Nat.{ℕ, ◌<◌}
use lib.ListN.{drop}
use Rattle.place.specs.declared.Stand.{Stand}
use Rattle.place.specs.declared.Stand.TheVariants.{Met, Passed, Over}
use Rattle.place.specs.AtOffset.{stands}
use Rattle.place.specs.Walk.{plain, walk}
use Rattle.place.proofs.Cases.{settled_case, judged_case, stands_case}
use Rattle.place.proofs.Walks.{plain_steady, each_walk}
use Rattle.recovery.specs.declared.next.Ending.{Ending}
use Rattle.recovery.specs.declared.next.Ending.TheVariants.{Open, Clean, Damaged, Incomplete, Unsealed}
use Rattle.recovery.specs.Next.{ending_by}

-- an ending that has a last line
abbrev pub named : Ending → Bool
named Clean = true
named Damaged = true
named Unsealed = true
named Incomplete = false
named Open = false

-- what stands at an offset never ends for a page
abbrev unpaged : Stand → Bool
unpaged (Met x) = true
unpaged (Passed n) = true
unpaged (Over e) = named (ending_by e)

unpaged_stands : (a : ℕ) (t : List ℕ) → unpaged (stands a t) ≡ true
unpaged_stands a t =
    let P : Stand → Type 0 = λ x. unpaged x ≡ true in
    stands_case a P t (λ _. refl) (λ i e. refl) (λ e. refl)
    (λ v _ _. judged_case a P _ (λ e. refl) (λ f. settled_case a P f _ (λ x. refl) refl (λ e. refl) refl (λ i e. refl)))

pub walk_named : (a : ℕ) (region : List ℕ) (o : ℕ) → 0 < a → named (ending_by (walk (plain a) region o).stop) ≡ true
walk_named a region o h =
    each_walk (plain a) (plain_steady a h) region (λ _ w. named (ending_by w.stop) ≡ true)
    (λ _ _ _ _ _ k. k)
    (λ _ _ _ _ _ k. k)
    (λ p e i. subst (λ x. unpaged x ≡ true) i (unpaged_stands a (drop p region)))
    o
