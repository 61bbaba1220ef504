-- Laws of the search for a byte.
-- Assumes nothing.
use mathlib.Core.Path.{◌≡◌, refl, ap, ◌∙◌}
use mathlib.Core.Bool.{Bool, true, false, cond, not}
use mathlib.Core.List.{List, [], ◌∷◌}
use Prim.Native.Nat.{ℕ, suc, ◌+◌, ◌-◌, ◌<◌, ◌≤◌}
use native.Mathlib.Omega.{arith}
use lib.Dec.{eqb, ltb}
use lib.ListN.{length, take, drop, length-drop}
use lib.Seq.{take_all}
use borrow.Author.Tests.{ltb-true, ltb-false}
use Rattle.std.proofs.Common.{Option, Some, None}
use Rattle.std.specs.Option.{MatchOption}
use Rattle.std.specs.Borrow.{Bor}
use Rattle.std.specs.Fn.{Called, Mut}
use Rattle.std.specs.Iterator.{YieldsThen}
use Rattle.std.specs.List.{FoldsTo, position, position_or_len}
use Rattle.std.specs.declared.slice.Iter.{Iter}
use Rattle.std.proofs.lemmas.Fn.{fronts}
use Rattle.std.proofs.lemmas.Iterator.{YieldsList-from_slice}
use Rattle.std.proofs.lemmas.Iterator.Search.{position_from_yields_List}
use Rattle.waymaker_core.proofs.Choice.{cond_case}
use Rattle.text.specs.Text.{place_of}

pub place_within : (b : ℕ) (s : List ℕ) → place_of b s ≤ length s
unfolding place_of
place_within b [] = omega arith
place_within b (x ∷ s) = cond_case (λ n. n ≤ suc (length s)) (eqb x b) (λ _. omega arith) (λ _. omega (arith, place_within b s))

test_place : (b : ℕ) (s : List ℕ) → position_or_len (λ x. eqb x b) s ≡ place_of b s
unfolding place_of
test_place b [] = refl
test_place b (x ∷ s) = go (eqb x b) (test_place b s) where
  go : (t : Bool) → position_or_len (λ x. eqb x b) s ≡ place_of b s → cond (not t) (1 + position_or_len (λ x. eqb x b) s) 0 ≡ cond t 0 (suc (place_of b s))
  go true e = refl
  go false e = omega (arith, e)

-- what the search answered: the place, or that there is none
found_at : (b : ℕ) (s : List ℕ) (r : Option ℕ) → r ≡ position (λ x. eqb x b) s → MatchOption r (place_of b s ≡ length s) (λ i. (i ≡ place_of b s) × (place_of b s < length s))
found_at b s r e = rw e (go (ltb (position_or_len (λ x. eqb x b) s) (length s)) refl) where
  go : (t : Bool) → ltb (position_or_len (λ x. eqb x b) s) (length s) ≡ t
      → MatchOption (cond t (Some (position_or_len (λ x. eqb x b) s)) None) (place_of b s ≡ length s) (λ i. (i ≡ place_of b s) × (place_of b s < length s))
  go true f = (test_place b s, omega (arith, test_place b s, ltb-true _ _ f))
  go false f = omega (arith, test_place b s, ltb-false _ _ f, place_within b s)

-- what is behind a place, as a part `&s[n + 1..]` says it
all_behind : (s : List ℕ) (n : ℕ) → take (length s - (n + 1)) (drop (n + 1) s) ≡ drop (n + 1) s
all_behind s n = take_all (length s - (n + 1)) (drop (n + 1) s) (omega (arith, length-drop (n + 1) s))

-- the search over the bytes by a closure that tests for b: where there is no b, and where the first one stands at n
module _ {F : Type 0} {g : Mut F (Bor ℕ × Unit {0}) Bool} {i u : Iter ℕ} {f : F} (b : ℕ) {s : List ℕ} {r : Option ℕ}
    (ran : (xs : List (Bor ℕ)) × (o : Option (Bor ℕ)) × (j : F) × YieldsThen fronts i xs o u
    × FoldsTo (λ p x q. Called g p (x, tt) false q) f xs j
    × MatchOption o (r ≡ None) (λ x. (r ≡ Some (length xs)) × ((h : F) × Called g j (x, tt) true h)))
    (e : i.rest.now ≡ s)
    (k : (x : Bor ℕ) (y : Bool) (q : F) → Called g f (x, tt) y q → (q ≡ f) × (y ≡ eqb x.now b)) where
  searched : MatchOption r (place_of b s ≡ length s) (λ n. (n ≡ place_of b s) × (place_of b s < length s))
  searched = found_at b s r (position_from_yields_List (λ x. eqb x b) u f r ran (YieldsList-from_slice s e) k)

  pub parts_none : r ≡ None → place_of b s ≡ length s
  parts_none h = rw h at searched

  pub parts_at : (n : ℕ) → r ≡ Some n
      → (place_of b s < length s) × (take n s ≡ take (place_of b s) s)
      × (take (length s - (n + 1)) (drop (n + 1) s) ≡ drop (place_of b s + 1) s)
  parts_at n h =
      let l = rw h at searched in
      (l.1, ap (λ m. take m s) l.0, all_behind s n ∙ ap (λ m. drop (m + 1) s) l.0)
