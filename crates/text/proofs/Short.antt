-- A number below 10,000 has at most four digits, since none stands in front that is zero.
-- Assumes nothing.
use mathlib.Core.Path.{◌≡◌}
use mathlib.Core.Bool.{true, false, not, ◌&&◌, ◌||◌, and-eq-true_iff}
use mathlib.Core.List.{List, [], ◌∷◌}
use Prim.Native.Nat.{ℕ, ◌+◌, ◌-◌, ◌*◌, ◌≤◌, ◌<◌}
use native.Mathlib.Omega.{arith}
use lib.Dec.{eqb, leb, ltb}
use lib.ListN.{length}
use borrow.Author.Tests.{eqb-false, leb-true, not-true, ne_eqb}
use Rattle.waymaker_core.proofs.Choice.{cond_case}
use Rattle.std.proofs.Common.{Option, Some}
use Rattle.text.specs.Text.{is_digit, all_digits, is_decimal, value_from, most, number_of}
use Rattle.text.proofs.Numbers.{value_grows}

-- the first of two digits or more is no zero
first_digit : (b c : ℕ) (s : List ℕ) → is_decimal (b ∷ c ∷ s) ≡ true → 48 < b
unfolding is_decimal all_digits
first_digit b c s e =
    let n : ℕ = length (b ∷ c ∷ s) in
    let p = (and-eq-true_iff (ltb 0 n && (is_digit b && all_digits (c ∷ s))) (eqb n 1 || not (eqb b 48))).0 e in
    let d = ((and-eq-true_iff (is_digit b) (all_digits (c ∷ s))).0 ((and-eq-true_iff (ltb 0 n) (is_digit b && all_digits (c ∷ s))).0 p.0).1).0 in
    let low = leb-true 48 b ((and-eq-true_iff (leb 48 b) (leb b 57)).0 d).0 in
    let more : eqb n 1 ≡ false = ne_eqb n 1 (λ i. absurd (omega (arith, i))) in
    let other : not (eqb b 48) ≡ true = rw more at p.1 in
    let zero : b ≡ 48 → ⊥ = eqb-false b 48 (not-true (eqb b 48) other) in
    omega (arith, low, zero)

five_digits : (b c d f g : ℕ) (s : List ℕ) → 48 < b → 10000 ≤ value_from 0 (b ∷ c ∷ d ∷ f ∷ g ∷ s)
unfolding value_from
five_digits b c d f g s h = omega (arith, value_grows (((((0 * 10 + (b - 48)) * 10 + (c - 48)) * 10 + (d - 48)) * 10 + (f - 48)) * 10 + (g - 48)) s)

pub number_short : (s : List ℕ) (v : ℕ) → number_of s ≡ Some v → v < 10000 → length s ≤ 4
unfolding number_of
number_short [] v e h = omega arith
number_short (b ∷ []) v e h = omega arith
number_short (b ∷ c ∷ []) v e h = omega arith
number_short (b ∷ c ∷ d ∷ []) v e h = omega arith
number_short (b ∷ c ∷ d ∷ f ∷ []) v e h = omega arith
number_short (b ∷ c ∷ d ∷ f ∷ g ∷ s) v e h =
    cond_case (λ (x : Option ℕ). x ≡ Some v → length (b ∷ c ∷ d ∷ f ∷ g ∷ s) ≤ 4) (is_decimal (b ∷ c ∷ d ∷ f ∷ g ∷ s) && leb (value_from 0 (b ∷ c ∷ d ∷ f ∷ g ∷ s)) most)
    (λ t i.
    let same : value_from 0 (b ∷ c ∷ d ∷ f ∷ g ∷ s) ≡ v = cc in
    let w = ((and-eq-true_iff (is_decimal (b ∷ c ∷ d ∷ f ∷ g ∷ s)) (leb (value_from 0 (b ∷ c ∷ d ∷ f ∷ g ∷ s)) most)).0 t).0 in
    absurd (omega (arith, five_digits b c d f g s (first_digit b c (d ∷ f ∷ g ∷ s) w))))
    (λ t i. let z : ◌≡◌ {A = ℕ} 0 1 = cc in absurd (omega arith))
    e
