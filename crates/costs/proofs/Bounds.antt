-- The most reads, by the region's length: monotone, and two for each shortest record.
-- Assumes nothing.
use mathlib.Core.Path.{◌≡◌, refl, ap}
use mathlib.Core.Bool.{Bool, true, false}
use Prim.Native.Nat.{ℕ, ◌+◌, ◌-◌, ◌*◌, ◌/◌, ◌%◌, ◌≤◌, ◌<◌}
use native.Mathlib.Nat.{div-eq-sub-div, div-eq_of_lt, mod-eq_of_lt, mod-eq-sub-mod, mod-eq-sub-div-mul, div-mul-le_self, le-div_iff_mul-le}
use native.Mathlib.Omega.{arith}
use lib.Dec.{eqb, ltb}
use borrow.Author.Tests.{eqb-true, eqb-false, ltb-true, ltb-false}
use Rattle.waymaker_core.proofs.Choice.{cond_case}
use Rattle.costliest.specs.Written.{shortest}
use Rattle.costliest.proofs.Region.{shortest_least}
use Rattle.costs.specs.Costs.{left_over, most_reads}

-- what is left over: nothing, too little for a header, or enough for one
pub left_case : (P : ℕ → Type 0) (m : ℕ) → (m ≡ 0 → P 0) → (0 < m → m < 12 → P 1) → (12 ≤ m → P 2) → P (left_over m)
unfolding left_over
left_case P m none few enough =
    cond_case P (eqb m 0) (λ e. none (eqb-true m 0 e))
    (λ e. cond_case P (ltb m _) (λ l. few (omega (arith, eqb-false m 0 e)) (omega (arith, ltb-true m _ l))) (λ l. enough (omega (arith, ltb-false m _ l))))

pub left_most : (m : ℕ) → left_over m ≤ 2
left_most m = left_case (λ x. x ≤ 2) m (λ e. omega arith) (λ p q. omega arith) (λ p. omega arith)

left_mono : (i j : ℕ) → i ≤ j → left_over i ≤ left_over j
left_mono i j l =
    left_case (λ x. x ≤ left_over j) i (λ e. omega arith)
    (λ p q. left_case (λ y. 1 ≤ y) j (λ e. absurd (omega arith)) (λ v w. omega arith) (λ v. omega arith))
    (λ p. left_case (λ y. 2 ≤ y) j (λ e. absurd (omega arith)) (λ v w. absurd (omega arith)) (λ v. omega arith))

module _ (a : ℕ) (h : 0 < a) where
  some : 0 < shortest a
  some = omega (arith, shortest_least a h)

  -- where no record fits, all is left over
  pub none_fits : (m : ℕ) → m < shortest a → most_reads a m ≡ left_over m
  unfolding most_reads
  none_fits m l =
      let d : m / shortest a ≡ 0 = div-eq_of_lt l in
      let e : m % shortest a ≡ m = mod-eq_of_lt l in
      omega (arith, d, ap left_over e)

  -- where one fits, it takes two
  pub one_fits : (m : ℕ) → shortest a ≤ m → most_reads a m ≡ 2 + most_reads a (m - shortest a)
  unfolding most_reads
  one_fits m l =
      let s : ℕ = shortest a in
      let d : m / s ≡ (m - s) / s + 1 = div-eq-sub-div {m = s} {n = m} some l in
      let e : m % s ≡ (m - s) % s = mod-eq-sub-mod {n = m} {m = s} l in
      omega (arith, d, ap left_over e)

  pub monotone : (m n : ℕ) → m ≤ n → most_reads a m ≤ most_reads a n
  unfolding most_reads
  monotone m n l = go (ltb (m / s) (n / s)) refl where
    s : ℕ
    s = shortest a

    fewer : m / s ≤ n / s
    fewer = (le-div_iff_mul-le {k = s} {x = m / s} {y = n} some).1 (omega (arith, div-mul-le_self m s))

    go : (b : Bool) → ltb (m / s) (n / s) ≡ b → 2 * (m / s) + left_over (m % s) ≤ 2 * (n / s) + left_over (n % s)
    go true e = omega (arith, ltb-true (m / s) (n / s) e, left_most (m % s))
    go false e =
        let same : m / s ≡ n / s = omega (arith, fewer, ltb-false (m / s) (n / s) e) in
        let parts : m / s * s ≡ n / s * s = ap (λ q. q * s) same in
        omega (arith, same, left_mono (m % s) (n % s) (omega (arith, l, parts, mod-eq-sub-div-mul m s, mod-eq-sub-div-mul n s)))

  -- what is left over never takes more
  pub left_least : (m : ℕ) → left_over m ≤ most_reads a m
  left_least m = go (ltb m (shortest a)) refl where
    go : (b : Bool) → ltb m (shortest a) ≡ b → left_over m ≤ most_reads a m
    go true e = omega (arith, none_fits m (ltb-true m (shortest a) e))
    go false e = omega (arith, one_fits m (ltb-false m (shortest a) e), left_most m)

  -- a record of so many bytes, and what is behind it
  pub goes_on : (m k : ℕ) → shortest a ≤ k → k ≤ m → 2 + most_reads a (m - k) ≤ most_reads a m
  goes_on m k l i = omega (arith, one_fits m (omega (arith, l, i)), monotone (m - k) (m - shortest a) (omega (arith, l)))
