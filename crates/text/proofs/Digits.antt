-- Laws of decimal digits: those that `{}` writes are the definition's, and how many there are.
-- Assumes nothing.
use mathlib.Core.Path.{◌≡◌, refl, sym}
use mathlib.Core.Bool.{Bool, true, false, cond}
use mathlib.Core.List.{List, [], ◌∷◌, ◌++◌}
use Prim.Native.Nat.{ℕ, zero, suc, ◌+◌, ◌/◌, ◌%◌, ◌^◌, ◌<◌, ◌≤◌}
use native.Mathlib.Nat.{pow-suc}
use native.Mathlib.Omega.{arith}
use lib.Dec.{ltb}
use lib.ListN.{length, length-append}
use borrow.Author.Tests.{lt-ltb, le-ltb, ltb-true, ltb-false}
use Rattle.std.specs.Fmt.{decimal as written}
use Rattle.std.proofs.lemmas.Fmt.{decimal_by_steps}
use Rattle.text.specs.Text.{digits_of, decimal}

digits_few : (k n : ℕ) → n < 10 → digits_of (suc k) n ≡ (48 + n) ∷ []
unfolding digits_of
digits_few k n h = rw (lt-ltb n 10 h)

digits_more : (k n : ℕ) → 10 ≤ n → digits_of (suc k) n ≡ digits_of k (n / 10) ++ ((48 + n % 10) ∷ [])
unfolding digits_of
digits_more k n h = rw (le-ltb n 10 h)

-- the digits that `{}` writes are the definition's, at any k that hold n
digits_are : (n : ℕ) → n < 2 ^ 64 → (k : ℕ) → n < 10 ^ suc k → written n ≡ digits_of (suc k) n
digits_are n h =
    decimal_by_steps (λ m s. (k : ℕ) → m < 10 ^ suc k → s ≡ digits_of (suc k) m) (λ m few k _. sym (digits_few k m few)) (λ m s more ih k l. next m s more ih k l) n h where
      next : (m : ℕ) (s : List ℕ) → 10 ≤ m → ((k : ℕ) → m / 10 < 10 ^ suc k → s ≡ digits_of (suc k) (m / 10))
          → (k : ℕ) → m < 10 ^ suc k → s ++ ((48 + m % 10) ∷ []) ≡ digits_of (suc k) m
      next m s more ih zero l = absurd (omega (arith, l, pow-suc 10 0))
      next m s more ih (suc k) l = rw (digits_more (suc k) m more, ih k (omega (arith, l, pow-suc 10 (suc k))))

pub decimal_are : (n : ℕ) → n < 2 ^ 64 → written n ≡ decimal n
unfolding decimal
decimal_are n h = digits_are n h 19 (omega arith)

-- a property of digits, shown where there is one digit and where there are more
pub digits_case : (P : List ℕ → Type 0) (k n : ℕ) → (n < 10 → P ((48 + n) ∷ [])) → (10 ≤ n → P (digits_of k (n / 10) ++ ((48 + n % 10) ∷ [])))
    → P (digits_of (suc k) n)
unfolding digits_of
digits_case P k n few more = go (ltb n 10) refl where
  go : (t : Bool) → ltb n 10 ≡ t → P (cond t ((48 + n) ∷ []) (digits_of k (n / 10) ++ ((48 + n % 10) ∷ [])))
  go true e = few (ltb-true n 10 e)
  go false e = more (ltb-false n 10 e)

-- two digits or more are held by no single one
more_than_one : (k n : ℕ) → n < 10 ^ suc k → 10 ≤ n → 0 < k
more_than_one zero n a b = absurd (omega (arith, a, pow-suc 10 0))
more_than_one (suc k) n a b = omega arith

-- no number below 10 ^ k has more than k digits
digits_length : (f k n : ℕ) → 0 < k → n < 10 ^ k → length (digits_of f n) ≤ k
unfolding digits_of
digits_length zero k n l h = omega arith
digits_length (suc f) zero n l h = absurd (omega arith)
digits_length (suc f) (suc k) n l h =
    digits_case (λ s. length s ≤ suc k) f n (λ few. omega arith)
    (λ more.
    let rest : length (digits_of f (n / 10)) ≤ k = digits_length f k (n / 10) (more_than_one k n h more) (omega (arith, h, pow-suc 10 k)) in
    omega (arith, length-append (digits_of f (n / 10)) ((48 + n % 10) ∷ [])))

pub decimal_length : (k n : ℕ) → 0 < k → n < 10 ^ k → length (decimal n) ≤ k
unfolding decimal
decimal_length k n l h = digits_length 20 k n l h

-- any number's digits are at most 20
digits_most : (k n : ℕ) → length (digits_of k n) ≤ k
unfolding digits_of
digits_most zero n = omega arith
digits_most (suc k) n =
    digits_case (λ s. length s ≤ suc k) k n (λ few. omega arith) (λ more. omega (arith, digits_most k (n / 10), length-append (digits_of k (n / 10)) ((48 + n % 10) ∷ [])))

pub decimal_most : (n : ℕ) → length (decimal n) ≤ 20
unfolding decimal
decimal_most n = digits_most 20 n
