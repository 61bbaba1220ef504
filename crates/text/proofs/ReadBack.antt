-- What is written in decimal is read back as the same number.
-- Assumes nothing.
use mathlib.Core.Path.{◌≡◌, refl, sym, ap, ap₂, ◌∙◌}
use mathlib.Core.Bool.{Bool, true, false, ◌&&◌, and_assoc}
use mathlib.Core.List.{List, [], ◌∷◌, ◌++◌}
use Prim.Native.Nat.{ℕ, zero, suc, ◌+◌, ◌-◌, ◌*◌, ◌/◌, ◌%◌, ◌^◌, ◌<◌, ◌≤◌}
use native.Mathlib.Nat.{pow-suc, pow-zero}
use native.Mathlib.Omega.{arith}
use lib.Dec.{eqb}
use lib.ListN.{length, get_or, length-append, get_or-append}
use borrow.Author.Tests.{le-leb, eqb-true, eqb-false}
use Rattle.std.proofs.Common.{Some}
use Rattle.text.specs.Text.{digits_of, decimal, is_digit, all_digits, value_from, most, number_of}
use Rattle.text.specs.Inside.{read_from}
use Rattle.text.proofs.Digits.{digits_case}
use Rattle.text.proofs.Numbers.{number_one, number_more}

all_append : (s t : List ℕ) → all_digits (s ++ t) ≡ (all_digits s && all_digits t)
unfolding all_digits
all_append [] t = refl
all_append (b ∷ s) t = ap (λ r. is_digit b && r) (all_append s t) ∙ sym (and_assoc (is_digit b) (all_digits s) (all_digits t))

value_append : (v : ℕ) (s t : List ℕ) → value_from v (s ++ t) ≡ value_from (value_from v s) t
unfolding value_from
value_append v [] t = refl
value_append v (b ∷ s) t = value_append (v * 10 + (b - 48)) s t

-- one digit, by its value
all_one : (d : ℕ) → d < 10 → all_digits ((48 + d) ∷ []) ≡ true
unfolding all_digits
all_one d h = rw (le-leb 48 (48 + d) (omega arith), le-leb (48 + d) 57 (omega arith))

value_one : (v d : ℕ) → value_from v ((48 + d) ∷ []) ≡ v * 10 + d
unfolding value_from
value_one v d = omega arith

digits_all : (k n : ℕ) → all_digits (digits_of k n) ≡ true
unfolding digits_of all_digits
digits_all zero n = refl
digits_all (suc k) n =
    digits_case (λ s. all_digits s ≡ true) k n (all_one n)
    (λ more. all_append (digits_of k (n / 10)) ((48 + n % 10) ∷ []) ∙ ap₂ (λ x y. x && y) (digits_all k (n / 10)) (all_one (n % 10) (omega arith)))

digits_value : (k n : ℕ) → n < 10 ^ k → value_from 0 (digits_of k n) ≡ n
unfolding digits_of value_from
digits_value zero n h = omega (arith, h, pow-zero 10)
digits_value (suc k) n h =
    digits_case (λ s. value_from 0 s ≡ n) k n (λ few. value_one 0 n ∙ omega arith)
    (λ more.
    value_append 0 (digits_of k (n / 10)) ((48 + n % 10) ∷ [])
    ∙ value_one (value_from 0 (digits_of k (n / 10))) (n % 10)
    ∙ ap (λ v. v * 10 + n % 10) (digits_value k (n / 10) (omega (arith, h, pow-suc 10 k)))
    ∙ omega arith)

digits_some : (k n : ℕ) → 0 < length (digits_of (suc k) n)
digits_some k n =
    digits_case (λ s. 0 < length s) k n (λ few. omega arith) (λ more. omega (arith, length-append (digits_of k (n / 10)) ((48 + n % 10) ∷ [])))

-- the first digit of a number that is not 0 is not 0
digits_first : (k n : ℕ) → n < 10 ^ k → 0 < n → get_or (digits_of k n) 0 0 ≡ 48 → ⊥
digits_first zero n h p = absurd (omega (arith, h, pow-zero 10))
digits_first (suc k) n h p =
    digits_case (λ s. get_or s 0 0 ≡ 48 → ⊥) k n (λ few e. omega (arith, e)) (more k h (digits_first k (n / 10))) where
      more : (j : ℕ) → n < 10 ^ suc j → (n / 10 < 10 ^ j → 0 < n / 10 → get_or (digits_of j (n / 10)) 0 0 ≡ 48 → ⊥)
          → 10 ≤ n → get_or (digits_of j (n / 10) ++ ((48 + n % 10) ∷ [])) 0 0 ≡ 48 → ⊥
      more zero h ih l e = omega (arith, h, pow-suc 10 0)
      more (suc j) h ih l e =
          ih (omega (arith, h, pow-suc 10 (suc j))) (omega arith)
          (sym (get_or-append (digits_of (suc j) (n / 10)) ((48 + n % 10) ∷ []) 0 0 (digits_some j (n / 10))) ∙ e)

pub decimal_reads : (n : ℕ) → n < 18446744073709551616 → number_of (decimal n) ≡ Some n
unfolding decimal read_from digits_of
decimal_reads n h = sym (go (eqb (length (decimal n)) 1) refl) where
  read : Some n ≡ read_from 0 (decimal n)
  read = rw (digits_all 20 n, digits_value 20 n (omega arith), le-leb n most (omega arith))

  go : (t : Bool) → eqb (length (decimal n)) 1 ≡ t → Some n ≡ number_of (decimal n)
  go true e = number_one (decimal n) (Some n) (eqb-true (length (decimal n)) 1 e) read
  go false e =
      let one : (length (decimal n) ≡ 1 → ⊥) = eqb-false (length (decimal n)) 1 e in
      number_more (decimal n) (omega (arith, one, digits_some 19 n)) (Some n) (digits_first 20 n (omega arith) (positive n one)) read where
        positive : (m : ℕ) → (length (digits_of 20 m) ≡ 1 → ⊥) → 0 < m
        positive zero l = absurd (l refl)
        positive (suc m) l = omega arith
