-- Past the end of bytes there are zeros.
-- Assumes nothing.
use mathlib.Core.Path.{◌≡◌, ap₂}
use mathlib.Core.List.{List, ◌++◌}
use Prim.Native.Nat.{ℕ, ◌-◌, min}
use native.Mathlib.Omega.{arith}
use lib.ListN.{length, take, drop, replicate}
use Rattle.std.proofs.lemmas.List.{drop-replicate, take_min}

front : (n m : ℕ) (v : List ℕ) → m ≡ min n (length v) → take m v ≡ take n v
front n m v e = rw e (take_min n v)

back : (n m k : ℕ) → k ≡ n - m → drop {A = ℕ} m (replicate n 0) ≡ replicate k 0
back n m k e = rw e (drop-replicate m n 0)

-- laid over n zeros, the first of the bytes leave zeros where there are fewer
pub zeros_behind : (n m : ℕ) (v : List ℕ) → m ≡ min n (length v)
    → take m v ++ drop m (replicate n 0) ≡ take n v ++ replicate (n - length v) 0
zeros_behind n m v e = ap₂ (λ s t. s ++ t) (front n m v e) (back n m (n - length v) (omega (arith, e)))
