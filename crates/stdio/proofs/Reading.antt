-- What one more read leaves: the bytes before it and its own, side by side, are those that the reader consumed.
-- Assumes nothing.
use Rattle.std.proofs.Common.{◌≡◌, ℕ, ◌+◌, ◌≤◌, List, ◌++◌, Option, length, take, sym, ap, ◌∙◌, subst}
use Rattle.std.specs.Io.KnownBytes.{Consumes}
use Rattle.std.proofs.KnownBytes.{Consumes-trans}
use Rattle.std.proofs.Math.Seq.{take-append-add}
use Rattle.std.proofs.lemmas.List.{take-append-le}
use native.Mathlib.Omega.{arith}
use lib.ListN.{length-take}
use borrow.Rule.Slice.PartMut.{put_mid, post_of}

-- a read of n bytes to a part of the buffer, behind the bytes that came
pub reads_on : (a b c : Option (List ℕ)) (from n k : ℕ) (buf part : List ℕ)
    → from ≤ length buf → n ≤ length part → Consumes a b (take from buf) → Consumes b c (take n part)
    → Consumes a c (take (from + n) (put_mid from k buf part))
reads_on a b c from n k buf part h l before more =
    subst (Consumes a c) (sym same) (Consumes-trans a b c _ _ before more)
  where
    front : length (take from buf) ≡ from
    front = omega (arith, length-take from buf, h)

    same : take (from + n) (put_mid from k buf part) ≡ take from buf ++ take n part
    same =
        ap (λ i. take (i + n) (put_mid from k buf part)) (sym front)
        ∙ take-append-add (take from buf) (part ++ post_of from k buf) n
        ∙ ap (λ t. take from buf ++ t) (take-append-le n part (post_of from k buf) l)
