-- Regions byte by byte: programming over erased parts, and what a cut leaves.
-- Assumes nothing.
use mathlib.Core.Path.{◌≡◌, refl, sym, ap, ◌∙◌}
use mathlib.Core.List.{List, [], ◌∷◌, ◌++◌}
use Prim.Native.Nat.{ℕ, zero, suc, ◌+◌, ◌≤◌, ◌<◌}
use native.Mathlib.Omega.{arith}
use lib.ListN.{length, get_or, take, drop, replicate, length-append, take-append-drop, get_or-append}
use lib.Seq.{take-append_seam, drop-append_seam, get_or-drop, get_or-take, get_or-append-add, ext_get_or, length-take-le}
use Rattle.storage.specs.Media.{ands, programmed}
use Rattle.storage.proofs.ErasedBytes.{Blank}
use Rattle.roundtrip.specs.Typed.{AllBytes}
use Rattle.claim.specs.Cuts.{Mixed, Cut}
use Rattle.claim.proofs.Bits.{mixed_same, programmed_erased, mixed_byte}

-- programming at a place that a front ends at
pub program_at : (f t s : List ℕ) → programmed (f ++ t) (length f) s ≡ f ++ ands t s
unfolding programmed
program_at f t s = rw (take-append_seam, drop-append_seam)

-- programming an erased part gives what is programmed
pub ands_blank : (t s : List ℕ) → Blank t → ((i : ℕ) → get_or s i 0 < 256) → length s ≤ length t → ands t s ≡ s ++ drop (length s) t
unfolding ands
ands_blank [] [] e b h = refl
ands_blank [] (y ∷ s) e b h = absurd (omega arith)
ands_blank (x ∷ t) [] e b h = refl
ands_blank (x ∷ t) (y ∷ s) e b h = rw (e 0, programmed_erased y (b 0), ands_blank t s (λ i. e (suc i)) (λ i. b (suc i)) (omega arith))

-- a write that changes nothing leaves nothing to cut
pub cut_same : (r t : List ℕ) → Cut r r t → t ≡ r
cut_same r t c = ext_get_or 255 t r c.long (λ i h. mixed_same _ _ (c.bytes i))

-- a cut leaves what both have in front, and cuts the rest
module _ (f x y u : List ℕ) (c : Cut (f ++ x) (f ++ y) u) where
  front : take (length f) u ≡ f
  front =
      let l : length f ≤ length u = omega (arith, c.long, length-append f x) in
      ext_get_or 255 (take (length f) u) f (length-take-le (length f) u l) (λ i h.
      let k : i < length f = omega (arith, length-take-le (length f) u l) in
      get_or-take (length f) u i 255 k ∙ mixed_same _ _ (rw (get_or-append f x 255 i k, get_or-append f y 255 i k) at (c.bytes i)))

  pub cut_rest : (i : ℕ) → Mixed (get_or x i 255) (get_or y i 255) (get_or (drop (length f) u) i 255)
  cut_rest i = rw (get_or-drop (length f) u i 255) (rw (get_or-append-add f x i 255, get_or-append-add f y i 255) at (c.bytes (length f + i)))

  pub cut_split : u ≡ f ++ drop (length f) u
  cut_split = sym (take-append-drop (length f) u) ∙ ap (λ l. l ++ drop (length f) u) front

-- erased bytes are bytes
pub replicate_bytes : (n : ℕ) → AllBytes (replicate n 255)
replicate_bytes zero i = omega arith
replicate_bytes (suc n) zero = omega arith
replicate_bytes (suc n) (suc i) = replicate_bytes n i

byte_over : (s : List ℕ) (i : ℕ) → AllBytes s → get_or s i 255 < 256
byte_over [] i b = omega arith
byte_over (x ∷ s) zero b = b 0
byte_over (x ∷ s) (suc i) b = byte_over s i (λ j. b (suc j))

byte_under : (s : List ℕ) (i : ℕ) → get_or s i 255 < 256 → get_or s i 0 < 256
byte_under [] i h = omega arith
byte_under (x ∷ s) zero h = h
byte_under (x ∷ s) (suc i) h = byte_under s i h

-- a cut leaves bytes
pub cut_bytes : (s u t : List ℕ) → AllBytes s → AllBytes u → Cut s u t → AllBytes t
cut_bytes s u t b d c i = byte_under t i (mixed_byte _ _ _ (byte_over s i b) (byte_over u i d) (c.bytes i))
