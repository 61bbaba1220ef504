-- Laws of text put at a place: the part that is copied, and pieces one behind the other.
-- Assumes nothing.
use mathlib.Core.Path.{◌≡◌, refl, sym, ap, ◌∙◌}
use mathlib.Core.Bool.{Bool, true, false}
use mathlib.Core.List.{List, [], ◌∷◌, ◌++◌, append-nil}
use Prim.Native.Nat.{ℕ, zero, suc, ◌+◌, ◌-◌, ◌<◌, ◌≤◌, min}
use native.Mathlib.Omega.{arith}
use lib.Dec.{leb}
use lib.ListN.{length, take, drop, take-append-drop, drop_of_length-le, length-append, length-take, length-drop}
use lib.Seq.{take_all, take_at, take-nil, drop-nil}
use borrow.Author.Tests.{leb-true, leb-false}
use borrow.Rule.Slice.PartMut.{put_mid}
use Rattle.storage.specs.Media.{laid_over}
use Rattle.storage.proofs.Reading.{laid_length as over_length}
use Rattle.text.specs.declared.Output.{Output}
use Rattle.text.specs.Text.{laid_at, end_at, Puts}
use Rattle.text.specs.Pieces.{Lays}

laid_none : (p : List ℕ) → laid_over p [] ≡ p
unfolding laid_over
laid_none p = ap (λ q. q ++ p) (take-nil (length p))

laid_nil : (s : List ℕ) → laid_over [] s ≡ []
unfolding laid_over
laid_nil s = drop-nil (length s)

-- past the end nothing is laid, and nothing laid anywhere leaves all as it was
laid_past : (out : List ℕ) (at : ℕ) (s : List ℕ) → length out ≤ at → out ≡ laid_at out at s
unfolding laid_at
laid_past out at s h =
    sym
    (ap (λ q. take at out ++ laid_over q s) (drop_of_length-le out h)
    ∙ ap (λ q. take at out ++ q) (laid_nil s)
    ∙ append-nil (take at out)
    ∙ take_all at out h)

laid_nothing : (out : List ℕ) (at : ℕ) → out ≡ laid_at out at []
unfolding laid_at
laid_nothing out at = sym (ap (λ q. take at out ++ q) (laid_none (drop at out)) ∙ take-append-drop at out)

-- the output keeps its length
pub laid_length : (out : List ℕ) (at : ℕ) (s : List ℕ) → length (laid_at out at s) ≡ length out
unfolding laid_at
laid_length out at s = simp (length-append, over_length, length-take, length-drop) (omega arith)

-- what the copy of a part writes is the text laid
pub laid_part : (out : List ℕ) (at n : ℕ) (s : List ℕ) → at ≤ length out → n ≡ min (length s) (length out - at)
    → put_mid at (at + n - at) out (take n s) ≡ laid_at out at s
unfolding laid_at laid_over
laid_part out at n s h e =
    let k : at + n - at ≡ n = omega arith in
    rw k (go (leb (length s) (length p)) refl) where
      p : List ℕ
      p = drop at out

      go : (t : Bool) → leb (length s) (length p) ≡ t → take at out ++ (take n s ++ drop n p) ≡ take at out ++ (take (length p) s ++ drop (length s) p)
      go true f =
          let l = leb-true _ _ f in
          let m : n ≡ length s = omega (arith, length-drop at out) in
          rw (m, take_all (length s) s (omega arith), take_all (length p) s l)
      go false f =
          let l = leb-false _ _ f in
          let m : n ≡ length p = omega (arith, length-drop at out) in
          let a : length p ≤ length p = omega arith in
          let b : length p ≤ length s = omega arith in
          rw (m, drop_of_length-le p a, drop_of_length-le p b)

-- a piece behind another, both laid, are the two in one
laid_next : (out : List ℕ) (at n : ℕ) (s t : List ℕ) → n ≡ end_at out at s → laid_at (laid_at out at s) n t ≡ laid_at out at (s ++ t)
unfolding laid_at laid_over
laid_next [] at n s t e = ap (λ q. laid_at q n t) (sym (laid_past [] at s (omega arith))) ∙ sym (laid_past [] n t (omega arith)) ∙ laid_past [] at (s ++ t) (omega arith)
laid_next (x ∷ xs) zero zero [] t e = refl
laid_next (x ∷ xs) zero (suc n) [] t e = absurd (omega arith)
laid_next (x ∷ xs) zero zero (y ∷ s) t e = absurd (omega arith)
laid_next (x ∷ xs) zero (suc n) (y ∷ s) t e = ap (λ q. y ∷ q) (laid_next xs zero n s t (omega arith))
laid_next (x ∷ xs) (suc at) zero s t e = absurd (omega arith)
laid_next (x ∷ xs) (suc at) (suc n) s t e = ap (λ q. x ∷ q) (laid_next xs at n s t (omega arith))

-- nothing to put
pub puts_none : (out : List ℕ) (at : ℕ) → Puts out at [] at out
puts_none out at = record { ends = omega arith; all = laid_nothing out at }

puts_length : {out : List ℕ} {at : ℕ} {s : List ℕ} {n : ℕ} {out' : List ℕ} → Puts out at s n out' → length out' ≡ length out
puts_length {out} {at} {s} p = ap length p.all ∙ laid_length out at s

-- pieces, one behind the other, are one
pub puts_two : {out s t out₁ out₂ : List ℕ} {at n₁ n₂ : ℕ} → Puts out at s n₁ out₁ → Puts out₁ n₁ t n₂ out₂ → Puts out at (s ++ t) n₂ out₂
puts_two {out} {s} {t} {out₁} {out₂} {at} {n₁} {n₂} p q =
    record {
      ends = omega (arith, p.ends, q.ends, puts_length p, length-append s t);
      all = q.all ∙ ap (λ o. laid_at o n₁ t) p.all ∙ laid_next out at n₁ s t p.ends;
    }

-- laid at the start
pub laid_at_zero : (out s : List ℕ) → laid_at out 0 s ≡ take (length out) s ++ drop (length s) out
unfolding laid_at laid_over
laid_at_zero out s = refl

module _ {out s : List ℕ} {n : ℕ} {out' : List ℕ} (p : Puts out 0 s n out') where
  -- as much of it as fits stands there
  pub puts_front : take n out' ≡ take (length out) s
  puts_front =
      ap (take n) (p.all ∙ laid_at_zero out s)
      ∙ take_at (take (length out) s) (drop (length s) out) n (length-take (length out) s ∙ omega (arith, p.ends))

  -- all of it stands there where it fits
  pub puts_whole : length s ≤ length out → take n out' ≡ s
  puts_whole h = puts_front ∙ take_all (length out) s h

-- the exits of the code
pub lays_past : (out : Output) (s : List ℕ) → length out.bytes.now < out.place → Lays out s out
lays_past out s h = record { same = refl; puts = record { ends = omega arith; all = laid_past out.bytes.now out.place s (omega arith) } }

-- mid: what the copied part holds afterwards
pub lays_part : (out new : Output) (n : ℕ) (s mid : List ℕ) → new.bytes.ghost_name ≡ out.bytes.ghost_name → out.place ≤ length out.bytes.now
    → n ≡ min (length s) (length out.bytes.now - out.place) → mid ≡ take n s
    → (new.place ≡ out.place + n) × (new.bytes.now ≡ put_mid out.place (out.place + n - out.place) out.bytes.now mid) → Lays out s new
lays_part out new n s mid same h e f g =
    record {
      same = same;
      puts = record { ends = omega (arith, g.0, e); all = g.1 ∙ ap (put_mid out.place (out.place + n - out.place) out.bytes.now) f ∙ laid_part out.bytes.now out.place n s h e };
    }

-- pieces laid one behind the other are one
pub lays_two : {a b c : Output} {s t : List ℕ} → Lays a s b → Lays b t c → Lays a (s ++ t) c
lays_two p q = record { same = q.same ∙ p.same; puts = puts_two p.puts q.puts }

-- nothing to put
pub lays_none : (out : Output) → Lays out [] out
lays_none out = record { same = refl; puts = puts_none out.bytes.now out.place }
