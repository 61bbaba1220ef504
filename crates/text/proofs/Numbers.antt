-- Laws of numbers read: one more digit, one turn of the loop, its ends, and the exits of the code.
-- Assumes nothing.
use mathlib.Core.Path.{◌≡◌, refl, sym, ap, ap₂, subst, ◌∙◌}
use mathlib.Core.Bool.{Bool, true, false, cond, ◌&&◌, and-false, and-true}
use mathlib.Core.List.{List, [], ◌∷◌}
use Prim.Native.Nat.{ℕ, ◌+◌, ◌-◌, ◌*◌, ◌<◌, ◌≤◌}
use native.Mathlib.Omega.{arith}
use lib.Dec.{leb}
use lib.ListN.{length, get_or}
use borrow.Author.Tests.{le-leb, lt-leb, ne_eqb, lt-ltb, leb-true, leb-false}
use Rattle.std.proofs.Common.{Option, Some, None}
use Rattle.std.specs.Option.{MatchOption}
use Rattle.std.specs.Borrow.{Bor}
use Rattle.std.specs.Fn.{Called, Mut}
use Rattle.std.specs.Iterator.{Yields, TryFoldTurn, TryFoldsItems}
use Rattle.std.specs.List.{FoldsTo}
use Rattle.std.proofs.lemmas.Fn.{fronts}
use Rattle.std.specs.ControlFlow.{continue_value}
use Rattle.std.specs.declared.ops.ControlFlow.{ControlFlow}
use Rattle.std.specs.declared.ops.ControlFlow.TheVariants.{Continue, Break}
use Rattle.std.specs.declared.slice.Iter.{Iter}
use Rattle.text.specs.Text.{is_digit, all_digits, is_decimal, value_from, most, number_of}
use Rattle.text.specs.Inside.{with_digit, read_from}

-- what one more digit makes is of 64 bits
digit_fits : (v b x : ℕ) → Some x ≡ with_digit v b → x ≤ most
unfolding with_digit
digit_fits v b x e = go (is_digit b) (leb w most) refl e where
  w : ℕ
  w = v * 10 + (b - 48)

  go : (d f : Bool) → leb w most ≡ f → Some x ≡ cond (d && f) (Some w) None → x ≤ most
  go true true t q = let same : x ≡ w = cc in omega (arith, leb-true w most t)
  go true false t q = let z : ◌≡◌ {A = ℕ} 0 1 = cc in absurd (omega arith)
  go false f t q = let z : ◌≡◌ {A = ℕ} 0 1 = cc in absurd (omega arith)

-- a number does not become less by digits behind it
pub value_grows : (v : ℕ) (s : List ℕ) → v ≤ value_from v s
unfolding value_from
value_grows v [] = omega arith
value_grows v (b ∷ bs) = omega (arith, value_grows (v * 10 + (b - 48)) bs)

-- what is read behind one more digit
abbrev onward : Option ℕ → List ℕ → Option ℕ
onward (Some x) bs = read_from x bs
onward None bs = None

read_cons : (v b : ℕ) (bs : List ℕ) → read_from v (b ∷ bs) ≡ onward (with_digit v b) bs
unfolding read_from with_digit all_digits value_from
read_cons v b bs = go (is_digit b) (leb w most) refl where
  w : ℕ
  w = v * 10 + (b - 48)

  go : (d f : Bool) → leb w most ≡ f
      → cond (d && all_digits bs && leb (value_from w bs) most) (Some (value_from w bs)) None ≡ onward (cond (d && f) (Some w) None) bs
  go true true e = refl
  go true false e = rw (lt-leb (value_from w bs) most (omega (arith, leb-false w most e, value_grows w bs)), and-false)
  go false f e = refl

read_none : (a : ℕ) (s : List ℕ) → length s ≡ 0 → a ≤ most → Some a ≡ read_from a s
unfolding read_from all_digits value_from
read_none a [] e l = rw (le-leb a most l)
read_none a (x ∷ xs) e l = absurd (omega (arith, e))

-- what is left of the bytes, read behind the number come to, gives what the whole gives
record Come (s t : Iter ℕ) (v a : ℕ) : Type 0 where
  pub fits : a ≤ most
  pub whole : read_from v s.rest.now ≡ read_from a t.rest.now

-- calls that each read one digit behind what they are given
module _ {F : Type 0} (g : Mut F (ℕ × (Bor ℕ × Unit {0})) (Option ℕ)) (f : F) (one : (v : ℕ) (x : Bor ℕ) (y : Option ℕ) (h : F) → Called g f (v, (x, tt)) y h → (y ≡ with_digit v x.now) × (h ≡ f)) where
  read_step : (v : ℕ) (x : Bor ℕ) (s u : Iter ℕ) (y : Option ℕ) (h : F) → fronts s (Some x) u → Called g f (v, (x, tt)) y h → read_from v s.rest.now ≡ onward y u.rest.now
  read_step v x s u y h e c = ap (read_from v) e ∙ read_cons v x.now u.rest.now ∙ ap (λ z. onward z u.rest.now) (sym (one v x y h c).0)

  module _ (E : Type 0) where
    abbrev goes_on : Option ℕ → ControlFlow E ℕ → Type 0
    goes_on y c = y ≡ continue_value c

    come : (xs : List (Bor ℕ)) (s t : Iter ℕ) (v a : ℕ) (h : F) → v ≤ most → Yields fronts s xs t → FoldsTo {P = F × ℕ} (TryFoldTurn g goes_on) (f, v) xs (h, a) → Come s t v a × (h ≡ f)
    come [] s t v a h l e p =
        (record { fits = rw (← ap (λ q. q.1) p) l; whole = ap₂ (λ n i. read_from n i.rest.now) (ap (λ q. q.1) p) e }, sym (ap (λ q. q.0) p))
    come (x ∷ xs) s t v a h l y p =
        let k = one v x p.1.0 p.0.0 p.1.1 in
        let more = come xs y.0 t p.0.1 a h (digit_fits v x.now p.0.1 (sym p.1.2 ∙ k.0)) y.2 (subst (λ q. FoldsTo {P = F × ℕ} (TryFoldTurn g goes_on) (q, p.0.1) xs (h, a)) k.1 p.2) in (
          record {
            fits = more.0.fits;
            whole = read_step v x s y.0 p.1.0 p.0.0 y.1 p.1.1 ∙ ap (λ z. onward z y.0.rest.now) p.1.2 ∙ more.0.whole;
          },
          more.1,
        )

    pub read_all : (s u : Iter ℕ) (r : Option ℕ) → TryFoldsItems fronts g goes_on (λ e z. z ≡ None) s f 0 r u → r ≡ read_from 0 s.rest.now
    read_all s u r p = go p.1 p.4.2 p.6 where
      at : Come s p.4.0 0 p.3 × (p.2 ≡ f)
      at = come p.0 s p.4.0 0 p.3 p.2 (omega arith) p.4.1 p.5

      go : (o : Option (Bor ℕ)) → fronts p.4.0 o u → MatchOption o (goes_on r (Continue p.3)) (λ x. (v : Option ℕ) × (h : F) × (e : E) × Called g p.2 (p.3, (x, tt)) v h × goes_on v (Break e) × (r ≡ None)) → r ≡ read_from 0 s.rest.now
      go None e q = q ∙ read_none p.3 p.4.0.rest.now e.0 at.0.fits ∙ sym at.0.whole
      go (Some x) e q =
          let c = subst (λ k. Called g k (p.3, (x, tt)) q.0 q.1) at.1 q.3 in
          q.5 ∙ sym (read_step p.3 x p.4.0 u q.0 q.1 e c ∙ ap (λ z. onward z u.rest.now) q.4) ∙ sym at.0.whole

-- r: what the digits made
module _ (s : List ℕ) where
  pub number_one : (r : Option ℕ) → length s ≡ 1 → r ≡ read_from 0 s → r ≡ number_of s
  unfolding number_of is_decimal read_from
  number_one r e f = f ∙ rw (e, and-true)

  module _ (long : 2 ≤ length s) where
    some : 0 < length s
    some = omega arith

    more : length s ≡ 1 → ⊥
    more e = omega (arith, e)

    pub number_more : (r : Option ℕ) → (get_or s 0 0 ≡ 48 → ⊥) → r ≡ read_from 0 s → r ≡ number_of s
    unfolding number_of is_decimal read_from
    number_more r n f = f ∙ rw (lt-ltb 0 (length s) some, ne_eqb _ _ more, ne_eqb _ _ n, and-true)
