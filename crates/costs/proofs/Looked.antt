-- What one look costs where all that remains fits the page, and how far it moves.
-- Assumes nothing.
use Rattle.std.specs.Prelude.{Ok, Err}
use mathlib.Core.Path.{◌≡◌, refl, ap, ◌∙◌}
use mathlib.Core.Bool.{Bool, true, false, cond}
use mathlib.Core.List.{List, [], ◌∷◌}
use Prim.Native.Nat.{ℕ, zero, suc, ◌-◌, ◌≤◌, ◌<◌, min}
use native.Mathlib.Omega.{arith}
use lib.Dec.{ltb}
use lib.ListN.{length, take}
use lib.Seq.{length-take-le}
use borrow.Author.Tests.{eq-eqb, ne_eqb, lt-ltb, le-ltb, ltb-false}
use Rattle.waymaker_core.proofs.Choice.{cond_case}
use Rattle.storage.specs.Media.{erased}
use Rattle.storage.proofs.ErasedBytes.{erased_take}
use Rattle.frame.specs.Lengths.{record_len}
use Rattle.frame.proofs.Sizes.{body_mono}
use Rattle.decode.specs.Decode.{Header, header_at}
use Rattle.place.specs.declared.Sealed.{Sealed}
use Rattle.place.specs.declared.Stop.{Stop}
use Rattle.place.specs.declared.Stand.{Stand}
use Rattle.place.specs.declared.Stand.TheVariants.{Met, Over}
use Rattle.place.specs.AtOffset.{Shape, Short, Blank, BadHeader, Overlong, Whole, headed, shape_of, stand_by, stands}
use Rattle.place.proofs.Cases.{settled_case, judged_case, stands_case}
use Rattle.place.proofs.Lengths.{moves}
use Rattle.look.specs.Reads.{Read, tail_reads, further, header_size, wanted, made}
use Rattle.look.proofs.Tails.{fits_made}
use Rattle.costliest.specs.Written.{shortest}
use Rattle.costliest.proofs.Region.{shortest_is}
use Rattle.costs.specs.Costs.{left_over}
use Rattle.costs.proofs.Bounds.{left_case}

made_most : (cap : ℕ) (xs : List Read) → length (made cap xs) ≤ length xs
unfolding made
made_most cap [] = omega arith
made_most cap (x ∷ xs) = go (ltb cap x.size) (made_most cap xs) where
  go : (b : Bool) → length (made cap xs) ≤ length xs → length (cond b [] (x ∷ made cap xs)) ≤ length (x ∷ xs)
  go true i = omega arith
  go false i = omega (arith, i)

-- one read takes the whole tail
tail_none : (cap k o : ℕ) (t : List ℕ) → length t ≤ k → tail_reads cap k o t ≡ []
unfolding tail_reads
tail_none cap k o [] h = refl
tail_none cap zero o (x ∷ t) h = absurd (omega arith)
tail_none cap (suc k) o (x ∷ t) h = tail_none cap k (suc o) t (omega arith)

nothing : (b : Bool) → ◌≡◌ {A = List Read} (cond b [] []) []
nothing true = refl
nothing false = refl

tail_one : (cap o x : ℕ) (t : List ℕ) → length (x ∷ t) ≤ cap → tail_reads cap 0 o (x ∷ t) ≡ record { from = o; size = min cap (length (x ∷ t)) } ∷ []
unfolding tail_reads
tail_one cap o x t h =
    let n : ℕ = min cap (length (x ∷ t)) in
    ap (λ xs. record { from = o; size = n } ∷ xs)
    (ap (λ xs. cond (erased (take n (x ∷ t))) xs []) (tail_none cap (n - 1) (suc o) t (omega arith)) ∙ nothing (erased (take n (x ∷ t))))

tail_is : (cap o : ℕ) (t : List ℕ) → length t ≤ cap → 0 < length t → length (tail_reads cap 0 o t) ≡ 1
tail_is cap o [] h p = absurd (omega arith)
tail_is cap o (x ∷ t) h p = ap length (tail_one cap o x t h)

tail_most : (cap o : ℕ) (t : List ℕ) → length t ≤ cap → length (tail_reads cap 0 o t) ≤ 1
unfolding tail_reads
tail_most cap o [] h = omega arith
tail_most cap o (x ∷ t) h = omega (arith, ap length (tail_one cap o x t h))

further_most : (cap o : ℕ) (t : List ℕ) → length t ≤ cap → (z : Shape) → length (further cap o t z) ≤ 1
unfolding further
further_most cap o t h Short = omega arith
further_most cap o t h Blank = tail_most cap o t h
further_most cap o t h (BadHeader e) = omega arith
further_most cap o t h Overlong = omega arith
further_most cap o t h (Whole n) = omega arith

-- what is met or passed is no shorter than the shortest record
pub moves_far : (a : ℕ) (t : List ℕ) → 0 < a → shortest a ≤ moves (shortest a) (stands a t)
unfolding record_len
moves_far a t h =
    let P : Stand → Type 0 = λ z. shortest a ≤ moves (shortest a) z in
    let same : shortest a ≤ shortest a = omega arith in
    stands_case a P t (λ _. same) (λ i e. same) (λ e. same)
    (λ v _ l.
    let n : ℕ = record_len a v.payload_len in
    let far : shortest a ≤ length (take n t) = omega (arith, length-take-le n t l, shortest_is a, body_mono a 0 v.payload_len h (omega arith)) in
    judged_case a P (take n t) (λ e. same) (λ f. settled_case a P f (take n t) (λ x. far) far (λ e. same) same (λ i e. same)))

-- t is what remains from o on
module _ (a r cap o : ℕ) (t : List ℕ) (h : length t ≤ cap) where
  wanted_most : length (wanted a r cap o t) ≤ left_over (length t)
  unfolding wanted shape_of further
  wanted_most =
      left_case (λ x. length (wanted a r cap o t) ≤ x) (length t)
      (λ e. rw (eq-eqb (length t) 0 e) (omega arith))
      (λ p q. rw (ne_eqb (length t) 0 (λ e. omega (arith, p, e)), lt-ltb (length t) 12 q) (omega arith))
      (λ p. rw (ne_eqb (length t) 0 (λ e. omega (arith, p, e))) (omega (arith, further_most cap o t h (shape_of a t))))

  pub cost_most : length (made cap (wanted a r cap o t)) ≤ left_over (length t)
  cost_most = omega (arith, made_most cap (wanted a r cap o t), wanted_most)

  -- where a byte remains, the header's read is made
  first_made : 0 < length t → length (made cap (wanted a r cap o t)) ≡ suc (length (made cap (further cap o t (shape_of a t))))
  unfolding wanted made
  first_made p = rw (ne_eqb (length t) 0 (λ e. omega (arith, p, e)), le-ltb cap (header_size r (length t)) (omega (arith, h))) refl

  none_made : length t ≡ 0 → length (made cap (wanted a r cap o t)) ≡ 0
  unfolding wanted made
  none_made e = rw (eq-eqb (length t) 0 e) refl

  few_made : 0 < length t → length t < 12 → length (made cap (wanted a r cap o t)) ≡ 1
  unfolding shape_of further made
  few_made p q = first_made p ∙ rw (lt-ltb (length t) 12 q) refl

  erased_made : 12 ≤ length t → erased t ≡ true → length (made cap (wanted a r cap o t)) ≡ 2
  unfolding shape_of further
  erased_made p e =
      first_made (omega (arith, p)) ∙ rw (le-ltb (length t) 12 p, erased_take 12 t e) (ap suc (ap length (fits_made cap 0 o t) ∙ tail_is cap o t h (omega (arith, p))))

  -- erased bytes cost what is left over
  pub erased_cost : erased t ≡ true → length (made cap (wanted a r cap o t)) ≡ left_over (length t)
  erased_cost e =
      left_case (λ x. length (made cap (wanted a r cap o t)) ≡ x) (length t) none_made few_made (λ p. erased_made p e)

  -- a record that is met costs two
  abbrev Costs : Shape → Type 0
  Costs z = (x : Sealed) → stand_by a t z ≡ Met x → length (made cap (further cap o t z)) ≡ 1

  ends : (e : Stop) → (x : Sealed) → Over e ≡ Met x → {A : Type 0} → A
  ends e x f = let z : ◌≡◌ {A = ℕ} 0 1 = cc in absurd (omega arith)

  record_made : (n : ℕ) → n ≤ length t → length (made cap (record { from = o; size = n } ∷ [])) ≡ 1
  unfolding made
  record_made n l = rw (le-ltb cap n (omega (arith, l, h))) refl

  met_made : Costs (shape_of a t)
  unfolding shape_of further
  met_made =
      cond_case Costs (ltb (length t) 12) (λ _ x e. ends _ x e)
      (λ _. cond_case Costs (erased (take 12 t)) (λ _ x e. ends _ x e) (λ _. go (header_at (take 12 t))))
    where
      go : (d : Header) → Costs (headed a (length t) d)
      go (Err e) x i = ends _ x i
      go (Ok v) x i =
          cond_case Costs (ltb (length t) (record_len a v.payload_len)) (λ _ x e. ends _ x e)
          (λ j x e. record_made (record_len a v.payload_len) (ltb-false (length t) (record_len a v.payload_len) j)) x i

  pub met_cost : 0 < length t → (x : Sealed) → stands a t ≡ Met x → length (made cap (wanted a r cap o t)) ≡ 2
  unfolding stands
  met_cost p x e = first_made p ∙ ap suc (met_made x e)
