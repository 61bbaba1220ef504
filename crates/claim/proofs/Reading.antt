-- What a caller reads step by step, with a page of its own lent to each step, is what a run with one page finds.
-- Assumes nothing.
use Rattle.std.specs.Prelude.{Ok, Err, Some, None}
use Rattle.std.specs.Result.{result_unwrap_or}
use mathlib.Core.Path.{◌≡◌, refl, sym, ap, ◌∙◌, subst}
use mathlib.Core.Bool.{true, not}
use mathlib.Core.List.{List, [], ◌∷◌}
use Prim.Native.Nat.{ℕ, zero, suc, ◌-◌, ◌<◌}
use native.Mathlib.Omega.{arith}
use lib.Dec.{eqb}
use lib.ListN.{length}
use Rattle.waymaker_core.proofs.Choice.{cond_case}
use Rattle.waymaker_core.specs.declared.error.Refusal.{Refusal}
use Rattle.storage.specs.declared.geometry.Geometry.{Geometry}
use Rattle.storage.specs.Settings.{allowed, program_unit, read_unit}
use Rattle.storage.specs.Inside.{Limits}
use Rattle.storage.proofs.Units.{limits}
use Rattle.roundtrip.specs.Typed.{AllBytes}
use Rattle.place.specs.Walk.{plain, walk, Step, meets, stops, first_step}
use Rattle.recovery.specs.declared.next.Stepped.{Stepped}
use Rattle.recovery.specs.declared.next.Recovery.{Recovery}
use Rattle.recovery.specs.declared.next.Found.{Found as OneFound}
use Rattle.recovery.specs.Next.{Answer, state_at, arrived, walk_from, is_open, before, Done, with_page, step_in, step, NextStep, fresh}
use Rattle.look.specs.Reads.{capacity_of, paged}
use Rattle.recovery.proofs.Runs.{next_step}
use Rattle.look.proofs.Pages.{capacity_large}
use Rattle.look.proofs.Near.{laid_long}
use Rattle.finish.specs.Finish.{founds}
use Rattle.finish.proofs.Steps.{Before, looks, says, unless, view, step_view, Rests, After, run_step, found_less}
use Rattle.finish.proofs.Walks.{page_free}
use Rattle.payload.specs.declared.Decoded.TheVariants.{Record as Known}
use Rattle.claim.specs.Saying.{Said}
use Rattle.claim.specs.Events.{Large}
use Rattle.claim.specs.Promised.{later, Reads, reads_found, reads_end, reads_refusal}
use Rattle.claim.specs.Claim.{Exactly}
use Rattle.claim.proofs.Said.{said_in, all_said_in}
use Rattle.claim.proofs.Paged.{payload_paged}
use Rattle.claim.proofs.Invariant.{both_units}

-- a step keeps the settings and the page's length
record Keeps (s : Recovery) (p : List ℕ) (d : Done) : Type 0 where
  settings : d.out.state.geometry ≡ s.geometry
  long : length d.page ≡ length p

arrived_geometry : (s : Recovery) (n : ℕ) (z : Step) → (arrived s n z).state.geometry ≡ s.geometry
arrived_geometry s n (meets o x) = refl
arrived_geometry s n (stops o e) = refl

step_keeps : (s : Recovery) (region p : List ℕ) → Keeps s p (step s region p)
unfolding step before
step_keeps s region p =
    let g : Geometry = s.geometry in
    cond_case (Keeps s p) (not (is_open s.ending)) (λ _. record { settings = refl; long = refl })
    (λ _. cond_case (Keeps s p) (not (allowed g.bytes g.program_size g.read_size)) (λ _. record { settings = refl; long = refl })
    (λ _. cond_case (Keeps s p) (not (eqb (length region) g.bytes)) (λ _. record { settings = refl; long = refl })
    (λ _. record { settings = arrived_geometry s _ (first_step (walk_from s region (length p))); long = laid_long region _ p })))

-- a state with another number of reads
abbrev counted : ℕ → Recovery → Recovery
counted n s = state_at s s.offset s.ending n

-- what is found does not go by that number
found_uncounted : (n : ℕ) (s : Recovery) (region page : List ℕ) → founds (counted n s) region page ≡ founds s region page
unfolding founds before walk_from
found_uncounted n s region page = refl

-- the same answer and, but for the number of reads, the same state
record Alike (x y : Stepped) : Type 0 where
  answer : x.answer ≡ y.answer
  state : y.state ≡ counted y.state.reads x.state

arrived_alike : (s : Recovery) (n m : ℕ) (z : Step) → Alike (arrived s n z) (arrived s m z)
arrived_alike s n m (meets o x) = record { answer = refl; state = refl }
arrived_alike s n m (stops o e) = record { answer = refl; state = refl }

-- two promises of one step settle the same answer, state and page
module _ (region : List ℕ) (s : Recovery) (p : List ℕ) (x y : Stepped) (q t : List ℕ) (k : NextStep s region p x q) (l : NextStep s region p y t) where
  same_done : ◌≡◌ {A = Done} (record { out = x; page = q }) (record { out = y; page = t })
  same_done = k.all ∙ sym l.all

  -- so a step does not both find a record and find none
  one_answer : {A : Type 0} {f : OneFound} {z : Answer} → x.answer ≡ Ok (Some f) → y.answer ≡ z → (Ok (Some f) ≡ z → A) → A
  one_answer e d h = h (sym e ∙ ap (λ (w : Done). w.out.answer) same_done ∙ d)

found_ended : {A : Type 0} {f : OneFound} → ◌≡◌ {A = Answer} (Ok (Some f)) (Ok None) → A
found_ended e = let z : ◌≡◌ {A = ℕ} 0 1 = cc in absurd (omega arith)

found_refused : {A : Type 0} {f : OneFound} {u : Refusal} → ◌≡◌ {A = Answer} (Ok (Some f)) (Err u) → A
found_refused e = let z : ◌≡◌ {A = ℕ} 0 1 = cc in absurd (omega arith)

-- the same record, with the same payload, and the same behind it
same_said : (f h : OneFound) (v w : List ℕ) (us vs : List Said) → f ≡ h → v ≡ w → us ≡ vs
    → record { «record» = Known f.«record».«record»; payload = v } ∷ us ≡ record { «record» = Known h.«record».«record»; payload = w } ∷ vs
same_said f h v w us vs a b c = rw (a, b, c)

-- a caller reads one thing only
reads_one : (region : List ℕ) (s : Recovery) (pages : ℕ → List ℕ) (xs ys : List Said) → Reads region s pages xs → Reads region s pages ys → xs ≡ ys
reads_one region _ _ _ _ (reads_found s pages x q f v us k i e t) (reads_found _ _ y q₂ h w vs l j d u) =
    let both = same_done region s (pages 0) x y q q₂ k l in
    let found : Ok (Some f) ≡ Ok (Some h) = sym i ∙ ap (λ (z : Done). z.out.answer) both ∙ j in
    let page : q ≡ q₂ = ap (λ (z : Done). z.page) both in
    let fh : f ≡ h = cc in
    same_said f h v w us vs fh (cc)
    (reads_one region x.state (later pages) us vs t (subst (λ (z : Done). Reads region z.out.state (later pages) vs) (sym both) u))
reads_one region _ _ _ _ (reads_found s pages x q f v us k i e t) (reads_end _ _ y q₂ l j) = one_answer region s (pages 0) x y q q₂ k l i j found_ended
reads_one region _ _ _ _ (reads_found s pages x q f v us k i e t) (reads_refusal _ _ y q₂ n l j) = one_answer region s (pages 0) x y q q₂ k l i j found_refused
reads_one region _ _ _ _ (reads_end s pages x q k i) (reads_found _ _ y q₂ h w vs l j d u) = one_answer region s (pages 0) y x q₂ q l k j i found_ended
reads_one region _ _ _ _ (reads_end s pages x q k i) (reads_end _ _ y q₂ l j) = refl
reads_one region _ _ _ _ (reads_end s pages x q k i) (reads_refusal _ _ y q₂ n l j) = refl
reads_one region _ _ _ _ (reads_refusal s pages x q m k i) (reads_found _ _ y q₂ h w vs l j d u) = one_answer region s (pages 0) y x q₂ q l k j i found_refused
reads_one region _ _ _ _ (reads_refusal s pages x q m k i) (reads_end _ _ y q₂ l j) = refl
reads_one region _ _ _ _ (reads_refusal s pages x q m k i) (reads_refusal _ _ y q₂ n l j) = refl

module _ (region : List ℕ) (b : AllBytes region) (g : Geometry) (ok : allowed g.bytes g.program_size g.read_size ≡ true) where
  abbrev a : ℕ
  a = g.program_size

  abbrev r : ℕ
  r = g.read_size

  k : Limits g.bytes a r
  k = limits g.bytes a r ok

  units : (program_unit a ≡ true) × (read_unit r ≡ true)
  units = both_units g.bytes a r ok

  -- large pages give the same walk
  same : (o : ℕ) (p q : List ℕ) → Large p → Large q → walk (paged a r (capacity_of (length p) r)) region o ≡ walk (paged a r (capacity_of (length q) r)) region o
  same o p q hp hq = free p hp ∙ sym (free q hq) where
    free : (p : List ℕ) → Large p → walk (paged a r (capacity_of (length p) r)) region o ≡ walk (plain a) region o
    free p hp = page_free a r (capacity_of (length p) r) o region units.0 k.read_least k.read_most b (capacity_large (length p) r units.1 (omega (arith, hp)))

  -- so they give the same answer and the same state, but for the number of reads
  alike : (s : Recovery) (p q : List ℕ) → s.geometry ≡ g → Large p → Large q → Alike (step s region p).out (step s region q).out
  unfolding walk_from
  alike s p q e hp hq =
      subst (λ d. Alike d.out (step s region q).out) (sym (step_view s region p))
      (subst (λ d. Alike (unless (view s region) (with_page p) (step_in s region p (walk_from s region (length p)))).out d.out) (sym (step_view s region q)) (go (view s region)))
    where
      walks : walk_from s region (length p) ≡ walk_from s region (length q)
      walks = rw e (same s.offset p q hp hq)

      go : (x : Before) → Alike (unless x (with_page p) (step_in s region p (walk_from s region (length p)))).out (unless x (with_page q) (step_in s region q (walk_from s region (length q)))).out
      go (says x) = record { answer = refl; state = refl }
      go looks = rw walks (arrived_alike s _ _ (first_step (walk_from s region (length q))))

  -- what the steps of a caller read is what a run with one page finds
  reads_found_lem : (n : ℕ) (s : Recovery) (pages : ℕ → List ℕ) (page : List ℕ) → s.geometry ≡ g → ((i : ℕ) → Large (pages i)) → Large page → length region - s.offset < n
      → Reads region s pages (all_said_in region (founds s region page))
  unfolding all_said_in said_in
  reads_found_lem zero s pages page e hs h l = absurd (omega arith)
  reads_found_lem (suc n) s pages page e hs h l =
      let x : Done = step s region (pages 0) in
      let y : Done = step s region page in
      let same_out : Alike x.out y.out = alike s (pages 0) page e (hs 0) h in
      let same_found : founds y.out.state region y.page ≡ founds x.out.state region y.page =
      ap (λ u. founds u region y.page) same_out.state ∙ found_uncounted y.out.state.reads x.out.state region y.page in
      go y.out.answer same_out.answer (run_step s region page)
      (λ f i.
      subst (λ fs. Reads region x.out.state (later pages) (all_said_in region fs)) (sym same_found)
      (reads_found_lem n x.out.state (later pages) y.page ((step_keeps s region (pages 0)).settings ∙ e) (λ j. hs _)
      (omega (arith, (step_keeps s region page).long, h))
      (omega (
        arith,
        found_less region (pages 0) s x.out x.page (next_step refl)
            (Some f) (ap (λ z. result_unwrap_or z None) (sym i)) f refl,
      ))))
    where
      -- nothing is found at this step
      none : Rests s region page (step s region page) → Reads region s pages (all_said_in region []) → Reads region s pages (all_said_in region (founds s region page))
      none t u = subst (λ fs. Reads region s pages (all_said_in region fs)) (sym t.shown) u

      go : (z : Answer) → (step s region (pages 0)).out.answer ≡ z → After s region page z (step s region page)
          → ((f : OneFound) → (step s region (pages 0)).out.answer ≡ Ok (Some f)
          → Reads region (step s region (pages 0)).out.state (later pages) (all_said_in region (founds (step s region page).out.state region (step s region page).page)))
          → Reads region s pages (all_said_in region (founds s region page))
      go (Ok (Some f)) i t rest =
          let x : Done = step s region (pages 0) in
          subst (λ fs. Reads region s pages (all_said_in region fs)) (sym t.shown)
          (reads_found s pages x.out x.page f _ _ (next_step refl) i (sym (payload_paged s region (pages 0) x.out x.page (next_step refl) f i)) (rest f i))
      go (Ok None) i t rest = none t (reads_end s pages (step s region (pages 0)).out (step s region (pages 0)).page (next_step refl) i)
      go (Err u) i t rest = none t (reads_refusal s pages (step s region (pages 0)).out (step s region (pages 0)).page u (next_step refl) i)

  -- with large pages, whatever they hold, a caller from offset 0 reads exactly what a run with one page finds
  pub reads_exactly : (pages : ℕ → List ℕ) → ((i : ℕ) → Large (pages i)) → (page : List ℕ) → Large page
      → Exactly (Reads region (fresh g) pages) (all_said_in region (founds (fresh g) region page))
  reads_exactly pages hs page h =
      let t = reads_found_lem (suc (length region)) (fresh g) pages page refl hs h (omega arith) in
      record { has = t; only = λ xs u. reads_one region (fresh g) pages xs _ u t }
