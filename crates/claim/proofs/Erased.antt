-- On demand 3's premises stage finds erased every byte that a record is to take.
-- Assumes nothing.
use Rattle.std.specs.Prelude.{Ok, Err}
use mathlib.Core.Path.{◌≡◌, refl, ap, ap₂, subst, ◌∙◌}
use mathlib.Core.Bool.{true}
use mathlib.Core.List.{List}
use Prim.Native.Nat.{ℕ}
use native.Mathlib.Omega.{arith}
use lib.ListN.{length, take, drop}
use lib.Seq.{drop-append_seam}
use Rattle.waymaker_core.specs.declared.error.Span.TheVariants.{Ahead}
use Rattle.waymaker_core.specs.declared.error.Refusal.TheVariants.{NotErased, OutOfOrder}
use Rattle.waymaker_core.specs.Refusals.{numbered, refusal_of}
use Rattle.storage.specs.Media.{erased, read_at}
use Rattle.storage.proofs.ErasedBytes.{erased_take}
use Rattle.frame.specs.Lengths.{record_len}
use Rattle.journal.specs.declared.Journal.{Journal}
use Rattle.progress.specs.declared.Progress.TheVariants.{Staged, Confirmed, Committed}
use Rattle.progress.specs.Phases.{unit_of, StepLeft, StepAnswer}
use Rattle.staging.specs.Stage.{staged}
use Rattle.staging.proofs.Outcomes.{refusal_number, stage_finds_erased as not_18}
use Rattle.claim.specs.Saying.{Given, payload_for}
use Rattle.claim.specs.Events.{holds, Machine, machine, refused_with, stage, done, after_step, step_by, stepped, State}
use Rattle.claim.specs.Claim.{after, FindsErased}
use Rattle.claim.proofs.Invariant.{Inv, idle, busy, lost_inv, ready_inv, staged_inv, firm_inv, inv_after}

-- a verdict that refuses with 18, for the byte at place i
is_18 : (m : Machine) (l : StepLeft) (i : ℕ) → (stepped m l).verdict ≡ refused_with (NotErased Ahead i) → refusal_number l ≡ 18
is_18 m l i e = go l.out.progress refl e where
  go : (z : StepAnswer) → l.out.progress ≡ z → (after_step m l.out.journal l.region z).verdict ≡ refused_with (NotErased Ahead i) → (refusal_of z).number ≡ 18
  go (Ok Staged) f h = cc
  go (Ok Confirmed) f h = cc
  go (Ok (Committed w)) f h = cc
  go (Err x) f h = let is : x ≡ NotErased Ahead i = cc in ap (λ y. (numbered y).number) is

-- a step that stage takes with a journal
by_journal : (a r : ℕ) (m : Machine) (j : Journal) (x : Given) (page : List ℕ) (i : ℕ) → m.held ≡ holds j → (j.phase ≡ 0 → (n : ℕ) → erased (read_at m.region j.offset n) ≡ true)
    → (done a r m (stage x page)).verdict ≡ refused_with (NotErased Ahead i) → ⊥
by_journal a r m j x page i h blank e =
    not_18 j x.«record» x.free m.region page (λ t p _ _. blank t (record_len (unit_of j) p))
    (is_18 m (staged j x.«record» x.free m.region page) i (subst (λ y. (step_by m y (λ k. staged k x.«record» x.free m.region page)).verdict ≡ refused_with (NotErased Ahead i)) h e))

pub stage_finds_erased : FindsErased
stage_finds_erased n a r ok es valid x page i = go (after n a r es) (inv_after n a r ok es valid) where
  go : (s : State) → Inv n a r ok s → (done a r s.machine (stage x page)).verdict ≡ refused_with (NotErased Ahead i) → ⊥
  go s (lost_inv t bs y v) e = let z : OutOfOrder ≡ NotErased Ahead i = cc in let w : ◌≡◌ {A = ℕ} 14 18 = ap (λ y. (numbered y).number) z in absurd (omega (arith, w))
  go s (ready_inv t o w bs y v) e =
      by_journal a r (machine t t (holds (idle n a r ok o w))) (idle n a r ok o w) x page i refl
      (λ _ k. ap (λ d. erased (take k d)) (ap₂ drop v.place v.split ∙ drop-append_seam v.front v.tail) ∙ erased_take k v.tail v.blank) e
  go s (staged_inv base t o q w bs z y v) e =
      let j : Journal = busy n a r ok 1 o q (length (payload_for q)) w in
      by_journal a r (machine t base (holds j)) j x page i refl (λ f. absurd (omega (arith, f))) e
  go s (firm_inv base t o q w bs y v) e =
      let j : Journal = busy n a r ok 2 o q (length (payload_for q)) w in
      by_journal a r (machine t t (holds j)) j x page i refl (λ f. absurd (omega (arith, f))) e
