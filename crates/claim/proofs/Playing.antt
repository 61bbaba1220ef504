-- Whatever keeps the calls' promises is what the papers' definitions give, call by call and over a whole list.
-- Assumes nothing.
use mathlib.Core.Path.{◌≡◌, refl, sym, ap, subst, ◌∙◌}
use mathlib.Core.Bool.{true, false, not, false≢true}
use mathlib.Core.List.{List, [], ◌∷◌}
use Prim.Native.Nat.{ℕ}
use Rattle.waymaker_core.proofs.Choice.{cond_case}
use Rattle.storage.specs.Settings.{allowed}
use Rattle.journal.specs.declared.Journal.{Journal}
use Rattle.journal.specs.Opening.{opened_with}
use Rattle.journal.proofs.Openings.{opens_by_lem}
use Rattle.progress.specs.Phases.{StepLeft, is_next}
use Rattle.staging.specs.Stage.{staged}
use Rattle.append.specs.Append.{barred, committed}
use Rattle.staging.proofs.Staging.{stages_by}
use Rattle.append.proofs.Onward.{confirms_by, commits_by}
use Rattle.progress.proofs.Noted.{on_device_case}
use Rattle.claim.specs.Events.{Call, opening, stage, barrier, commit, Event, call, cut, cut_in, Held, holds, Machine, Outcome, after_opening, stepped, step_by, done, State, sealed_in, called, cut_off, after_event, run, verdicts, MayBeMade, Valid}
use Rattle.claim.specs.Promised.{Made, opens, stages, confirms, commits, Result, Plays, rests, calls, cuts, cuts_in}
use Rattle.claim.specs.Claim.{Exactly}
use Rattle.claim.proofs.Invariant.{Inv, lost_inv, ready_inv, staged_inv, firm_inv, keeps}

module _ (a r : ℕ) where
  -- a call's results that keep its promise are those that the definitions give
  pub made_done : (m : Machine) (c : Call) (o : Outcome) → Made a r m c o → o ≡ done a r m c
  made_done m c o (opens w page x page' k) = ap (λ l. after_opening m l.opening) k.all
  made_done m c o (stages j x page out region' page' e k) = ap (stepped m) k.all ∙ ap (λ h. step_by m h (λ i. staged i x.«record» x.free m.region page)) (sym e)
  made_done m c o (confirms j out e k) = ap (stepped m) k.all ∙ ap (λ h. step_by m h (λ i. barred i m.region)) (sym e)
  made_done m c o (commits j out region' e k) = ap (stepped m) k.all ∙ ap (λ h. step_by m h (λ i. committed i m.region)) (sym e)

  -- what a list comes to by the definitions
  abbrev pub defined : State → List Event → Result
  defined s es = record { verdicts = verdicts a r s es; state = run a r s es }

  plays_defined : (s : State) (es : List Event) (z : Result) → Plays a r s es z → z ≡ defined s es
  unfolding after_event run verdicts
  plays_defined _ _ _ (rests s) = refl
  plays_defined _ _ _ (calls s c o es z k p) =
      ap (λ (x : Result). record { verdicts = o.verdict ∷ x.verdicts; state = x.state }) (plays_defined (called s c o) es z p)
      ∙ ap (λ q. record { verdicts = q.verdict ∷ verdicts a r (called s c q) es; state = run a r (called s c q) es }) (made_done s.machine c o k)
  plays_defined _ _ _ (cuts s t es z p) = plays_defined (cut_off s false t) es z p
  plays_defined _ _ _ (cuts_in s c t es z p) = plays_defined (cut_off s (sealed_in a s c t) t) es z p

-- a barrier only reads the region; it and a commit have no page
barred_keeps : (j : Journal) (region : List ℕ) → record { out = (barred j region).out; region = region; page = [] } ≡ barred j region
unfolding barred
barred_keeps j region =
    let P : StepLeft → Type 0 = λ l. record { out = l.out; region = region; page = [] } ≡ l in
    on_device_case P j region [] _ (λ e _. refl) (λ _ _. cond_case P (not (is_next 1 j)) (λ _. refl) (λ _. refl))

committed_pageless : (j : Journal) (region : List ℕ) → record { out = (committed j region).out; region = (committed j region).region; page = [] } ≡ committed j region
unfolding committed
committed_pageless j region =
    let P : StepLeft → Type 0 = λ l. record { out = l.out; region = l.region; page = [] } ≡ l in
    on_device_case P j region [] _ (λ e _. refl) (λ _ _. cond_case P (not (is_next 2 j)) (λ _. refl) (λ _. refl))

-- a journal is at hand
record Present (h : Held) : Type 0 where
  one : Journal
  is : h ≡ holds one

module _ (n a r : ℕ) (ok : allowed n a r ≡ true) where
  present : (s : State) → Inv n a r ok s → s.book.journal ≡ true → Present s.machine.held
  present s (lost_inv u bs x v) e = absurd (false≢true e)
  present s (ready_inv u o w bs x v) e = record { one = _; is = refl }
  present s (staged_inv base u o y w bs z x v) e = record { one = _; is = refl }
  present s (firm_inv base u o y w bs x v) e = record { one = _; is = refl }

  -- a call that may stand has results that keep its promise
  makes : (s : State) (c : Call) → Inv n a r ok s → MayBeMade s.book c → Made a r s.machine c (done a r s.machine c)
  makes s (opening w page) i h =
      let l = opened_with w a r s.machine.region page in
      opens w page l.opening l.page (opens_by_lem refl)
  makes s (stage x page) i h =
      let p : Present s.machine.held = present s i h.0 in
      let f : Journal → StepLeft = λ j. staged j x.«record» x.free s.machine.region page in
      subst (λ q. Made a r s.machine (stage x page) (step_by s.machine q f)) (sym p.is)
      (stages p.one x page (f p.one).out (f p.one).region (f p.one).page p.is (stages_by refl))
  makes s barrier i h =
      let p : Present s.machine.held = present s i h in
      let f : Journal → StepLeft = λ j. barred j s.machine.region in
      let k : record { out = (f p.one).out; region = s.machine.region; page = [] } ≡ f p.one = barred_keeps p.one s.machine.region in
      subst (λ q. Made a r s.machine barrier (step_by s.machine q f)) (sym p.is)
      (subst (λ q. Made a r s.machine barrier (stepped s.machine q)) k (confirms p.one (f p.one).out p.is (confirms_by k)))
  makes s commit i h =
      let p : Present s.machine.held = present s i h in
      let f : Journal → StepLeft = λ j. committed j s.machine.region in
      subst (λ q. Made a r s.machine commit (step_by s.machine q f)) (sym p.is)
      (commits p.one (f p.one).out (f p.one).region p.is (commits_by (committed_pageless p.one s.machine.region)))

  -- so a list that demand 3 speaks of can be played
  plays : (s : State) (es : List Event) → Inv n a r ok s → Valid a r s es → Plays a r s es (defined a r s es)
  unfolding after_event run verdicts
  plays s [] i h = rests s
  plays s (call c ∷ es) i h =
      let o : Outcome = done a r s.machine c in
      calls s c o es (defined a r (called s c o) es) (makes s c i h.0) (plays (called s c o) es (keeps n a r ok s (call c) i h.0) h.1)
  plays s (cut t ∷ es) i h = cuts s t es (defined a r (cut_off s false t) es) (plays (cut_off s false t) es (keeps n a r ok s (cut t) i h.0) h.1)
  plays s (cut_in c t ∷ es) i h =
      let u : State = cut_off s (sealed_in a s c t) t in
      cuts_in s c t es (defined a r u es) (plays u es (keeps n a r ok s (cut_in c t) i h.0) h.1)

  -- and comes to what the definitions give, and to nothing else
  pub plays_exactly : (s : State) (es : List Event) → Inv n a r ok s → Valid a r s es → Exactly (Plays a r s es) (defined a r s es)
  plays_exactly s es i h = record { has = plays s es i h; only = plays_defined a r s es }
