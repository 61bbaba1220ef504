-- What holds of machine and book after every list that demand 3 speaks of: every event keeps it.
-- Nothing is assumed of the checks' values, nor of which bits a cut takes.
use Rattle.std.specs.Prelude.{Ok, Err}
use mathlib.Core.Path.{◌≡◌, refl, sym, ap, ◌∙◌, subst}
use mathlib.Core.Bool.{Bool, true, false, cond, not, false≢true}
use mathlib.Core.List.{List, [], ◌∷◌, ◌++◌}
use Prim.Native.Nat.{ℕ, zero, suc, ◌+◌, ◌-◌, ◌≤◌, ◌<◌}
use native.Mathlib.Omega.{arith}
use lib.Bits.{and_le_l}
use lib.Dec.{leb}
use lib.ListN.{length, take, drop, replicate, length-append, length-replicate}
use Rattle.waymaker_core.specs.declared.error.Refusal.{Refusal}
use Rattle.waymaker_core.specs.declared.error.Refusal.TheVariants.{CountTooLarge}
use Rattle.waymaker_core.proofs.Choice.{cond_case}
use Rattle.storage.specs.declared.geometry.Geometry.{Geometry}
use Rattle.storage.specs.Settings.{program_unit, read_unit, allowed, settings}
use Rattle.storage.specs.Media.{ands, programmed}
use Rattle.storage.proofs.Units.{allowed_is, limits}
use Rattle.storage.proofs.ErasedBytes.{erased_replicate}
use Rattle.storage.proofs.Programming.{programmed_length}
use Rattle.frame.specs.Lengths.{body_len, record_len, payload_len}
use Rattle.frame.specs.Format.{seal_of, seal_holds}
use Rattle.recovery.specs.Next.{fresh}
use Rattle.recovery.specs.declared.next.Stepped.{Stepped}
use Rattle.look.proofs.Pages.{front_bytes, capacity_large}
use Rattle.finish.specs.Finish.{last_of, founds, to_end}
use Rattle.place.specs.declared.Stop.{Stop}
use Rattle.place.specs.declared.Stop.TheVariants.{End, Bad, BadTail, NoSeal, NoSkip, TooSmall}
use Rattle.place.specs.Walk.{plain, walk}
use Rattle.finish.proofs.Walks.{Goes, run_without_page}
use Rattle.roundtrip.specs.Typed.{AllBytes, Typed}
use Rattle.roundtrip.proofs.Lists.{bytes_append}
use Rattle.roundtrip.proofs.Frames.{payload_size}
use Rattle.counts.specs.declared.WriteAmplification.{WriteAmplification}
use Rattle.journal.specs.declared.Journal.{Journal}
use Rattle.journal.specs.Opening.{Opening, unopened, opening_of, opening_after, opened_with}
use Rattle.progress.specs.Phases.{StepLeft, is_next, confirmed, under_way}
use Rattle.progress.proofs.Noted.{on_device_case}
use Rattle.staging.specs.Stage.{check_for, body_for, begins, staged}
use Rattle.staging.proofs.Outcomes.{stage_case}
use Rattle.append.specs.Append.{barred, after_commit, committed}
use Rattle.counts.specs.Counts.{counts, plus, one_committed, may_go_on}
use Rattle.claim.specs.Cuts.{Cut}
use Rattle.claim.specs.Saying.{Given, payload_for, all_given}
use Rattle.claim.specs.Events.{Call, opening, stage, barrier, commit, Event, call, cut, cut_in, Held, none, holds, Machine, machine, refused_with, Outcome, outcome, after_opening, stepped, done, Torn, TornIn, lost, Way, nothing, under, whole_seal, sealed_in, State, called, cut_off, after_event, run, Large, MayBeMade, Allows, Valid, start}
use Rattle.claim.specs.Claim.{units, after}
use Rattle.claim.proofs.Said.{all_said_in}
use Rattle.claim.proofs.Tears.{replicate_bytes, cut_same, cut_bytes}
use Rattle.claim.proofs.Looks.{skipped_local}
use Rattle.claim.proofs.Passing.{Shape, Ready, passes_none, ready_shape, finds, opened_ready}
use Rattle.claim.proofs.Appends.{Busy, busy_shape, busy_unsealed, torn_body, torn_unsealed, sealed, torn_whole, torn_part}

-- programming leaves bytes
ands_bytes : (t s : List ℕ) → AllBytes t → AllBytes (ands t s)
unfolding ands
ands_bytes [] s b i = b i
ands_bytes (x ∷ t) [] b i = b i
ands_bytes (x ∷ t) (y ∷ s) b zero = omega (arith, and_le_l x y, b 0)
ands_bytes (x ∷ t) (y ∷ s) b (suc i) = ands_bytes t s (λ j. b (suc j)) i

drop_bytes : (n : ℕ) (t : List ℕ) → AllBytes t → AllBytes (drop n t)
drop_bytes zero t b i = b i
drop_bytes (suc n) [] b i = b i
drop_bytes (suc n) (x ∷ t) b i = drop_bytes n t (λ j. b (suc j)) i

programmed_bytes : (t : List ℕ) (o : ℕ) (s : List ℕ) → AllBytes t → AllBytes (programmed t o s)
unfolding programmed
programmed_bytes t o s b = bytes_append (take o t) (ands (drop o t) s) (front_bytes t o b) (ands_bytes (drop o t) s (drop_bytes o t b))

-- an opening from the counts w, by the last step of its recovery
abbrev pub going_on : WriteAmplification → Geometry → Stepped → Opening
going_on w g x = cond (not (may_go_on w)) (Err CountTooLarge) (opening_of w g x)

-- n bytes with program unit a and read unit r, within their limits
module _ (n a r : ℕ) (ok : allowed n a r ≡ true) where
  abbrev pub g : Geometry
  g = units n a r

  pub some : 0 < a
  some = (limits n a r ok).program_least

  pub both_units : (program_unit a ≡ true) × (read_unit r ≡ true)
  both_units = let each = allowed_is n a r ok in (each.program, each.read)

  -- a region of n bytes
  pub record Sound (s : List ℕ) : Type 0 where
    pub size : length s ≡ n
    pub bytes : AllBytes s

  sound_cut : (s u t : List ℕ) → Sound s → Sound u → Cut s u t → Sound t
  sound_cut s u t x y c = record { size = c.long ∙ x.size; bytes = cut_bytes s u t x.bytes y.bytes c }

  pub sound_programmed : (t : List ℕ) (o : ℕ) (s : List ℕ) → Sound t → Sound (programmed t o s)
  sound_programmed t o s x = record { size = programmed_length t o s ∙ x.size; bytes = programmed_bytes t o s x.bytes }

  -- a journal that is ready at o; one with x under way at o, in phase k
  abbrev pub idle : ℕ → WriteAmplification → Journal
  idle o w = record { geometry = g; offset = o; phase = 0; body_len = 0; payload_len = 0; frame_crc = 0; written = w }

  abbrev pub busy : ℕ → ℕ → Given → ℕ → WriteAmplification → Journal
  busy k o x p w = record { geometry = g; offset = o; phase = k; body_len = body_len a p; payload_len = p; frame_crc = check_for x.«record» x.free; written = w }

  abbrev pub at : Machine → Bool → Way → List Given → State
  at m k w bs = record { machine = m; book = record { journal = k; way = w; records = bs } }

  -- the states that occur: no journal; ready; a record staged; a record confirmed
  pub data Inv : State → Type 0 where
    lost_inv : (s : List ℕ) (bs : List Given) → Sound s → Shape a s bs → Inv (at (lost s) false nothing bs)
    ready_inv : (s : List ℕ) (o : ℕ) (w : WriteAmplification) (bs : List Given) → Sound s → Ready a s o bs → Inv (at (machine s s (holds (idle o w))) true nothing bs)
    staged_inv : (base s : List ℕ) (o : ℕ) (x : Given) (w : WriteAmplification) (bs : List Given) → Sound base → Sound s → Busy a base s o x bs
        → Inv (at (machine s base (holds (busy 1 o x (length (payload_for x)) w))) true (under x) bs)
    firm_inv : (base s : List ℕ) (o : ℕ) (x : Given) (w : WriteAmplification) (bs : List Given) → Sound s → Busy a base s o x bs
        → Inv (at (machine s s (holds (busy 2 o x (length (payload_for x)) w))) true (under x) bs)

  -- the walk of an opening: no page in it, and no number of reads
  pub opening_is : (w : WriteAmplification) (s page : List ℕ) → Sound s → Large page
      → (opened_with w a r s page).opening ≡ going_on w g (last_of (fresh g) 0 (walk (plain a) s 0))
  unfolding opened_with settings
  opening_is w s page x h = rw (x.size, ok) (go (not (may_go_on w))) where
    t : Goes (fresh g) (founds (fresh g) s page) (to_end (fresh g) s page).out (walk (plain a) s 0)
    t =
        run_without_page (fresh g) s page (record { still = refl; units = ok; size = x.size }) x.bytes (capacity_large (length page) r both_units.1 (omega (arith, h)))

    go : (b : Bool) → (cond b (unopened CountTooLarge page) (opening_after w g (to_end (fresh g) s page))).opening
        ≡ cond b (Err CountTooLarge) (opening_of w g (last_of (fresh g) 0 (walk (plain a) s 0)))
    go true = refl
    go false = ap (opening_of w g) t.ends

  -- a region in which nothing is loose
  module _ (s : List ℕ) (bs : List Given) (x : Sound s) (v : Shape a s bs) where
    calm_cut : (u : List ℕ) → Cut s s u → Inv (at (lost u) false nothing bs)
    calm_cut u c = subst (λ t. Inv (at (lost t) false nothing bs)) (sym (cut_same s u c)) (lost_inv s bs x v)

    calm_opening : (held : Held) (k : Bool) (w : WriteAmplification) (page : List ℕ) → Large page
        → Inv (called (at (machine s s held) k nothing bs) (opening w page) (done a r (machine s s held) (opening w page)))
    calm_opening held k w page h =
        subst P (sym (opening_is w s page x h)) (cond_case P (not (may_go_on w)) (λ _. lost_inv s bs x v) (λ _. go (walk (plain a) s 0).stop refl)) where
          P : Opening → Type 0
          P y = Inv (called (at (machine s s held) k nothing bs) (opening w page) (after_opening (machine s s held) y))

          go : (e : Stop) → (walk (plain a) s 0).stop ≡ e → P (opening_of w g (last_of (fresh g) 0 (record { points = (walk (plain a) s 0).points; at = (walk (plain a) s 0).at; stop = e })))
          go End f = ready_inv s (walk (plain a) s 0).at w bs x (opened_ready a some s bs (skipped_local a some) v f)
          go (Bad e) f = lost_inv s bs x v
          go (BadTail i) f = lost_inv s bs x v
          go NoSeal f = lost_inv s bs x v
          go (NoSkip i) f = lost_inv s bs x v
          go (TooSmall m) f = lost_inv s bs x v

  -- a cut between two calls keeps the invariant
  cut_inv : (s : State) → Inv s → (u : List ℕ) → Torn s.machine u → Inv (cut_off s false u)
  cut_inv s (lost_inv t bs x v) u c = calm_cut t bs x v u c
  cut_inv s (ready_inv t o w bs x v) u c = calm_cut t bs x (ready_shape a t o bs v) u c
  cut_inv s (staged_inv base t o y w bs z x v) u c = lost_inv u bs (sound_cut base t u z x c) (torn_body a some base t o y bs v u c)
  cut_inv s (firm_inv base t o y w bs x v) u c = calm_cut t bs x (busy_shape a some base t o y bs v) u c

  -- it leaves no seal whole
  unsealed : (s : State) → Inv s → (u : List ℕ) → Torn s.machine u → whole_seal a s.machine.held s.book.way u ≡ false
  unsealed s (lost_inv t bs x v) u c = refl
  unsealed s (ready_inv t o w bs x v) u c = refl
  unsealed s (staged_inv base t o y w bs z x v) u c = let e = torn_unsealed a some base t o y bs v u c in search
  unsealed s (firm_inv base t o y w bs x v) u c =
      let e = ap (λ l. seal_holds (check_for y.«record» y.free) (take a (drop (o + body_len a (length (payload_for y))) l))) (cut_same t u c) ∙ busy_unsealed a some base t o y bs v in
      search

  -- a step keeps the invariant, and so does whatever a cut within it leaves
  record Keeps (s : State) (c : Call) (o : Outcome) : Type 0 where
    kept : Inv (called s c o)
    torn : (u : List ℕ) → Cut s.machine.base o.left.region u → Inv (cut_off s (sealed_in a s c u) u)

  -- a step that is refused
  module _ (s : State) (i : Inv s) (e : Refusal) where
    abbrev refusal : Outcome
    refusal = outcome (refused_with e) s.machine

    no_stage : (x : Given) (page : List ℕ) → Keeps s (stage x page) refusal
    no_stage x page = record { kept = i; torn = cut_inv s i }

    no_barrier : Keeps s barrier refusal
    no_barrier = record { kept = i; torn = cut_inv s i }

    no_commit : Keeps s commit refusal
    no_commit = record { kept = i; torn = λ u c. subst (λ b. Inv (cut_off s b u)) (sym (unsealed s i u c)) (cut_inv s i u c) }

  -- the journal is ready at o: a stage begins a record or is refused, the other steps are refused
  module _ (s : List ℕ) (o : ℕ) (w : WriteAmplification) (bs : List Given) (x : Sound s) (v : Ready a s o bs) where
    abbrev m₀ : Machine
    m₀ = machine s s (holds (idle o w))

    abbrev s₀ : State
    s₀ = at m₀ true nothing bs

    i₀ : Inv s₀
    i₀ = ready_inv s o w bs x v

    -- a record that stage takes
    began : (y : Given) (p : ℕ) → Typed y.«record» y.free → payload_len y.«record» (length y.free) ≡ Ok p → record_len a p ≤ n - o
        → Busy a s (programmed s o (body_for a y.«record» y.free)) o y bs
    began y p t e k =
        let q : length (payload_for y) ≡ p = payload_size y.«record» y.free p t e in
        record {
          ready = v;
          taken = record { typed = t; size = p; taken = e };
          room = rw q (omega (arith, k, x.size, v.place, ap length v.split, length-append v.front v.tail));
          made = refl;
        }

    ready_stage : (y : Given) (page : List ℕ) → Typed y.«record» y.free → Keeps s₀ (stage y page) (done a r m₀ (stage y page))
    unfolding begins under_way
    ready_stage y page t =
        stage_case (λ l. Keeps s₀ (stage y page) (stepped m₀ l)) (idle o w) y.«record» y.free s page (λ e _. no_stage s₀ i₀ e y page)
        (λ p g.
        let body : List ℕ = body_for a y.«record» y.free in
        let s' : List ℕ = programmed s o body in
        let x' : Sound s' = sound_programmed s o body x in
        let b : Busy a s s' o y bs = began y p t g.payload g.room in
        record {
          kept =
              subst (λ q. Inv (at (machine s' s (holds (busy 1 o y q (plus w (counts q (body_len a q) 1 0 1))))) true (under y) bs)) (payload_size y.«record» y.free p t g.payload)
              (staged_inv s s' o y (plus w (counts (length (payload_for y)) (body_len a (length (payload_for y))) 1 0 1)) bs x x' b);
          torn = λ u c. lost_inv u bs (sound_cut s s' u x x' c) (torn_body a some s s' o y bs b u c);
        })

    ready_barrier : Keeps s₀ barrier (done a r m₀ barrier)
    unfolding barred is_next
    ready_barrier = on_device_case (λ l. Keeps s₀ barrier (stepped m₀ l)) (idle o w) s [] _ (λ e _. no_barrier s₀ i₀ _) (λ _ _. no_barrier s₀ i₀ _)

    ready_commit : Keeps s₀ commit (done a r m₀ commit)
    unfolding committed is_next
    ready_commit = on_device_case (λ l. Keeps s₀ commit (stepped m₀ l)) (idle o w) s [] _ (λ e _. no_commit s₀ i₀ _) (λ _ _. no_commit s₀ i₀ _)

  -- a record is staged at o: the barrier confirms it, the other steps are refused
  module _ (base s : List ℕ) (o : ℕ) (y : Given) (w : WriteAmplification) (bs : List Given) (z : Sound base) (x : Sound s) (v : Busy a base s o y bs) where
    abbrev j₁ : Journal
    j₁ = busy 1 o y (length (payload_for y)) w

    abbrev m₁ : Machine
    m₁ = machine s base (holds j₁)

    abbrev s₁ : State
    s₁ = at m₁ true (under y) bs

    i₁ : Inv s₁
    i₁ = staged_inv base s o y w bs z x v

    staged_stage : (q : Given) (page : List ℕ) → Keeps s₁ (stage q page) (done a r m₁ (stage q page))
    unfolding staged
    staged_stage q page = on_device_case (λ l. Keeps s₁ (stage q page) (stepped m₁ l)) j₁ s page _ (λ e _. no_stage s₁ i₁ _ q page) (λ _ _. no_stage s₁ i₁ _ q page)

    staged_barrier : Keeps s₁ barrier (done a r m₁ barrier)
    unfolding barred is_next confirmed
    staged_barrier =
        let P : StepLeft → Type 0 = λ l. Keeps s₁ barrier (stepped m₁ l) in
        on_device_case P j₁ s [] _ (λ e _. no_barrier s₁ i₁ _)
        (λ _ _. cond_case P (not (leb (o + body_len a (length (payload_for y)) + a) n)) (λ _. no_barrier s₁ i₁ _)
        (λ _. record { kept = firm_inv base s o y (plus w (counts 0 0 0 1 0)) bs x v; torn = cut_inv s₁ i₁ }))

    staged_commit : Keeps s₁ commit (done a r m₁ commit)
    unfolding committed is_next
    staged_commit = on_device_case (λ l. Keeps s₁ commit (stepped m₁ l)) j₁ s [] _ (λ e _. no_commit s₁ i₁ _) (λ _ _. no_commit s₁ i₁ _)

  -- a record's body is confirmed at o: commit seals it, the other steps are refused
  module _ (base s : List ℕ) (o : ℕ) (y : Given) (w : WriteAmplification) (bs : List Given) (x : Sound s) (v : Busy a base s o y bs) where
    abbrev j₂ : Journal
    j₂ = busy 2 o y (length (payload_for y)) w

    abbrev m₂ : Machine
    m₂ = machine s s (holds j₂)

    abbrev s₂ : State
    s₂ = at m₂ true (under y) bs

    i₂ : Inv s₂
    i₂ = firm_inv base s o y w bs x v

    firm_stage : (q : Given) (page : List ℕ) → Keeps s₂ (stage q page) (done a r m₂ (stage q page))
    unfolding staged
    firm_stage q page = on_device_case (λ l. Keeps s₂ (stage q page) (stepped m₂ l)) j₂ s page _ (λ e _. no_stage s₂ i₂ _ q page) (λ _ _. no_stage s₂ i₂ _ q page)

    firm_barrier : Keeps s₂ barrier (done a r m₂ barrier)
    unfolding barred is_next
    firm_barrier = on_device_case (λ l. Keeps s₂ barrier (stepped m₂ l)) j₂ s [] _ (λ e _. no_barrier s₂ i₂ _) (λ _ _. no_barrier s₂ i₂ _)

    abbrev check : ℕ
    check = check_for y.«record» y.free

    abbrev slot : ℕ
    slot = o + body_len a (length (payload_for y))

    abbrev sealed_region : List ℕ
    sealed_region = programmed s slot (seal_of a check)

    sealed_sound : Sound sealed_region
    sealed_sound = sound_programmed s slot (seal_of a check) x

    -- the seal torn: whole or not
    torn_seal : (u : List ℕ) → Cut s sealed_region u → (whole : Bool) → seal_holds check (take a (drop slot u)) ≡ whole → Inv (cut_off s₂ whole u)
    torn_seal u c true e = lost_inv u (bs ++ (y ∷ [])) (sound_cut s sealed_region u x sealed_sound c) (torn_whole a some base s o y bs v u c e)
    torn_seal u c false e = lost_inv u bs (sound_cut s sealed_region u x sealed_sound c) (torn_part a some base s o y bs v u c e)

    firm_commit : Keeps s₂ commit (done a r m₂ commit)
    unfolding committed is_next after_commit
    firm_commit =
        let P : StepLeft → Type 0 = λ l. Keeps s₂ commit (stepped m₂ l) in
        on_device_case P j₂ s [] _ (λ e _. no_commit s₂ i₂ _)
        (λ _ _. cond_case P (not (leb (slot + a) n)) (λ _. no_commit s₂ i₂ _)
        (λ _.
        record {
          kept = ready_inv sealed_region (slot + a) (one_committed (plus w (counts 0 a 1 1 0))) (bs ++ (y ∷ [])) sealed_sound (sealed a some base s o y bs v);
          torn = λ u c. torn_seal u c (seal_holds check (take a (drop slot u))) refl;
        }))

  under_nothing : {A : Type 0} {x : Given} → under x ≡ nothing → A
  under_nothing e = let z : ◌≡◌ {A = ℕ} 0 1 = cc in absurd (omega arith)

  -- an opening that may stand keeps the invariant
  opening_inv : (s : State) (c : WriteAmplification) (page : List ℕ) → Inv s → s.book.way ≡ nothing → Large page
      → Inv (called s (opening c page) (done a r s.machine (opening c page)))
  opening_inv s c page (lost_inv u bs x v) e h = calm_opening u bs x v none false c page h
  opening_inv s c page (ready_inv u o w bs x v) e h = calm_opening u bs x (ready_shape a u o bs v) (holds (idle o w)) true c page h
  opening_inv s c page (staged_inv base u o y w bs z x v) e h = under_nothing e
  opening_inv s c page (firm_inv base u o y w bs x v) e h = under_nothing e

  -- wherever it stands it writes nothing, so that a cut within it is one between two calls
  opening_torn : (s : State) (w : WriteAmplification) (page u : List ℕ) → Inv s → TornIn a r s.machine (opening w page) u → Inv (cut_off s false u)
  opening_torn s w page u i c = cut_inv s i u (subst (λ t. Cut s.machine.base t u) (same (opened_with w a r s.machine.region page).opening) c) where
    same : (y : Opening) → (after_opening s.machine y).left.region ≡ s.machine.region
    same (Ok j) = refl
    same (Err e) = refl

  -- a step keeps it where there is a journal
  stage_inv : (s : State) (q : Given) (page : List ℕ) → Inv s → MayBeMade s.book (stage q page) → Keeps s (stage q page) (done a r s.machine (stage q page))
  stage_inv s q page (lost_inv u bs x v) h = absurd (false≢true h.0)
  stage_inv s q page (ready_inv u o w bs x v) h = ready_stage u o w bs x v q page h.2
  stage_inv s q page (staged_inv base u o y w bs z x v) h = staged_stage base u o y w bs z x v q page
  stage_inv s q page (firm_inv base u o y w bs x v) h = firm_stage base u o y w bs x v q page

  barrier_inv : (s : State) → Inv s → s.book.journal ≡ true → Keeps s barrier (done a r s.machine barrier)
  barrier_inv s (lost_inv u bs x v) h = absurd (false≢true h)
  barrier_inv s (ready_inv u o w bs x v) h = ready_barrier u o w bs x v
  barrier_inv s (staged_inv base u o y w bs z x v) h = staged_barrier base u o y w bs z x v
  barrier_inv s (firm_inv base u o y w bs x v) h = firm_barrier base u o y w bs x v

  commit_inv : (s : State) → Inv s → s.book.journal ≡ true → Keeps s commit (done a r s.machine commit)
  commit_inv s (lost_inv u bs x v) h = absurd (false≢true h)
  commit_inv s (ready_inv u o w bs x v) h = ready_commit u o w bs x v
  commit_inv s (staged_inv base u o y w bs z x v) h = staged_commit base u o y w bs z x v
  commit_inv s (firm_inv base u o y w bs x v) h = firm_commit base u o y w bs x v

  -- every event keeps the invariant
  pub keeps : (s : State) (e : Event) → Inv s → Allows a r s e → Inv (after_event a r s e)
  unfolding after_event
  keeps s (call (opening w page)) i h = opening_inv s w page i h.0 h.1
  keeps s (call (stage q page)) i h = (stage_inv s q page i h).kept
  keeps s (call barrier) i h = (barrier_inv s i h).kept
  keeps s (call commit) i h = (commit_inv s i h).kept
  keeps s (cut t) i h = cut_inv s i t h
  keeps s (cut_in (opening w page) t) i h = opening_torn s w page t i h.1
  keeps s (cut_in (stage q page) t) i h = (stage_inv s q page i h.0).torn t h.1
  keeps s (cut_in barrier t) i h = (barrier_inv s i h.0).torn t h.1
  keeps s (cut_in commit t) i h = (commit_inv s i h.0).torn t h.1

  pub holds_after : (s : State) (es : List Event) → Inv s → Valid a r s es → Inv (run a r s es)
  unfolding run
  holds_after s [] i h = i
  holds_after s (e ∷ es) i h = holds_after (after_event a r s e) es (keeps s e i h.0) h.1

  pub at_first : Inv (start n)
  at_first =
      lost_inv (replicate n 255) [] (record { size = length-replicate n 255; bytes = replicate_bytes n })
      (ready_shape a (replicate n 255) 0 [] (record { front = []; tail = replicate n 255; split = refl; place = refl; passes = passes_none a; blank = erased_replicate n }))

  pub sound_of : (s : State) → Inv s → Sound s.machine.region
  sound_of s (lost_inv u bs x v) = x
  sound_of s (ready_inv u o w bs x v) = x
  sound_of s (staged_inv base u o y w bs z x v) = x
  sound_of s (firm_inv base u o y w bs x v) = x

  pub shape_of : (s : State) → Inv s → Shape a s.machine.region s.book.records
  shape_of s (lost_inv u bs x v) = v
  shape_of s (ready_inv u o w bs x v) = ready_shape a u o bs v
  shape_of s (staged_inv base u o y w bs z x v) = busy_shape a some base u o y bs v
  shape_of s (firm_inv base u o y w bs x v) = busy_shape a some base u o y bs v

  -- so a run with one large page finds the book's records
  pub run_finds : (s : State) → Inv s → (page : List ℕ) → Large page → all_said_in s.machine.region (founds (fresh g) s.machine.region page) ≡ all_given s.book.records
  run_finds s i page h =
      let u : List ℕ = s.machine.region in
      ap (all_said_in u) (run_without_page (fresh g) u page (record { still = refl; units = ok; size = (sound_of s i).size }) (sound_of s i).bytes (capacity_large (length page) r both_units.1 (omega (arith, h)))).finds
      ∙ finds a some u s.book.records (shape_of s i)

  -- and all this holds after every list that demand 3 speaks of
  pub inv_after : (es : List Event) → Valid a r (start n) es → Inv (after n a r es)
  inv_after es valid = holds_after (start n) es at_first valid
