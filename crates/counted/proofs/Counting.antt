-- The counts by what the steps note, one after another: programmed bytes and the appends that were not committed
-- exactly; each of the others grows by no more than the programmed bytes do.
-- Assumes nothing.
use Rattle.std.specs.Prelude.{Ok}
use mathlib.Core.Path.{◌≡◌, refl, sym, ap, subst}
use mathlib.Core.Bool.{true, ◌&&◌, and-eq-true_iff}
use mathlib.Core.List.{List}
use Prim.Native.Nat.{ℕ, suc, ◌+◌, ◌-◌, ◌≤◌, min}
use native.Mathlib.Omega.{arith}
use lib.Dec.{eqb, leb}
use lib.ListN.{length}
use borrow.Author.Tests.{eqb-true, eqb-false, le-leb, leb-true}
use Rattle.waymaker_core.specs.declared.«record».Record.{Record}
use Rattle.waymaker_core.proofs.Choice.{cond_case}
use Rattle.storage.specs.Settings.{allowed}
use Rattle.storage.specs.Inside.{Limits}
use Rattle.storage.proofs.Units.{limits}
use Rattle.frame.specs.Lengths.{body_len, record_len}
use Rattle.frame.proofs.Sizes.{body_least}
use Rattle.counts.specs.declared.WriteAmplification.{WriteAmplification}
use Rattle.counts.specs.Counts.{up_to, largest_handed, may_go_on}
use Rattle.journal.specs.declared.Journal.{Journal}
use Rattle.journal.specs.Opening.{idle}
use Rattle.journal.proofs.Openings.{OpenedIs, opened_is}
use Rattle.progress.specs.Phases.{unit_of, is_next, confirmed, under_way as stages_to}
use Rattle.staging.specs.Stage.{begins, staged}
use Rattle.staging.proofs.Outcomes.{stage_case}
use Rattle.append.specs.Append.{barred, after_commit, committed}
use Rattle.append.proofs.Onward.{barrier_case, commit_case}
use Rattle.foreign.proofs.Along.{Left, Kept, along}
use Rattle.counted.specs.Counted.{under_way, body_under_way, Anything, Grown, Theorem}

-- five counts, each at most n
record Each (n : ℕ) (v : WriteAmplification) : Type 0 where
  payload : v.payload_bytes ≤ n
  programmed : v.programmed_bytes ≤ n
  operations : v.program_operations ≤ n
  barriers : v.barriers ≤ n
  uncommitted : v.uncommitted_appends ≤ n

each_is : (n : ℕ) (v : WriteAmplification) → up_to n v ≡ true → Each n v
each_is n v e =
    let four = (and-eq-true_iff (leb v.payload_bytes n && leb v.programmed_bytes n && leb v.program_operations n && leb v.barriers n) (leb v.uncommitted_appends n)).0 e in
    let three = (and-eq-true_iff _ _).0 four.0 in
    let two = (and-eq-true_iff _ _).0 three.0 in
    let one = (and-eq-true_iff _ _).0 two.0 in
    record {
      payload = leb-true _ _ one.0;
      programmed = leb-true _ _ one.1;
      operations = leb-true _ _ two.1;
      barriers = leb-true _ _ three.1;
      uncommitted = leb-true _ _ four.1;
    }

is_each : (n : ℕ) (v : WriteAmplification) → Each n v → up_to n v ≡ true
is_each n v h = rw (le-leb _ _ h.payload, le-leb _ _ h.programmed, le-leb _ _ h.operations, le-leb _ _ h.barriers, le-leb _ _ h.uncommitted) refl

-- from the counts w and the offset o
module _ (w : WriteAmplification) (o : ℕ) (low : Each largest_handed w) where
  -- how far the journal has come, in bytes
  abbrev way : Journal → ℕ
  way k = (k.offset - o) + k.body_len

  record Sums (k : Journal) : Type 0 where
    units : allowed k.geometry.bytes (unit_of k) k.geometry.read_size ≡ true
    onward : o ≤ k.offset
    within : way k ≤ k.geometry.bytes
    -- a body has a byte at least, and there is none where the journal is ready
    body : min k.phase 1 ≤ k.body_len
    none : k.phase ≡ 0 → k.body_len ≡ 0
    payload : k.written.payload_bytes ≤ w.payload_bytes + way k
    programmed : k.written.programmed_bytes ≡ w.programmed_bytes + way k
    operations : k.written.program_operations ≤ w.program_operations + (k.offset - o) + min k.phase 1
    barriers : k.written.barriers ≤ w.barriers + (k.offset - o) + (k.phase - 1)
    half : k.phase ≤ 2
    uncommitted : k.written.uncommitted_appends ≡ w.uncommitted_appends + min k.phase 1

  -- nothing is asked of the region
  abbrev P : Journal → List ℕ → Type 0
  P k s = Sums k

  -- a step that is refused changes nothing, and one that goes counts what it writes
  module _ (j : Journal) (s : List ℕ) (h : Sums j) where
    abbrev unit : Limits j.geometry.bytes (unit_of j) j.geometry.read_size
    unit = limits j.geometry.bytes (unit_of j) j.geometry.read_size h.units

    stage_counts : (x : Record) (free page : List ℕ) → Left P (staged j x free s page)
    unfolding begins stages_to record_len
    stage_counts x free page =
        stage_case (Left P) j x free s page (λ e _. h)
        (λ p g.
        let body : 16 + p ≤ body_len (unit_of j) p = body_least (unit_of j) p unit.program_least in
        let empty : j.body_len ≡ 0 = h.none g.ready in
        record {
          units = h.units;
          onward = h.onward;
          within = omega (arith, g.room, h.onward);
          body = omega (arith, body);
          none = λ e. absurd (omega (arith, e));
          payload = omega (arith, body, empty, h.payload);
          programmed = omega (arith, empty, h.programmed, low.programmed, g.room, unit.size);
          operations = omega (arith, g.ready, h.operations);
          barriers = omega (arith, g.ready, h.barriers);
          half = omega arith;
          uncommitted = omega (arith, g.ready, h.uncommitted, low.uncommitted);
        })

    -- which step is next, and where its slot ends
    record Turn (n : ℕ) : Type 0 where
      phase : j.phase ≡ n
      room : j.offset + j.body_len + unit_of j ≤ j.geometry.bytes

    turn_is : (n : ℕ) → is_next n j ≡ true → Turn n
    unfolding is_next
    turn_is n e = let both = (and-eq-true_iff _ _).0 e in record { phase = eqb-true j.phase n both.0; room = leb-true _ _ both.1 }

    barrier_counts : Left P (barred j s)
    unfolding confirmed
    barrier_counts =
        barrier_case (Left P) j s (λ e. h)
        (λ g.
        let t : Turn 1 = turn_is 1 g.turned in
        record {
          units = h.units;
          onward = h.onward;
          within = h.within;
          body = omega (arith, t.phase, h.body);
          none = λ e. absurd (omega (arith, e));
          payload = omega (arith, h.payload);
          programmed = omega (arith, h.programmed, low.programmed, h.within, unit.size);
          operations = omega (arith, t.phase, h.operations);
          barriers = omega (arith, t.phase, h.barriers);
          half = omega arith;
          uncommitted = omega (arith, t.phase, h.uncommitted, low.uncommitted);
        })

    commit_counts : Left P (committed j s)
    unfolding after_commit
    commit_counts =
        commit_case (Left P) j s (λ e. h)
        (λ g.
        let t : Turn 2 = turn_is 2 g.turned in
        record {
          units = h.units;
          onward = omega (arith, h.onward);
          within = omega (arith, h.onward, t.room);
          body = omega arith;
          none = λ e. refl;
          payload = omega (arith, h.onward, h.payload);
          programmed = omega (arith, h.onward, h.programmed, low.programmed, h.within, unit.size, t.room);
          operations = omega (arith, h.onward, t.phase, h.body, unit.program_least, h.operations);
          barriers = omega (arith, h.onward, t.phase, h.body, unit.program_least, h.barriers);
          half = omega arith;
          uncommitted = omega (arith, t.phase, h.uncommitted, low.uncommitted);
        })

  counted : Kept Anything P
  counted =
      record {
        by_stage = stage_counts;
        by_barrier = barrier_counts;
        by_commit = commit_counts;
        by_others = λ j s u h e. h;
      }

  -- what the sums say
  grown : (j k : Journal) → j.offset ≡ o → Sums k → Grown w j k
  grown j k e h =
      let u = limits k.geometry.bytes (unit_of k) k.geometry.read_size h.units in
      let none : under_way k ≡ min k.phase 1 = cond_case (λ n. n ≡ min k.phase 1) (eqb k.phase 0) (λ z. omega (arith, eqb-true k.phase 0 z)) (λ z. omega (arith, eqb-false k.phase 0 z)) in
      let body : body_under_way k ≡ k.body_len = cond_case (λ n. n ≡ k.body_len) (eqb k.phase 0) (λ z. sym (h.none (eqb-true k.phase 0 z))) (λ _. refl) in
      record {
        onward = omega (arith, e, h.onward);
        programmed = omega (arith, e, body, h.programmed);
        uncommitted = omega (arith, none, h.uncommitted);
        short =
            is_each _ k.written
            (record {
              payload = omega (arith, h.payload, h.within, u.size, low.payload);
              programmed = omega (arith, h.programmed, h.within, u.size, low.programmed);
              operations = omega (arith, h.operations, h.within, h.body, u.size, low.operations);
              barriers = omega (arith, h.barriers, h.within, h.body, h.half, u.size, low.barriers);
              uncommitted = omega (arith, h.uncommitted, low.uncommitted);
            });
      }

  -- at the opening itself
  first : (a r n : ℕ) (j : Journal) → OpenedIs w a r n j → Sums (idle (record { bytes = n; program_size = a; read_size = r }) o w)
  first a r n j i =
      record {
        units = i.units;
        onward = omega arith;
        within = omega arith;
        body = omega arith;
        none = λ e. refl;
        payload = omega arith;
        programmed = omega arith;
        operations = omega arith;
        barriers = omega arith;
        half = omega arith;
        uncommitted = omega arith;
      }

pub counts_have_grown : Theorem
counts_have_grown w a r s page page' j i es k t l =
    let n : OpenedIs w a r (length s) j = opened_is w a r s page j (sym (ap (λ x. x.opening) i.all)) in
    let low : Each largest_handed w = each_is largest_handed w n.counts in
    let here : Sums w j.offset low j = subst (Sums w j.offset low) (sym n.is) (first w j.offset low a r (length s) j n) in
    grown w j.offset low j k refl (along Anything (P w j.offset low) (counted w j.offset low) j k s t es here l)
