-- A byte that something else has written stays: what a record is to take was erased when it was staged, and the steps
-- program nothing but that.
-- Assumes nothing.
use mathlib.Core.Path.{◌≡◌, refl, sym, ap, ◌∙◌}
use mathlib.Core.Bool.{true, and-eq-true_iff}
use mathlib.Core.List.{List}
use Prim.Native.Nat.{ℕ, suc, ◌+◌, ◌≤◌}
use native.Mathlib.Omega.{arith}
use lib.ListN.{length}
use borrow.Author.Tests.{eqb-true}
use Rattle.waymaker_core.specs.declared.«record».Record.{Record}
use Rattle.storage.proofs.Units.{limits}
use Rattle.storage.proofs.ErasedBytes.{beyond_erased}
use Rattle.storage.proofs.Programming.{programmed_behind}
use Rattle.frame.specs.Lengths.{body_len, record_len}
use Rattle.frame.specs.Format.{payload_of, seal_of}
use Rattle.frame.proofs.Pieces.{payload_length}
use Rattle.frame.proofs.Sizes.{payload_is}
use Rattle.seal.proofs.Seals.{seal_length}
use Rattle.roundtrip.proofs.RoundTrip.{body_length}
use Rattle.journal.specs.declared.Journal.{Journal}
use Rattle.progress.specs.Phases.{unit_of, StepLeft, is_next, confirmed, under_way}
use Rattle.staging.specs.Stage.{body_for, begins, staged}
use Rattle.staging.proofs.Outcomes.{stage_case}
use Rattle.append.specs.Append.{barred, after_commit, committed}
use Rattle.append.proofs.Onward.{barrier_case, commit_case}
use Rattle.foreign.specs.Foreign.{byte_at, Spares, Theorem}
use Rattle.foreign.proofs.Along.{Left, Kept, along}

-- a byte that is programmed, at place i, which reads as v
module _ (i v : ℕ) (solid : v ≡ 255 → ⊥) where
  -- the byte lies beyond all that the next steps program: beyond the offset where the journal is ready, and beyond the
  -- slot of a record that is under way
  record Safe (j : Journal) (s : List ℕ) : Type 0 where
    is : byte_at i s ≡ v
    beyond : j.offset ≤ i
    behind : (j.phase ≡ 0 → ⊥) → j.offset + j.body_len + unit_of j ≤ i

  abbrev SafeLeft : StepLeft → Type 0
  SafeLeft = Left Safe

  -- a step that is refused changes nothing, and one that goes keeps the byte
  module _ (j : Journal) (s : List ℕ) (h : Safe j s) where
    stage_keeps : (x : Record) (free page : List ℕ) → SafeLeft (staged j x free s page)
    unfolding begins under_way record_len
    stage_keeps x free page =
        stage_case SafeLeft j x free s page (λ e _. h)
        (λ p g.
        let unit = limits j.geometry.bytes (unit_of j) j.geometry.read_size g.units in
        let solid_here : byte_at i s ≡ 255 → ⊥ = λ e. solid (sym h.is ∙ e) in
        let room : j.offset + record_len (unit_of j) p ≤ i = beyond_erased s j.offset (record_len (unit_of j) p) i g.blank h.beyond solid_here in
        let size : p ≡ length (payload_of x free) = (payload_is x (length free) p g.payload).size ∙ sym (payload_length x free) in
        let long : length (body_for (unit_of j) x free) ≡ body_len (unit_of j) p = body_length (unit_of j) x free unit.program_least ∙ ap (body_len (unit_of j)) (sym size) in
        record {
          is = programmed_behind s j.offset (body_for (unit_of j) x free) i (omega (arith, long, room)) ∙ h.is;
          beyond = h.beyond;
          behind = λ _. omega (arith, room);
        })

    -- a record is under way where barrier or commit are next
    under : (k : ℕ) → is_next (suc k) j ≡ true → j.phase ≡ 0 → ⊥
    unfolding is_next
    under k e z = absurd (omega (arith, eqb-true j.phase (suc k) ((and-eq-true_iff _ _).0 e).0, z))

    barrier_keeps : SafeLeft (barred j s)
    unfolding confirmed
    barrier_keeps =
        barrier_case SafeLeft j s (λ e. h)
        (λ g. record { is = h.is; beyond = h.beyond; behind = λ _. h.behind (under 0 g.turned) })

    commit_keeps : SafeLeft (committed j s)
    unfolding after_commit
    commit_keeps =
        commit_case SafeLeft j s (λ e. h)
        (λ g.
        let room : j.offset + j.body_len + unit_of j ≤ i = h.behind (under 1 g.turned) in
        record {
          is = programmed_behind s (j.offset + j.body_len) (seal_of (unit_of j) j.frame_crc) i (omega (arith, seal_length 0 (unit_of j) j.frame_crc, room)) ∙ h.is;
          beyond = room;
          behind = λ f. absurd (f refl);
        })

  -- and so does a list
  all_keep : Kept (Spares i) Safe
  all_keep =
      record {
        by_stage = stage_keeps;
        by_barrier = barrier_keeps;
        by_commit = commit_keeps;
        by_others = λ j s u h e. record { is = e ∙ h.is; beyond = h.beyond; behind = h.behind };
      }

pub foreign_bytes_stay : Theorem
foreign_bytes_stay i j k s t es f l =
    let at_end : Safe i (byte_at i s) f.programmed k t =
    along (Spares i) (Safe i (byte_at i s) f.programmed) (all_keep i (byte_at i s) f.programmed) j k s t es (record { is = refl; beyond = f.beyond; behind = λ n. absurd (n f.ready) }) l in
    record { same = at_end.is; beyond = at_end.beyond }
