-- The instances hold: each list by the steps' definitions, computed. Assumes nothing.
use Rattle.std.specs.Prelude.{Ok, Err}
use mathlib.Core.Path.{◌≡◌, refl}
use mathlib.Core.List.{List, [], ◌∷◌}
use Prim.Native.Nat.{ℕ}
use lib.ListN.{replicate}
use Rattle.waymaker_core.specs.Kinds.{one_of, known, run_scoped, has_free, seq_fits, free_fits, widths, numbers_len, clock_known, clock_fits}
use Rattle.waymaker_core.specs.declared.error.Span.TheVariants.{Ahead}
use Rattle.waymaker_core.specs.declared.error.Refusal.TheVariants.{NotErased, OutOfOrder}
use Rattle.storage.specs.Settings.{unit_up_to, program_unit, read_unit, region_length, allowed, round_up}
use Rattle.storage.specs.Media.{programmed_from, first_programmed, erased, ands, programmed}
use Rattle.integrity.specs.Fcs.{bit_step, bit_steps, octet, octets, fcs, header_check, frame_check}
use Rattle.frame.specs.Bytes.{bytes_le, field_bytes, fields}
use Rattle.frame.specs.Lengths.{body_len, record_len, well_given, payload_fits, payload_len}
use Rattle.frame.specs.Format.{numbers_of, payload_of, checked_header, header_of, covered_of, check_of, frame_of, padding_of, seal_byte, seal_from, body_of}
use Rattle.journal.specs.declared.Journal.{Journal}
use Rattle.counts.specs.Counts.{counts}
use Rattle.progress.specs.declared.Progress.TheVariants.{Confirmed, Committed}
use Rattle.progress.specs.declared.Advanced.{Advanced}
use Rattle.progress.specs.Phases.{StepLeft, keeps, on_device, is_next, confirmed, under_way}
use Rattle.staging.specs.Stage.{begins, staged}
use Rattle.append.specs.Append.{barred, after_commit, committed}
use Rattle.claim.specs.Saying.{Given}
use Rattle.claim.specs.Instances.{armed, fired}
use Rattle.foreign.specs.Steps.{Event, barrier, commit, Leads, rests, writes}
use Rattle.foreign.specs.Foreign.{Spares}
use Rattle.instances.proofs.Steps.{page, by_stage, by_barrier, by_commit}
use Rattle.instances.specs.Foreign.{noted, noted_behind, noted_twice, at_start, behind, spoiled, stages_to, goes_through, Instances}

-- the append of the record of 20 bytes
abbrev staged_fired : StepLeft
staged_fired = staged at_start fired.«record» fired.free noted page

abbrev barred_fired : StepLeft
barred_fired = barred staged_fired.out.journal staged_fired.region

abbrev committed_fired : StepLeft
committed_fired = committed barred_fired.out.journal staged_fired.region

module _ (i : ℕ) (k : Journal) (t : List ℕ) (es : List Event) where
  append_fired : Leads (Spares i) behind noted_behind es k t → Leads (Spares i) at_start noted (goes_through es) k t
  unfolding erased programmed_from first_programmed programmed ands bit_step bit_steps octet octets fcs header_check frame_check bytes_le field_bytes fields body_len record_len well_given payload_fits payload_len numbers_of payload_of checked_header header_of covered_of check_of frame_of padding_of seal_byte seal_from body_of widths round_up known seq_fits run_scoped has_free one_of free_fits clock_known clock_fits numbers_len allowed region_length program_unit read_unit unit_up_to on_device under_way begins staged is_next confirmed barred after_commit committed
  append_fired l =
      by_stage (Spares i) k t (barrier (Ok Confirmed) ∷ (commit (Ok (Committed (counts 0 20 2 2 0))) ∷ es)) at_start noted fired staged_fired refl
      (by_barrier (Spares i) k t (commit (Ok (Committed (counts 0 20 2 2 0))) ∷ es) staged_fired.out.journal staged_fired.region barred_fired.out refl
      (by_commit (Spares i) k t es barred_fired.out.journal staged_fired.region committed_fired refl l))

  -- a stage that is refused with 18: a record of 40 bytes at the start and one of 20 behind the other
  refused_at_start : Leads (Spares i) at_start noted es k t → Leads (Spares i) at_start noted (stages_to armed spoiled ∷ es) k t
  unfolding erased programmed_from first_programmed body_len record_len well_given payload_fits payload_len widths round_up known seq_fits run_scoped has_free one_of free_fits clock_known clock_fits numbers_len allowed region_length program_unit read_unit unit_up_to on_device staged
  refused_at_start l = by_stage (Spares i) k t es at_start noted armed (keeps (NotErased Ahead 30) at_start noted page) refl l

  refused_behind : (x : Given) (s : List ℕ) → keeps (NotErased Ahead 30) behind s page ≡ staged behind x.«record» x.free s page → Leads (Spares i) behind s es k t
      → Leads (Spares i) behind s (stages_to x spoiled ∷ es) k t
  refused_behind x s e l = by_stage (Spares i) k t es behind s x (keeps (NotErased Ahead 30) behind s page) e l

pub instances : Instances
unfolding erased programmed_from first_programmed body_len record_len well_given payload_fits payload_len widths round_up known seq_fits run_scoped has_free one_of free_fits clock_known clock_fits numbers_len allowed region_length program_unit read_unit unit_up_to on_device staged barred is_next
instances =
    record {
      refused =
          refused_at_start 30 at_start noted _
          (by_barrier (Spares 30) at_start noted [] at_start noted (record { journal = at_start; progress = Err OutOfOrder }) refl (rests at_start noted));
      before = append_fired 30 behind noted_behind _ (refused_behind 30 behind noted_behind [] fired noted_behind refl (rests behind noted_behind));
      later =
          append_fired 31 behind noted_twice _
          (writes behind behind noted_behind noted_twice noted_twice _ refl (refused_behind 31 behind noted_twice [] fired noted_twice refl (rests behind noted_twice)));
      from_then = refused_behind 50 behind noted_twice [] armed noted_twice refl (rests behind noted_twice);
    }
