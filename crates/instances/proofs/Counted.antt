-- The instances of the theorem on the counts hold: the opening and each list by the steps' definitions, computed.
-- Assumes nothing.
use Rattle.std.specs.Prelude.{Ok, Err}
use mathlib.Core.Path.{◌≡◌, refl, sym, ap}
use mathlib.Core.Bool.{true}
use mathlib.Core.List.{List, []}
use Prim.Native.Nat.{ℕ}
use Rattle.waymaker_core.specs.Kinds.{one_of, known, run_scoped, has_free, seq_fits, free_fits, widths, numbers_len, clock_known, clock_fits}
use Rattle.waymaker_core.specs.declared.error.Refusal.TheVariants.{Interrupted}
use Rattle.storage.specs.Settings.{unit_up_to, program_unit, read_unit, region_length, allowed, round_up}
use Rattle.storage.specs.Media.{programmed_from, first_programmed, erased, ands, programmed}
use Rattle.integrity.specs.Fcs.{bit_step, bit_steps, octet, octets, fcs, header_check, frame_check}
use Rattle.frame.specs.Bytes.{bytes_le, field_bytes, fields}
use Rattle.frame.specs.Lengths.{body_len, record_len, well_given, payload_fits, payload_len}
use Rattle.frame.specs.Format.{numbers_of, payload_of, checked_header, header_of, covered_of, check_of, frame_of, padding_of, seal_byte, seal_from, body_of}
use Rattle.place.specs.AtOffset.{shape_of, stands}
use Rattle.place.specs.Walk.{walk_over, walk}
use Rattle.journal.specs.Opening.{opened_with}
use Rattle.journal.proofs.Openings.{opens_by_lem}
use Rattle.progress.specs.Phases.{StepLeft, keeps, on_device, is_next, confirmed, under_way}
use Rattle.staging.specs.Stage.{begins, staged}
use Rattle.append.specs.Append.{barred, after_commit, committed}
use Rattle.progress.specs.declared.Progress.TheVariants.{Staged, Confirmed}
use Rattle.claim.specs.Instances.{blank, fired, bodied}
use Rattle.claim.specs.Events.{Large, start}
use Rattle.claim.proofs.Invariant.{opening_is, at_first, sound_of}
use Rattle.foreign.specs.Steps.{Event, barrier, commit, Leads, rests, writes}
use Rattle.counted.specs.Counted.{Anything}
use Rattle.instances.specs.Foreign.{noted, noted_behind, stages_to, goes_through}
use Rattle.instances.specs.Counted.{handed, handed_on, half_way, behind_it, Instances}
use Rattle.instances.proofs.Steps.{page, by_stage, by_barrier, by_commit}

allows : allowed 64 4 1 ≡ true
unfolding allowed region_length program_unit read_unit unit_up_to
allows = refl

-- the opening by the walk without a page
opens_here : (large : List ℕ) → Large large → (opened_with handed 4 1 blank large).opening ≡ Ok handed_on
unfolding erased programmed_from first_programmed shape_of stands walk_over walk
opens_here large h = opening_is 64 4 1 allows handed blank large (sound_of 64 4 1 allows (start 64) (at_first 64 4 1 allows)) h

-- a record of 20 bytes, step by step
module _ (s : List ℕ) where
  abbrev staged_here : StepLeft
  staged_here = staged handed_on fired.«record» fired.free s page

  abbrev barred_here : StepLeft
  barred_here = barred staged_here.out.journal staged_here.region

pub instances : Instances
unfolding erased programmed_from first_programmed programmed ands bit_step bit_steps octet octets fcs header_check frame_check bytes_le field_bytes fields body_len record_len well_given payload_fits payload_len numbers_of payload_of checked_header header_of covered_of check_of frame_of padding_of seal_byte seal_from body_of widths round_up known seq_fits run_scoped has_free one_of free_fits clock_known clock_fits numbers_len allowed region_length program_unit read_unit unit_up_to on_device under_way begins staged is_next confirmed barred after_commit committed
instances =
    let done : StepLeft = committed (barred_here noted).out.journal (staged_here noted).region in
    record {
      opens =
          λ large h.
          opens_by_lem (ap (λ x. record { opening = x; page = (opened_with handed 4 1 blank large).page }) (sym (opens_here large h)));
      under_way =
          by_stage Anything half_way (bodied blank 0 fired) _ handed_on blank fired (staged_here blank) refl
          (by_barrier Anything half_way (bodied blank 0 fired) _ (staged_here blank).out.journal (staged_here blank).region (barred_here blank).out refl
          (by_stage Anything half_way (bodied blank 0 fired) [] half_way (bodied blank 0 fired) fired (keeps Interrupted half_way (bodied blank 0 fired) page) refl
          (rests half_way (bodied blank 0 fired))));
      committed =
          writes handed_on behind_it blank noted noted_behind _ tt
          (by_stage Anything behind_it noted_behind _ handed_on noted fired (staged_here noted) refl
          (by_barrier Anything behind_it noted_behind _ (staged_here noted).out.journal (staged_here noted).region (barred_here noted).out refl
          (by_commit Anything behind_it noted_behind [] (barred_here noted).out.journal (staged_here noted).region done refl
          (rests behind_it noted_behind))));
    }
