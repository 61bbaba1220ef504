-- The instances of the theorem on what a recovery costs hold, computed.
-- Assumes nothing.
use mathlib.Core.Path.{refl}
use lib.ListN.{replicate}
use native.Mathlib.Omega.{arith}
use Rattle.waymaker_core.specs.Kinds.{one_of, known, run_scoped, has_free, seq_fits, widths, numbers_len, clock_known, clock_fits, plain_record}
use Rattle.integrity.specs.Fcs.{bit_step, bit_steps, octet, octets, fcs, header_check, frame_check}
use Rattle.storage.specs.Settings.{unit_up_to, program_unit, read_unit, region_length, allowed, round_up}
use Rattle.storage.specs.Media.{programmed_from, first_programmed, erased, laid_over}
use Rattle.frame.specs.Bytes.{bytes_le, value_le}
use Rattle.frame.specs.Lengths.{body_len, record_len}
use Rattle.frame.specs.Format.{checked_header, header_of, covered_of, check_of, frame_of, padding_of, seal_byte, seal_from, body_of, record_of, sealed_from, seal_holds}
use Rattle.payload.specs.Payload.{length_fits, record_with, well_formed, body_at}
use Rattle.decode.specs.Decode.{header_at, frame_under, decoded}
use Rattle.place.specs.AtOffset.{settled, judged, shape_of, stands}
use Rattle.place.specs.Walk.{walk_over, walk}
use Rattle.look.specs.Reads.{capacity_of, laid, tail_reads, further, wanted, made, seen_by, paged, reads_at, reads_all}
use Rattle.recovery.specs.Next.{walk_from, reads_through, before}
use Rattle.finish.specs.Finish.{to_end}
use Rattle.finish.proofs.Steps.{finishes}
use Rattle.storage.specs.Settings.{settings}
use Rattle.claim.specs.Instances.{blank}
use Rattle.costliest.specs.Written.{shortest, shortest_record, copies, costliest_region, written}
use Rattle.costs.specs.Costs.{left_over, most_reads}
use Rattle.instances.specs.Costs.{full, recovered, Instances}

pub instances : Instances
unfolding one_of known run_scoped has_free seq_fits widths numbers_len clock_known clock_fits plain_record bit_step bit_steps octet octets fcs header_check frame_check unit_up_to program_unit read_unit region_length allowed round_up programmed_from first_programmed erased laid_over bytes_le value_le body_len record_len checked_header header_of covered_of check_of frame_of padding_of seal_byte seal_from body_of record_of sealed_from seal_holds length_fits record_with well_formed body_at header_at frame_under decoded settled judged shape_of stands walk_over walk capacity_of laid tail_reads further wanted made seen_by paged reads_at reads_all walk_from reads_through before to_end settings shortest shortest_record copies costliest_region written left_over most_reads
instances = record {
  bound = refl;
  writes = record { all = refl; number = refl };
  runs = record { page = replicate 64 0; page' = (recovered full).page; run = finishes refl; covers = omega arith };
  costs = refl;
  runs_erased = record { page = replicate 64 0; page' = (recovered blank).page; run = finishes refl; covers = omega arith };
  costs_less = refl;
}
