-- The rows hold: one computed test of the whole table. Assumes nothing.
use mathlib.Core.Path.{◌≡◌, refl}
use mathlib.Core.List.{map}
use Rattle.waymaker_core.specs.Kinds.{one_of, known, run_scoped, has_free, seq_fits, free_fits, widths, numbers_len, clock_known, clock_fits}
use Rattle.storage.specs.Settings.{unit_up_to, program_unit, read_unit, region_length, allowed, round_up}
use Rattle.storage.specs.Media.{programmed_from, first_programmed, erased, ands, programmed}
use Rattle.integrity.specs.Fcs.{bit_step, bit_steps, octet, octets, fcs, header_check, frame_check}
use Rattle.frame.specs.Bytes.{bytes_le, value_le, field_bytes, fields}
use Rattle.frame.specs.Lengths.{body_len, record_len, well_given, payload_fits, payload_len}
use Rattle.frame.specs.Format.{numbers_of, payload_of, checked_header, header_of, covered_of, check_of, frame_of, padding_of, seal_byte, seal_from, body_of, sealed_from, seal_holds}
use Rattle.payload.specs.Payload.{length_fits, record_with, well_formed, body_at}
use Rattle.decode.specs.Decode.{header_at, frame_under, decoded}
use Rattle.place.specs.AtOffset.{settled, judged, shape_of, stands}
use Rattle.place.specs.Walk.{walk_over, walk}
use Rattle.progress.specs.Phases.{on_device, is_next, confirmed, under_way}
use Rattle.staging.specs.Stage.{as_staged, begins, staged}
use Rattle.append.specs.Append.{barred, after_commit, committed}
use Rattle.claim.specs.Instances.{AllHold}
use Rattle.claim.proofs.Instances.{traced, tried, expected, rows_hold}
use Rattle.instances.specs.Table.{more_rows}

-- the whole table, computed
tried_table : map tried more_rows ≡ map expected more_rows
unfolding traced walk walk_over stands shape_of erased programmed_from first_programmed programmed ands bit_step bit_steps octet octets fcs header_check frame_check bytes_le value_le field_bytes fields body_len record_len well_given payload_fits payload_len numbers_of payload_of checked_header header_of covered_of check_of frame_of padding_of seal_byte seal_from body_of sealed_from seal_holds widths round_up length_fits record_with well_formed body_at header_at frame_under decoded settled judged known seq_fits run_scoped has_free one_of free_fits clock_known clock_fits numbers_len allowed region_length program_unit read_unit unit_up_to as_staged on_device under_way begins staged is_next confirmed barred after_commit committed
tried_table = refl

pub table_holds : AllHold more_rows
table_holds = rows_hold more_rows tried_table
