-- The papers' numbers: for each answer that can be a refusal, inputs that meet it, with number, needed, available and
-- place, and inputs that are not refused, with 0; one computed test that the definitions give them.
-- Assumes nothing.
use Rattle.std.specs.Prelude.{Some, None}
use mathlib.Core.Path.{◌≡◌, refl}
use mathlib.Core.Bool.{false}
use mathlib.Core.List.{List, [], ◌∷◌, ◌++◌, map}
use Prim.Native.Nat.{ℕ, ◌+◌, ◌-◌}
use lib.ListN.{take, drop, replicate}
use Rattle.waymaker_core.specs.declared.«record».Record.{Record}
use Rattle.waymaker_core.specs.Refusals.{Numbered, decode_refusal_of, refusal_of}
use Rattle.waymaker_core.specs.Kinds.{one_of, known, run_scoped, has_free, seq_fits, free_fits, widths, numbers_len, clock_known, clock_fits, plain_record}
use Rattle.integrity.specs.Fcs.{bit_step, bit_steps, octet, octets, fcs, header_check, frame_check}
use Rattle.storage.specs.declared.geometry.Geometry.{Geometry}
use Rattle.storage.specs.Settings.{unit_up_to, program_unit, read_unit, region_length, allowed, settings, round_up}
use Rattle.storage.specs.Media.{programmed_from, first_programmed, erased, ands, programmed, laid_over}
use Rattle.frame.specs.Bytes.{bytes_le, value_le, field_bytes, fields}
use Rattle.frame.specs.Lengths.{body_len, record_len, well_given, payload_fits, payload_len, with_unit, encoded_len_for, encoded_len}
use Rattle.frame.specs.Format.{numbers_of, payload_of, checked_header, header_of, covered_of, check_of, frame_of, padding_of, seal_byte, seal_from, body_of, record_of, sealed_from, seal_holds}
use Rattle.encode.specs.Encode.{overwritten, encoded_bytes, encoded}
use Rattle.payload.specs.Payload.{length_fits, record_with, well_formed, body_at}
use Rattle.decode.specs.Decode.{header_at, frame_len_of, frame_under, decoded}
use Rattle.place.specs.AtOffset.{stand_refusal, settled, judged, shape_of, stands}
use Rattle.place.specs.Walk.{walk_over, walk}
use Rattle.scan.specs.Scan.{step_refusal, scanned, step_of}
use Rattle.look.specs.Reads.{capacity_of, laid, tail_reads, further, wanted, made, seen_by, paged, reads_at, reads_all}
use Rattle.recovery.specs.Next.{walk_from, reads_through, before, step, fresh}
use Rattle.finish.specs.Finish.{to_end, founds}
use Rattle.find.specs.Find.{carries, kept, latest, find_in}
use Rattle.counts.specs.declared.WriteAmplification.{WriteAmplification}
use Rattle.counts.specs.Counts.{counts, unwritten, largest_handed}
use Rattle.journal.specs.declared.Journal.{Journal}
use Rattle.journal.specs.Opening.{idle, opened, opened_with}
use Rattle.progress.specs.Phases.{StepLeft, on_device, is_next, confirmed, under_way}
use Rattle.staging.specs.Stage.{as_staged, begins, staged}
use Rattle.append.specs.Append.{barred, after_commit, committed}

-- a timer fired, sequence 7
abbrev fired : Record
fired = plain_record (record { 0 = 6 }) (record { 0 = 7 })

-- a timer scheduled with clock kind 0
abbrev clockless : Record
clockless = plain_record (record { 0 = 5 }) (record { 0 = 7 })

-- the first as it is written with a = 4, and as it is before its commit
abbrev pub whole : List ℕ
whole = record_of 4 6 7 []

abbrev pub loose : ℕ → List ℕ
loose k = body_of 4 k 0 [] ++ replicate 4 0xff

-- a header of version 2 with its check
abbrev second : List ℕ
second = let h : List ℕ = 0x57 ∷ 0x4d ∷ 2 ∷ drop 3 (checked_header 6 7 0) in h ++ bytes_le 2 (header_check h)

abbrev pub units : ℕ → ℕ → ℕ → Geometry
units n a r = record { bytes = n; program_size = a; read_size = r }

abbrev pub blank : ℕ → List ℕ
blank n = replicate n 0xff

-- a region of n bytes, all erased but byte i
abbrev pub marked : ℕ → ℕ → List ℕ
marked i n = blank i ++ 0xfe ∷ blank (n - (i + 1))

-- a record's body and a slot that holds no seal, in which byte i alone is written
abbrev unsealed : List ℕ → ℕ → List ℕ
unsealed s i = s ++ marked i 4

-- the refusal of a recovery's first step, of a scan's from an offset, of an opening, of a search for sequence 7
abbrev at_step : Geometry → List ℕ → ℕ → Numbered
at_step g region page = refusal_of (step (fresh g) region (replicate page 0)).out.answer

abbrev at_scan : ℕ → ℕ → List ℕ → Numbered
at_scan a o j = step_refusal (step_of (record { align = a; offset = o; stopped = false }) j)

abbrev at_open : ℕ → ℕ → List ℕ → ℕ → Numbered
at_open a r region page = refusal_of (opened a r region (replicate page 0)).opening

-- the same of an opening from counts
abbrev at_open_with : WriteAmplification → ℕ → ℕ → List ℕ → ℕ → Numbered
at_open_with w a r region page = refusal_of (opened_with w a r region (replicate page 0)).opening

abbrev at_find : ℕ → ℕ → List ℕ → ℕ → Numbered
at_find a r region page = refusal_of (find_in 7 a r region (replicate page 0)).finding

abbrev at_append : StepLeft → Numbered
at_append x = refusal_of x.out.progress

-- a ready journal that has written nothing
abbrev ready : Geometry → ℕ → Journal
ready g o = idle g o unwritten

-- stage the first record over a blank region of n bytes, with a = 4
abbrev begun : ℕ → StepLeft
begun n = staged (ready (units n 4 1) 0) fired [] (blank n) (replicate 20 0)

abbrev firm : StepLeft
firm = barred (begun 20).out.journal (begun 20).region

-- an answer's refusal, then as it should be: its number, needed and available with no place, or its number and its place
data Row : Type 0 where
  gives : Numbered → ℕ → ℕ → ℕ → Row
  marks : Numbered → ℕ → ℕ → Row

table : List Row
table =
    gives (refusal_of (settings 16777216 256 4096)) 0 0 0
    ∷ gives (refusal_of (settings 16777217 256 4096)) 1 0 0
    ∷ gives (refusal_of (encoded_len_for 256 65535)) 0 0 0
    ∷ gives (refusal_of (encoded_len_for 3 0)) 1 0 0
    ∷ gives (refusal_of (encoded_len_for 256 65536)) 5 0 0
    ∷ gives (refusal_of (payload_len clockless 0)) 8 0 0
    ∷ gives (refusal_of (payload_len fired 1)) 15 0 0
    ∷ gives (refusal_of (encoded 4 fired [] (replicate 19 0)).answer) 5 0 0
    ∷ gives (decode_refusal_of (frame_len_of whole)) 0 0 0
    ∷ gives (decode_refusal_of (frame_len_of (take 11 whole))) 4 0 0
    ∷ gives (decode_refusal_of (frame_len_of second)) 7 0 0
    ∷ gives (decode_refusal_of (frame_len_of (replicate 12 0))) 9 0 0
    ∷ gives (decode_refusal_of (body_at 6 7 [])) 0 0 0
    ∷ gives (decode_refusal_of (body_at 6 7 (0 ∷ []))) 8 0 0
    ∷ gives (decode_refusal_of (decoded whole)) 0 0 0
    ∷ gives (decode_refusal_of (decoded (take 15 whole))) 4 0 0
    ∷ gives (decode_refusal_of (decoded second)) 7 0 0
    ∷ gives (decode_refusal_of (decoded (record_of 4 7 1 []))) 8 0 0
    ∷ gives (decode_refusal_of (decoded (take 12 whole ++ replicate 8 0))) 9 0 0
    ∷ gives (stand_refusal (stands 4 whole)) 0 0 0
    ∷ gives (stand_refusal (stands 4 (loose 6))) 0 0 0
    ∷ gives (stand_refusal (stands 4 (blank 20))) 0 0 0
    ∷ gives (stand_refusal (stands 4 (take 19 whole))) 4 0 0
    ∷ gives (stand_refusal (stands 4 (record_of 4 10 0 []))) 6 0 0
    ∷ gives (stand_refusal (stands 4 (loose 7))) 10 0 0
    ∷ gives (stand_refusal (stands 4 (unsealed (body_of 4 2 0 (replicate 8 0)) 0))) 10 0 0
    ∷ marks (stand_refusal (stands 4 (unsealed (body_of 4 6 0 []) 0))) 10 16
    ∷ marks (stand_refusal (stands 4 (unsealed (body_of 4 6 0 []) 3))) 10 19
    ∷ gives (stand_refusal (stands 4 (marked 10 11))) 4 0 0
    ∷ marks (stand_refusal (stands 4 (marked 12 13))) 9 12
    ∷ gives (stand_refusal (stands 4 (marked 11 13))) 9 0 0
    ∷ gives (at_step (units 20 4 1) whole 20) 0 0 0
    ∷ gives (at_step (units 0 4 1) [] 0) 0 0 0
    ∷ gives (at_step (units 20 3 1) whole 20) 1 0 0
    ∷ gives (at_step (units 21 4 1) whole 20) 2 0 0
    ∷ gives (at_step (units 40 4 16) (blank 40) 15) 3 16 0
    ∷ gives (at_step (units 20 4 1) whole 19) 3 20 0
    ∷ gives (at_step (units 20 4 1) (loose 7) 20) 10 0 0
    ∷ marks (at_step (units 20 4 1) (unsealed (body_of 4 6 0 []) 1) 20) 10 17
    ∷ marks (at_step (units 40 4 1) (loose 6 ++ unsealed (body_of 4 6 0 []) 1) 20) 10 37
    ∷ marks (at_step (units 40 4 1) (loose 6 ++ marked 13 20) 20) 9 33
    ∷ marks (at_step (units 60 4 1) (loose 6 ++ marked 39 40) 20) 9 59
    ∷ gives (at_scan 4 0 whole) 0 0 0
    ∷ gives (at_scan 4 20 whole) 0 0 0
    ∷ gives (at_scan 3 0 whole) 1 0 0
    ∷ gives (at_scan 4 0 (take 19 whole)) 4 0 0
    ∷ marks (at_scan 4 0 (loose 6 ++ unsealed (body_of 4 6 0 []) 1)) 10 37
    ∷ marks (at_scan 4 0 (loose 6 ++ marked 13 20)) 9 33
    ∷ gives (at_open 4 1 whole 20) 0 0 0
    ∷ gives (at_open 3 1 whole 20) 1 0 0
    ∷ gives (at_open 4 16 (blank 40) 15) 3 16 0
    ∷ gives (at_open 4 1 (loose 7) 20) 11 0 0
    ∷ gives (at_open_with (counts largest_handed largest_handed largest_handed largest_handed largest_handed) 4 1 whole 20) 0 0 0
    ∷ gives (at_open_with (counts (largest_handed + 1) 0 0 0 0) 4 1 whole 20) 24 0 0
    ∷ gives (at_open_with (counts 0 (largest_handed + 1) 0 0 0) 4 1 whole 20) 24 0 0
    ∷ gives (at_open_with (counts 0 0 (largest_handed + 1) 0 0) 4 1 whole 20) 24 0 0
    ∷ gives (at_open_with (counts 0 0 0 (largest_handed + 1) 0) 4 1 whole 20) 24 0 0
    ∷ gives (at_open_with (counts 0 0 0 0 (largest_handed + 1)) 4 1 whole 20) 24 0 0
    ∷ gives (at_open_with (counts 0 0 0 0 (largest_handed + 1)) 3 1 whole 20) 1 0 0
    ∷ gives (at_open_with (counts 0 0 0 0 (largest_handed + 1)) 4 16 (blank 40) 15) 24 0 0
    ∷ gives (at_find 4 1 whole 20) 0 0 0
    ∷ gives (at_find 4 1 [] 0) 0 0 0
    ∷ gives (at_find 3 1 whole 20) 1 0 0
    ∷ gives (at_find 4 16 (blank 40) 15) 3 16 0
    ∷ gives (at_append (begun 20)) 0 0 0
    ∷ gives (at_append (staged (ready (units 20 3 1) 0) fired [] (blank 20) [])) 1 0 0
    ∷ gives (at_append (staged (ready (units 21 4 1) 0) fired [] (blank 20) [])) 2 0 0
    ∷ gives (at_append (staged (begun 20).out.journal fired [] (blank 20) [])) 12 0 0
    ∷ gives (at_append (staged (ready (units 20 4 1) 0) fired (0 ∷ []) (blank 20) [])) 15 0 0
    ∷ gives (at_append (staged (ready (units 20 4 1) 0) clockless [] (blank 20) [])) 5 0 0
    ∷ gives (at_append (begun 19)) 13 20 19
    ∷ gives (at_append (staged (ready (units 19 4 1) 0) fired [] (marked 0 19) [])) 13 20 19
    ∷ marks (at_append (staged (ready (units 20 4 1) 0) fired [] (marked 0 20) [])) 18 0
    ∷ marks (at_append (staged (ready (units 20 4 1) 0) fired [] (marked 19 20) (replicate 20 0))) 18 19
    ∷ marks (at_append (staged (ready (units 40 4 1) 20) fired [] (marked 39 40) (replicate 20 0))) 18 39
    ∷ gives (at_append (staged (ready (units 21 4 1) 0) fired [] (marked 20 21) (replicate 20 0))) 0 0 0
    ∷ gives (at_append (staged (ready (units 20 4 1) 0) fired [] (blank 20) [])) 5 0 0
    ∷ gives (at_append firm) 0 0 0
    ∷ gives (at_append (barred (ready (units 20 4 1) 0) (blank 20))) 14 0 0
    ∷ gives (at_append (committed firm.out.journal firm.region)) 0 0 0
    ∷ gives (at_append (committed (begun 20).out.journal (begun 20).region)) 14 0 0
    ∷ []

abbrev given : Row → Numbered
given (gives x n w m) = x
given (marks x n i) = x

abbrev wished : Row → Numbered
wished (gives x n w m) = record { number = n; needed = w; available = m; place = None }
wished (marks x n i) = record { number = n; needed = 0; available = 0; place = Some i }

-- the whole table, computed
numbers : map given table ≡ map wished table
unfolding table one_of known run_scoped has_free seq_fits free_fits widths numbers_len clock_known clock_fits plain_record bit_step bit_steps octet octets fcs header_check frame_check unit_up_to program_unit read_unit region_length allowed settings round_up programmed_from first_programmed erased ands programmed laid_over bytes_le value_le field_bytes fields body_len record_len well_given payload_fits payload_len with_unit encoded_len_for encoded_len numbers_of payload_of checked_header header_of covered_of check_of frame_of padding_of seal_byte seal_from body_of record_of sealed_from seal_holds overwritten encoded_bytes encoded length_fits record_with well_formed body_at header_at frame_len_of frame_under decoded settled judged shape_of stands walk_over walk scanned step_of capacity_of laid tail_reads further wanted made seen_by paged reads_at reads_all walk_from reads_through before step to_end founds carries kept latest find_in opened_with on_device as_staged under_way begins staged is_next confirmed barred after_commit committed
numbers = refl
