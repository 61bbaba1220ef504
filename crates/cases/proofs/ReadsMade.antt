-- How many reads a recovery has made, counted by hand: a table of small regions, and one computed test that the
-- definitions give these numbers.
-- Assumes nothing.
use mathlib.Core.Path.{◌≡◌, refl}
use mathlib.Core.List.{List, [], ◌∷◌, ◌++◌, map}
use Prim.Native.Nat.{ℕ}
use lib.ListN.{replicate}
use Rattle.waymaker_core.specs.Kinds.{one_of, known, run_scoped, has_free, seq_fits, widths, numbers_len, clock_known, clock_fits, plain_record}
use Rattle.integrity.specs.Fcs.{bit_step, bit_steps, octet, octets, fcs, header_check, frame_check}
use Rattle.storage.specs.Settings.{unit_up_to, program_unit, read_unit, region_length, allowed, round_up}
use Rattle.storage.specs.Media.{programmed_from, first_programmed, erased, laid_over}
use Rattle.frame.specs.Bytes.{bytes_le, value_le}
use Rattle.frame.specs.Lengths.{body_len, record_len}
use Rattle.frame.specs.Format.{checked_header, header_of, covered_of, check_of, frame_of, padding_of, seal_byte, seal_from, body_of, record_of, sealed_from, seal_holds}
use Rattle.payload.specs.Payload.{length_fits, record_with, well_formed, body_at}
use Rattle.decode.specs.Decode.{header_at, frame_under, decoded}
use Rattle.place.specs.AtOffset.{settled, judged, shape_of, stands}
use Rattle.place.specs.Walk.{walk_over, walk}
use Rattle.look.specs.Reads.{capacity_of, laid, tail_reads, further, wanted, made, seen_by, paged, reads_at, reads_all}
use Rattle.recovery.specs.declared.next.Ending.TheVariants.{Open}
use Rattle.recovery.specs.Next.{state_at, walk_from, reads_through, before, step, fresh}
use Rattle.finish.specs.Finish.{to_end}
use Rattle.cases.proofs.Numbers.{whole, loose, blank, marked, units}

-- the reads after a first step over a region of n bytes in all, a = 4, with k reads made before it and a page of p bytes
abbrev after_step : ℕ → ℕ → ℕ → List ℕ → ℕ → ℕ
after_step k n r region p =
    (step (state_at (fresh (units n 4 r)) 0 Open k) region (replicate p 0)).out.state.reads

-- and after a run to the end
abbrev after_run : ℕ → List ℕ → ℕ → ℕ
after_run n region p = (to_end (fresh (units n 4 1)) region (replicate p 0)).out.state.reads

-- a number of reads, then as it should be
data Row : Type 0 where
  row : ℕ → ℕ → Row

abbrev given : Row → ℕ
given (row n m) = n

abbrev wished : Row → ℕ
wished (row n m) = m

table : List Row
table =
    -- a header and its record
    row (after_step 0 20 1 whole 20) 2
    -- counted on from what was made before, up to the largest number
    ∷ row (after_step 5 20 1 whole 20) 7
    ∷ row (after_step 18446744073709551614 20 1 whole 20) 18446744073709551615
    -- no byte, and refused before any read: the read unit, the region
    ∷ row (after_step 0 0 1 [] 0) 0
    ∷ row (after_step 0 20 3 whole 20) 0
    ∷ row (after_step 0 21 1 whole 20) 0
    -- a refused read is not made: the header's, the record's
    ∷ row (after_step 0 40 16 (blank 40) 15) 0
    ∷ row (after_step 0 20 1 whole 19) 1
    -- past a skipped record to the next
    ∷ row (after_step 0 40 1 (loose 6 ++ whole) 20) 4
    -- too few bytes for a header, then a tail in one read and in two
    ∷ row (after_step 0 11 1 (blank 11) 20) 1
    ∷ row (after_step 0 12 1 (blank 12) 20) 2
    ∷ row (after_step 0 40 1 (blank 40) 20) 3
    -- a tail is read no further than its first byte that is not erased
    ∷ row (after_step 0 40 1 (marked 13 40) 20) 2
    -- two records and three bytes left over, then twelve
    ∷ row (after_run 43 (whole ++ whole ++ blank 3) 43) 5
    ∷ row (after_run 52 (whole ++ whole ++ blank 12) 52) 6
    ∷ []

-- the whole table, computed
reads : map given table ≡ map wished table
unfolding table one_of known run_scoped has_free seq_fits widths numbers_len clock_known clock_fits plain_record bit_step bit_steps octet octets fcs header_check frame_check unit_up_to program_unit read_unit region_length allowed round_up programmed_from first_programmed erased laid_over bytes_le value_le body_len record_len checked_header header_of covered_of check_of frame_of padding_of seal_byte seal_from body_of record_of sealed_from seal_holds length_fits record_with well_formed body_at header_at frame_under decoded settled judged shape_of stands walk_over walk capacity_of laid tail_reads further wanted made seen_by paged reads_at reads_all walk_from reads_through before step to_end
reads = refl
