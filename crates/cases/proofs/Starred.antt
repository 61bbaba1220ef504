-- Document 01's starred cases: a table of inputs, a table of results, and one computed test that the definitions
-- give the one for the other. A refusal is given by its number and values, all 0 where there is none, and its place.
-- Assumes nothing.
use Rattle.std.specs.Prelude.{Ok, Err, Some}
use mathlib.Core.Path.{◌≡◌, refl}
use mathlib.Core.List.{List, [], ◌∷◌, ◌++◌, map}
use Prim.Native.Nat.{ℕ}
use lib.ListN.{length, replicate}
use Rattle.waymaker_core.specs.Refusals.{Numbered, bare, no_refusal, refusal_of}
use Rattle.storage.specs.Settings.{unit_up_to, program_unit, read_unit, region_length, allowed, round_up}
use Rattle.storage.specs.Media.{programmed_from, erased, laid_over}
use Rattle.frame.specs.Lengths.{Size, body_len, record_len, payload_fits, with_unit, encoded_len_for}
use Rattle.frame.specs.Format.{seal_byte, seal_from, seal_of}
use Rattle.place.specs.AtOffset.{shape_of, stands}
use Rattle.place.specs.Walk.{walk_over, walk}
use Rattle.recovery.specs.declared.next.Ending.{Ending}
use Rattle.recovery.specs.declared.next.Ending.TheVariants.{Clean, Damaged}
use Rattle.recovery.specs.declared.next.Stepped.{Stepped}
use Rattle.look.specs.Reads.{capacity_of, laid, tail_reads, further, wanted, made, seen_by, paged, reads_at, reads_all}
use Rattle.recovery.specs.Next.{walk_from, reads_through, before, step, fresh}

pub data Case : Type 0 where
  -- the record length for a payload's length, with a program unit
  record_for : ℕ → ℕ → Case
  -- the seal of a check, in a slot of one program unit
  seal_for : ℕ → ℕ → Case
  -- a recovery's first step over a region, with a = 4, r = 1 and a page of 12 bytes
  recovery : List ℕ → Case

pub data Result : Type 0 where
  -- a length, 0 where it is refused, and the refusal
  sized : ℕ → Numbered → Result
  slot : List ℕ → Result
  -- the ending, its offset, and the refusal
  ended : Ending → ℕ → Numbered → Result

abbrev pub length_in : Size → ℕ
length_in (Ok n) = n
length_in (Err e) = 0

abbrev pub on_size : Size → Result
on_size z = sized (length_in z) (refusal_of z)

abbrev pub on_step : Stepped → Result
on_step x = ended x.state.ending x.state.offset (refusal_of x.answer)

-- the first step over a region of its own length
abbrev pub first_step : List ℕ → Stepped
first_step region =
    (step (fresh (record { bytes = length region; program_size = 4; read_size = 1 })) region (replicate 12 0)).out

abbrev pub tried : Case → Result
tried (record_for p a) = on_size (encoded_len_for a p)
tried (seal_for c a) = slot (seal_of a c)
tried (recovery region) = on_step (first_step region)

pub inputs : List Case
inputs =
    record_for 0 1
    ∷ record_for 0 4
    ∷ record_for 0 256
    ∷ record_for 1 4
    ∷ record_for 65535 256
    ∷ record_for 65536 256
    ∷ seal_for 0x04030281 8
    ∷ seal_for 0xffffffff 2
    ∷ recovery []
    ∷ recovery (replicate 11 0xff)
    ∷ recovery (replicate 10 0xff ++ (0x00 ∷ []))
    ∷ recovery (replicate 12 0xff)
    ∷ recovery (replicate 12 0xff ++ (0x00 ∷ []))
    ∷ []

abbrev none : Numbered
none = no_refusal

pub results : List Result
results =
    sized 17 none
    ∷ sized 20 none
    ∷ sized 512 none
    ∷ sized 24 none
    ∷ sized 66048 none
    ∷ sized 0 (bare 5)
    ∷ slot (0x01 ∷ 0x02 ∷ 0x03 ∷ 0x04 ∷ 0x01 ∷ 0x02 ∷ 0x03 ∷ 0x04 ∷ [])
    ∷ slot (0x7f ∷ 0x7f ∷ [])
    ∷ ended Clean 0 none
    ∷ ended Clean 0 none
    ∷ ended Damaged 0 (bare 4)
    ∷ ended Clean 0 none
    ∷ ended Damaged 0 (record { number = 9; needed = 0; available = 0; place = Some 12 })
    ∷ []

pub starred : map tried inputs ≡ results
unfolding unit_up_to program_unit round_up body_len record_len payload_fits with_unit encoded_len_for seal_byte seal_from read_unit region_length allowed programmed_from erased laid_over shape_of stands walk_over walk capacity_of laid tail_reads further wanted made seen_by paged reads_at reads_all walk_from reads_through before step inputs results
starred = refl
