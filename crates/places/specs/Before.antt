-- What recovery, scan and stage were before a refusal carried a place, and the theorem that nothing else has changed:
-- without their places all answers are those, and state, region and page are the same.
-- a is the program unit, r the read unit, cap the page's capacity, t the bytes from an offset to the region's end, s
-- the bytes of a record, f its frame; j is a journal or, in scan, the slice.
use Rattle.std.specs.Prelude.{◌≡◌, Bool, cond, not, ◌&&◌, List, ℕ, ◌-◌, ltb, eqb, length, take, drop}
use Rattle.std.specs.Prelude.{Ok, Err, None, Result}
use Rattle.waymaker_core.specs.declared.error.DecodeError.{DecodeError}
use Rattle.waymaker_core.specs.declared.error.DecodeError.TheVariants.{Truncated, IntegrityFailed, LengthOutOfBounds}
use Rattle.waymaker_core.specs.declared.error.DecodeError.TheVariants.{Unsealed}
use Rattle.waymaker_core.specs.declared.error.Span.TheVariants.{Tail, Behind, Ahead}
use Rattle.waymaker_core.specs.declared.error.Refusal.{Refusal}
use Rattle.waymaker_core.specs.declared.error.Refusal.TheVariants.{Settings, Decode}
use Rattle.waymaker_core.specs.declared.error.Refusal.TheVariants.{NotErased, Interrupted, NoRoom}
use Rattle.waymaker_core.specs.declared.«record».Record.{Record}
use Rattle.waymaker_core.specs.Refusals.{numbered}
use Rattle.storage.specs.Settings.{region_length, program_unit}
use Rattle.storage.specs.Media.{erased, read_at}
use Rattle.frame.specs.Lengths.{Size, record_len, payload_len}
use Rattle.frame.specs.Format.{seal_holds}
use Rattle.decode.specs.declared.Frame.{Frame as FrameOf}
use Rattle.decode.specs.Decode.{Decoding, decoded}
use Rattle.place.specs.declared.Stop.TheVariants.{End, Bad, NoSeal}
use Rattle.place.specs.declared.Stand.{Stand}
use Rattle.place.specs.declared.Stand.TheVariants.{Passed, Over}
use Rattle.place.specs.AtOffset.{redeliverable, under_seal, Shape, Short, Blank, BadHeader, Overlong, Whole, shape_of}
use Rattle.place.specs.Walk.{Look, walk, first_step}
use Rattle.look.specs.Reads.{capacity_of, wanted, seen_by}
use Rattle.recovery.specs.declared.next.Recovery.{Recovery}
use Rattle.recovery.specs.Next.{before, Done, with_page, step_in, step}
use Rattle.scan.specs.declared.Scan.{Scan}
use Rattle.scan.specs.declared.ScanStepped.{ScanStepped}
use Rattle.scan.specs.Scan.{answer_at, step_of}
use Rattle.journal.specs.declared.Journal.{Journal}
use Rattle.progress.specs.Phases.{unit_of, StepLeft, keeps, on_device}
use Rattle.staging.specs.Stage.{room_of, as_staged, begins, staged}

-- # As they were

-- erased to the region's end is a clean end, else the refusal
abbrev pub clean_or : DecodeError → Bool → Stand
clean_or e b = Over (cond b End (Bad e))

-- where a record's slot holds no seal, kinds 3, 4 and 6 are skipped if all behind the frame is 0xFF
abbrev pub was_settled : ℕ → FrameOf → List ℕ → Stand
was_settled a f s =
    cond (seal_holds f.frame_crc (drop (length s - a) s)) (under_seal f.decoded f (length s))
    (cond (redeliverable f.decoded && erased (drop f.frame_len s)) (Passed (length s)) (Over NoSeal))

-- by what decode says of the record
abbrev pub was_judged : ℕ → List ℕ → Decoding → Stand
was_judged a s (Ok f) = was_settled a f s
was_judged a s (Err e) = Over (Bad e)

-- what bytes of a shape come to
abbrev pub stood_by : ℕ → List ℕ → Shape → Stand
stood_by a t Short = clean_or Truncated (erased t)
stood_by a t Blank = clean_or IntegrityFailed (erased t)
stood_by a t (BadHeader e) = Over (Bad e)
stood_by a t Overlong = Over (Bad Truncated)
stood_by a t (Whole n) = was_judged a (take n t) (decoded (take n t))

-- what an offset comes to through a page
abbrev pub was_paged : ℕ → ℕ → ℕ → Look
was_paged a r cap o t = seen_by cap (wanted a r cap o t) (stood_by a t (shape_of a t))

-- a step of recovery
abbrev pub recovered : Recovery → List ℕ → List ℕ → Done
recovered s region page =
    let r = s.geometry.read_size in
    before s region (with_page page)
    (step_in s region page (walk (was_paged s.geometry.program_size r (capacity_of (length page) r)) region s.offset))

-- a record for scan, by its frame
abbrev pub was_scanned : ℕ → List ℕ → Decoding → Stand
was_scanned a t (Err e) = Over (Bad e)
was_scanned a t (Ok f) =
    let n = record_len a f.payload.len in
    cond (ltb (length t) n) (Over (Bad Truncated)) (was_settled a f (take n t))

-- what an offset comes to for scan
abbrev pub scan_looked : ℕ → Look
scan_looked a o t =
    cond (ltb (length t) 12) (clean_or Truncated (erased t))
    (cond (erased (take 12 t)) (clean_or IntegrityFailed (erased t)) (was_scanned a t (decoded t)))

-- a step of scan
abbrev pub scan_stepped : Scan → List ℕ → ScanStepped
scan_stepped s j =
    cond s.stopped (record { state = s; answer = Ok None })
    (cond (not (region_length (length j) && program_unit s.align)) (record { state = s; answer = Err Settings })
    (cond (ltb (length j) s.offset) (record { state = s; answer = Ok None })
    (answer_at s.align (first_step (walk (scan_looked s.align) j s.offset)))))

-- stage with the payload's length, where 0 stands for the place
abbrev pub was_staged_with : Journal → Record → List ℕ → List ℕ → List ℕ → Size → StepLeft
was_staged_with j x free region page (Err e) = keeps (as_staged e) j region page
was_staged_with j x free region page (Ok p) =
    let n = record_len (unit_of j) p in
    cond (ltb (room_of j) n) (keeps (NoRoom n (room_of j)) j region page)
    (cond (not (erased (read_at region j.offset n))) (keeps (NotErased Ahead 0) j region page)
    (cond (ltb (length page) n) (keeps (Decode LengthOutOfBounds) j region page) (begins j x free p region page)))

-- stage
abbrev pub was_staged : Journal → Record → List ℕ → List ℕ → List ℕ → StepLeft
was_staged j x free region page =
    on_device j region page
    (cond (not (eqb j.phase 0)) (keeps Interrupted j region page)
    (was_staged_with j x free region page (payload_len x (length free))))

-- # Without a place

-- a refusal without its place: that of before; stage's has 0 for it
abbrev pub without : Refusal → Refusal
without (NotErased Tail i) = Decode IntegrityFailed
without (NotErased Behind i) = Decode Unsealed
without (NotErased Ahead i) = NotErased Ahead 0
without e = e

-- the same of an answer
abbrev pub answer_without : {A : Type 0} → Result A Refusal → Result A Refusal
answer_without (Ok x) = Ok x
answer_without (Err e) = Err (without e)

-- the same of a step of recovery, of scan and of an append
abbrev pub done_without : Done → Done
done_without d =
    record { out = record { state = d.out.state; answer = answer_without d.out.answer }; page = d.page }

abbrev pub scan_without : ScanStepped → ScanStepped
scan_without x = record { state = x.state; answer = answer_without x.answer }

abbrev pub left_without : StepLeft → StepLeft
left_without l =
    record {
      out = record { journal = l.out.journal; progress = answer_without l.out.progress };
      region = l.region;
      page = l.page;
    }

-- # The theorem

-- proved in `proofs/Before.antt`, for every state, region, slice and page
pub record Theorem : Type 0 where
  pub recovery : (s : Recovery) (region page : List ℕ)
      → done_without (step s region page) ≡ recovered s region page
  pub scan : (s : Scan) (j : List ℕ) → scan_without (step_of s j) ≡ scan_stepped s j
  pub stage : (j : Journal) (x : Record) (free region page : List ℕ)
      → left_without (staged j x free region page) ≡ was_staged j x free region page
  -- a refusal without its place has the same number and the same values
  pub number : (e : Refusal) → (numbered (without e)).number ≡ (numbered e).number
  pub needed : (e : Refusal) → (numbered (without e)).needed ≡ (numbered e).needed
  pub available : (e : Refusal) → (numbered (without e)).available ≡ (numbered e).available
