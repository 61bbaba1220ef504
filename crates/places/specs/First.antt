-- Which byte the place in a refusal is: the first that is not 0xFF of those that were to be erased. No refusal without
-- such a byte has a place, and only stage refuses with 18.
-- a is the program unit, o the offset where reading ended, i the place; j is a journal or, in scan, the slice.
use Rattle.std.specs.Prelude.{◌≡◌, true, List, ℕ, ◌+◌, ◌≤◌, ◌<◌, length, drop, get_or, Ok, Err, Result}
use Rattle.waymaker_core.specs.declared.error.Span.TheVariants.{Tail, Behind, Ahead}
use Rattle.waymaker_core.specs.declared.error.Refusal.{Refusal}
use Rattle.waymaker_core.specs.declared.error.Refusal.TheVariants.{NotErased}
use Rattle.waymaker_core.specs.declared.«record».Record.{Record}
use Rattle.frame.specs.Lengths.{record_len, payload_len}
use Rattle.decode.specs.declared.Frame.{Frame as FrameOf}
use Rattle.decode.specs.Decode.{decoded}
use Rattle.place.specs.AtOffset.{redeliverable}
use Rattle.recovery.specs.declared.next.Recovery.{Recovery}
use Rattle.recovery.specs.Next.{step}
use Rattle.scan.specs.declared.Scan.{Scan}
use Rattle.scan.specs.Scan.{step_of}
use Rattle.journal.specs.declared.Journal.{Journal}
use Rattle.progress.specs.Phases.{unit_of}
use Rattle.staging.specs.Stage.{staged}

-- byte i is the first of a list's bytes from .. to that is not 0xFF
pub record IsFirst (s : List ℕ) (from to i : ℕ) : Type 0 where
  pub least : from ≤ i
  pub most : i < to
  pub inside : i < length s
  pub programmed : get_or s i 255 ≡ 255 → ⊥
  pub before : (k : ℕ) → from ≤ k → k < i → get_or s k 255 ≡ 255

-- a frame of kind 3, 4 or 6 stands at o, and byte i is the first behind it, up to its record's end
pub record IsBehind (a : ℕ) (region : List ℕ) (o i : ℕ) : Type 0 where
  pub frame : FrameOf
  pub reads : decoded (drop o region) ≡ Ok frame
  pub kind : redeliverable frame.decoded ≡ true
  pub first : IsFirst region (o + frame.frame_len) (o + record_len a frame.payload.len) i

-- byte i is the first from a journal's offset on, up to the end of the record that is given
pub record IsAhead (j : Journal) (x : Record) (free region : List ℕ) (i : ℕ) : Type 0 where
  pub size : ℕ
  pub payload : payload_len x (length free) ≡ Ok size
  pub first : IsFirst region j.offset (j.offset + record_len (unit_of j) size) i

-- what a refusal's place is, given what it is for each of the three spans
abbrev pub PlaceIn : (ℕ → Type 0) → (ℕ → Type 0) → (ℕ → Type 0) → Refusal → Type 0
PlaceIn tail behind ahead (NotErased Tail i) = tail i
PlaceIn tail behind ahead (NotErased Behind i) = behind i
PlaceIn tail behind ahead (NotErased Ahead i) = ahead i
PlaceIn tail behind ahead e = Unit {0}

-- the same of an answer
abbrev pub Placed : {A : Type 0} → (Refusal → Type 0) → Result A Refusal → Type 0
Placed place (Ok x) = Unit {0}
Placed place (Err e) = place e

-- where reading ends at o
abbrev pub Read : ℕ → List ℕ → ℕ → Refusal → Type 0
Read a region o = PlaceIn (IsFirst region o (length region)) (IsBehind a region o) (λ i. ⊥)

-- where a record is staged
abbrev pub Stages : Journal → Record → List ℕ → List ℕ → Refusal → Type 0
Stages j x free region = PlaceIn (λ i. ⊥) (λ i. ⊥) (IsAhead j x free region)

-- the theorem, proved in `proofs/First.antt`, for every state, region, slice and page
pub record Theorem : Type 0 where
  pub recovery : (s : Recovery) (region page : List ℕ)
      → Placed (Read s.geometry.program_size region (step s region page).out.state.offset)
      (step s region page).out.answer
  pub scan : (s : Scan) (j : List ℕ) → Placed (Read s.align j (step_of s j).state.offset) (step_of s j).answer
  pub stage : (j : Journal) (x : Record) (free region page : List ℕ)
      → Placed (Stages j x free region) (staged j x free region page).out.progress
