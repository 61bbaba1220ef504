-- A fifth theorem: how many reads a recovery makes at most, by the region's length and the program unit alone, and that
-- it makes exactly as many over the region that `costliest` writes.
-- a is the program unit, n the region's length, m the bytes left over in it. In document 02 s is `shortest`, t
-- `left_over`.
use Rattle.std.specs.Prelude.{◌≡◌, cond, List, ℕ, ◌+◌, ◌*◌, ◌/◌, ◌%◌, ◌≤◌, ltb, eqb, length, Ok}
use Rattle.storage.specs.declared.geometry.Geometry.{Geometry}
use Rattle.look.specs.Reads.{capacity_of}
use Rattle.recovery.specs.declared.next.Stepped.{Stepped}
use Rattle.recovery.specs.Next.{fresh}
use Rattle.finish.specs.Finish.{Finished}
use Rattle.costliest.specs.Written.{shortest, Writes}

-- the reads for m bytes that take no further record: none, one where they are too few for a header, else two
unfoldable pub left_over : ℕ → ℕ
left_over m = cond (eqb m 0) 0 (cond (ltb m 12) 1 2)

-- two reads for each record that would fit if all were as short as can be, and those for what is left over
unfoldable pub most_reads : ℕ → ℕ → ℕ
most_reads a n = 2 * (n / shortest a) + left_over (n % shortest a)

-- a recovery of a region that is run to its end, through a page whose capacity is at least the region's length; out is
-- its last step
pub record Run (g : Geometry) (region : List ℕ) (out : Stepped) : Type 0 where
  pub page : List ℕ
  pub page' : List ℕ
  pub run : Finished (fresh g) region page out page'
  pub covers : length region ≤ capacity_of (length page) g.read_size

-- the theorem, proved in `proofs/Costs.antt`
pub record Theorem : Type 0 where
  -- no recovery has made more reads, whatever stands in the region
  pub at_most : (g : Geometry) (region : List ℕ) (out : Stepped) → Run g region out
      → out.state.reads ≤ most_reads g.program_size (length region)
  -- and over what `costliest` writes it has made as many
  pub exactly : (g : Geometry) (held region : List ℕ) (out : Stepped)
      → Writes g.program_size g.read_size held (Ok tt) region → g.bytes ≡ length held → Run g region out
      → out.state.reads ≡ most_reads g.program_size (length held)
