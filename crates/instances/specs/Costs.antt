-- Instances of the theorem on what a recovery costs, over regions of 64 bytes, program unit 4, read unit 1: so the
-- theorem speaks of something. Three records of 20 bytes fit in them, and 4 bytes are left over: 7 reads at most.
use Rattle.std.specs.Prelude.{◌≡◌, List, [], ◌∷◌, ◌++◌, ℕ, replicate, Ok}
use Rattle.recovery.specs.Next.{Done, fresh}
use Rattle.finish.specs.Finish.{to_end}
use Rattle.claim.specs.Claim.{units}
use Rattle.claim.specs.Instances.{blank}
use Rattle.costliest.specs.Written.{Writes}
use Rattle.costs.specs.Costs.{most_reads, Run}

-- the shortest record, written out
abbrev pub shortest_bytes : List ℕ
shortest_bytes =
    0x57 ∷ 0x4d ∷ 1 ∷ 6 ∷ 0 ∷ 0 ∷ 0 ∷ 0 ∷ 0 ∷ 0 ∷ 0x67 ∷ 0x16 ∷ 0x81 ∷ 0x7b ∷ 0x5a ∷ 0x6c
    ∷ 0x01 ∷ 0x7b ∷ 0x5a ∷ 0x6c ∷ []

-- the region with three of them
abbrev pub full : List ℕ
full = shortest_bytes ++ (shortest_bytes ++ (shortest_bytes ++ replicate 4 255))

-- what a recovery of a region comes to, through a page of its length
abbrev pub recovered : List ℕ → Done
recovered region = to_end (fresh (units 64 4 1)) region (replicate 64 0)

pub record Instances : Type 0 where
  pub bound : most_reads 4 64 ≡ 7
  -- the region is written, over zeros
  pub writes : Writes 4 1 (replicate 64 0) (Ok tt) full
  -- and makes 7 reads
  pub runs : Run (units 64 4 1) full (recovered full).out
  pub costs : (recovered full).out.state.reads ≡ 7
  -- an erased one makes 2
  pub runs_erased : Run (units 64 4 1) blank (recovered blank).out
  pub costs_less : (recovered blank).out.state.reads ≡ 2
