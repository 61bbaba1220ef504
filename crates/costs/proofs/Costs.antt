-- A run to the end has made the reads of the whole walk, so that the bounds on these are bounds on its count.
-- Assumes nothing.
use Rattle.std.specs.Prelude.{Ok}
use mathlib.Core.Path.{◌≡◌, refl, ap, ◌∙◌}
use mathlib.Core.Bool.{true, not}
use mathlib.Core.List.{List}
use Prim.Native.Nat.{ℕ, ◌%◌, ◌≤◌, min}
use native.Mathlib.Nat.{div-le_self}
use native.Mathlib.Omega.{arith}
use lib.Dec.{eqb}
use lib.ListN.{length}
use borrow.Author.Tests.{not-false}
use Rattle.waymaker_core.proofs.Choice.{cond_case}
use Rattle.storage.specs.declared.geometry.Geometry.{Geometry}
use Rattle.storage.specs.Settings.{allowed}
use Rattle.storage.proofs.Units.{limits}
use Rattle.look.specs.Reads.{capacity_of}
use Rattle.recovery.specs.declared.next.Stepped.{Stepped}
use Rattle.recovery.specs.Next.{walk_from, reads_through, before, Done, fresh}
use Rattle.finish.specs.Finish.{to_end}
use Rattle.finish.proofs.Steps.{ready_ends}
use Rattle.costliest.specs.Written.{shortest, Writes}
use Rattle.costliest.proofs.Laying.{done}
use Rattle.costliest.proofs.Region.{region_length}
use Rattle.costs.specs.Costs.{most_reads, Run, Theorem}
use Rattle.costs.proofs.Bounds.{left_most}
use Rattle.costs.proofs.Walked.{whole_reads, walk_at_most, written_exactly}

-- no count stops before the bound
below_stop : (a n : ℕ) → n ≤ 16777216 → most_reads a n ≤ 33554434
unfolding most_reads
below_stop a n h = omega (arith, div-le_self n (shortest a), left_most (n % shortest a))

module _ (g : Geometry) (region page : List ℕ) (c : length region ≤ capacity_of (length page) g.read_size) where
  abbrev cap : ℕ
  cap = capacity_of (length page) g.read_size

  -- the count is that of the walk's reads; refused before any look it is 0
  ends_at_most : (to_end (fresh g) region page).out.state.reads ≤ most_reads g.program_size (length region)
  unfolding to_end before walk_from reads_through whole_reads
  ends_at_most =
      let P : Done → Type 0 = λ d. d.out.state.reads ≤ most_reads g.program_size (length region) in
      cond_case P (not (allowed g.bytes g.program_size g.read_size)) (λ _. omega arith)
      (λ e. cond_case P (not (eqb (length region) g.bytes)) (λ _. omega arith)
      (λ _. omega (arith, walk_at_most g.program_size g.read_size cap region (limits g.bytes g.program_size g.read_size (not-false _ e)).program_least c)))

  module _ (units : allowed g.bytes g.program_size g.read_size ≡ true) (size : length region ≡ g.bytes) where
    ends_exactly : (to_end (fresh g) region page).out.state.reads ≡ min (length (whole_reads g.program_size g.read_size cap region)) 18446744073709551615
    unfolding walk_from reads_through whole_reads
    ends_exactly = ap (λ d. d.out.state.reads) (ready_ends (fresh g) region page (record { still = refl; units = units; size = size })) ∙ omega arith

at_most : (g : Geometry) (region : List ℕ) (out : Stepped) → Run g region out → out.state.reads ≤ most_reads g.program_size (length region)
at_most g region out t = omega (arith, ap (λ d. d.out.state.reads) t.run.all, ends_at_most g region t.page (omega (arith, t.covers)))

exactly : (g : Geometry) (held region : List ℕ) (out : Stepped) → Writes g.program_size g.read_size held (Ok tt) region → g.bytes ≡ length held
    → Run g region out → out.state.reads ≡ most_reads g.program_size (length held)
exactly g held region out w e t =
    let d = done g.program_size g.read_size held region w in
    let units : allowed g.bytes g.program_size g.read_size ≡ true = rw e d.units in
    let k = limits g.bytes g.program_size g.read_size units in
    let size : length region ≡ length held = ap length d.all ∙ region_length g.program_size (length held) k.program_least in
    let cap : ℕ = capacity_of (length t.page) g.read_size in
    let all : length (whole_reads g.program_size g.read_size cap region) ≡ most_reads g.program_size (length held) =
    ap (λ s. length (whole_reads g.program_size g.read_size cap s)) d.all ∙ written_exactly g.program_size g.read_size cap (length held) k.program_least (omega (arith, size, t.covers)) in
    omega (
      arith,
      ap (λ d. d.out.state.reads) t.run.all,
      ends_exactly g region t.page (omega (arith, size, t.covers)) units (omega (arith, size, e)),
      all,
      below_stop g.program_size (length held) (omega (arith, k.size, e)),
    )

pub reads_bounded : Theorem
reads_bounded = record {
  at_most = λ g region out t. omega (arith, at_most g region out t);
  exactly = λ g held region out w e t. omega (arith, exactly g held region out w e t);
}
