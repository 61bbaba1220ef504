-- What an input says is what is listed.
-- Assumes nothing.
use mathlib.Core.Path.{◌≡◌}
use mathlib.Core.List.{List}
use Prim.Native.Nat.{ℕ, ◌+◌, ◌≤◌, ◌<◌}
use lib.ListN.{length, take, drop}
use borrow.Author.Tests.{le-ltb, ne_eqb}
use native.Mathlib.Omega.{arith}
use Rattle.storage.specs.declared.geometry.Geometry.{Geometry}
use Rattle.storage.specs.Settings.{Checked, settings}
use Rattle.std.proofs.Common.{Ok, Some, Option}
use Rattle.text.specs.Text.{place_of}
use Rattle.recovery.specs.Next.{fresh}
use Rattle.report.specs.declared.input.Units.{Units}
use Rattle.report.specs.Report.{units_of, listed_region, listed_by, listing}
use Rattle.report.specs.Inside.{paged_lines}
use Rattle.report.proofs.Covered.{page_unseen}

module _ (input line region : List ℕ) (h : place_of 10 input < length input)
    (el : line ≡ take (place_of 10 input) input) (er : region ≡ drop (place_of 10 input + 1) input) where
  -- behind a line feed
  pub parted : listing input ≡ listed_by region (units_of line)
  unfolding listing
  parted = rw (ne_eqb (place_of 10 input) (length input) (λ e. omega (arith, h, e)), ← el, ← er)

  -- through a page of at least 32,768 bytes, whatever it held, the lines are those of the walk with no page
  pub says : (x : Option Units) (u : Units) (k : Checked) (g : Geometry)
      → x ≡ units_of line → x ≡ Some u → length region ≤ 32768
      → k ≡ settings (length region) u.program_size u.read_size → k ≡ Ok g → (page : List ℕ) → 32768 ≤ length page
      → paged_lines (fresh g) region page ≡ listing input
  unfolding listed_region
  says x u k g ex i l ek f page m =
      let lines = page_unseen u.program_size u.read_size region page l m in
      rw (parted, ← ex, i, le-ltb 32768 (length region) l, lines, ← ek, f)
