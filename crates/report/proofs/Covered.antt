-- A page of at least 32,768 bytes holds every read of a region that is listed, so the lines are those of the walk with
-- no page.
-- Assumes nothing.
use Rattle.std.specs.Prelude.{Ok, Err}
use mathlib.Core.Path.{◌≡◌, refl, sym, ap, ap₂, ◌∙◌}
use mathlib.Core.Bool.{true}
use mathlib.Core.List.{List, ◌++◌}
use Prim.Native.Nat.{ℕ, ◌≤◌}
use native.Mathlib.Omega.{arith}
use lib.ListN.{length}
use Rattle.waymaker_core.proofs.Choice.{cond_case}
use Rattle.storage.specs.declared.geometry.Geometry.{Geometry}
use Rattle.storage.specs.Settings.{Checked, allowed, settings}
use Rattle.storage.proofs.Units.{allowed_is}
use Rattle.place.specs.Walk.{plain, Walk, walk}
use Rattle.look.specs.Reads.{capacity_of}
use Rattle.recovery.specs.declared.next.Ending.{Ending}
use Rattle.recovery.specs.declared.next.Ending.TheVariants.{Open, Clean, Damaged, Incomplete, Unsealed}
use Rattle.recovery.specs.declared.next.Found.{Found}
use Rattle.recovery.specs.declared.next.Recovery.{Recovery}
use Rattle.recovery.specs.declared.next.Stepped.{Stepped}
use Rattle.recovery.specs.Next.{ending_by, fresh}
use Rattle.look.proofs.Pages.{capacity_least}
use Rattle.finish.specs.Finish.{found_among, last_of, to_end}
use Rattle.finish.proofs.Walks.{run_covered}
use Rattle.lines.specs.Lines.{last_line, end_by, refused_line}
use Rattle.report.specs.Report.{record_lines, record_bytes, lines_of, listed_with}
use Rattle.report.specs.Inside.{paged_lines}

-- the listing with the settings checked, through a page
abbrev pub paged_with : List ℕ → List ℕ → Checked → List ℕ
paged_with region page (Err e) = refused_line
paged_with region page (Ok g) = paged_lines (fresh g) region page

-- no line says how many reads were made
uncounted : (xs : List Found) (s : Recovery) (n m : ℕ) (w : Walk) → lines_of xs (last_of s n w) ≡ lines_of xs (last_of s m w)
unfolding lines_of last_line
uncounted xs s n m w = ap (λ line. record_lines xs ++ line) (go (ending_by w.stop)) where
  go : (e : Ending) → end_by e (last_of s n w) (length xs) (record_bytes xs) ≡ end_by e (last_of s m w) (length xs) (record_bytes xs)
  go Open = refl
  go Clean = refl
  go Damaged = refl
  go Incomplete = refl
  go Unsealed = refl

module _ (a r : ℕ) (region page : List ℕ) (h : length region ≤ 32768) (l : 32768 ≤ length page) where
  abbrev units : Geometry
  units = record { bytes = length region; program_size = a; read_size = r }

  -- the capacity is the whole page
  covers : allowed (length region) a r ≡ true → length region ≤ capacity_of (length page) r
  covers e = omega (arith, capacity_least 8 (length page) r (allowed_is (length region) a r e).read (omega arith) (omega arith))

  pub page_unseen : listed_with region (settings (length region) a r) ≡ paged_with region page (settings (length region) a r)
  unfolding settings paged_lines
  page_unseen =
      cond_case (λ k. listed_with region k ≡ paged_with region page k) (allowed (length region) a r)
      (λ e.
      let w = run_covered (fresh units) region page (record { still = refl; units = e; size = refl }) (covers e) in
      let plain_walk : Walk = walk (plain a) region 0 in
      let last : Stepped = (to_end (fresh units) region page).out in
      uncounted (found_among plain_walk.points) (fresh units) 0 last.state.reads plain_walk ∙ ap₂ lines_of (sym w.finds) (sym w.ends))
      (λ _. refl)
