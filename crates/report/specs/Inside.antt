-- What the private calls of the listing promise: the lines of a recovery through a page, of which the listing has none.
use Rattle.std.specs.Prelude.{◌≡◌, List, ℕ, ◌≤◌, length, Option, MatchOption}
use Rattle.std.specs.Borrow.{Bor}
use Rattle.storage.specs.declared.geometry.Geometry.{Geometry}
use Rattle.text.specs.declared.Output.{Output}
use Rattle.text.specs.Pieces.{Lays}
use Rattle.recovery.specs.declared.next.Recovery.{Recovery}
use Rattle.finish.specs.Finish.{founds, to_end}
use Rattle.recovery.specs.Next.{fresh}
use Rattle.lines.specs.Lines.{refused_line}
use Rattle.report.specs.Report.{lines_of, listing}

-- the lines of a recovery from s through a page
unfoldable pub paged_lines : Recovery → List ℕ → List ℕ → List ℕ
paged_lines s region page = lines_of (founds s region page) (to_end s region page).out

-- these lines laid by an output, and the page that the recovery leaves
pub record Reports (s : Recovery) (region page : List ℕ) (out out' : Output) (page' : List ℕ) : Type 0 where
  pub lines : Lays out (paged_lines s region page) out'
  pub pages : page' ≡ (to_end s region page).page

-- the settings and the region that an input says, or none where it is refused: through every page of at least 32,768
-- bytes their lines are its listing
abbrev pub Says : List ℕ → Option (Geometry × Bor (List ℕ)) → Type 0
Says input x =
    MatchOption x (listing input ≡ refused_line)
    (λ p. (page : List ℕ) → 32768 ≤ length page → paged_lines (fresh p.0) p.1.now page ≡ listing input)
