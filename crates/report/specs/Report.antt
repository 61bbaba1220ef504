-- A listing as document 01 states it: a line for each record that the walk over a region finds, then the last line; and
-- the input that it is made from. No page and no output's length in it.
use Rattle.std.specs.Prelude.{◌≡◌, cond, Option, Some, None, Ok, Err, List, [], ◌∷◌, ◌++◌, ℕ, ◌+◌}
use Rattle.std.specs.Prelude.{eqb, ltb, length, take, drop}
use Rattle.storage.specs.declared.geometry.Geometry.{Geometry}
use Rattle.storage.specs.Settings.{Checked, settings}
use Rattle.text.specs.Text.{Puts, place_of, number_of}
use Rattle.place.specs.Walk.{plain, Walk, walk}
use Rattle.recovery.specs.declared.next.Found.{Found as OneFound}
use Rattle.recovery.specs.declared.next.Stepped.{Stepped}
use Rattle.recovery.specs.Next.{fresh}
use Rattle.finish.specs.Finish.{found_among, last_of}
use Rattle.lines.specs.Lines.{record_line, end_line, refused_line}
use Rattle.report.specs.declared.input.Units.{Units}

-- a line for each record
unfoldable pub record_lines : List OneFound → List ℕ
record_lines [] = []
record_lines (x ∷ xs) = record_line x ++ record_lines xs

-- the sum of their record lengths
unfoldable pub record_bytes : List OneFound → ℕ
record_bytes [] = 0
record_bytes (x ∷ xs) = x.«record».len + record_bytes xs

-- the lines of the records found, then the line of the last step
unfoldable pub lines_of : List OneFound → Stepped → List ℕ
lines_of xs last = record_lines xs ++ end_line last (length xs) (record_bytes xs)

-- the lines of a walk from a region's start; no line says how many reads were made
abbrev pub walk_lines : Geometry → Walk → List ℕ
walk_lines g w = lines_of (found_among w.points) (last_of (fresh g) 0 w)

-- with the settings checked
abbrev pub listed_with : List ℕ → Checked → List ℕ
listed_with region (Err e) = refused_line
listed_with region (Ok g) = walk_lines g (walk (plain g.program_size) region 0)

-- a region of at most 32,768 bytes
unfoldable pub listed_region : ℕ → ℕ → List ℕ → List ℕ
listed_region a r region =
    cond (ltb 32768 (length region)) refused_line
    (listed_with region (settings (length region) a r))

-- what is made of the bytes before the first byte b of s and of those behind it, or none where s has no such byte
abbrev pub around_first : {A : Type 0} → ℕ → List ℕ → A → (List ℕ → List ℕ → A) → A
around_first b s none parts =
    let at = place_of b s in
    cond (eqb at (length s)) none (parts (take at s) (drop (at + 1) s))

-- two numbers are two units
abbrev pub given_by : Option ℕ → Option ℕ → Option Units
given_by None y = None
given_by (Some a) None = None
given_by (Some a) (Some r) = Some (record { program_size = a; read_size = r })

-- a line `a,r`: a number before the first comma, and one behind it
unfoldable pub units_of : List ℕ → Option Units
units_of line = around_first 44 line None (λ x y. given_by (number_of x) (number_of y))

-- a region under the units that its first line says
abbrev pub listed_by : List ℕ → Option Units → List ℕ
listed_by region None = refused_line
listed_by region (Some u) = listed_region u.program_size u.read_size region

-- the listing of an input: its first line, which a line feed ends, says the units; what is behind it is the region
unfoldable pub listing : List ℕ → List ℕ
listing input = around_first 10 input refused_line (λ line region. listed_by region (units_of line))

-- of a whole input the array holds the beginning: n bytes, all of it or as many as the array has
pub record Began (whole array : List ℕ) (n : ℕ) : Type 0 where
  pub start : take n array ≡ take (length array) whole

-- the promise of the program's listing: whichever input began so, its listing is laid over the output's start, to the
-- last byte
pub record Lists (array : List ℕ) (n : ℕ) (out : List ℕ) (e : ℕ) (out' : List ℕ) : Type 0 where
  pub puts : (whole : List ℕ) → Began whole array n → Puts out 0 (listing whole) e out'
  pub all : (whole : List ℕ) → Began whole array n → take e out' ≡ listing whole
