-- An input longer than the program reads is refused by its beginning: so what is printed is the listing of all of it.
-- Assumes nothing.
use mathlib.Core.Path.{◌≡◌, refl, sym, ap, subst, ◌∙◌}
use mathlib.Core.Bool.{Bool, true, false}
use mathlib.Core.List.{List}
use Prim.Native.Nat.{ℕ, ◌+◌, ◌-◌, ◌≤◌, ◌<◌, min}
use native.Mathlib.Omega.{arith}
use lib.Dec.{eqb, ltb}
use lib.ListN.{length, take, drop, length-take, length-drop}
use lib.Seq.{take_all}
use borrow.Author.Tests.{ltb-true, ltb-false}
use Rattle.std.proofs.lemmas.List.{take_min}
use Rattle.waymaker_core.proofs.Choice.{cond_case}
use Rattle.storage.specs.Settings.{allowed, settings}
use Rattle.storage.proofs.Units.{limits}
use Rattle.std.proofs.Common.{Option, Some, None}
use Rattle.text.specs.Text.{Puts, place_of, number_of}
use Rattle.text.proofs.Short.{number_short}
use Rattle.text.proofs.Places.{place_within}
use Rattle.lines.specs.Lines.{refused_line}
use Rattle.report.specs.declared.input.Units.{Units}
use Rattle.report.specs.Report.{listed_with, listed_region, given_by, units_of, listed_by, listing, Began, Lists}
use Rattle.report.proofs.Room.{whole}

-- two numbers that are units were read
both_read : (x y : Option ℕ) (u : Units) → given_by x y ≡ Some u → (x ≡ Some u.program_size) × (y ≡ Some u.read_size)
both_read None y u e = absurd (cc)
both_read (Some p) None u e = absurd (cc)
both_read (Some p) (Some q) u e = let k : record { program_size = p; read_size = q } ≡ u = cc in (ap (λ v. Some v.program_size) k, ap (λ v. Some v.read_size) k)

-- units below 10,000 stand in a line of at most nine bytes
units_short : (line : List ℕ) (w : Units) → units_of line ≡ Some w → w.program_size < 10000 → w.read_size < 10000 → length line ≤ 9
unfolding units_of
units_short line w e ha hr =
    let c : ℕ = place_of 44 line in
    cond_case (λ (u : Option Units). u ≡ Some w → length line ≤ 9) (eqb c (length line)) (λ _ i. absurd (cc))
    (λ _ i.
    let b = both_read (number_of (take c line)) (number_of (drop (c + 1) line)) w i in
    let x = number_short (take c line) w.program_size b.0 ha in
    let y = number_short (drop (c + 1) line) w.read_size b.1 hr in
    omega (arith, x, y, length-take c line, length-drop (c + 1) line, place_within 44 line))
    e

module _ (input : List ℕ) (h : 32779 ≤ length input) where
  -- so units that are allowed leave more than 32,768 bytes behind their line
  region_long : (u : Units) → units_of (take (place_of 10 input) input) ≡ Some u → (region : List ℕ) → region ≡ drop (place_of 10 input + 1) input → listed_region u.program_size u.read_size region ≡ refused_line
  unfolding listed_region settings
  region_long u e region er =
      cond_case (λ (t : List ℕ). t ≡ refused_line) (ltb 32768 (length region)) (λ _. refl)
      (λ l. cond_case (λ k. listed_with region k ≡ refused_line) (allowed (length region) u.program_size u.read_size)
      (λ k.
      let m = limits (length region) u.program_size u.read_size k in
      let few = units_short (take (place_of 10 input) input) u e (omega (arith, m.program_most)) (omega (arith, m.read_most)) in
      let size : length region ≡ length input - (place_of 10 input + 1) = ap length er ∙ length-drop (place_of 10 input + 1) input in
      absurd (omega (arith, few, size, length-take (place_of 10 input) input, place_within 10 input, ltb-false 32768 (length region) l)))
      (λ _. refl))

  -- an input of at least 32,779 bytes is refused
  pub long_refused : listing input ≡ refused_line
  unfolding listing
  long_refused =
      cond_case (λ (t : List ℕ). t ≡ refused_line) (eqb (place_of 10 input) (length input)) (λ _. refl) (λ _. go (units_of (take (place_of 10 input) input)) refl) where
        go : (u : Option Units) → units_of (take (place_of 10 input) input) ≡ u → listed_by (drop (place_of 10 input + 1) input) u ≡ refused_line
        go None e = refl
        go (Some u) e = region_long u e (drop (place_of 10 input + 1) input) refl

-- a beginning of at least 32,779 bytes lists as the whole does
pub beginning : (m : ℕ) → 32779 ≤ m → (input : List ℕ) → listing (take m input) ≡ listing input
beginning m h input = go (ltb (length input) m) refl where
  go : (b : Bool) → ltb (length input) m ≡ b → listing (take m input) ≡ listing input
  go true l = ap listing (take_all m input (omega (arith, ltb-true (length input) m l)))
  go false l =
      let n = ltb-false (length input) m l in
      long_refused (take m input) (omega (arith, length-take m input)) ∙ sym (long_refused input (omega (arith, n)))

-- k: how much of the array was listed
pub lists_whole : (array : List ℕ) (n k : ℕ) (out : List ℕ) (e : ℕ) (out' : List ℕ) → Puts out 0 (listing (take k array)) e out'
    → (m : ℕ) → length array ≡ m → k ≡ min n m → 32779 ≤ m → 102400 ≤ length out → Lists array n out e out'
lists_whole array n k out e out' p m l ek hm ho =
    record {
      puts = λ input b. subst (λ t. Puts out 0 t e out') (same input b) p;
      all = λ input b. whole (take k array) out e out' p ho ∙ same input b;
    }
  where
    part : take k array ≡ take n array
    part = ap (λ j. take j array) (ek ∙ ap (min n) (sym l)) ∙ take_min n array

    same : (input : List ℕ) → Began input array n → listing (take k array) ≡ listing input
    same input b = ap listing (part ∙ b.start) ∙ beginning (length array) (omega (arith, l)) input
