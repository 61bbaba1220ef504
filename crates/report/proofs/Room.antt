-- How long the text of a listing may be: 102,400 bytes hold all of it.
-- Assumes nothing.
use mathlib.Core.Path.{◌≡◌}
use mathlib.Core.Bool.{true}
use mathlib.Core.List.{List, [], ◌∷◌, ◌++◌}
use Prim.Native.Nat.{ℕ, ◌+◌, ◌-◌, ◌*◌, ◌^◌, ◌≤◌, ◌<◌}
use native.Mathlib.Omega.{arith}
use lib.Dec.{eqb, ltb}
use lib.ListN.{length, take, drop, length-append}
use borrow.Author.Tests.{ltb-false}
use Rattle.waymaker_core.specs.Refusals.{refusal_of}
use Rattle.waymaker_core.specs.declared.«record».RecordRef.{RecordRef}
use Rattle.waymaker_core.specs.declared.«record».RecordRef.TheVariants.{RunStarted, EffectScheduled, EffectCompleted, EffectFailed, TimerScheduled, TimerFired, RunCompleted, RunFailed, VersionMarker}
use Rattle.waymaker_core.specs.Kinds.{kind_of, seq_of}
use Rattle.waymaker_core.proofs.Choice.{cond_case}
use Rattle.storage.specs.Settings.{allowed, settings}
use Rattle.storage.proofs.Units.{limits}
use Rattle.place.specs.Walk.{plain, Walk, walk}
use Rattle.place.proofs.Walks.{plain_steady, each_walk}
use Rattle.recovery.specs.declared.next.Ending.{Ending}
use Rattle.recovery.specs.declared.next.Ending.TheVariants.{Open, Clean, Damaged, Incomplete, Unsealed}
use Rattle.recovery.specs.declared.next.Found.{Found}
use Rattle.recovery.specs.declared.next.Stepped.{Stepped}
use Rattle.recovery.specs.Next.{fresh}
use Rattle.finish.specs.Finish.{found_among, last_of}
use Rattle.text.specs.Text.{codes, decimal, Puts, place_of}
use Rattle.text.proofs.Digits.{decimal_length, decimal_most}
use Rattle.text.proofs.Puts.{puts_whole}
use Rattle.report.specs.declared.input.Units.{Units}
use Rattle.std.proofs.Common.{Option, Some, None}
use Rattle.lines.specs.Lines.{field, record_line, totals, last_line, end_by, end_line}
use Rattle.report.specs.Report.{record_lines, record_bytes, lines_of, walk_lines, listed_with, listed_region, units_of, listed_by, listing}

joined : (m n : ℕ) (xs ys : List ℕ) → length xs ≤ m → length ys ≤ n → length (xs ++ ys) ≤ m + n
joined m n xs ys h k = omega (arith, length-append xs ys)

field_most : (n e : ℕ) → length (field n e) ≤ 21
field_most n e = joined 20 1 (decimal n) (e ∷ []) (decimal_most n) (omega arith)

field_few : (k n e : ℕ) → 0 < k → n < 10 ^ k → length (field n e) ≤ k + 1
field_few k n e h l = joined k 1 (decimal n) (e ∷ []) (decimal_length k n h l) (omega arith)

kind_most : (x : RecordRef) → kind_of x < 10
kind_most (RunStarted w v p) = omega arith
kind_most (EffectScheduled q k n c) = omega arith
kind_most (EffectCompleted q p) = omega arith
kind_most (EffectFailed q p) = omega arith
kind_most (TimerScheduled q c d t) = omega arith
kind_most (TimerFired q) = omega arith
kind_most (RunCompleted p) = omega arith
kind_most (RunFailed p) = omega arith
kind_most (VersionMarker q g v) = omega arith

-- the line of a record at an offset of five digits
line_most : (x : Found) → x.offset < 100000 → length (record_line x) ≤ 50
unfolding record_line
line_most x h =
    let o : List ℕ = field x.offset 44 in
    let k : List ℕ = field (kind_of x.«record».«record») 44 in
    let q : List ℕ = field (seq_of x.«record».«record») 44 in
    let p : List ℕ = field x.«record».payload.len 10 in
    joined 6 44 o (k ++ (q ++ p)) (field_few 5 x.offset 44 (omega arith) h)
    (joined 2 42 k (q ++ p) (field_few 1 (kind_of x.«record».«record») 44 (omega arith) (kind_most x.«record».«record»))
    (joined 21 21 q p (field_most (seq_of x.«record».«record») 44) (field_most x.«record».payload.len 10)))

last_most : (word : List ℕ) (x : Stepped) (n b : ℕ) → length word ≤ 13 → length (last_line word x n b) ≤ 97
unfolding last_line totals
last_most word x n b h =
    let o : List ℕ = field x.state.offset 44 in
    let e : List ℕ = field (refusal_of x.answer).number 44 in
    joined 13 84 word (o ++ (e ++ (field n 44 ++ field b 10))) h
    (joined 21 63 o (e ++ (field n 44 ++ field b 10)) (field_most x.state.offset 44)
    (joined 21 42 e (field n 44 ++ field b 10) (field_most (refusal_of x.answer).number 44)
    (joined 21 21 (field n 44) (field b 10) (field_most n 44) (field_most b 10))))

end_most : (e : Ending) (x : Stepped) (n b : ℕ) → length (end_by e x n b) ≤ 97
end_most Clean x n b = last_most (codes "end,clean,") x n b (omega arith)
end_most Damaged x n b = last_most (codes "end,damaged,") x n b (omega arith)
end_most Unsealed x n b = last_most (codes "end,unsealed,") x n b (omega arith)
end_most Incomplete x n b = omega arith
end_most Open x n b = omega arith

-- the lines of a walk's records are at most three times as long as the bytes that it has before it
module _ (region : List ℕ) (a : ℕ) (h : 0 < a) (l : length region ≤ 32768) where
  walk_room : (o : ℕ) → length (record_lines (found_among (walk (plain a) region o).points)) ≤ 3 * (length region - o)
  unfolding record_lines
  walk_room =
      each_walk (plain a) (plain_steady a h) region (λ o w. length (record_lines (found_among w.points)) ≤ 3 * (length region - o))
      (λ o x _ least most more.
      let f : Found = record { offset = o; «record» = x } in
      let rest : List ℕ = record_lines (found_among (walk (plain a) region (o + x.len)).points) in
      let one : length (record_line f) ≤ 50 = line_most f (omega (arith, most, least)) in
      omega (arith, one, more, most, least, length-append (record_line f) rest))
      (λ o n _ _ _ more. omega (arith, more))
      (λ o e _. omega arith)

abbrev Fitting : List ℕ → Type 0
Fitting x = length x ≤ 102400

-- a region with its units
module _ (a r : ℕ) (region : List ℕ) where
  walk_fits : length region ≤ 32768 → allowed (length region) a r ≡ true → Fitting (walk_lines (record { bytes = length region; program_size = a; read_size = r }) (walk (plain a) region 0))
  unfolding lines_of
  walk_fits h e =
      let w : Walk = walk (plain a) region 0 in
      let fs : List Found = found_among w.points in
      let last : Stepped = last_of (fresh (record { bytes = length region; program_size = a; read_size = r })) 0 w in
      let i : length (record_lines fs) ≤ 3 * (length region - 0) = walk_room region a (limits (length region) a r e).program_least h 0 in
      omega (arith, i, end_most last.state.ending last (length fs) (record_bytes fs), length-append (record_lines fs) (end_line last (length fs) (record_bytes fs)))

  region_fits : Fitting (listed_region a r region)
  unfolding listed_region settings
  region_fits =
      cond_case Fitting (ltb 32768 (length region)) (λ _. omega arith)
      (λ h. cond_case (λ c. Fitting (listed_with region c)) (allowed (length region) a r) (walk_fits (ltb-false 32768 (length region) h)) (λ _. omega arith))

-- a listing is at most 102,400 bytes long
pub room : (input : List ℕ) → length (listing input) ≤ 102400
unfolding listing
room input = cond_case Fitting (eqb (place_of 10 input) (length input)) (λ _. omega arith) (λ _. go (drop (place_of 10 input + 1) input) (units_of (take (place_of 10 input) input))) where
  go : (region : List ℕ) (u : Option Units) → Fitting (listed_by region u)
  go region None = omega arith
  go region (Some u) = region_fits u.program_size u.read_size region

-- an output of at least 102,400 bytes holds all of it
pub whole : (input out : List ℕ) (n : ℕ) (out' : List ℕ) → Puts out 0 (listing input) n out' → 102400 ≤ length out → take n out' ≡ listing input
whole input out n out' p h = puts_whole p (omega (arith, room input))
