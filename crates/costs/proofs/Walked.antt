-- The reads of a whole recovery: over any region, and over the one that `costliest` writes.
-- Assumes nothing.
use mathlib.Core.Path.{◌≡◌, refl, sym, ap, subst, ◌∙◌}
use mathlib.Core.Bool.{Bool, true, false}
use mathlib.Core.List.{List, [], ◌∷◌, ◌++◌}
use Prim.Native.Nat.{ℕ, ◌+◌, ◌-◌, ◌≤◌, ◌<◌}
use native.Mathlib.Omega.{arith}
use lib.Dec.{ltb}
use lib.ListN.{length, drop, replicate, length-append, length-drop}
use lib.Seq.{drop_at, drop-drop}
use borrow.Author.Tests.{ltb-true, ltb-false}
use Rattle.waymaker_core.specs.declared.«record».RecordRef.TheVariants.{TimerFired}
use Rattle.waymaker_core.specs.Kinds.{one_of, known, run_scoped, has_free, seq_fits, free_fits, widths, numbers_len, clock_fits, plain_record}
use Rattle.storage.specs.Media.{erased}
use Rattle.storage.proofs.ErasedBytes.{erased_replicate}
use Rattle.frame.specs.Bytes.{field_bytes}
use Rattle.frame.specs.Lengths.{well_given, payload_fits, payload_len}
use Rattle.frame.specs.Format.{numbers_of, payload_of}
use Rattle.encode.specs.Encode.{encoded_bytes}
use Rattle.payload.specs.Payload.{part, record_with}
use Rattle.roundtrip.proofs.RoundTrip.{Taken}
use Rattle.place.specs.declared.Sealed.{Sealed}
use Rattle.place.specs.declared.Stop.{Stop}
use Rattle.place.specs.declared.Stand.{Stand}
use Rattle.place.specs.declared.Stand.TheVariants.{Met, Passed, Over}
use Rattle.place.specs.AtOffset.{stands}
use Rattle.place.specs.Walk.{Walk, walk, offsets}
use Rattle.place.proofs.Lengths.{moves}
use Rattle.place.proofs.Walks.{each_walk}
use Rattle.look.specs.Reads.{Read, paged, reads_at, reads_all}
use Rattle.look.proofs.Pages.{rest_enough}
use Rattle.look.proofs.Near.{paged_steady}
use Rattle.claim.proofs.Instances.{typed_is}
use Rattle.claim.proofs.Looks.{looked_whole}
use Rattle.costliest.specs.Written.{shortest, shortest_record, costliest_region}
use Rattle.costliest.proofs.Region.{shortest_is, shortest_least, record_length, one_more, none_more, region_length}
use Rattle.costliest.proofs.Laying.{timer}
use Rattle.costs.specs.Costs.{left_over, most_reads}
use Rattle.costs.proofs.Bounds.{left_most, none_fits, one_fits, left_least, goes_on}
use Rattle.costs.proofs.Looked.{moves_far, cost_most, erased_cost, met_cost}

-- the reads of a recovery that goes the whole walk, from the region's start to its end
unfoldable pub whole_reads : ℕ → ℕ → ℕ → List ℕ → List Read
whole_reads a r cap region =
    let w : Walk = walk (paged a r cap) region 0 in
    reads_all a r cap region (offsets w.points w.at)

-- what the offsets of a walk take in all
abbrev cost : ℕ → ℕ → ℕ → List ℕ → Walk → ℕ
cost a r cap region w = length (reads_all a r cap region (offsets w.points w.at))

module _ (a r cap : ℕ) (region : List ℕ) (h : 0 < a) (fit : length region ≤ cap) where
  abbrev look : ℕ → List ℕ → Stand
  look = paged a r cap

  rest_fits : (o : ℕ) → length (drop o region) ≤ cap
  rest_fits o = omega (arith, length-drop o region, fit)

  -- one look more
  costs_more : (o : ℕ) (os : List ℕ) → length (reads_all a r cap region (o ∷ os)) ≡ length (reads_at a r cap region o) + length (reads_all a r cap region os)
  unfolding reads_all
  costs_more o os = length-append (reads_at a r cap region o) (reads_all a r cap region os)

  costs_last : (o : ℕ) → length (reads_all a r cap region (o ∷ [])) ≡ length (reads_at a r cap region o)
  unfolding reads_all
  costs_last o = costs_more o [] ∙ omega arith

  one_look : (o : ℕ) → length (reads_at a r cap region o) ≤ left_over (length region - o)
  unfolding reads_at
  one_look o = subst (λ m. length (reads_at a r cap region o) ≤ left_over m) (length-drop o region) (cost_most a r cap o (drop o region) (rest_fits o))

  far : (o : ℕ) (z : Stand) → look o (drop o region) ≡ z → shortest a ≤ moves (shortest a) z
  far o z e = subst (λ y. shortest a ≤ moves (shortest a) y) (sym (rest_enough a r cap o (drop o region) (rest_fits o)) ∙ e) (moves_far a (drop o region) h)

  -- from an offset on, the bytes that remain bound what the walk takes
  abbrev Bounded : ℕ → Walk → Type 0
  Bounded o w = cost a r cap region w ≤ most_reads a (length region - o)

  past_bounded : (o n : ℕ) (os : List ℕ) → shortest a ≤ n → n ≤ length region - o
      → length (reads_all a r cap region os) ≤ most_reads a (length region - (o + n))
      → length (reads_all a r cap region (o ∷ os)) ≤ most_reads a (length region - o)
  past_bounded o n os l i rest =
      let left : length region - o - n ≡ length region - (o + n) = omega arith in
      let behind : most_reads a (length region - o - n) ≡ most_reads a (length region - (o + n)) = ap (most_reads a) left in
      omega (arith, costs_more o os, one_look o, left_most (length region - o), rest, behind, goes_on a h (length region - o) n l i)

  bounded : (o : ℕ) → Bounded o (walk look region o)
  bounded =
      each_walk look (paged_steady a r cap h) region Bounded
      (λ o x e _ l w. past_bounded o x.len _ (far o (Met x) e) l w)
      (λ o n e _ l w. past_bounded o n _ (far o (Passed n) e) l w)
      (λ o e _. omega (arith, costs_last o, one_look o, left_least a h (length region - o)))

  pub walk_at_most : length (whole_reads a r cap region) ≤ most_reads a (length region)
  unfolding whole_reads
  walk_at_most =
      let all : length region - 0 ≡ length region = omega arith in
      subst (λ m. cost a r cap region (walk look region 0) ≤ most_reads a m) all (bounded 0)

-- the shortest record is found, whatever follows it
timer_taken : Taken timer []
unfolding payload_len well_given known one_of run_scoped has_free seq_fits free_fits clock_fits payload_fits numbers_len widths plain_record
timer_taken = record { typed = typed_is (record { «record» = timer; free = [] }) refl; size = 0; taken = refl }

found : ℕ → Sealed
found a = record { «record» = TimerFired (record { 0 = 0 }); payload = part 12 0; len = shortest a }

record_found : (a : ℕ) → 0 < a → (rest : List ℕ) → stands a (shortest_record a ++ rest) ≡ Met (found a)
unfolding shortest_record encoded_bytes payload_of field_bytes numbers_of widths plain_record record_with found
record_found a h rest =
    looked_whole a h timer [] timer_taken (TimerFired (record { 0 = 0 })) refl rest
    ∙ ap (λ n. Met (record { «record» = TimerFired (record { 0 = 0 }); payload = part 12 0; len = n })) (shortest_is a)

met_len : (x : Sealed) (a : ℕ) → Met x ≡ Met (found a) → x.len ≡ shortest a
unfolding found
met_len x a e = let f : x ≡ found a = cc in ap (λ y. y.len) f

-- the region that `costliest` writes: region holds it from each offset that the walk comes to
module _ (a r cap : ℕ) (region : List ℕ) (h : 0 < a) (fit : length region ≤ cap) where
  abbrev Exact : ℕ → Walk → Type 0
  Exact o w = drop o region ≡ costliest_region a (length region - o) → cost a r cap region w ≡ most_reads a (length region - o)

  seen : (o : ℕ) → paged a r cap o (drop o region) ≡ stands a (drop o region)
  seen o = rest_enough a r cap o (drop o region) (rest_fits a r cap region h fit o)

  module _ (o : ℕ) (e : drop o region ≡ costliest_region a (length region - o)) where
    abbrev m : ℕ
    m = length region - o

    -- where a record fits, one is found
    stands_one : shortest a ≤ m → paged a r cap o (drop o region) ≡ Met (found a)
    stands_one l = seen o ∙ ap (stands a) (e ∙ one_more a h m l) ∙ record_found a h (costliest_region a (m - shortest a))

    costs_two : shortest a ≤ m → length (reads_at a r cap region o) ≡ 2
    unfolding reads_at
    costs_two l =
        met_cost a r cap o (drop o region) (rest_fits a r cap region h fit o) (omega (arith, length-drop o region, l, shortest_least a h)) (found a)
        (sym (seen o) ∙ stands_one l)

    -- where none fits, all that remains is erased
    costs_left : m < shortest a → length (reads_at a r cap region o) ≡ left_over m
    unfolding reads_at
    costs_left l =
        let blank : drop o region ≡ replicate m 255 = e ∙ none_more a h m l in
        erased_cost a r cap o (drop o region) (rest_fits a r cap region h fit o) (ap erased blank ∙ erased_replicate m)
        ∙ ap left_over (length-drop o region)

    behind : (n : ℕ) → n ≡ shortest a → n ≤ m → drop (o + n) region ≡ costliest_region a (length region - (o + n))
    behind n i l =
        let left : m - shortest a ≡ length region - (o + n) = omega (arith, i) in
        sym (drop-drop n o region)
        ∙ ap (drop n) (e ∙ one_more a h m (omega (arith, i, l)))
        ∙ drop_at (shortest_record a) (costliest_region a (m - shortest a)) n (record_length a h ∙ sym i)
        ∙ ap (costliest_region a) left

  past_exact : (o n : ℕ) (os : List ℕ) → drop o region ≡ costliest_region a (length region - o) → n ≡ shortest a → n ≤ length region - o
      → length (reads_all a r cap region os) ≡ most_reads a (length region - (o + n))
      → length (reads_all a r cap region (o ∷ os)) ≡ most_reads a (length region - o)
  past_exact o n os e i l rest =
      let left : length region - o - shortest a ≡ length region - (o + n) = omega (arith, i) in
      let behind : most_reads a (length region - o - shortest a) ≡ most_reads a (length region - (o + n)) = ap (most_reads a) left in
      let one : shortest a ≤ length region - o = omega (arith, i, l) in
      omega (arith, costs_more a r cap region h fit o os, costs_two o e one, rest, behind, one_fits a h (length region - o) one)

  exact : (o : ℕ) → Exact o (walk (paged a r cap) region o)
  exact =
      each_walk (paged a r cap) (paged_steady a r cap h) region Exact
      (λ o x e _ l w d.
      let far : shortest a ≤ x.len = far a r cap region h fit o (Met x) e in
      let same : Met x ≡ Met (found a) = sym e ∙ stands_one o d (omega (arith, far, l)) in
      let long : x.len ≡ shortest a = met_len x a same in
      past_exact o x.len _ d long l (w (behind o d x.len long l)))
      (λ o n e _ l w d.
      let far : shortest a ≤ n = far a r cap region h fit o (Passed n) e in
      let same : Passed n ≡ Met (found a) = sym e ∙ stands_one o d (omega (arith, far, l)) in
      let z : ◌≡◌ {A = ℕ} 0 1 = cc in
      absurd (omega arith))
      (λ o e i d. last o e i d (ltb (length region - o) (shortest a)) refl)
    where
      last : (o : ℕ) (y : Stop) → paged a r cap o (drop o region) ≡ Over y → drop o region ≡ costliest_region a (length region - o)
          → (b : Bool) → ltb (length region - o) (shortest a) ≡ b → length (reads_all a r cap region (o ∷ [])) ≡ most_reads a (length region - o)
      last o y i d true l =
          let short : length region - o < shortest a = ltb-true (length region - o) (shortest a) l in
          costs_last a r cap region h fit o ∙ costs_left o d short ∙ sym (none_fits a h (length region - o) short)
      last o y i d false l =
          let same : Over y ≡ Met (found a) = sym i ∙ stands_one o d (ltb-false (length region - o) (shortest a) l) in
          let z : ◌≡◌ {A = ℕ} 0 1 = cc in
          absurd (omega arith)

  pub walk_exactly : region ≡ costliest_region a (length region) → length (whole_reads a r cap region) ≡ most_reads a (length region)
  unfolding whole_reads
  walk_exactly e =
      let all : length region - 0 ≡ length region = omega arith in
      exact 0 (e ∙ ap (costliest_region a) (sym all)) ∙ ap (most_reads a) all

-- over n bytes
pub written_exactly : (a r cap n : ℕ) → 0 < a → n ≤ cap → length (whole_reads a r cap (costliest_region a n)) ≡ most_reads a n
written_exactly a r cap n h l =
    let size : length (costliest_region a n) ≡ n = region_length a n h in
    walk_exactly a r cap (costliest_region a n) h (omega (arith, size, l)) (ap (costliest_region a) (sym size)) ∙ ap (most_reads a) size
