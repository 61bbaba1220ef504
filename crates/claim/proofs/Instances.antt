-- The instances hold: one computed test of the whole table, and laws that what is tested is so with every large page.
-- Assumes nothing.
use Rattle.std.specs.Prelude.{Ok, Err, Some, None, Option}
use mathlib.Core.Path.{◌≡◌, refl, sym, ap, ap₂, ◌∙◌, subst}
use mathlib.Core.Bool.{Bool, true, false, not, cond, ◌&&◌, false≢true, and-eq-true_iff}
use mathlib.Core.Logic.{◌⊎◌, inl, inr, ⊎_elim}
use mathlib.Core.List.{List, [], ◌∷◌, map}
use Prim.Native.Nat.{ℕ, zero, suc, ◌+◌, ◌/◌, ◌%◌, ◌^◌, ◌≤◌}
use native.Mathlib.Omega.{arith}
use lib.Bits.{bit_and, bit_xor, xor_shr, xor_add_and}
use lib.Dec.{eqb, ltb}
use lib.ListN.{length, get_or, replicate, length-replicate}
use lib.Pow.{shr_le, are_bytes}
use borrow.Author.Tests.{eqb-true, ltb-true, ltb-false, le-ltb}
use Rattle.waymaker_core.specs.declared.«record».Record.{Record}
use Rattle.waymaker_core.specs.Kinds.{one_of, known, run_scoped, has_free, seq_fits, free_fits, widths, numbers_len, clock_known, clock_fits}
use Rattle.storage.specs.Settings.{unit_up_to, program_unit, read_unit, region_length, allowed, round_up}
use Rattle.storage.specs.Media.{programmed_from, first_programmed, erased, ands, programmed}
use Rattle.integrity.specs.Fcs.{bit_step, bit_steps, octet, octets, fcs, header_check, frame_check}
use Rattle.frame.specs.Lengths.{Size, body_len, record_len, well_given, payload_fits, payload_len}
use Rattle.frame.specs.Bytes.{bytes_le, value_le, field_bytes, fields}
use Rattle.frame.specs.Format.{numbers_of, payload_of, checked_header, header_of, covered_of, check_of, frame_of, padding_of, seal_byte, seal_from, body_of, sealed_from, seal_holds}
use Rattle.payload.specs.Payload.{length_fits, record_with, well_formed, body_at}
use Rattle.decode.specs.Decode.{header_at, frame_under, decoded}
use Rattle.place.specs.AtOffset.{settled, judged, shape_of, stands}
use Rattle.recovery.specs.Next.{fresh}
use Rattle.place.specs.Walk.{plain, Walk, walk_over, walk}
use Rattle.finish.specs.Finish.{last_of}
use Rattle.roundtrip.specs.Typed.{AllBytes, Typed}
use Rattle.journal.specs.declared.Journal.{Journal}
use Rattle.counts.specs.declared.WriteAmplification.{WriteAmplification}
use Rattle.journal.specs.Opening.{Opening}
use Rattle.progress.specs.Phases.{unit_of, on_device, is_next, confirmed, under_way}
use Rattle.staging.specs.Stage.{room_of, coming, staged_over, staged_with, as_staged, begins, staged}
use Rattle.append.specs.Append.{barred, after_commit, committed}
use Rattle.claim.specs.Cuts.{bit, Mixed, Cut}
use Rattle.claim.specs.Saying.{Given, given, all_given}
use Rattle.claim.specs.Events.{Call, opening, stage, barrier, commit, Event, call, cut, cut_in, Held, none, holds, Machine, Verdict, Outcome, after_opening, stepped, step_by, done, Way, nothing, under, Book, told, State, sealed_in, called, cut_off, after_event, run, verdicts, Large, MayBeMade, MayBeCut, Allows, Valid, start}
use Rattle.claim.specs.Promised.{Reads}
use Rattle.claim.specs.Claim.{Exactly, units, after}
use Rattle.claim.proofs.Bits.{bit_and_lem}
use Rattle.claim.proofs.Invariant.{Sound, going_on, opening_is, Inv, lost_inv, ready_inv, staged_inv, firm_inv, keeps, at_first, sound_of}
use Rattle.claim.specs.Instances.{RowEntry, does, torn, torn_in, Row, lent, events, answers, Holds, AllHold, table, nine, nine_said}
use Rattle.claim.proofs.Demand3.{demand_3}

-- # The test

-- the page that it lends
abbrev pub spare : List ℕ
spare = replicate 64 0

abbrev pub opens_by : WriteAmplification → Walk → Opening
opens_by w x = going_on w (units 64 4 1) (last_of (fresh (units 64 4 1)) 0 x)

-- what a call comes to, an opening by the walk without a page
abbrev pub plainly : Machine → Call → Outcome
plainly m (opening w page) = let x : Walk = walk (plain 4) m.region 0 in after_opening m (opens_by w x)
plainly m (stage x page) = done 4 1 m (stage x spare)
plainly m barrier = done 4 1 m barrier
plainly m commit = done 4 1 m commit

-- 0 where every number is within its type
abbrev pub excess : Record → ℕ
excess y =
    y.kind.0 / 256 + y.seq.0 / 4294967296 + y.workflow_kind / 65536 + y.workflow_version / 65536
    + y.activity.0 / 65536 + y.input_len / 65536 + y.input_crc / 4294967296 + y.clock_kind.0 / 256
    + y.deadline / 18446744073709551616 + y.armed_at / 18446744073709551616 + y.gate.0 / 65536 + y.version / 65536

abbrev pub typed : Given → Bool
typed x = eqb (excess x.«record») 0 && are_bytes x.free

abbrev pub is_nothing : Way → Bool
is_nothing nothing = true
is_nothing (under x) = false

abbrev pub may_be_made : Book → Call → Bool
may_be_made b (opening w page) = is_nothing b.way
may_be_made b (stage x page) = b.journal && typed x
may_be_made b barrier = b.journal
may_be_made b commit = b.journal

abbrev pub may_be_cut : Book → Call → Bool
may_be_cut b (opening w page) = true
may_be_cut b (stage x page) = may_be_made b (stage x page)
may_be_cut b barrier = may_be_made b barrier
may_be_cut b commit = may_be_made b commit

-- no bit of t differs from both that of x and that of y
abbrev pub mixes : ℕ → ℕ → ℕ → Bool
mixes x y t = eqb (bit_and (bit_xor t x) (bit_xor t y)) 0

abbrev pub may_leave : List ℕ → List ℕ → List ℕ → Bool
may_leave [] [] [] = true
may_leave [] [] (t ∷ ts) = false
may_leave [] (y ∷ ys) ts = false
may_leave (x ∷ xs) [] ts = false
may_leave (x ∷ xs) (y ∷ ys) [] = false
may_leave (x ∷ xs) (y ∷ ys) (t ∷ ts) = mixes x y t && may_leave xs ys ts

-- whether a list is valid, what its calls come to, and its book
pub record Trace : Type 0 where
  pub valid : Bool
  pub verdicts : List Verdict
  pub book : Book

abbrev pub checked : Bool → Trace → Trace
checked b z = record { valid = b && z.valid; verdicts = z.verdicts; book = z.book }

abbrev pub answered : Verdict → Trace → Trace
answered v z = record { valid = z.valid; verdicts = v ∷ z.verdicts; book = z.book }

unfoldable pub traced : State → List RowEntry → Trace
traced s [] = record { valid = true; verdicts = []; book = s.book }
traced s (does c v ∷ es) =
    let o : Outcome = plainly s.machine c in
    checked (may_be_made s.book c) (answered o.verdict (traced (called s c o) es))
traced s (torn t ∷ es) = checked (may_leave s.machine.base s.machine.region t) (traced (cut_off s false t) es)
traced s (torn_in c t ∷ es) =
    let o : Outcome = plainly s.machine c in
    checked (may_be_cut s.book c && may_leave s.machine.base o.left.region t)
    (traced (cut_off s (sealed_in 4 s c t) t) es)

abbrev pub tried : Row → Trace
tried x = traced (start 64) x.entries

abbrev pub expected : Row → Trace
expected x = record { valid = true; verdicts = answers x.entries; book = x.book }

-- the whole table, computed
tried_table : map tried table ≡ map expected table
unfolding traced walk walk_over stands shape_of erased programmed_from first_programmed programmed ands bit_step bit_steps octet octets fcs header_check frame_check bytes_le value_le field_bytes fields body_len record_len well_given payload_fits payload_len numbers_of payload_of checked_header header_of covered_of check_of frame_of padding_of seal_byte seal_from body_of sealed_from seal_holds widths round_up length_fits record_with well_formed body_at header_at frame_under decoded settled judged known seq_fits run_scoped has_free one_of free_fits clock_known clock_fits numbers_len allowed region_length program_unit read_unit unit_up_to as_staged on_device under_way begins staged is_next confirmed barred after_commit committed
tried_table = refl

-- # What it tests is so

bytes_are : (s : List ℕ) → are_bytes s ≡ true → AllBytes s
bytes_are [] h i = omega arith
bytes_are (x ∷ s) h zero = ltb-true x 256 ((and-eq-true_iff (ltb x 256) (are_bytes s)).0 h).0
bytes_are (x ∷ s) h (suc i) = bytes_are s ((and-eq-true_iff (ltb x 256) (are_bytes s)).0 h).1 i

pub typed_is : (x : Given) → typed x ≡ true → Typed x.«record» x.free
typed_is x h =
    let both = (and-eq-true_iff (eqb (excess x.«record») 0) (are_bytes x.free)).0 h in
    let e : excess x.«record» ≡ 0 = eqb-true (excess x.«record») 0 both.0 in
    record {
      kind = omega arith;
      seq = omega arith;
      workflow_kind = omega arith;
      workflow_version = omega arith;
      activity = omega arith;
      input_len = omega arith;
      input_crc = omega arith;
      clock_kind = omega arith;
      deadline = omega arith;
      armed_at = omega arith;
      gate = omega arith;
      version = omega arith;
      free_bytes = bytes_are x.free both.1;
    }

nothing_is : (w : Way) → is_nothing w ≡ true → w ≡ nothing
nothing_is nothing h = refl
nothing_is (under x) h = absurd (false≢true h)

-- where the bit of an exclusive or is 0, both have the same bit
same_bit : (k x y : ℕ) → bit k (bit_xor x y) ≡ 0 → bit k x ≡ bit k y
same_bit k x y h = omega (arith, h, ap (λ (m : ℕ). m % 2) (xor_shr x y k), xor_add_and (x / 2 ^ k) (y / 2 ^ k))

mixes_is : (x y t : ℕ) → mixes x y t ≡ true → Mixed x y t
mixes_is x y t h = record { each = λ k. ⊎_elim (λ e. search (inl, inr)) (λ e. search (inl, inr)) (go k (bit k (bit_xor t x)) refl) } where
  clear : (k : ℕ) → bit k (bit_and (bit_xor t x) (bit_xor t y)) ≡ 0
  clear k = ap (bit k) (eqb-true (bit_and (bit_xor t x) (bit_xor t y)) 0 h) ∙ omega (arith, shr_le 0 k)

  go : (k z : ℕ) → bit k (bit_xor t x) ≡ z → (bit k t ≡ bit k x) ⊎ (bit k t ≡ bit k y)
  go k zero e = inl (same_bit k t x e)
  go k (suc z) e = inr (same_bit k t y (omega (arith, e, clear k, bit_and_lem k (bit_xor t x) (bit_xor t y))))

cut_cons : (x y t : ℕ) (xs ys ts : List ℕ) → Mixed x y t → Cut xs ys ts → Cut (x ∷ xs) (y ∷ ys) (t ∷ ts)
cut_cons x y t xs ys ts m c = record { long = ap suc c.long; bytes = each } where
  each : (i : ℕ) → Mixed (get_or (x ∷ xs) i 255) (get_or (y ∷ ys) i 255) (get_or (t ∷ ts) i 255)
  each zero = m
  each (suc i) = c.bytes i

cut_is : (s u t : List ℕ) → may_leave s u t ≡ true → Cut s u t
cut_is [] [] [] h = record { long = refl; bytes = λ i. record { each = λ k. inl refl } }
cut_is [] [] (t ∷ ts) h = absurd (false≢true h)
cut_is [] (y ∷ ys) ts h = absurd (false≢true h)
cut_is (x ∷ xs) [] ts h = absurd (false≢true h)
cut_is (x ∷ xs) (y ∷ ys) [] h = absurd (false≢true h)
cut_is (x ∷ xs) (y ∷ ys) (t ∷ ts) h =
    let both = (and-eq-true_iff (mixes x y t) (may_leave xs ys ts)).0 h in
    cut_cons x y t xs ys ts (mixes_is x y t both.0) (cut_is xs ys ts both.1)

-- # The page does not matter

allows : allowed 64 4 1 ≡ true
unfolding allowed region_length program_unit read_unit unit_up_to
allows = refl

-- a journal at hand is one of 64 bytes
abbrev Fits : Held → Type 0
Fits none = Unit {0}
Fits (holds j) = j.geometry.bytes ≡ 64

fits_of : (s : State) → Inv 64 4 1 allows s → Fits s.machine.held
fits_of s (lost_inv u bs x v) = _
fits_of s (ready_inv u o w bs x v) = refl
fits_of s (staged_inv base u o y w bs z x v) = refl
fits_of s (firm_inv base u o y w bs x v) = refl

cond_same : {A B : Type 0} (f : A → B) (b : Bool) {x y z w : A} → (b ≡ true → f x ≡ f z) → (b ≡ false → f y ≡ f w) → f (cond b x y) ≡ f (cond b z w)
cond_same f true p q = p refl
cond_same f false p q = q refl

-- two pages that hold what the region holds
module _ (m : Machine) (j : Journal) (x : Given) (p q : List ℕ) (hp : j.geometry.bytes ≤ length p) (hq : j.geometry.bytes ≤ length q) where
  stages_same : stepped m (staged j x.«record» x.free m.region p) ≡ stepped m (staged j x.«record» x.free m.region q)
  unfolding staged on_device begins
  stages_same =
      cond_same (stepped m) (not (allowed j.geometry.bytes (unit_of j) j.geometry.read_size)) (λ _. refl)
      (λ _. cond_same (stepped m) (not (eqb (length m.region) j.geometry.bytes)) (λ _. refl)
      (λ _. cond_same (stepped m) (not (eqb j.phase 0)) (λ _. refl) (λ _. go (payload_len x.«record» (length x.free)))))
    where
      over : (n : ℕ) → record_len (unit_of j) n ≤ room_of j → (z : Option ℕ)
          → stepped m (staged_over j x.«record» x.free m.region p n z) ≡ stepped m (staged_over j x.«record» x.free m.region q n z)
      over n k (Some i) = refl
      over n k None = rw (le-ltb (length p) (record_len (unit_of j) n) (omega arith), le-ltb (length q) (record_len (unit_of j) n) (omega arith))

      go : (z : Size) → stepped m (staged_with j x.«record» x.free m.region p z) ≡ stepped m (staged_with j x.«record» x.free m.region q z)
      go (Err e) = refl
      go (Ok n) =
          cond_same (stepped m) (ltb (room_of j) (record_len (unit_of j) n)) (λ _. refl)
          (λ l.
          let k : record_len (unit_of j) n ≤ room_of j = ltb-false (room_of j) (record_len (unit_of j) n) l in
          over n k (coming j n m.region))

-- a large page
module _ (page : List ℕ) (h : Large page) where
  stages_plainly : (m : Machine) (x : Given) (y : Held) → Fits y
      → step_by m y (λ j. staged j x.«record» x.free m.region page) ≡ step_by m y (λ j. staged j x.«record» x.free m.region spare)
  stages_plainly m x none f = refl
  stages_plainly m x (holds j) f = stages_same m j x page spare (omega (arith, f, h)) (omega (arith, f))

  -- what is done with it is what the test does
  done_plainly : (m : Machine) → Sound 64 4 1 allows m.region → Fits m.held → (c : Call) → done 4 1 m (lent page c) ≡ plainly m c
  done_plainly m x f (opening w p) = ap (after_opening m) (opening_is 64 4 1 allows w m.region page x h)
  done_plainly m x f (stage y p) = stages_plainly m y m.held f
  done_plainly m x f barrier = refl
  done_plainly m x f commit = refl

  -- the book does not look at it
  told_lent : (b : Book) (c : Call) (v : Verdict) → told b (lent page c) v ≡ told b c v
  told_lent b (opening w p) v = refl
  told_lent b (stage x p) v = refl
  told_lent b barrier v = refl
  told_lent b commit v = refl

  sealed_lent : (s : State) (c : Call) (t : List ℕ) → sealed_in 4 s (lent page c) t ≡ sealed_in 4 s c t
  sealed_lent s (opening w p) t = refl
  sealed_lent s (stage x p) t = refl
  sealed_lent s barrier t = refl
  sealed_lent s commit t = refl

  -- a call that passes the test may stand
  stand_is : (b : Book) (c : Call) → may_be_made b c ≡ true → MayBeMade b (lent page c)
  stand_is b (opening w p) e = (nothing_is b.way e, h)
  stand_is b (stage x p) e =
      let both = (and-eq-true_iff b.journal (typed x)).0 e in
      (both.0, h, typed_is x both.1)
  stand_is b barrier e = e
  stand_is b commit e = e

  cut_stand_is : (b : Book) (c : Call) → may_be_cut b c ≡ true → MayBeCut b (lent page c)
  cut_stand_is b (opening w p) e = h
  cut_stand_is b (stage x p) e = stand_is b (stage x p) e
  cut_stand_is b barrier e = e
  cut_stand_is b commit e = e

  -- a list is valid from s, and comes to what a trace says
  record Says (s : State) (es : List Event) (z : Trace) : Type 0 where
    valid : Valid 4 1 s es
    comes : verdicts 4 1 s es ≡ z.verdicts
    leaves : (run 4 1 s es).book ≡ z.book

  -- a call, and a cut, that may stand in s and lead to t
  after_call : (s t : State) (c : Call) (v : Verdict) (es : List Event) (b : Bool) (z : Trace) → MayBeMade s.book c → (done 4 1 s.machine c).verdict ≡ v
      → after_event 4 1 s (call c) ≡ t → Says t es z → Says s (call c ∷ es) (checked b (answered v z))
  unfolding run verdicts
  after_call s t c v es b z a e f y =
      record {
        valid = (a, subst (λ u. Valid 4 1 u es) (sym f) y.valid);
        comes = ap₂ (λ w ws. w ∷ ws) e (ap (λ u. verdicts 4 1 u es) f ∙ y.comes);
        leaves = ap (λ u. (run 4 1 u es).book) f ∙ y.leaves;
      }

  after_cut : (s t : State) (e : Event) (es : List Event) (b : Bool) (z : Trace) → verdicts 4 1 s (e ∷ es) ≡ verdicts 4 1 (after_event 4 1 s e) es → Allows 4 1 s e
      → after_event 4 1 s e ≡ t → Says t es z → Says s (e ∷ es) (checked b z)
  unfolding run
  after_cut s t e es b z silent a f y =
      record {
        valid = (a, subst (λ u. Valid 4 1 u es) (sym f) y.valid);
        comes = silent ∙ ap (λ u. verdicts 4 1 u es) f ∙ y.comes;
        leaves = ap (λ u. (run 4 1 u es).book) f ∙ y.leaves;
      }

  -- a list that the test passes is valid, and comes to what the test says
  traced_says : (s : State) (es : List RowEntry) → Inv 64 4 1 allows s → (traced s es).valid ≡ true → Says s (events page es) (traced s es)
  unfolding traced after_event run verdicts
  traced_says s [] i e = record { valid = _; comes = refl; leaves = refl }
  traced_says s (does c v ∷ es) i e =
      let o : Outcome = plainly s.machine c in
      let both = (and-eq-true_iff (may_be_made s.book c) (traced (called s c o) es).valid).0 e in
      let d : done 4 1 s.machine (lent page c) ≡ o = done_plainly s.machine (sound_of 64 4 1 allows s i) (fits_of s i) c in
      let a : MayBeMade s.book (lent page c) = stand_is s.book c both.0 in
      let f : after_event 4 1 s (call (lent page c)) ≡ called s c o =
      ap (called s (lent page c)) d ∙ ap (λ b. record { machine = o.left; book = b }) (told_lent s.book c o.verdict) in
      after_call s (called s c o) (lent page c) o.verdict (events page es) (may_be_made s.book c) (traced (called s c o) es) a (ap (λ y. y.verdict) d) f
      (traced_says (called s c o) es (subst (Inv 64 4 1 allows) f (keeps 64 4 1 allows s (call (lent page c)) i a)) both.1)
  traced_says s (torn t ∷ es) i e =
      let both = (and-eq-true_iff (may_leave s.machine.base s.machine.region t) (traced (cut_off s false t) es).valid).0 e in
      let a : Cut s.machine.base s.machine.region t = cut_is s.machine.base s.machine.region t both.0 in
      after_cut s (cut_off s false t) (cut t) (events page es) (may_leave s.machine.base s.machine.region t) (traced (cut_off s false t) es) refl a refl
      (traced_says (cut_off s false t) es (keeps 64 4 1 allows s (cut t) i a) both.1)
  traced_says s (torn_in c t ∷ es) i e =
      let o : Outcome = plainly s.machine c in
      let u : State = cut_off s (sealed_in 4 s c t) t in
      let leaves : Bool = may_leave s.machine.base o.left.region t in
      let both = (and-eq-true_iff (may_be_cut s.book c && leaves) (traced u es).valid).0 e in
      let here = (and-eq-true_iff (may_be_cut s.book c) leaves).0 both.0 in
      let d : done 4 1 s.machine (lent page c) ≡ o = done_plainly s.machine (sound_of 64 4 1 allows s i) (fits_of s i) c in
      let a : Allows 4 1 s (cut_in (lent page c) t) =
      (cut_stand_is s.book c here.0, subst (λ y. Cut s.machine.base y.left.region t) (sym d) (cut_is s.machine.base o.left.region t here.1)) in
      let f : after_event 4 1 s (cut_in (lent page c) t) ≡ u = ap (λ b. cut_off s b t) (sealed_lent s c t) in
      after_cut s u (cut_in (lent page c) t) (events page es) (may_be_cut s.book c && leaves) (traced u es) refl a f
      (traced_says u es (subst (Inv 64 4 1 allows) f (keeps 64 4 1 allows s (cut_in (lent page c) t) i a)) both.1)

-- a row that the test passes holds; by demand 3 a caller reads its records
row_holds : (x : Row) → tried x ≡ expected x → Holds x
row_holds x e page h =
    let y : Says page h (start 64) (events page x.entries) (tried x) = traced_says page h (start 64) x.entries (at_first 64 4 1 allows) (ap (λ z. z.valid) e) in
    let book : (after 64 4 1 (events page x.entries)).book ≡ x.book = y.leaves ∙ ap (λ z. z.book) e in
    record {
      valid = y.valid;
      comes = y.comes ∙ ap (λ z. z.verdicts) e;
      book = book;
      read =
          λ pages large.
          subst (λ b. Exactly (Reads (after 64 4 1 (events page x.entries)).machine.region (fresh (units 64 4 1)) pages) (all_given b.records)) book
          ((demand_3 64 4 1 allows (events page x.entries) y.valid).finds_book pages large);
    }

-- so do all rows of a list that it passes
pub rows_hold : (xs : List Row) → map tried xs ≡ map expected xs → AllHold xs
rows_hold [] e = _
rows_hold (x ∷ xs) e = (row_holds x (cc), rows_hold xs (cc))

pub table_holds : AllHold table
table_holds = rows_hold table tried_table

-- there are pages that are large enough
pub some_page : Large (replicate 131072 0)
some_page = omega (arith, length-replicate {A = ℕ} 131072 0)

-- what the nine records say, computed
pub nine_said_lem : all_given nine ≡ nine_said
unfolding all_given given record_with numbers_of payload_of field_bytes bytes_le widths
nine_said_lem = refl
