-- Nothing else has changed: without their places recovery, scan and stage answer what they did before.
-- Assumes nothing.
use Rattle.std.specs.Prelude.{Ok, Err, None, Some, Option}
use mathlib.Core.Path.{◌≡◌, refl, sym, ap, ap₂, ◌∙◌}
use mathlib.Core.Bool.{Bool, true, false, cond, not, ◌&&◌}
use mathlib.Core.List.{List, [], ◌∷◌}
use Prim.Native.Nat.{ℕ, zero, suc, ◌-◌}
use borrow.Author.Tests.{eqb-true}
use native.Mathlib.Omega.{arith}
use lib.Dec.{eqb, ltb}
use lib.ListN.{length, take, drop}
use Rattle.waymaker_core.specs.declared.error.DecodeError.TheVariants.{Truncated, IntegrityFailed, LengthOutOfBounds}
use Rattle.waymaker_core.specs.declared.error.Span.TheVariants.{Tail, Behind, Ahead}
use Rattle.waymaker_core.specs.declared.error.Refusal.{Refusal}
use Rattle.waymaker_core.specs.declared.error.Refusal.TheVariants.{Settings, WrongDevice, PageTooSmall, Decode, NotErased, NotAppendable, Interrupted, NoRoom, OutOfOrder, NotARecord, CountTooLarge}
use Rattle.waymaker_core.specs.declared.«record».Record.{Record}
use Rattle.waymaker_core.specs.Refusals.{numbered}
use Rattle.waymaker_core.proofs.Choice.{cond_case}
use Rattle.storage.specs.Settings.{allowed, region_length, program_unit}
use Rattle.storage.specs.Media.{programmed_from, first_programmed, is_all, erased, read_at}
use Rattle.storage.proofs.ErasedBytes.{first_erased, part_erased}
use Rattle.frame.specs.Lengths.{Size, record_len, payload_len}
use Rattle.frame.specs.Format.{seal_holds}
use Rattle.payload.specs.declared.Decoded.{Decoded}
use Rattle.payload.specs.declared.Decoded.TheVariants.{Record as Known, UnknownKind}
use Rattle.decode.specs.declared.Frame.{Frame as FrameOf}
use Rattle.decode.specs.Decode.{Decoding, decoded}
use Rattle.place.specs.declared.Stop.{Stop}
use Rattle.place.specs.declared.Stop.TheVariants.{End, Bad, BadTail, NoSeal, NoSkip, TooSmall}
use Rattle.place.specs.declared.Stand.{Stand}
use Rattle.place.specs.declared.Stand.TheVariants.{Met, Passed, Over}
use Rattle.place.specs.AtOffset.{redeliverable, under_seal, skip_or, settled, judged_by, judged, Shape, Short, Blank, BadHeader, Overlong, Whole, shape_of, short_stop, tail_stop, stand_by, stands, end_answer}
use Rattle.place.specs.Walk.{Look, Waypoint, finds, skips, Walk, onward, walk_over, walk, Step, meets, stops, step_along, first_step, step_offsets}
use Rattle.place.proofs.Judgements.{to_end_lem}
use Rattle.counts.specs.Counts.{adds}
use Rattle.look.specs.Reads.{Read, capacity_of, laid, wanted, seen_by, paged}
use Rattle.recovery.specs.declared.next.Recovery.{Recovery}
use Rattle.recovery.specs.declared.next.Stepped.{Stepped}
use Rattle.recovery.specs.Next.{state_at, ending_by, arrived, walk_from, reads_through, is_open, before, with_page, step_in, step}
use Rattle.recovery.specs.declared.next.Ending.TheVariants.{Incomplete}
use Rattle.scan.specs.declared.Scan.{Scan}
use Rattle.scan.specs.Scan.{scanned_by, scanned, scan_look, answer_at, step_of}
use Rattle.journal.specs.declared.Journal.{Journal}
use Rattle.progress.specs.Phases.{unit_of, StepLeft, keeps, on_device}
use Rattle.staging.specs.Stage.{room_of, as_staged, coming, begins, staged_over, staged_with, staged}
use Rattle.places.specs.Before.{clean_or, was_settled, was_judged, stood_by, was_paged, recovered, was_scanned, scan_looked, scan_stepped, was_staged_with, was_staged, without, answer_without, done_without, scan_without, left_without, Theorem}

-- a function goes through a choice
through : {A B : Type 0} (f : A → B) (b : Bool) {x y : A} {v w : B} → f x ≡ v → f y ≡ w → f (cond b x y) ≡ cond b v w
through f true p q = p
through f false p q = q

-- the same of what stands behind three tests
three : {A : Type 0} (f : A → A) (b c d : Bool) (p q r x y : A) → f p ≡ p → f q ≡ q → f r ≡ r → f x ≡ y
    → f (cond b p (cond c q (cond d r x))) ≡ cond b p (cond c q (cond d r y))
three f true c d p q r x y h i j k = h
three f false true d p q r x y h i j k = i
three f false false true p q r x y h i j k = j
three f false false false p q r x y h i j k = k

-- # What stands somewhere

-- an end without its place, and what stands
abbrev bare : Stop → Stop
bare End = End
bare (Bad e) = Bad e
bare (BadTail i) = Bad IntegrityFailed
bare NoSeal = NoSeal
bare (NoSkip i) = NoSeal
bare (TooSmall n) = TooSmall n

abbrev bare_stand : Stand → Stand
bare_stand (Met x) = Met x
bare_stand (Passed n) = Passed n
bare_stand (Over e) = Over (bare e)

module _ (a : ℕ) where
  bare_under : (d : Decoded) (f : FrameOf) (n : ℕ) → bare_stand (under_seal d f n) ≡ under_seal d f n
  bare_under (Known x) f n = refl
  bare_under (UnknownKind k) f n = refl

  behind_erased : (s : List ℕ) (n : ℕ) → is_all (first_programmed s n (length s)) ≡ erased (drop n s)
  behind_erased s n = first_erased s n (length s) ∙ ap erased (to_end_lem s n)

  bare_settled : (f : FrameOf) (s : List ℕ) → bare_stand (settled a f s) ≡ was_settled a f s
  unfolding settled
  bare_settled f s =
      through bare_stand (seal_holds f.frame_crc (drop (length s - a) s)) (bare_under f.decoded f (length s))
      (go (redeliverable f.decoded) (first_programmed s f.frame_len (length s)) (erased (drop f.frame_len s)) (behind_erased s f.frame_len))
    where
      go : (b : Bool) (z : Option ℕ) (e : Bool) → is_all z ≡ e
          → bare_stand (cond b (skip_or (length s) z) (Over NoSeal)) ≡ cond (b && e) (Passed (length s)) (Over NoSeal)
      go false z e h = refl
      go true None e h = ap (λ c. cond c (Passed (length s)) (Over NoSeal)) h
      go true (Some i) e h = ap (λ c. cond c (Passed (length s)) (Over NoSeal)) h

  bare_judged : (s : List ℕ) (d : Decoding) → bare_stand (judged_by a s d) ≡ was_judged a s d
  bare_judged s (Ok f) = bare_settled f s
  bare_judged s (Err e) = refl

  bare_short : (b : Bool) → bare_stand (Over (short_stop b)) ≡ clean_or Truncated b
  bare_short true = refl
  bare_short false = refl

  bare_tail : (t : List ℕ) → bare_stand (Over (tail_stop (programmed_from 0 t))) ≡ clean_or IntegrityFailed (erased t)
  unfolding erased
  bare_tail t = go (programmed_from 0 t) where
    go : (z : Option ℕ) → bare_stand (Over (tail_stop z)) ≡ clean_or IntegrityFailed (is_all z)
    go None = refl
    go (Some i) = refl

  bare_by : (t : List ℕ) (x : Shape) → bare_stand (stand_by a t x) ≡ stood_by a t x
  unfolding judged
  bare_by t Short = bare_short (erased t)
  bare_by t Blank = bare_tail t
  bare_by t (BadHeader e) = refl
  bare_by t Overlong = refl
  bare_by t (Whole n) = bare_judged (take n t) (decoded (take n t))

  bare_seen : (cap : ℕ) (reads : List Read) (x y : Stand) → bare_stand x ≡ y → bare_stand (seen_by cap reads x) ≡ seen_by cap reads y
  unfolding seen_by
  bare_seen cap [] x y h = h
  bare_seen cap (r ∷ rs) x y h = through bare_stand (ltb cap r.size) refl (bare_seen cap rs x y h)

  bare_paged : (r cap o : ℕ) (t : List ℕ) → bare_stand (paged a r cap o t) ≡ was_paged a r cap o t
  unfolding paged stands
  bare_paged r cap o t = bare_seen cap (wanted a r cap o t) (stand_by a t (shape_of a t)) (stood_by a t (shape_of a t)) (bare_by t (shape_of a t))

  bare_scanned : (o : ℕ) (t : List ℕ) → bare_stand (scan_look a o t) ≡ scan_looked a o t
  unfolding scanned
  bare_scanned o t =
      through bare_stand (ltb (length t) 12) (bare_short (erased t))
      (through bare_stand (erased (take 12 t)) (bare_tail t) (go (decoded t)))
    where
      go : (d : Decoding) → bare_stand (scanned_by a t d) ≡ was_scanned a t d
      go (Err e) = refl
      go (Ok f) =
          let n : ℕ = record_len a f.payload.len in
          through bare_stand (ltb (length t) n) refl (bare_settled f (take n t))

-- # The walk

abbrev bare_walk : Walk → Walk
bare_walk w = record { points = w.points; at = w.at; stop = bare w.stop }

abbrev bare_step : Step → Step
bare_step (meets o x) = meets o x
bare_step (stops o e) = stops o (bare e)

bare_onward : (o : ℕ) (z : Stand) (f g : ℕ → Walk) → ((n : ℕ) → bare_walk (f n) ≡ g n) → bare_walk (onward o z f) ≡ onward o (bare_stand z) g
bare_onward o (Met x) f g h = ap (λ w. record { points = finds o x ∷ w.points; at = w.at; stop = w.stop }) (h x.len)
bare_onward o (Passed n) f g h = ap (λ w. record { points = skips o n ∷ w.points; at = w.at; stop = w.stop }) (h n)
bare_onward o (Over e) f g h = refl

module _ (look other : Look) (same : (o : ℕ) (t : List ℕ) → bare_stand (look o t) ≡ other o t) where
  bare_over : (k o : ℕ) (t : List ℕ) → bare_walk (walk_over look k o t) ≡ walk_over other k o t
  unfolding walk_over
  bare_over k o [] = refl
  bare_over (suc k) o (x ∷ t) = bare_over k (suc o) t
  bare_over zero o (x ∷ t) =
      bare_onward o (look o (x ∷ t)) (λ n. walk_over look (n - 1) (suc o) t) (λ n. walk_over other (n - 1) (suc o) t) (λ n. bare_over (n - 1) (suc o) t)
      ∙ ap (λ z. onward o z (λ n. walk_over other (n - 1) (suc o) t)) (same o (x ∷ t))

  bare_all : (region : List ℕ) (o : ℕ) → bare_walk (walk look region o) ≡ walk other region o
  unfolding walk
  bare_all region o = bare_over 0 o (drop o region)

bare_along : (xs : List Waypoint) (z : Step) → bare_step (step_along xs z) ≡ step_along xs (bare_step z)
bare_along [] z = refl
bare_along (finds o x ∷ xs) z = refl
bare_along (skips o n ∷ xs) z = bare_along xs z

bare_first : (w : Walk) → bare_step (first_step w) ≡ first_step (bare_walk w)
bare_first w = bare_along w.points (stops w.at w.stop)

-- # The three steps

abbrev stepped_without : Stepped → Stepped
stepped_without x = record { state = x.state; answer = answer_without x.answer }

-- what is answered at an end, and the ending
bare_end : (A : Type 0) (o : ℕ) (e : Stop) → answer_without (end_answer {A = A} o e) ≡ end_answer o (bare e)
bare_end A o End = refl
bare_end A o (Bad x) = refl
bare_end A o (BadTail i) = refl
bare_end A o NoSeal = refl
bare_end A o (NoSkip i) = refl
bare_end A o (TooSmall n) = refl

bare_ending : (e : Stop) → ending_by e ≡ ending_by (bare e)
bare_ending End = refl
bare_ending (Bad x) = refl
bare_ending (BadTail i) = refl
bare_ending NoSeal = refl
bare_ending (NoSkip i) = refl
bare_ending (TooSmall n) = refl

bare_arrived : (s : Recovery) (n : ℕ) (z : Step) → stepped_without (arrived s n z) ≡ arrived s n (bare_step z)
bare_arrived s n (meets o x) = refl
bare_arrived s n (stops o e) = ap₂ (λ d y. record { state = state_at s o d n; answer = y }) (bare_ending e) (bare_end _ o e)

module _ (s : Recovery) (region page : List ℕ) where
  abbrev cap : ℕ
  cap = capacity_of (length page) s.geometry.read_size

  abbrev now : Look
  now = paged s.geometry.program_size s.geometry.read_size cap

  abbrev was : Look
  was = was_paged s.geometry.program_size s.geometry.read_size cap

  bare_stepped : (w : Walk) → done_without (step_in s region page w) ≡ step_in s region page (bare_walk w)
  bare_stepped w =
      let reads : List Read = reads_through s region (length page) (step_offsets w.points w.at) in
      let n : ℕ = adds s.reads (length reads) in
      ap (with_page (laid region reads page)) (bare_arrived s n (first_step w) ∙ ap (arrived s n) (bare_first w))

  recovery_same : done_without (step s region page) ≡ recovered s region page
  unfolding step before walk_from
  recovery_same =
      three done_without (not (is_open s.ending)) (not (allowed s.geometry.bytes s.geometry.program_size s.geometry.read_size)) (not (eqb (length region) s.geometry.bytes))
      (with_page page (record { state = s; answer = Ok None })) (with_page page (record { state = s; answer = Err Settings }))
      (with_page page (record { state = state_at s s.offset Incomplete s.reads; answer = Err WrongDevice }))
      (step_in s region page (walk now region s.offset)) (step_in s region page (walk was region s.offset)) refl refl refl
      (bare_stepped (walk now region s.offset)
      ∙ ap (step_in s region page) (bare_all now was (bare_paged s.geometry.program_size s.geometry.read_size cap) region s.offset))

bare_answered : (a : ℕ) (z : Step) → scan_without (answer_at a z) ≡ answer_at a (bare_step z)
bare_answered a (meets o x) = refl
bare_answered a (stops o e) = ap (λ y. record { state = record { align = a; offset = o; stopped = true }; answer = y }) (bare_end _ o e)

scan_same : (s : Scan) (j : List ℕ) → scan_without (step_of s j) ≡ scan_stepped s j
unfolding step_of
scan_same s j =
    let w : Walk = walk (scan_look s.align) j s.offset in
    three scan_without s.stopped (not (region_length (length j) && program_unit s.align)) (ltb (length j) s.offset)
    (record { state = s; answer = Ok None }) (record { state = s; answer = Err Settings }) (record { state = s; answer = Ok None })
    (answer_at s.align (first_step w)) (answer_at s.align (first_step (walk (scan_looked s.align) j s.offset))) refl refl refl
    (bare_answered s.align (first_step w)
    ∙ ap (answer_at s.align) (bare_first w ∙ ap first_step (bare_all (scan_look s.align) (scan_looked s.align) (bare_scanned s.align) j s.offset)))

-- a refusal without a place is that refusal
by_place : (P : Refusal → Type 0) → ((i : ℕ) → P (NotErased Tail i)) → ((i : ℕ) → P (NotErased Behind i)) → ((i : ℕ) → P (NotErased Ahead i))
    → ((e : Refusal) → without e ≡ e → P e) → (e : Refusal) → P e
by_place P tail behind ahead plain (NotErased Tail i) = tail i
by_place P tail behind ahead plain (NotErased Behind i) = behind i
by_place P tail behind ahead plain (NotErased Ahead i) = ahead i
by_place P tail behind ahead plain Settings = plain _ refl
by_place P tail behind ahead plain WrongDevice = plain _ refl
by_place P tail behind ahead plain (PageTooSmall n) = plain _ refl
by_place P tail behind ahead plain (Decode e) = plain _ refl
by_place P tail behind ahead plain NotAppendable = plain _ refl
by_place P tail behind ahead plain Interrupted = plain _ refl
by_place P tail behind ahead plain (NoRoom n m) = plain _ refl
by_place P tail behind ahead plain OutOfOrder = plain _ refl
by_place P tail behind ahead plain NotARecord = plain _ refl
by_place P tail behind ahead plain CountTooLarge = plain _ refl

-- stage's refusal for a record that is none, or for its length, has none
as_staged_without : (e : Refusal) → without (as_staged e) ≡ as_staged e
unfolding as_staged
as_staged_without e = cond_case (λ y. without y ≡ y) (eqb (numbered e).number 15) (λ t. kept (eqb-true (numbered e).number 15 t)) (λ _. refl) where
  kept : (numbered e).number ≡ 15 → without e ≡ e
  kept =
      by_place (λ y. (numbered y).number ≡ 15 → without y ≡ y) (λ i h. absurd (omega (arith, h))) (λ i h. absurd (omega (arith, h))) (λ i h. absurd (omega (arith, h)))
      (λ y plain _. plain) e

module _ (j : Journal) (x : Record) (free region page : List ℕ) where
  abbrev kept : Refusal → StepLeft
  kept e = keeps e j region page

  -- with a payload of p bytes and a page that does or does not hold the record
  abbrev by_page : ℕ → StepLeft
  by_page p = cond (ltb (length page) (record_len (unit_of j) p)) (kept (Decode LengthOutOfBounds)) (begins j x free p region page)

  page_same : (p : ℕ) → left_without (by_page p) ≡ by_page p
  unfolding begins
  page_same p = go (ltb (length page) (record_len (unit_of j) p)) where
    go : (b : Bool) → left_without (cond b (kept (Decode LengthOutOfBounds)) (begins j x free p region page)) ≡ cond b (kept (Decode LengthOutOfBounds)) (begins j x free p region page)
    go true = refl
    go false = refl

  over_same : (p : ℕ) (z : Option ℕ) (e : Bool) → is_all z ≡ e → left_without (staged_over j x free region page p z) ≡ cond (not e) (kept (NotErased Ahead 0)) (by_page p)
  over_same p (Some i) e h = ap (λ c. cond (not c) (kept (NotErased Ahead 0)) (by_page p)) h
  over_same p None e h = page_same p ∙ ap (λ c. cond (not c) (kept (NotErased Ahead 0)) (by_page p)) h

  size_same : (z : Size) → left_without (staged_with j x free region page z) ≡ was_staged_with j x free region page z
  size_same (Err e) = ap kept (as_staged_without e)
  size_same (Ok p) = go (ltb (room_of j) n) where
    n : ℕ
    n = record_len (unit_of j) p

    over : left_without (staged_over j x free region page p (coming j p region)) ≡ cond (not (erased (read_at region j.offset n))) (kept (NotErased Ahead 0)) (by_page p)
    over = over_same p (coming j p region) (erased (read_at region j.offset n)) (sym (part_erased region j.offset n))

    go : (b : Bool) → left_without (cond b (kept (NoRoom n (room_of j))) (staged_over j x free region page p (coming j p region)))
        ≡ cond b (kept (NoRoom n (room_of j))) (cond (not (erased (read_at region j.offset n))) (kept (NotErased Ahead 0)) (by_page p))
    go true = refl
    go false = over

  stage_same : left_without (staged j x free region page) ≡ was_staged j x free region page
  unfolding staged on_device
  stage_same =
      let z : Size = payload_len x (length free) in
      three left_without (not (allowed j.geometry.bytes (unit_of j) j.geometry.read_size)) (not (eqb (length region) j.geometry.bytes)) (not (eqb j.phase 0))
      (kept Settings) (kept WrongDevice) (kept Interrupted) (staged_with j x free region page z) (was_staged_with j x free region page z) refl refl refl (size_same z)

-- # Numbers

-- a number that is the same without a place
same_number : (f : Refusal → ℕ) → ((i : ℕ) → f (without (NotErased Tail i)) ≡ f (NotErased Tail i)) → ((i : ℕ) → f (without (NotErased Behind i)) ≡ f (NotErased Behind i))
    → ((i : ℕ) → f (without (NotErased Ahead i)) ≡ f (NotErased Ahead i)) → (e : Refusal) → f (without e) ≡ f e
same_number f tail behind ahead = by_place (λ e. f (without e) ≡ f e) tail behind ahead (λ e plain. ap f plain)

pub nothing_else_changed : Theorem
nothing_else_changed =
    record {
      recovery = recovery_same;
      scan = scan_same;
      stage = stage_same;
      number = same_number (λ e. (numbered e).number) (λ i. refl) (λ i. refl) (λ i. refl);
      needed = same_number (λ e. (numbered e).needed) (λ i. refl) (λ i. refl) (λ i. refl);
      available = same_number (λ e. (numbered e).available) (λ i. refl) (λ i. refl) (λ i. refl);
    }
