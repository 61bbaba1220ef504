-- The place in a refusal is that of the first byte that is not 0xFF of those that were to be erased.
-- Assumes nothing.
use Rattle.std.specs.Prelude.{Ok, Err, None, Some, Option}
use mathlib.Core.Path.{◌≡◌, refl, sym, ap, subst, ◌∙◌}
use mathlib.Core.Bool.{true, not, ◌&&◌, and-eq-true_iff}
use mathlib.Core.List.{List, [], ◌∷◌}
use Rattle.std.proofs.lemmas.List.{append-nil}
use Prim.Native.Nat.{ℕ, ◌+◌, ◌-◌, ◌<◌, ◌≤◌}
use native.Mathlib.Omega.{arith}
use lib.Dec.{eqb, ltb}
use lib.ListN.{length, get_or, take, drop, length-drop, take-append-drop}
use lib.Seq.{get_or-drop, get_or-take, length-take-le, take-take}
use borrow.Author.Tests.{eqb-true, ltb-false, not-false}
use Rattle.waymaker_core.specs.declared.error.Span.TheVariants.{Tail, Behind, Ahead}
use Rattle.waymaker_core.specs.declared.error.Refusal.{Refusal}
use Rattle.waymaker_core.specs.declared.error.Refusal.TheVariants.{Settings, WrongDevice, PageTooSmall, Decode, NotErased, NotAppendable, Interrupted, NoRoom, OutOfOrder, NotARecord, CountTooLarge}
use Rattle.waymaker_core.specs.declared.«record».Record.{Record}
use Rattle.waymaker_core.specs.Refusals.{numbered}
use Rattle.waymaker_core.proofs.Choice.{cond_case}
use Rattle.storage.specs.Settings.{allowed, region_length, program_unit}
use Rattle.storage.specs.Media.{programmed_from, first_programmed, erased}
use Rattle.storage.proofs.ErasedBytes.{First, first_is, search_within, whole_search, erased_blank}
use Rattle.storage.proofs.Units.{limits, program_bounds}
use Rattle.frame.specs.Lengths.{Size, frame_len, record_len, payload_len}
use Rattle.frame.specs.Format.{seal_holds}
use Rattle.payload.specs.declared.Decoded.{Decoded}
use Rattle.payload.specs.declared.Decoded.TheVariants.{Record as Known, UnknownKind}
use Rattle.decode.specs.declared.Frame.{Frame as FrameOf}
use Rattle.decode.specs.declared.VerifiedHeader.{VerifiedHeader}
use Rattle.decode.specs.Decode.{Decoding, FrameLen, header_at, length_under, frame_len_of, decoded}
use Rattle.roundtrip.proofs.RoundTrip.{Agree, same_length, header_local, decode_front}
use Rattle.place.specs.declared.Stop.{Stop}
use Rattle.place.specs.declared.Stop.TheVariants.{End, Bad, BadTail, NoSeal, NoSkip, TooSmall}
use Rattle.place.specs.declared.Stand.{Stand}
use Rattle.place.specs.declared.Stand.TheVariants.{Met, Passed, Over}
use Rattle.place.specs.AtOffset.{redeliverable, under_seal, skip_or, settled, judged_by, judged, stands, end_answer}
use Rattle.place.specs.Walk.{Look, Waypoint, finds, skips, Walk, walk, Step, meets, stops, step_along, first_step}
use Rattle.place.proofs.Cases.{short_case, tail_case, stands_case}
use Rattle.place.proofs.Walks.{Steady, each_walk}
use Rattle.look.specs.Reads.{Read as Reading, capacity_of, wanted, seen_by, paged}
use Rattle.look.proofs.Near.{paged_steady}
use Rattle.recovery.specs.declared.next.Recovery.{Recovery}
use Rattle.recovery.specs.Next.{arrived, walk_from, is_open, before, Done, step}
use Rattle.scan.specs.declared.Scan.{Scan}
use Rattle.scan.specs.declared.ScanStepped.{ScanStepped}
use Rattle.scan.specs.Scan.{scanned_by, scanned, scan_look, answer_at, step_of}
use Rattle.scan.proofs.Lengths.{scan_steady}
use Rattle.journal.specs.declared.Journal.{Journal}
use Rattle.progress.specs.Phases.{unit_of, StepLeft, keeps, on_device}
use Rattle.staging.specs.Stage.{room_of, as_staged, coming, begins, staged_over, staged_with, staged}
use Rattle.places.specs.First.{IsFirst, Placed, Read, Stages, Theorem}

-- # The first byte of a part

search_first : (s : List ℕ) (from to i : ℕ) → first_programmed s from to ≡ Some i → IsFirst s from to i
unfolding first_programmed
search_first s from to i e =
    let t : List ℕ = take (to - from) (drop from s) in
    let f : First from t i = first_is from t i e in
    let w = search_within s from to i e in
    let at : (k : ℕ) → from ≤ k → k < to → get_or t (k - from) 255 ≡ get_or s k 255 =
    λ k l h.
    let back : from + (k - from) ≡ k = omega (arith, l) in
    get_or-take (to - from) (drop from s) (k - from) 255 (omega (arith, l, h))
    ∙ get_or-drop from s (k - from) 255
    ∙ ap (λ n. get_or s n 255) back in
    record {
      least = w.least;
      most = w.most;
      inside = w.inside;
      programmed = λ h. f.other (at i w.least w.most ∙ h);
      before =
          λ k l h.
          sym (at k l (omega (arith, h, w.most)))
          ∙ sym (get_or-take (i - from) t (k - from) 255 (omega (arith, l, h)))
          ∙ erased_blank (take (i - from) t) f.before (k - from);
    }

-- the same of the list that these bytes begin, and of the one that they end
first_taken : (n : ℕ) (s : List ℕ) (from to i : ℕ) → n ≤ length s → IsFirst (take n s) from to i → IsFirst s from to i
first_taken n s from to i l f =
    let size : length (take n s) ≡ n = length-take-le n s l in
    record {
      least = f.least;
      most = f.most;
      inside = omega (arith, f.inside, size);
      programmed = λ h. f.programmed (get_or-take n s i 255 (omega (arith, f.inside, size)) ∙ h);
      before = λ k a h. sym (get_or-take n s k 255 (omega (arith, h, f.inside, size))) ∙ f.before k a h;
    }

first_behind : (o : ℕ) (s : List ℕ) (from to i : ℕ) → IsFirst (drop o s) from to i → IsFirst s (o + from) (o + to) (o + i)
first_behind o s from to i f =
    record {
      least = omega (arith, f.least);
      most = omega (arith, f.most);
      inside = omega (arith, f.inside, length-drop o s);
      programmed = λ h. f.programmed (get_or-drop o s i 255 ∙ h);
      before =
          λ k a h.
          let at : o + (k - o) ≡ k = omega (arith, a) in
          ap (λ n. get_or s n 255) (sym at)
          ∙ sym (get_or-drop o s (k - o) 255)
          ∙ f.before (k - o) (omega (arith, a)) (omega (arith, a, h));
    }

-- # What stands somewhere

-- a frame of kind 3, 4 or 6 stands at the start of t, and byte i is the first behind it
record Spoilt (a : ℕ) (t : List ℕ) (i : ℕ) : Type 0 where
  frame : FrameOf
  reads : decoded t ≡ Ok frame
  kind : redeliverable frame.decoded ≡ true
  first : IsFirst t frame.frame_len (record_len a frame.payload.len) i

abbrev MarkedEnd : ℕ → List ℕ → Stop → Type 0
MarkedEnd a t End = Unit {0}
MarkedEnd a t (Bad e) = Unit {0}
MarkedEnd a t (BadTail i) = IsFirst t 0 (length t) i
MarkedEnd a t NoSeal = Unit {0}
MarkedEnd a t (NoSkip i) = Spoilt a t i
MarkedEnd a t (TooSmall n) = Unit {0}

abbrev Marked : ℕ → List ℕ → Stand → Type 0
Marked a t (Met x) = Unit {0}
Marked a t (Passed n) = Unit {0}
Marked a t (Over e) = MarkedEnd a t e

module _ (a : ℕ) (t : List ℕ) where
  marked_under : (d : Decoded) (f : FrameOf) (n : ℕ) → Marked a t (under_seal d f n)
  marked_under (Known x) f n = tt
  marked_under (UnknownKind k) f n = tt

  -- the record of n bytes under a frame
  marked_settled : (f : FrameOf) (n : ℕ) → decoded t ≡ Ok f → n ≡ record_len a f.payload.len → n ≤ length t → Marked a t (settled a f (take n t))
  unfolding settled
  marked_settled f n e k l =
      cond_case (Marked a t) (seal_holds f.frame_crc (drop (length (take n t) - a) (take n t))) (λ _. marked_under f.decoded f (length (take n t)))
      (λ _. cond_case (Marked a t) (redeliverable f.decoded) (λ r. skip r (first_programmed (take n t) f.frame_len (length (take n t))) refl) (λ _. tt))
    where
      skip : redeliverable f.decoded ≡ true → (z : Option ℕ) → first_programmed (take n t) f.frame_len (length (take n t)) ≡ z → Marked a t (skip_or (length (take n t)) z)
      skip r None i = tt
      skip r (Some at) i =
          let size : length (take n t) ≡ record_len a f.payload.len = length-take-le n t l ∙ k in
          record {
            frame = f;
            reads = e;
            kind = r;
            first = subst (λ m. IsFirst t f.frame_len m at) size (first_taken n t f.frame_len (length (take n t)) at l (search_first (take n t) f.frame_len (length (take n t)) at i));
          }

  marked_tail : (i : ℕ) → programmed_from 0 t ≡ Some i → IsFirst t 0 (length t) i
  marked_tail i e = search_first t 0 (length t) i (whole_search t ∙ e)

  -- the payload's length by the header, and by the frame
  same_payload : (v : VerifiedHeader) (s : List ℕ) (f : FrameOf) → header_at (take 12 s) ≡ Ok v → Agree s f → v.payload_len ≡ f.payload.len
  unfolding frame_len_of
  same_payload v s f h g =
      let size : frame_len_of s ≡ Ok (frame_len v.payload_len) =
      sym (header_local s [] (omega (arith, g.within, g.own))) ∙ ap frame_len_of (append-nil (take 12 s)) ∙ ap length_under h in
      let same : frame_len v.payload_len ≡ f.frame_len = let e : ◌≡◌ {A = FrameLen} (Ok (frame_len v.payload_len)) (Ok f.frame_len) = sym size ∙ g.size in cc in
      omega (arith, same, g.own)

  -- a header whose record lies in t
  marked_judged : (v : VerifiedHeader) → header_at (take 12 t) ≡ Ok v → record_len a v.payload_len ≤ length t → Marked a t (judged a (take (record_len a v.payload_len) t))
  unfolding judged
  marked_judged v h l = go (decoded s) refl where
    n : ℕ
    n = record_len a v.payload_len

    s : List ℕ
    s = take n t

    go : (d : Decoding) → decoded s ≡ d → Marked a t (judged_by a s d)
    go (Err e) i = tt
    go (Ok f) i =
        let g : Agree s f = same_length s f i in
        marked_settled f n
        (ap decoded (sym (take-append-drop n t)) ∙ decode_front s (drop n t) f.frame_len g.size g.within ∙ i)
        (ap (record_len a) (same_payload v s f (ap header_at (take-take 12 n t (omega (arith, g.within, g.own, length-take-le n t l))) ∙ h) g)) l

  marked_stands : Marked a t (stands a t)
  marked_stands = stands_case a (Marked a t) t (λ _. tt) marked_tail (λ e. tt) marked_judged

  marked_seen : (cap : ℕ) (reads : List Reading) (x : Stand) → Marked a t x → Marked a t (seen_by cap reads x)
  unfolding seen_by
  marked_seen cap [] x h = h
  marked_seen cap (r ∷ rs) x h = cond_case (Marked a t) (ltb cap r.size) (λ _. tt) (λ _. marked_seen cap rs x h)

  marked_paged : (r cap o : ℕ) → Marked a t (paged a r cap o t)
  unfolding paged
  marked_paged r cap o = marked_seen cap (wanted a r cap o t) (stands a t) marked_stands

  marked_scanned : (o : ℕ) → Marked a t (scan_look a o t)
  unfolding scanned
  marked_scanned o =
      cond_case (Marked a t) (ltb (length t) 12) (λ _. short_case a (Marked a t) t (λ _. tt) (λ e. tt))
      (λ _. cond_case (Marked a t) (erased (take 12 t)) (λ _. tail_case a (Marked a t) t (λ _. tt) marked_tail) (λ _. go (decoded t) refl))
    where
      go : (d : Decoding) → decoded t ≡ d → Marked a t (scanned_by a t d)
      go (Err e) i = tt
      go (Ok f) i =
          let n : ℕ = record_len a f.payload.len in
          cond_case (Marked a t) (ltb (length t) n) (λ _. tt) (λ l. marked_settled f n i refl (ltb-false (length t) n l))

-- # A walk's end

module _ (a : ℕ) (look : Look) (region : List ℕ) (marked : (o : ℕ) → Marked a (drop o region) (look o (drop o region))) where
  abbrev MarkedStep : Step → Type 0
  MarkedStep (meets o x) = Unit {0}
  MarkedStep (stops o e) = MarkedEnd a (drop o region) e

  marked_along : (xs : List Waypoint) (o : ℕ) (e : Stop) → MarkedEnd a (drop o region) e → MarkedStep (step_along xs (stops o e))
  marked_along [] o e h = h
  marked_along (finds p x ∷ xs) o e h = tt
  marked_along (skips p n ∷ xs) o e h = marked_along xs o e h

  marked_first : Steady look → (o : ℕ) → MarkedStep (first_step (walk look region o))
  marked_first s o =
      let w : Walk = walk look region o in
      marked_along w.points w.at w.stop
      (each_walk look s region (λ _ v. MarkedEnd a (drop v.at region) v.stop) (λ _ _ _ _ _ k. k) (λ _ _ _ _ _ k. k)
      (λ p e i. subst (Marked a (drop p region)) i (marked p)) o)

-- what an answer at an end says of its place
placed_end : (A : Type 0) (a : ℕ) (region : List ℕ) (o : ℕ) (e : Stop) → MarkedEnd a (drop o region) e → Placed (Read a region o) (end_answer {A = A} o e)
placed_end A a region o End h = tt
placed_end A a region o (Bad e) h = tt
placed_end A a region o (BadTail i) h =
    let f : IsFirst region (o + 0) (o + length (drop o region)) (o + i) = first_behind o region 0 (length (drop o region)) i h in
    record { least = omega (arith, f.least); most = f.inside; inside = f.inside; programmed = f.programmed; before = λ k l m. f.before k (omega (arith, l)) m }
placed_end A a region o NoSeal h = tt
placed_end A a region o (NoSkip i) h =
    record {
      frame = h.frame;
      reads = h.reads;
      kind = h.kind;
      first = first_behind o region h.frame.frame_len (record_len a h.frame.payload.len) i h.first;
    }
placed_end A a region o (TooSmall n) h = tt

-- # The three steps

module _ (s : Recovery) (region page : List ℕ) where
  abbrev PlacedDone : Done → Type 0
  PlacedDone d = Placed (Read s.geometry.program_size region d.out.state.offset) d.out.answer

  placed_arrived : (n : ℕ) (z : Step) → MarkedStep s.geometry.program_size (λ o t. Over End) region (λ o. tt) z → Placed (Read s.geometry.program_size region (arrived s n z).state.offset) (arrived s n z).answer
  placed_arrived n (meets o x) h = tt
  placed_arrived n (stops o e) h = placed_end _ s.geometry.program_size region o e h

  recovery_placed : PlacedDone (step s region page)
  unfolding step before walk_from
  recovery_placed =
      let a : ℕ = s.geometry.program_size in
      let r : ℕ = s.geometry.read_size in
      let cap : ℕ = capacity_of (length page) r in
      let look : Look = paged a r cap in
      cond_case PlacedDone (not (is_open s.ending)) (λ _. tt)
      (λ _. cond_case PlacedDone (not (allowed s.geometry.bytes a r)) (λ _. tt)
      (λ e. cond_case PlacedDone (not (eqb (length region) s.geometry.bytes)) (λ _. tt)
      (λ _.
      let some : 0 < a = (limits s.geometry.bytes a r (not-false _ e)).program_least in
      placed_arrived _ (first_step (walk look region s.offset)) (marked_first a look region (λ o. marked_paged a (drop o region) r cap o) (paged_steady a r cap some) s.offset))))

module _ (s : Scan) (j : List ℕ) where
  abbrev PlacedScan : ScanStepped → Type 0
  PlacedScan x = Placed (Read s.align j x.state.offset) x.answer

  placed_answer : (z : Step) → MarkedStep s.align (λ o t. Over End) j (λ o. tt) z → PlacedScan (answer_at s.align z)
  placed_answer (meets o x) h = tt
  placed_answer (stops o e) h = placed_end _ s.align j o e h

  scan_placed : PlacedScan (step_of s j)
  unfolding step_of
  scan_placed =
      let a : ℕ = s.align in
      cond_case PlacedScan s.stopped (λ _. tt)
      (λ _. cond_case PlacedScan (not (region_length (length j) && program_unit a)) (λ _. tt)
      (λ e. cond_case PlacedScan (ltb (length j) s.offset) (λ _. tt)
      (λ _.
      let u = ((and-eq-true_iff (region_length (length j)) (program_unit a)).0 (not-false _ e)).1 in
      placed_answer (first_step (walk (scan_look a) j s.offset)) (marked_first a (scan_look a) j (λ o. marked_scanned a (drop o j) o) (scan_steady a (program_bounds a u).least) s.offset))))

module _ (j : Journal) (x : Record) (free region page : List ℕ) where
  abbrev PlacedStep : StepLeft → Type 0
  PlacedStep l = Placed (Stages j x free region) l.out.progress

  -- a refusal for a record that is none, or for its length
  placed_size : (e : Refusal) → PlacedStep (keeps (as_staged e) j region page)
  unfolding as_staged
  placed_size e = cond_case (λ y. PlacedStep (keeps y j region page)) (eqb (numbered e).number 15) (λ i. kept e (eqb-true (numbered e).number 15 i)) (λ _. tt) where
    kept : (y : Refusal) → (numbered y).number ≡ 15 → PlacedStep (keeps y j region page)
    kept (NotErased Tail i) h = absurd (omega (arith, h))
    kept (NotErased Behind i) h = absurd (omega (arith, h))
    kept (NotErased Ahead i) h = absurd (omega (arith, h))
    kept Settings h = tt
    kept WrongDevice h = tt
    kept (PageTooSmall n) h = tt
    kept (Decode d) h = tt
    kept NotAppendable h = tt
    kept Interrupted h = tt
    kept (NoRoom n m) h = tt
    kept OutOfOrder h = tt
    kept NotARecord h = tt
    kept CountTooLarge h = tt

  stage_placed : PlacedStep (staged j x free region page)
  unfolding staged on_device begins
  stage_placed =
      cond_case PlacedStep (not (allowed j.geometry.bytes (unit_of j) j.geometry.read_size)) (λ _. tt)
      (λ _. cond_case PlacedStep (not (eqb (length region) j.geometry.bytes)) (λ _. tt)
      (λ _. cond_case PlacedStep (not (eqb j.phase 0)) (λ _. tt) (λ _. by_size (payload_len x (length free)) refl)))
    where
      over : (p : ℕ) → payload_len x (length free) ≡ Ok p → (z : Option ℕ) → coming j p region ≡ z → PlacedStep (staged_over j x free region page p z)
      over p k (Some i) e = record { size = p; payload = k; first = search_first region j.offset (j.offset + record_len (unit_of j) p) i e }
      over p k None e = cond_case PlacedStep (ltb (length page) (record_len (unit_of j) p)) (λ _. tt) (λ _. tt)

      by_size : (z : Size) → payload_len x (length free) ≡ z → PlacedStep (staged_with j x free region page z)
      by_size (Err e) k = placed_size e
      by_size (Ok p) k = cond_case PlacedStep (ltb (room_of j) (record_len (unit_of j) p)) (λ _. tt) (λ _. over p k (coming j p region) refl)

pub places_are_first : Theorem
places_are_first = record { recovery = recovery_placed; scan = scan_placed; stage = stage_placed }
