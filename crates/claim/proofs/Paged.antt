-- The payload of a record that a step finds is a part of the caller's page, the same bytes as in the region.
-- Assumes nothing.
use Rattle.std.specs.Prelude.{Ok, Err, Some, None}
use mathlib.Core.Path.{◌≡◌, refl, sym, ap, subst, ◌∙◌}
use mathlib.Core.Bool.{Bool, true, false, cond, not}
use mathlib.Core.List.{List, [], ◌∷◌}
use Prim.Native.Nat.{ℕ, ◌+◌, ◌-◌, ◌≤◌, ◌<◌}
use native.Mathlib.Omega.{arith}
use lib.Dec.{ltb, eqb}
use lib.ListN.{length, take, drop, length-drop, take-append-drop}
use lib.Seq.{length-take-le, take-append-le, drop-append-le, drop-drop}
use borrow.Author.Tests.{le-ltb, ltb-false, eqb-true}
use Rattle.waymaker_core.proofs.Choice.{cond_case}
use Rattle.integrity.specs.Fcs.{frame_check}
use Rattle.storage.proofs.Units.{limits}
use Rattle.storage.specs.Media.{erased, laid_over, read_at}
use Rattle.storage.proofs.Reading.{laid_length}
use Rattle.frame.specs.Bytes.{value_at}
use Rattle.frame.specs.Lengths.{frame_len, record_len}
use Rattle.payload.specs.Payload.{Body, body_at}
use Rattle.decode.specs.declared.VerifiedHeader.{VerifiedHeader}
use Rattle.decode.specs.Decode.{Header, Decoding, header_at, framed, frame_under, on_header, decoded}
use Rattle.decode.specs.declared.Frame.{Frame as FrameOf}
use Rattle.place.specs.declared.Stop.{Stop}
use Rattle.place.specs.declared.Stop.TheVariants.{End, Bad, BadTail, NoSeal, NoSkip, TooSmall}
use Rattle.place.specs.declared.Stand.{Stand}
use Rattle.place.specs.declared.Stand.TheVariants.{Met, Passed, Over}
use Rattle.place.specs.AtOffset.{settled, judged_by, judged, Shape, Short, Blank, BadHeader, Overlong, Whole, headed, shape_of, stand_by, stands, end_answer}
use Rattle.counts.specs.Counts.{adds}
use Rattle.place.specs.Walk.{Walk, walk, Step, meets, stops, first_step, step_offsets}
use Rattle.place.proofs.Cases.{settled_case}
use Rattle.place.proofs.Walks.{each_walk}
use Rattle.recovery.specs.declared.next.Recovery.{Recovery}
use Rattle.recovery.specs.declared.next.Found.{Found as OneFound}
use Rattle.recovery.specs.Next.{Answer, arrived, walk_from, reads_through, with_page, step_in, step, NextStep, part_at}
use Rattle.recovery.specs.declared.next.Stepped.{Stepped}
use Rattle.look.specs.Reads.{capacity_of, Read, laid, further, header_size, wanted, made, seen_by, paged, reads_at, reads_all}
use Rattle.look.proofs.Fronts.{capped, capped_most, front_read}
use Rattle.look.proofs.Near.{paged_steady, laid_long, laid_append}
use Rattle.finish.proofs.Steps.{not_found, Before, looks, says, unless, view, IsBefore, is_before, step_view}
use Rattle.claim.proofs.Said.{said_in}

-- a part of a list's first n bytes is that part of the list
inside : (n i k : ℕ) (l : List ℕ) → i + k ≤ n → n ≤ length l → take k (drop i (take n l)) ≡ take k (drop i l)
inside n i k l h m =
    let s : length (take n l) ≡ n = length-take-le n l m in
    let d : length (drop i (take n l)) ≡ length (take n l) - i = length-drop i (take n l) in
    sym (take-append-le k (drop i (take n l)) (drop n l) (omega arith))
    ∙ ap (take k) (sym (drop-append-le i (take n l) (drop n l) (omega arith)) ∙ ap (drop i) (take-append-drop n l))

-- a part of a page whose first n bytes are those of the region from o
part_same : (page region : List ℕ) (o n i k : ℕ) → i + k ≤ n → n ≤ length page → n ≤ length (drop o region) → take n page ≡ take n (drop o region)
    → part_at page i k ≡ take k (drop (o + i) region)
unfolding part_at
part_same page region o n i k h m j e =
    rw (le-ltb (length page) i (omega arith), le-ltb (length page - i) k (omega arith))
    (sym (inside n i k page h m) ∙ ap (λ q. take k (drop i q)) e ∙ inside n i k (drop o region) h j ∙ ap (take k) (drop-drop i o region))

-- a record that stands there has its payload within its first m bytes
abbrev Inner : ℕ → Stand → Type 0
Inner m (Met x) = x.payload.place + x.payload.len ≤ m
Inner m (Passed n) = Unit {0}
Inner m (Over e) = Unit {0}

inner_settled : (a : ℕ) (f : FrameOf) (s : List ℕ) → f.payload.place + f.payload.len ≤ length s → Inner (length s) (settled a f s)
inner_settled a f s h = settled_case a (Inner (length s)) f s (λ x. h) tt (λ e. tt) tt (λ i e. tt)

inner_under : (a : ℕ) (s : List ℕ) (v : VerifiedHeader) → Inner (length s) (judged_by a s (frame_under v s))
unfolding frame_under
inner_under a s v =
    let p : ℕ = v.payload_len in
    let P : Decoding → Type 0 = λ d. Inner (length s) (judged_by a s d) in
    cond_case P (ltb (length s) (frame_len p)) (λ _. tt)
    (λ e. cond_case P (not (eqb (frame_check (take (12 + p) s)) (value_at 4 s (12 + p)))) (λ _. tt)
    (λ _. go (body_at v.kind.0 v.seq.0 (take p (drop 12 s))) (value_at 4 s (12 + p)) (ltb-false (length s) (frame_len p) e)))
  where
    go : (b : Body) (c : ℕ) → frame_len v.payload_len ≤ length s → Inner (length s) (judged_by a s (framed b v.payload_len c))
    go (Ok d) c h = inner_settled a _ s (omega arith)
    go (Err x) c h = tt

inner_judged : (a : ℕ) (s : List ℕ) → Inner (length s) (judged a s)
unfolding judged decoded
inner_judged a s = go (header_at s) where
  go : (d : Header) → Inner (length s) (judged_by a s (on_header d s))
  go (Ok v) = inner_under a s v
  go (Err e) = tt

-- a record that is answered has its payload in the page
abbrev Paged : List ℕ → List ℕ → Answer → Type 0
Paged region page (Ok (Some f)) = part_at page f.«record».payload.place f.«record».payload.len ≡ (said_in region f).payload
Paged region page (Ok None) = Unit {0}
Paged region page (Err e) = Unit {0}

module _ (region : List ℕ) where
  -- the same of what an offset comes to, and of a step
  abbrev Holds : ℕ → List ℕ → Stand → Type 0
  Holds o page (Met x) = Paged region page (Ok (Some (record { offset = o; «record» = x })))
  Holds o page (Passed n) = Unit {0}
  Holds o page (Over e) = Unit {0}

  abbrev HoldsStep : List ℕ → Step → Type 0
  HoldsStep page (meets o x) = Holds o page (Met x)
  HoldsStep page (stops o e) = Unit {0}

  holds_same : (o : ℕ) (page : List ℕ) (n : ℕ) (x : Stand) → Inner n x → n ≤ length page → n ≤ length (drop o region) → take n page ≡ take n (drop o region)
      → Holds o page x
  unfolding said_in
  holds_same o page n (Met x) i m j e = part_same page region o n x.payload.place x.payload.len i m j e
  holds_same o page n (Passed k) i m j e = tt
  holds_same o page n (Over d) i m j e = tt

  -- the page does not matter where no record stands
  holds_seen : (o cap : ℕ) (page : List ℕ) (reads : List Read) (x : Stand) → Holds o page x → Holds o page (seen_by cap reads x)
  unfolding seen_by
  holds_seen o cap page [] x h = h
  holds_seen o cap page (y ∷ ys) x h = cond_case (Holds o page) (ltb cap y.size) (λ _. tt) (λ _. holds_seen o cap page ys x h)

  -- the first read of several, made where it fits the capacity
  holds_read : (o cap : ℕ) (page : List ℕ) (y : Read) (ys : List Read) (x : Stand)
      → (y.size ≤ cap → Holds o (laid region (made cap ys) (laid_over page (read_at region y.from y.size))) (seen_by cap ys x))
      → Holds o (laid region (made cap (y ∷ ys)) page) (seen_by cap (y ∷ ys) x)
  unfolding laid made seen_by
  holds_read o cap page y ys x f = go (ltb cap y.size) (λ e. f (ltb-false cap y.size e)) where
    go : (b : Bool) → (b ≡ false → Holds o (laid region (made cap ys) (laid_over page (read_at region y.from y.size))) (seen_by cap ys x))
        → Holds o (laid region (cond b [] (y ∷ made cap ys)) page) (cond b (Over (TooSmall y.size)) (seen_by cap ys x))
    go true g = tt
    go false g = g refl

  -- the last read, of a record's n bytes
  holds_last : (a o cap : ℕ) (page : List ℕ) (n : ℕ) → cap ≤ length page → o + n ≤ length region → n ≤ length (drop o region)
      → Holds o (laid region (made cap (record { from = o; size = n } ∷ [])) page) (seen_by cap (record { from = o; size = n } ∷ []) (judged a (take n (drop o region))))
  unfolding laid made seen_by
  holds_last a o cap page n c w m =
      holds_read o cap page (record { from = o; size = n }) [] (judged a (take n (drop o region)))
      (λ l.
      holds_same o (laid_over page (read_at region o n)) n (judged a (take n (drop o region)))
      (subst (λ k. Inner k (judged a (take n (drop o region)))) (length-take-le n (drop o region) m) (inner_judged a (take n (drop o region))))
      (omega (arith, laid_length page (read_at region o n)))
      m
      (front_read page region o n n (omega arith) w (omega arith)))

  module _ (a r cap : ℕ) where
    module _ (o : ℕ) (page : List ℕ) (c : cap ≤ length page) where
      abbrev tail : List ℕ
      tail = drop o region

      abbrev reads : Shape → List Read
      reads x = cond (eqb (length tail) 0) [] (record { from = o; size = header_size r (length tail) } ∷ further cap o tail x)

      abbrev Shown : Shape → Type 0
      Shown x = Holds o (laid region (made cap (reads x)) page) (seen_by cap (reads x) (stand_by a tail x))

      shown_over : (x : Shape) (e : Stop) → stand_by a tail x ≡ Over e → Shown x
      shown_over x e i = holds_seen o cap (laid region (made cap (reads x)) page) (reads x) (stand_by a tail x) (rw i tt)

      shown_whole : (n : ℕ) → 12 ≤ length tail → n ≤ length tail → Shown (Whole n)
      unfolding further
      shown_whole n l m =
          let x : Stand = judged a (take n tail) in
          let y : Read = record { from = o; size = header_size r (length tail) } in
          let page₁ : List ℕ = laid_over page (read_at region o (header_size r (length tail))) in
          cond_case (λ q. Holds o (laid region (made cap q) page) (seen_by cap q x)) (eqb (length tail) 0)
          (λ e. absurd (omega (arith, eqb-true (length tail) 0 e)))
          (λ _.
          holds_read o cap page y (record { from = o; size = n } ∷ []) x
          (λ _.
          holds_last a o cap page₁ n (omega (arith, laid_length page (read_at region o (header_size r (length tail)))))
          (omega (arith, length-drop o region))
          m))

      holds_look : Holds o (laid region (reads_at a r cap region o) page) (paged a r cap o tail)
      unfolding stands shape_of wanted reads_at paged
      holds_look =
          cond_case Shown (ltb (length tail) 12) (λ _. shown_over Short _ refl)
          (λ l. cond_case Shown (erased (take 12 tail)) (λ _. shown_over Blank _ refl)
          (λ _. go (header_at (take 12 tail)) (ltb-false (length tail) 12 l)))
        where
          go : (d : Header) → 12 ≤ length tail → Shown (headed a (length tail) d)
          go (Err e) l = shown_over (BadHeader e) _ refl
          go (Ok v) l =
              let n : ℕ = record_len a v.payload_len in
              cond_case Shown (ltb (length tail) n) (λ _. shown_over Overlong _ refl) (λ e. shown_whole n l (ltb-false (length tail) n e))

    -- along a walk: the reads of what was skipped come first
    holds_walk : 0 < a → (o : ℕ) (page : List ℕ) → cap ≤ length page
        → HoldsStep (laid region (reads_all a r cap region (step_offsets (walk (paged a r cap) region o).points (walk (paged a r cap) region o).at)) page) (first_step (walk (paged a r cap) region o))
    unfolding reads_all laid
    holds_walk h =
        each_walk (paged a r cap) (paged_steady a r cap h) region
        (λ o w. (page : List ℕ) → cap ≤ length page → HoldsStep (laid region (reads_all a r cap region (step_offsets w.points w.at)) page) (first_step w))
        (λ o x e _ _ _ page c.
        subst (λ q. Holds o q (Met x)) (sym (laid_append region (reads_at a r cap region o) [] page)) (subst (Holds o (laid region (reads_at a r cap region o) page)) e (holds_look o page c)))
        (λ o n _ _ _ f page c.
        let w : Walk = walk (paged a r cap) region (o + n) in
        subst (λ q. HoldsStep q (first_step w)) (sym (laid_append region (reads_at a r cap region o) (reads_all a r cap region (step_offsets w.points w.at)) page))
        (f (laid region (reads_at a r cap region o) page) (omega (arith, c, laid_long region (reads_at a r cap region o) page))))
        (λ o e _ page c. tt)

module _ (s : Recovery) (region page : List ℕ) where
  paged_arrived : (n : ℕ) (z : Step) (q : List ℕ) → HoldsStep region q z → Paged region q (arrived s n z).answer
  paged_arrived n (meets o x) q k = k
  paged_arrived n (stops o e) q k = go e where
    go : (d : Stop) → Paged region q (end_answer o d)
    go End = tt
    go (Bad x) = tt
    go (BadTail i) = tt
    go NoSeal = tt
    go (NoSkip i) = tt
    go (TooSmall n) = tt

  paged_says : (z : Answer) → not_found z → Paged region page z
  paged_says (Ok (Some f)) k = absurd k
  paged_says (Ok None) k = tt
  paged_says (Err e) k = tt

  paged_step : Paged region (step s region page).page (step s region page).out.answer
  unfolding walk_from reads_through
  paged_step = subst (λ d. Paged region d.page d.out.answer) (sym (step_view s region page)) (go (view s region) (is_before s region)) where
    go : (b : Before) → IsBefore s region b
        → Paged region (unless b (with_page page) (step_in s region page (walk_from s region (length page)))).page (unless b (with_page page) (step_in s region page (walk_from s region (length page)))).out.answer
    go (says x) k = paged_says x.answer k
    go looks k =
        let g = s.geometry in
        let c = capped (length page) g.read_size _ refl in
        let m = capped_most (length page) g.read_size _ refl in
        let w : Walk = walk_from s region (length page) in
        let reads : List Read = reads_through s region (length page) (step_offsets w.points w.at) in
        paged_arrived (adds s.reads (length reads)) (first_step w) (laid region reads page)
        (holds_walk region g.program_size g.read_size (capacity_of (length page) g.read_size) (limits g.bytes g.program_size g.read_size k.units).program_least s.offset page (omega (arith, c, m)))

-- The payload of a record that a step finds is that part of the page which its place and length give, with the bytes that stand in the region.
pub payload_paged : (s : Recovery) (region page : List ℕ) (out : Stepped) (page' : List ℕ) → NextStep s region page out page' → (f : OneFound) → out.answer ≡ Ok (Some f)
    → part_at page' f.«record».payload.place f.«record».payload.len ≡ (said_in region f).payload
payload_paged s region page out page' k f e =
    let g : Paged region page' out.answer = rw (← k.all) at (paged_step s region page) in
    rw e at g
