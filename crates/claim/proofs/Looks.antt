-- What stands at the start of a tail: a record by its own bytes alone, with its seal or without it, and a torn body.
-- a is the program unit.
-- Assumes nothing.
use Rattle.std.specs.Prelude.{Ok, Some, None, Option}
use mathlib.Core.Path.{◌≡◌, refl, sym, ap, ap₂, ◌∙◌}
use mathlib.Core.Bool.{true, false, not, ◌&&◌, and-eq-true_iff}
use mathlib.Core.List.{List, [], ◌∷◌, ◌++◌, append_assoc}
use Prim.Native.Nat.{ℕ, ◌+◌, ◌-◌, ◌≤◌, ◌<◌}
use native.Mathlib.Omega.{arith}
use lib.Dec.{ltb, eqb}
use lib.ListN.{length, get_or, take, drop, length-append, take-append-drop}
use lib.Seq.{take-append-le, drop-append-le, take_at, drop_at, length-take-le, take-take, drop-drop}
use borrow.Author.Tests.{le-ltb, ltb-false, not-false, eqb-true, ne_eqb}
use Rattle.waymaker_core.specs.declared.«record».Record.{Record}
use Rattle.waymaker_core.proofs.Choice.{cond_case}
use Rattle.storage.specs.Media.{first_programmed, erased}
use Rattle.storage.proofs.Rounding.{up_least}
use Rattle.storage.proofs.ErasedBytes.{erased_cons, erased_append, erased_is}
use Rattle.frame.specs.Lengths.{frame_len, body_len, record_len}
use Rattle.frame.specs.Format.{numbers_of, payload_of, frame_of, padding_of, body_of, record_of, seal_of, seal_holds}
use Rattle.seal.proofs.Seals.{seal_length, seal_holds_lem, erased_no_seal}
use Rattle.encode.specs.Encode.{encoded_bytes}
use Rattle.waymaker_core.specs.declared.«record».RecordRef.{RecordRef}
use Rattle.payload.specs.declared.Decoded.TheVariants.{Record as Known}
use Rattle.payload.specs.Payload.{part, record_with}
use Rattle.decode.specs.declared.VerifiedHeader.{VerifiedHeader}
use Rattle.decode.specs.Decode.{Header, header_at, decoded}
use Rattle.decode.specs.declared.Frame.{Frame as FrameOf}
use Rattle.roundtrip.proofs.Frames.{header_of_frame, payload_size, payload_small}
use Rattle.roundtrip.proofs.Fronts.{header_front}
use Rattle.roundtrip.proofs.RoundTrip.{frame_given, frame_read, Taken, body_length}
use Rattle.place.specs.declared.Stand.{Stand}
use Rattle.place.specs.declared.Stand.TheVariants.{Met, Passed, Over}
use Rattle.place.specs.declared.Stop.{Stop}
use Rattle.place.specs.declared.Stop.TheVariants.{End, Bad, BadTail, NoSeal, NoSkip}
use Rattle.place.specs.AtOffset.{redeliverable, settled, judged_by, judged, shape_of, skip_or, stands}
use Rattle.place.proofs.Cases.{settled_case, judged_case, stands_case}
use Rattle.place.proofs.Lengths.{near_stands}
use Rattle.staging.specs.Stage.{check_for, body_for}
use Rattle.claim.proofs.Calm.{Calm}

-- parts of erased bytes
erased_parts : (s t : List ℕ) → erased (s ++ t) ≡ true → (erased s ≡ true) × (erased t ≡ true)
erased_parts s t e = (and-eq-true_iff (erased s) (erased t)).0 (sym (erased_append s t) ∙ e)

erased_later : (w : List ℕ) (d k : ℕ) → d ≤ k → erased (drop d w) ≡ true → erased (drop k w) ≡ true
erased_later w d k l e =
    let i : d + (k - d) ≡ k = omega arith in
    let s : List ℕ = drop d w in
    ap (λ j. erased (drop j w)) (sym i)
    ∙ ap erased (sym (drop-drop (k - d) d w))
    ∙ (erased_parts (take (k - d) s) (drop (k - d) s) (ap erased (take-append-drop (k - d) s) ∙ e)).1

-- no seal stands where all is erased
erased_unsealed : (c : ℕ) (s : List ℕ) → erased s ≡ true → seal_holds c s ≡ false
erased_unsealed c s e = ap (seal_holds c) (erased_is s e) ∙ erased_no_seal c (length s)

-- a header that was verified is not erased
programmed_first : (s : List ℕ) → 0 < length s → get_or s 0 0 ≡ 0x57 → erased s ≡ false
programmed_first [] h e = absurd (omega arith)
programmed_first (x ∷ xs) h e = erased_cons x xs ∙ ap (λ b. b && erased xs) (ne_eqb x 255 (λ f. omega arith))

programmed_header : (s : List ℕ) (v : VerifiedHeader) → header_at s ≡ Ok v → erased s ≡ false
unfolding header_at
programmed_header s v =
    let P : Header → Type 0 = λ x. x ≡ Ok v → erased s ≡ false in
    cond_case P (ltb (length s) 12) (λ _ e. let z : ◌≡◌ {A = ℕ} 0 1 = cc in absurd (omega arith))
    (λ l. cond_case P (not (eqb (get_or s 0 0) 0x57 && eqb (get_or s 1 0) 0x4d)) (λ _ e. let z : ◌≡◌ {A = ℕ} 0 1 = cc in absurd (omega arith))
    (λ m _.
    let both = (and-eq-true_iff (eqb (get_or s 0 0) 0x57) (eqb (get_or s 1 0) 0x4d)).0 (not-false _ m) in
    programmed_first s (omega (arith, ltb-false (length s) 12 l)) (eqb-true (get_or s 0 0) 0x57 both.0)))

-- a header goes by its twelve bytes
header_first : (s : List ℕ) → 12 ≤ length s → header_at (take 12 s) ≡ header_at s
header_first s l =
    let k : length (take 12 s) ≡ 12 = length-take-le 12 s l in
    sym (header_front (take 12 s) (drop 12 s) (omega arith)) ∙ ap header_at (take-append-drop 12 s)

-- an end is no skip
end_skips : {A : Type 0} (d : Stop) (n : ℕ) → Over d ≡ Passed n → A
end_skips d n e = let z : ◌≡◌ {A = ℕ} 0 1 = cc in absurd (omega arith)

module _ (a : ℕ) where
  record_is : (p : ℕ) → record_len a p ≡ body_len a p + a
  unfolding record_len
  record_is p = refl

  -- a record that is skipped is skipped as a whole
  skips_all : (s : List ℕ) (n : ℕ) → judged a s ≡ Passed n → length s ≡ n
  skips_all s n =
      let P : Stand → Type 0 = λ x. x ≡ Passed n → length s ≡ n in
      judged_case a P s (λ d. end_skips (Bad d) n)
      (λ f. settled_case a P f s (λ x e. let z : ◌≡◌ {A = ℕ} 0 1 = cc in absurd (omega arith)) (λ e. cc)
      (λ d. end_skips (Bad d) n) (end_skips NoSeal n) (λ i _. end_skips (NoSkip i) n))

  -- a record whose slot holds no seal is calm where all behind it is erased
  calm_settled : (t : List ℕ) (f : FrameOf) (s : List ℕ) → seal_holds f.frame_crc (drop (length s - a) s) ≡ false → erased (drop (length s) t) ≡ true
      → Calm t (settled a f s)
  unfolding settled
  calm_settled t f s e i = rw e (cond_case (Calm t) (redeliverable f.decoded) (λ _. skip (first_programmed s f.frame_len (length s))) (λ _. tt)) where
    skip : (z : Option ℕ) → Calm t (skip_or (length s) z)
    skip None = i
    skip (Some at) = tt

  -- A torn body, erased from a place on that is not behind the end of the body its header gives, is never found, and is clean or skipped before erased bytes only.
  pub calm_torn : 0 < a → (w : List ℕ) (d : ℕ) → erased (drop d w) ≡ true
      → ((v : VerifiedHeader) → header_at (take 12 w) ≡ Ok v → d ≤ body_len a v.payload_len) → Calm w (stands a w)
  calm_torn h w d e far =
      stands_case a (Calm w) w (λ x. x) (λ at x. tt) (λ x. tt)
      (λ v i l.
      let b : ℕ = body_len a v.payload_len in
      let m : ℕ = record_len a v.payload_len in
      let s : List ℕ = take m w in
      let size : length s ≡ b + a = length-take-le m w l ∙ record_is v.payload_len in
      let at : length s - a ≡ b = omega arith in
      let parts : drop b s ++ drop m w ≡ drop b w = sym (drop-append-le b s (drop m w) (omega arith)) ∙ ap (drop b) (take-append-drop m w) in
      let slot : erased (drop b s) ≡ true = (erased_parts (drop b s) (drop m w) (ap erased parts ∙ erased_later w d b (far v i) e)).0 in
      judged_case a (Calm w) s (λ x. tt)
      (λ f.
      calm_settled w f s (ap (λ k. seal_holds f.frame_crc (drop k s)) at ∙ erased_unsealed f.frame_crc (drop b s) slot)
      (erased_later w d (length s) (omega (arith, far v i)) e)))

  module _ (h : 0 < a) where
    record_least : (p : ℕ) → 16 + p + a ≤ record_len a p
    unfolding record_len body_len
    record_least p = omega (arith, up_least (frame_len p) a h)

    -- a record's own bytes decide, whatever follows
    stands_whole : (v : VerifiedHeader) (s rest : List ℕ) → length s ≡ record_len a v.payload_len → header_at s ≡ Ok v → stands a (s ++ rest) ≡ judged a s
    unfolding stands shape_of
    stands_whole v s rest l e =
        let m : ℕ = record_len a v.payload_len in
        let long : 12 ≤ length s = omega (arith, record_least v.payload_len) in
        let both : length (s ++ rest) ≡ length s + length rest = length-append s rest in
        let head : header_at (take 12 s) ≡ Ok v = header_first s long ∙ e in
        rw (
          le-ltb (length (s ++ rest)) 12 (omega arith),
          take-append-le 12 s rest long,
          programmed_header (take 12 s) v head,
          head,
          le-ltb (length (s ++ rest)) m (omega arith),
          take_at s rest m l,
        )

    -- Where n bytes of a tail are skipped, these bytes alone decide it, whatever follows them.
    pub skipped_local : (t : List ℕ) (n : ℕ) → stands a t ≡ Passed n → (rest : List ℕ) → stands a (take n t ++ rest) ≡ Passed n
    skipped_local t n =
        stands_case a (λ x. x ≡ Passed n → (rest : List ℕ) → stands a (take n t ++ rest) ≡ Passed n) t
        (λ _ e rest. end_skips End n e)
        (λ at _ e rest. end_skips (BadTail at) n e)
        (λ d e rest. end_skips (Bad d) n e)
        (λ v i l e rest.
        let m : ℕ = record_len a v.payload_len in
        let long : 12 ≤ m = omega (arith, record_least v.payload_len) in
        let size : length (take m t) ≡ m = length-take-le m t l in
        let all : m ≡ n = sym size ∙ skips_all (take m t) n e in
        let head : header_at (take m t) ≡ Ok v = sym (header_first (take m t) (omega arith)) ∙ ap header_at (take-take 12 m t long) ∙ i in
        ap (λ k. stands a (take k t ++ rest)) (sym all) ∙ stands_whole v (take m t) rest size head ∙ e)

    -- The bytes that are skipped lie in the tail.
    pub skipped_within : (t : List ℕ) (n : ℕ) → stands a t ≡ Passed n → n ≤ length t
    skipped_within t n e = let k = rw e at (near_stands a t h) in k.most

    -- A skip moves on.
    pub skipped_some : (t : List ℕ) (n : ℕ) → stands a t ≡ Passed n → 0 < n
    skipped_some t n e = let k = rw e at (near_stands a t h) in omega (arith, k.least)

    -- a record that encode takes, with a slot behind its body
    module _ (x : Record) (free : List ℕ) (t : Taken x free) where
      abbrev p : ℕ
      p = length (payload_of x free)

      abbrev own : List ℕ → List ℕ
      own slot = body_for a x free ++ slot

      body_long : length (body_for a x free) ≡ body_len a p
      body_long = body_length a x free h

      module _ (slot : List ℕ) (l : length slot ≡ a) where
        own_length : length (own slot) ≡ record_len a p
        unfolding record_len
        own_length = length-append (body_for a x free) slot ∙ ap₂ (λ i j. i + j) body_long l

        own_slot : drop (length (own slot) - a) (own slot) ≡ slot
        unfolding record_len
        own_slot = drop_at (body_for a x free) slot (length (own slot) - a) (omega (arith, own_length, body_long))

        own_parts : own slot ≡ frame_of x.kind.0 x.seq.0 (payload_of x free) ++ (padding_of a p ++ slot)
        unfolding body_of
        own_parts = append_assoc (frame_of x.kind.0 x.seq.0 (payload_of x free)) (padding_of a p) slot

        own_stands : (rest : List ℕ) → stands a (own slot ++ rest) ≡ settled a (frame_given x free) (own slot)
        unfolding judged frame_given
        own_stands rest =
            let small : p < 65536 = omega (arith, payload_size x free t.size t.typed t.taken, payload_small x free t.size t.typed t.taken) in
            stands_whole _ (own slot) rest own_length
            (ap header_at own_parts
            ∙ header_of_frame x.kind.0 x.seq.0 (payload_of x free) (padding_of a p ++ slot) t.typed.kind t.typed.seq small)
            ∙ ap (judged_by a (own slot)) (ap decoded own_parts ∙ (frame_read x free (padding_of a p ++ slot) t.size t.typed t.taken).frame)

      -- A record whose slot holds no seal is neither found nor a clean end, and where it is skipped all behind it is erased.
      pub calm_unsealed : (slot : List ℕ) → length slot ≡ a → seal_holds (check_for x free) slot ≡ false → (rest : List ℕ) → erased rest ≡ true
          → Calm (body_for a x free ++ (slot ++ rest)) (stands a (body_for a x free ++ (slot ++ rest)))
      unfolding frame_given
      calm_unsealed slot l e rest i =
          rw (← append_assoc (body_for a x free) slot rest, own_stands slot l rest)
          (calm_settled (own slot ++ rest) (frame_given x free) (own slot) (ap (seal_holds (check_for x free)) (own_slot slot l) ∙ e)
          (ap erased (drop_at (own slot) rest (length (own slot)) refl) ∙ i))

      -- A whole record is found, as it was given, whatever follows it.
      pub looked_whole : (y : RecordRef) → record_with x.kind.0 x.seq.0 (numbers_of x) (length (payload_of x free)) ≡ Known y → (rest : List ℕ)
          → stands a (encoded_bytes a x free ++ rest)
          ≡ Met (record { «record» = y; payload = part 12 (length (payload_of x free)); len = record_len a (length (payload_of x free)) })
      unfolding encoded_bytes record_of settled frame_given
      looked_whole y e rest =
          let c : ℕ = check_for x free in
          let l : length (seal_of a c) ≡ a = seal_length 0 a c in
          own_stands (seal_of a c) l rest ∙ rw (own_slot (seal_of a c) l, seal_holds_lem c a h, own_length (seal_of a c) l, e)
