-- One append: what its body, its seal and a cut in either leave of the region.
-- Assumes nothing.
use Rattle.std.specs.Prelude.{Ok, Err}
use mathlib.Core.Path.{◌≡◌, refl, sym, ap, ap₂, ◌∙◌, subst, subst₂}
use mathlib.Core.Bool.{true, false, not, ◌&&◌}
use mathlib.Core.List.{List, [], ◌∷◌, ◌++◌, append_assoc}
use Prim.Native.Nat.{ℕ, zero, suc, ◌+◌, ◌-◌, ◌*◌, ◌/◌, ◌%◌, ◌≤◌, ◌<◌}
use native.Mathlib.Omega.{arith}
use lib.Dec.{eqb, ltb}
use lib.ListN.{length, get_or, take, drop, replicate, length-append, length-drop, take-append-drop}
use lib.Seq.{get_or-drop, get_or-take, get_or-append-add, length-take-le, drop-drop, drop-append_seam}
use Rattle.waymaker_core.specs.declared.error.DecodeError.{DecodeError}
use Rattle.waymaker_core.proofs.Choice.{cond_case}
use Rattle.integrity.specs.Fcs.{header_check}
use Rattle.storage.specs.Media.{programmed}
use Rattle.storage.proofs.ErasedBytes.{erased_is, Blank, erased_blank, blank_erased, blank_take, blank_drop}
use Rattle.frame.specs.Bytes.{bytes_le, value_le, value_at}
use Rattle.frame.proofs.Sizes.{body_mono, body_least}
use Rattle.frame.specs.Lengths.{body_len, record_len}
use Rattle.frame.specs.Format.{numbers_of, checked_header, header_of, covered_of, check_of, frame_of, padding_of, body_of, record_of, seal_from, seal_of, seal_holds}
use Rattle.frame.proofs.Seal.{seal_byte_lt}
use Rattle.seal.proofs.Seals.{seal_length, holds_is, erased_no_seal}
use Rattle.encode.specs.Encode.{encoded_bytes}
use Rattle.decode.specs.Decode.{Header, header_at}
use Rattle.decode.specs.declared.VerifiedHeader.{VerifiedHeader}
use Rattle.payload.specs.Payload.{part}
use Rattle.payload.proofs.Known.{known_says}
use Rattle.place.specs.declared.Stand.TheVariants.{Met}
use Rattle.place.specs.AtOffset.{stands}
use Rattle.roundtrip.specs.Typed.{AllBytes, Typed}
use Rattle.roundtrip.proofs.Lists.{bytes_append, number_bytes, covered_bytes, payload_bytes}
use Rattle.roundtrip.proofs.Frames.{payload_size, payload_small, payload_back, kind_known}
use Rattle.roundtrip.proofs.RoundTrip.{Taken, body_length, encoded_length}
use Rattle.staging.specs.Stage.{check_for, body_for}
use Rattle.claim.specs.Cuts.{Mixed, Cut}
use Rattle.claim.specs.Saying.{Given, payload_for, given}
use Rattle.claim.proofs.Bits.{mixed_same, mixed_least}
use Rattle.claim.proofs.Tears.{replicate_bytes, program_at, ands_blank, cut_rest, cut_split}
use Rattle.claim.proofs.Calm.{Calm}
use Rattle.claim.proofs.Looks.{looked_whole, calm_unsealed, calm_torn}
use Rattle.claim.proofs.Passing.{Passes, Shape, Ready, passes_both, passes_found, ready_shape}

said_len : Header → ℕ
said_len (Ok v) = v.payload_len
said_len (Err e) = 0

no_header : {A : Type 0} (e : DecodeError) (v : VerifiedHeader) → Err e ≡ Ok v → A
no_header e v f = let z : ◌≡◌ {A = ℕ} 0 1 = cc in absurd (omega arith)

-- a header that is verified has the length that its bytes 8 and 9 say
headed_size : (s : List ℕ) (v : VerifiedHeader) → header_at s ≡ Ok v → v.payload_len ≡ get_or s 8 0 + 256 * get_or s 9 0
unfolding header_at value_le said_len
headed_size s v =
    let P : Header → Type 0 = λ d. d ≡ Ok v → v.payload_len ≡ get_or s 8 0 + 256 * get_or s 9 0 in
    cond_case P (ltb (length s) 12) (λ _. no_header _ v)
    (λ _. cond_case P (not (eqb (get_or s 0 0) 0x57 && eqb (get_or s 1 0) 0x4d)) (λ _. no_header _ v)
    (λ _. cond_case P (not (eqb (header_check (take 10 s)) (value_at 2 s 10))) (λ _. no_header _ v)
    (λ _. cond_case P (not (eqb (get_or s 2 0) 1)) (λ _. no_header _ v)
    (λ _ e.
    let l : value_le 2 (drop 8 s) ≡ v.payload_len = ap said_len e in
    let x : get_or (drop 8 s) 0 0 ≡ get_or s 8 0 = get_or-drop 8 s 0 0 in
    let y : get_or (drop 1 (drop 8 s)) 0 0 ≡ get_or s 9 0 = get_or-drop 1 (drop 8 s) 0 0 ∙ get_or-drop 8 s 1 0 in
    omega (arith, l, x, y)))))

-- a byte that is there, by either default
get_d_any : (s : List ℕ) (i : ℕ) → i < length s → get_or s i 0 ≡ get_or s i 255
get_d_any [] i h = absurd (omega arith)
get_d_any (x ∷ s) zero h = refl
get_d_any (x ∷ s) (suc i) h = get_d_any s i (omega arith)

-- the bytes of a body and of a seal
pub body_bytes : (a : ℕ) (x : Given) → Typed x.«record» x.free → AllBytes (body_for a x.«record» x.free)
unfolding body_of frame_of padding_of
body_bytes a x t =
    let k : ℕ = x.«record».kind.0 in
    let q : ℕ = x.«record».seq.0 in
    let s : List ℕ = payload_for x in
    bytes_append (covered_of k q s ++ bytes_le 4 (check_of k q s)) (replicate (body_len a (length s) - (16 + length s)) 255)
    (bytes_append (covered_of k q s) (bytes_le 4 (check_of k q s)) (covered_bytes k q s t.kind (payload_bytes x.«record» x.free t.free_bytes)) (number_bytes 4 (check_of k q s)))
    (replicate_bytes (body_len a (length s) - (16 + length s)))

-- erased bytes are no seal
no_seal : (c : ℕ) (s : List ℕ) → Blank s → seal_holds c s ≡ false
no_seal c s e = ap (seal_holds c) (erased_is s (blank_erased s e)) ∙ erased_no_seal c (length s)

pub seal_bytes : (i n c : ℕ) → AllBytes (seal_from i n c)
unfolding seal_from
seal_bytes i zero c k = omega arith
seal_bytes i (suc n) c zero = omega (arith, seal_byte_lt c i)
seal_bytes i (suc n) c (suc k) = seal_bytes (suc i) n c k

-- the body of x is programmed at o, over the region base that was ready there
pub record Busy (a : ℕ) (base r : List ℕ) (o : ℕ) (x : Given) (bs : List Given) : Type 0 where
  pub ready : Ready a base o bs
  pub taken : Taken x.«record» x.free
  pub room : record_len a (length (payload_for x)) ≤ length ready.tail
  pub made : r ≡ programmed base o (body_for a x.«record» x.free)

module _ (a : ℕ) (h : 0 < a) (base r : List ℕ) (o : ℕ) (x : Given) (bs : List Given) (v : Busy a base r o x bs) where
  abbrev f : List ℕ
  f = v.ready.front

  abbrev tail : List ℕ
  tail = v.ready.tail

  abbrev p : ℕ
  p = length (payload_for x)

  abbrev d : ℕ
  d = body_len a p

  abbrev crc : ℕ
  crc = check_for x.«record» x.free

  abbrev body : List ℕ
  body = body_for a x.«record» x.free

  abbrev seal : List ℕ
  seal = seal_of a crc

  abbrev behind : List ℕ
  behind = drop (length body) tail

  typed : Typed x.«record» x.free
  typed = v.taken.typed

  small : p ≤ 65535
  small = omega (arith, payload_size x.«record» x.free v.taken.size typed v.taken.taken, payload_small x.«record» x.free v.taken.size typed v.taken.taken)

  long : length body ≡ d
  long = body_length a x.«record» x.free h

  room : d + a ≤ length tail
  unfolding record_len
  room = v.room

  blank : Blank tail
  blank = erased_blank tail v.ready.blank

  behind_blank : Blank behind
  behind_blank = blank_drop tail (length body) blank

  behind_long : a ≤ length behind
  behind_long = omega (arith, length-drop (length body) tail, long, room)

  is : r ≡ f ++ (body ++ behind)
  is =
      v.made
      ∙ ap₂ (λ l k. programmed l k body) v.ready.split v.ready.place
      ∙ program_at f tail body
      ∙ ap (λ l. f ++ l) (ands_blank tail body blank (body_bytes a x typed) (omega (arith, long, room)))

  is_front : r ≡ (f ++ body) ++ behind
  is_front = is ∙ sym (append_assoc f body behind)

  -- the body torn
  low : get_or (body ++ behind) 8 255 ≡ p % 256
  unfolding body_of frame_of covered_of header_of checked_header bytes_le
  low = refl

  high : get_or (body ++ behind) 9 255 ≡ p / 256 % 256
  unfolding body_of frame_of covered_of header_of checked_header bytes_le
  high = refl

  module _ (t : List ℕ) (c : Cut base r t) where
    w : List ℕ
    w = drop (length f) t

    c' : Cut (f ++ tail) (f ++ (body ++ behind)) t
    c' = subst₂ (λ p q. Cut p q t) v.ready.split is c

    each : (i : ℕ) → Mixed 255 (get_or (body ++ behind) i 255) (get_or w i 255)
    unfolding w
    each i = rw (blank i) at (cut_rest f tail (body ++ behind) t c' i)

    later : Blank (drop d w)
    later i =
        get_or-drop d w i 255
        ∙ mixed_same 255 _ (subst (λ y. Mixed 255 y (get_or w (d + i) 255))
        (ap (λ k. get_or (body ++ behind) (k + i) 255) (sym long) ∙ get_or-append-add body behind i 255 ∙ behind_blank i) (each (d + i)))

    w_long : 12 ≤ length w
    unfolding w
    w_long =
        omega (
          arith,
          c'.long,
          length-append f tail,
          length-drop (length f) t,
          room,
          body_least a p h,
        )

    no_less : (u : VerifiedHeader) → header_at (take 12 w) ≡ Ok u → d ≤ body_len a u.payload_len
    no_less u e =
        body_mono a p u.payload_len h
        (omega (
          arith,
          headed_size (take 12 w) u e,
          get_or-take 12 w 8 0 (omega arith),
          get_or-take 12 w 9 0 (omega arith),
          get_d_any w 8 (omega (arith, w_long)),
          get_d_any w 9 (omega (arith, w_long)),
          mixed_least (p % 256) (get_or w 8 255) (omega arith) (rw low at (each 8)),
          mixed_least (p / 256 % 256) (get_or w 9 255) (omega arith) (rw high at (each 9)),
          small,
        ))

  -- the seal programmed
  abbrev pub after : List ℕ
  after = programmed r (o + d) seal

  at_slot : o + d ≡ length (f ++ body)
  at_slot = omega (arith, v.ready.place, length-append f body, long)

  seal_long : length seal ≡ a
  seal_long = seal_length 0 a crc

  after_is : after ≡ (f ++ body) ++ (seal ++ drop (length seal) behind)
  after_is =
      ap₂ (λ l k. programmed l k seal) is_front at_slot
      ∙ program_at (f ++ body) behind seal
      ∙ ap (λ l. (f ++ body) ++ l) (ands_blank behind seal behind_blank (seal_bytes 0 a crc) (omega (arith, seal_long, behind_long)))

  record_is : body ++ seal ≡ encoded_bytes a x.«record» x.free
  unfolding encoded_bytes record_of
  record_is = refl

  record_long : length (body ++ seal) ≡ record_len a p
  record_long = ap length record_is ∙ encoded_length a x.«record» x.free h

  regroup : (l : List ℕ) → (f ++ body) ++ (seal ++ l) ≡ (f ++ (body ++ seal)) ++ l
  regroup l = simp append_assoc

  -- the seal torn
  module _ (t : List ℕ) (c : Cut r after t) where
    z : List ℕ
    z = drop (length (f ++ body)) t

    c'' : Cut ((f ++ body) ++ behind) ((f ++ body) ++ (seal ++ drop (length seal) behind)) t
    c'' = subst₂ (λ p q. Cut p q t) is_front after_is c

    t_is : t ≡ (f ++ body) ++ z
    unfolding z
    t_is = cut_split (f ++ body) behind (seal ++ drop (length seal) behind) t c''

    z_at : drop (o + d) t ≡ z
    unfolding z
    z_at = ap (λ k. drop k t) at_slot

    z_long : a ≤ length z
    z_long = omega (arith, behind_long, c''.long, length-append (f ++ body) behind, ap length t_is, length-append (f ++ body) z)

    z_later : Blank (drop a z)
    unfolding z
    z_later i =
        get_or-drop a z i 255
        ∙ mixed_same 255 _ (subst₂ (λ p q. Mixed p q (get_or z (a + i) 255)) (behind_blank (a + i))
        (ap (λ k. get_or (seal ++ drop (length seal) behind) (k + i) 255) (sym seal_long)
        ∙ get_or-append-add seal (drop (length seal) behind) i 255
        ∙ blank_drop behind (length seal) behind_blank i)
        (cut_rest (f ++ body) behind (seal ++ drop (length seal) behind) t c'' (a + i)))

  -- a body with anything but its seal behind it
  after_body : (u : List ℕ) → a ≤ length u → Blank (drop a u) → seal_holds crc (take a u) ≡ false → Calm (body ++ u) (stands a (body ++ u))
  after_body u l e n =
      subst (λ t. Calm (body ++ t) (stands a (body ++ t))) (take-append-drop a u)
      (calm_unsealed a h x.«record» x.free v.taken (take a u) (length-take-le a u l) n (drop a u) (blank_erased (drop a u) e))

  -- the slot of a body that is whole, and of one that is torn, holds no seal
  pub busy_unsealed : seal_holds crc (take a (drop (o + d) r)) ≡ false
  busy_unsealed =
      ap₂ (λ k l. seal_holds crc (take a (drop k l))) at_slot is_front
      ∙ ap (λ l. seal_holds crc (take a l)) (drop-append_seam (f ++ body) behind)
      ∙ no_seal crc (take a behind) (blank_take a behind behind_blank)

  pub torn_unsealed : (t : List ℕ) → Cut base r t → seal_holds crc (take a (drop (o + d) t)) ≡ false
  unfolding w
  torn_unsealed t c =
      ap (λ l. seal_holds crc (take a l)) (ap (λ k. drop (k + d) t) v.ready.place ∙ sym (drop-drop d (length f) t))
      ∙ no_seal crc (take a (drop d (w t c))) (blank_take a (drop d (w t c)) (later t c))

  -- with the body programmed, nothing more is found
  pub busy_shape : Shape a r bs
  busy_shape =
      record {
        front = f;
        tail = body ++ behind;
        split = is;
        passes = v.ready.passes;
        calm = after_body behind behind_long (blank_drop behind a behind_blank) (no_seal crc (take a behind) (blank_take a behind behind_blank));
      }

  -- nor with the body torn, whatever its checks say
  pub torn_body : (t : List ℕ) → Cut base r t → Shape a t bs
  unfolding w
  torn_body t c =
      record {
        front = f;
        tail = w t c;
        split = cut_split f tail (body ++ behind) t (c' t c);
        passes = v.ready.passes;
        calm = calm_torn a h (w t c) d (blank_erased (drop d (w t c)) (later t c)) (no_less t c);
      }

  payload_there : take p (drop 12 (body ++ seal)) ≡ payload_for x
  unfolding body_of
  payload_there =
      let k : ℕ = x.«record».kind.0 in
      let q : ℕ = x.«record».seq.0 in
      ap (λ l. take p (drop 12 l)) (append_assoc (frame_of k q (payload_for x)) (padding_of a p) seal) ∙ payload_back k q (payload_for x) (padding_of a p ++ seal)

  with_record : Passes a (f ++ (body ++ seal)) (bs ++ (x ∷ []))
  unfolding given record_len
  with_record =
      let says = known_says x.«record».kind.0 x.«record».seq.0 (numbers_of x.«record») p (kind_known x.«record» x.free v.taken.size typed v.taken.taken) in
      passes_both a f (body ++ seal) bs (x ∷ []) v.ready.passes
      (passes_found a h (body ++ seal) x says.one says.is
      (λ rest.
      let l : record_len a p ≡ length (body ++ seal) = sym record_long in
      ap (λ s. stands a (s ++ rest)) record_is
      ∙ looked_whole a h x.«record» x.free v.taken says.one says.is rest
      ∙ ap (λ m. Met (record { «record» = says.one; payload = part 12 p; len = m })) l)
      payload_there (omega (arith, record_long, body_least a p h)))

  -- a region with the whole record, and erased from there on
  whole_ready : (t l : List ℕ) → t ≡ (f ++ body) ++ (seal ++ l) → Blank l → Ready a t (o + d + a) (bs ++ (x ∷ []))
  unfolding record_len
  whole_ready t l e b =
      record {
        front = f ++ (body ++ seal);
        tail = l;
        split = e ∙ regroup l;
        place = omega (arith, v.ready.place, record_long, length-append f (body ++ seal));
        passes = with_record;
        blank = blank_erased l b;
      }

  -- with the seal programmed, the record is found
  pub sealed : Ready a after (o + d + a) (bs ++ (x ∷ []))
  sealed = whole_ready after (drop (length seal) behind) after_is (blank_drop behind (length seal) behind_blank)

  -- with the seal torn, the record is found exactly where the seal is whole
  pub torn_whole : (t : List ℕ) → Cut r after t → seal_holds crc (take a (drop (o + d) t)) ≡ true → Shape a t (bs ++ (x ∷ []))
  torn_whole t c e =
      let u : List ℕ = z t c in
      let s : take a u ≡ seal = holds_is crc (take a u) (rw (z_at t c) at e) ∙ ap (λ k. seal_of k crc) (length-take-le a u (z_long t c)) in
      ready_shape a t (o + d + a) (bs ++ (x ∷ []))
      (whole_ready t (drop a u) (t_is t c ∙ ap (λ l. (f ++ body) ++ l) (sym (take-append-drop a u) ∙ ap (λ l. l ++ drop a u) s)) (z_later t c))

  pub torn_part : (t : List ℕ) → Cut r after t → seal_holds crc (take a (drop (o + d) t)) ≡ false → Shape a t bs
  torn_part t c e =
      record {
        front = f;
        tail = body ++ z t c;
        split = t_is t c ∙ append_assoc f body (z t c);
        passes = v.ready.passes;
        calm = after_body (z t c) (z_long t c) (z_later t c) (rw (z_at t c) at e);
      }
