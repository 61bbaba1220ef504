-- What a walk finds on the way: a front that it passes, and what an erased or a calm tail behind it ends in.
-- Assumes nothing.
use mathlib.Core.Path.{◌≡◌, refl, sym, ap, ap₂, subst, subst₂, subst⁻¹, ◌∙◌}
use mathlib.Core.Bool.{true, and-eq-true_iff}
use mathlib.Core.List.{List, [], ◌∷◌, ◌++◌, append_assoc, append-nil}
use Prim.Native.Nat.{ℕ, ◌+◌, ◌≤◌, ◌<◌}
use native.Mathlib.Omega.{arith}
use lib.Dec.{ltb}
use lib.ListN.{length, take, drop, length-append, length-drop, take-append-drop}
use lib.Seq.{length-take-le, take-append-le, drop-append-le, drop-append_seam, drop-append-add}
use Rattle.waymaker_core.proofs.Choice.{cond_case}
use Rattle.storage.specs.Media.{erased}
use Rattle.storage.proofs.ErasedBytes.{erased_append, nothing_found}
use Rattle.waymaker_core.specs.declared.«record».RecordRef.{RecordRef}
use Rattle.payload.specs.declared.Decoded.{Decoded}
use Rattle.payload.specs.declared.Decoded.TheVariants.{Record as Known}
use Rattle.payload.specs.Payload.{part}
use Rattle.place.specs.declared.Stop.{Stop}
use Rattle.place.specs.declared.Stop.TheVariants.{End, Bad, BadTail, NoSeal, NoSkip, TooSmall}
use Rattle.place.specs.declared.Stand.{Stand}
use Rattle.place.specs.declared.Stand.TheVariants.{Met, Passed, Over}
use Rattle.place.specs.AtOffset.{shape_of, stand_by, stands}
use Rattle.place.specs.Walk.{plain, Walk, onward, walk}
use Rattle.place.proofs.Lengths.{near_stands}
use Rattle.place.proofs.Walks.{plain_steady, walk_on}
use Rattle.finish.specs.Finish.{found_among}
use Rattle.claim.specs.Saying.{Given, Said, payload_for, given, all_given}
use Rattle.claim.proofs.Said.{said_in, all_said_in}
use Rattle.claim.proofs.Calm.{CalmEnd, Calm}

-- where the walk c says bs and then what d says, and ends as d does
pub record Follows (region : List ℕ) (bs : List Given) (c d : Walk) : Type 0 where
  pub says : all_said_in region (found_among c.points) ≡ all_given bs ++ all_said_in region (found_among d.points)
  pub at : c.at ≡ d.at
  pub stop : c.stop ≡ d.stop

-- whatever stands before f and behind it, a walk that comes to f passes it and finds bs in it
pub record Passes (a : ℕ) (f : List ℕ) (bs : List Given) : Type 0 where
  pub over : (pre rest : List ℕ) → Follows (pre ++ (f ++ rest)) bs (walk (plain a) (pre ++ (f ++ rest)) (length pre)) (walk (plain a) (pre ++ (f ++ rest)) (length pre + length f))

-- the walk passes a front, finding bs, and comes to a calm tail
pub record Shape (a : ℕ) (region : List ℕ) (bs : List Given) : Type 0 where
  pub front : List ℕ
  pub tail : List ℕ
  pub split : region ≡ front ++ tail
  pub passes : Passes a front bs
  pub calm : Calm tail (stands a tail)

-- the walk passes a front of o bytes, finding bs, and all behind it is erased
pub record Ready (a : ℕ) (region : List ℕ) (o : ℕ) (bs : List Given) : Type 0 where
  pub front : List ℕ
  pub tail : List ℕ
  pub split : region ≡ front ++ tail
  pub place : o ≡ length front
  pub passes : Passes a front bs
  pub blank : erased tail ≡ true

pub given_append : (bs cs : List Given) → all_given (bs ++ cs) ≡ all_given bs ++ all_given cs
unfolding all_given
given_append [] cs = refl
given_append (x ∷ xs) cs = ap (λ l. given x ∷ l) (given_append xs cs)

follows_none : (region : List ℕ) (c d : Walk) → c ≡ d → Follows region [] c d
unfolding all_given
follows_none region c d e = record { says = ap (λ x. all_said_in region (found_among x.points)) e; at = ap (λ x. x.at) e; stop = ap (λ x. x.stop) e }

follows_both : (region : List ℕ) (bs cs : List Given) (c d e : Walk) → Follows region bs c d → Follows region cs d e → Follows region (bs ++ cs) c e
follows_both region bs cs c d e p q =
    let rest : List Said = all_said_in region (found_among e.points) in
    record {
      says = p.says ∙ ap (λ l. all_given bs ++ l) q.says ∙ sym (append_assoc (all_given bs) (all_given cs) rest) ∙ ap (λ l. l ++ rest) (sym (given_append bs cs));
      at = p.at ∙ q.at;
      stop = p.stop ∙ q.stop;
    }

-- no bytes are passed with nothing found
pub passes_none : (a : ℕ) → Passes a [] []
passes_none a = record { over = λ pre rest. follows_none (pre ++ rest) (walk (plain a) (pre ++ rest) (length pre)) (walk (plain a) (pre ++ rest) (length pre + 0)) (ap (walk (plain a) (pre ++ rest)) (omega arith)) }

-- two fronts that are passed are passed one behind the other
pub passes_both : (a : ℕ) (f g : List ℕ) (bs cs : List Given) → Passes a f bs → Passes a g cs → Passes a (f ++ g) (bs ++ cs)
passes_both a f g bs cs p q = record { over = both } where
  both : (pre rest : List ℕ) → Follows (pre ++ ((f ++ g) ++ rest)) (bs ++ cs) (walk (plain a) (pre ++ ((f ++ g) ++ rest)) (length pre)) (walk (plain a) (pre ++ ((f ++ g) ++ rest)) (length pre + length (f ++ g)))
  both pre rest =
      let R : List ℕ = pre ++ (f ++ (g ++ rest)) in
      let whole : R ≡ pre ++ ((f ++ g) ++ rest) = ap (λ l. pre ++ l) (sym (append_assoc f g rest)) in
      let later : (pre ++ f) ++ (g ++ rest) ≡ R = append_assoc pre f (g ++ rest) in
      let mid : length (pre ++ f) ≡ length pre + length f = length-append pre f in
      let far : length (pre ++ f) + length g ≡ length pre + length (f ++ g) = omega (arith, mid, length-append f g) in
      let second : Follows R cs (walk (plain a) R (length (pre ++ f))) (walk (plain a) R (length (pre ++ f) + length g)) =
      subst (λ r. Follows r cs (walk (plain a) r (length (pre ++ f))) (walk (plain a) r (length (pre ++ f) + length g))) later (q.over (pre ++ f) rest) in
      let next : Follows R cs (walk (plain a) R (length pre + length f)) (walk (plain a) R (length pre + length (f ++ g))) = subst₂ (λ m n. Follows R cs (walk (plain a) R m) (walk (plain a) R n)) mid far second in
      subst (λ r. Follows r (bs ++ cs) (walk (plain a) r (length pre)) (walk (plain a) r (length pre + length (f ++ g)))) whole
      (follows_both R bs cs (walk (plain a) R (length pre)) (walk (plain a) R (length pre + length f)) (walk (plain a) R (length pre + length (f ++ g))) (p.over pre (g ++ rest)) next)

-- erased bytes stand clean
pub erased_stands : (a : ℕ) (t : List ℕ) → erased t ≡ true → stands a t ≡ Over End
unfolding stands shape_of
erased_stands a t e =
    let both = (and-eq-true_iff (erased (take 12 t)) (erased (drop 12 t))).0 (sym (ap erased (sym (take-append-drop 12 t)) ∙ erased_append (take 12 t) (drop 12 t)) ∙ e) in
    let start : erased (take 12 t) ≡ true = both.0 in
    rw start (cond_case (λ s. stand_by a t s ≡ Over End) (ltb (length t) 12) (λ _. rw e) (λ _. rw (nothing_found 0 t e)))

-- erased bytes are calm
pub erased_calm : (a : ℕ) (t : List ℕ) → erased t ≡ true → Calm t (stands a t)
erased_calm a t e = rw (erased_stands a t e) e

-- an erased tail is a calm one
pub ready_shape : (a : ℕ) (region : List ℕ) (o : ℕ) (bs : List Given) → Ready a region o bs → Shape a region bs
ready_shape a region o bs v = record { front = v.front; tail = v.tail; split = v.split; passes = v.passes; calm = erased_calm a v.tail v.blank }

module _ (a : ℕ) (h : 0 < a) where
  -- one turn of the walk where t is left of the region, and x stands there
  turn : (region : List ℕ) (o : ℕ) (t : List ℕ) (x : Stand) → drop o region ≡ t → stands a t ≡ x
      → walk (plain a) region o ≡ onward o x (λ n. walk (plain a) region (o + n))
  turn region o t x d e =
      walk_on (plain a) (plain_steady a h) region o ∙ ap (λ y. onward o y (λ n. walk (plain a) region (o + n))) (ap (stands a) d ∙ e)

  -- a record that stands found at the start of s, whatever follows, is passed and says what it was given to say
  pub passes_found : (s : List ℕ) (x : Given) (y : RecordRef) → (given x).«record» ≡ Known y
      → ((rest : List ℕ) → stands a (s ++ rest) ≡ Met (record { «record» = y; payload = part 12 (length (payload_for x)); len = length s }))
      → take (length (payload_for x)) (drop 12 s) ≡ payload_for x → 12 + length (payload_for x) ≤ length s → Passes a s (x ∷ [])
  unfolding all_given all_said_in said_in given
  passes_found s x y i f p l = record { over = one } where
    one : (pre rest : List ℕ) → Follows (pre ++ (s ++ rest)) (x ∷ []) (walk (plain a) (pre ++ (s ++ rest)) (length pre)) (walk (plain a) (pre ++ (s ++ rest)) (length pre + length s))
    one pre rest =
        let R : List ℕ = pre ++ (s ++ rest) in
        let n : ℕ = length (payload_for x) in
        let bytes : take n (drop (length pre + 12) R) ≡ payload_for x =
        ap (take n) (drop-append-add pre (s ++ rest) 12 ∙ drop-append-le 12 s rest (omega (arith, l)))
        ∙ take-append-le n (drop 12 s) rest (omega (arith, l, length-drop 12 s))
        ∙ p in
        let later : List Said = all_said_in R (found_among (walk (plain a) R (length pre + length s)).points) in
        let e = turn R (length pre) (s ++ rest) _ (drop-append_seam pre (s ++ rest)) (f rest) in
        record {
          says = ap (λ c. all_said_in R (found_among c.points)) e ∙ ap₂ (λ (d : Decoded) (b : List ℕ). record { «record» = d; payload = b } ∷ later) (sym i) bytes;
          at = ap (λ c. c.at) e;
          stop = ap (λ c. c.stop) e;
        }

  -- a record that is skipped at the start of s, whatever follows, is passed with nothing found
  pub passes_skipped : (s : List ℕ) → ((rest : List ℕ) → stands a (s ++ rest) ≡ Passed (length s)) → Passes a s []
  unfolding all_given
  passes_skipped s f = record { over = one } where
    one : (pre rest : List ℕ) → Follows (pre ++ (s ++ rest)) [] (walk (plain a) (pre ++ (s ++ rest)) (length pre)) (walk (plain a) (pre ++ (s ++ rest)) (length pre + length s))
    one pre rest =
        let R : List ℕ = pre ++ (s ++ rest) in
        let e = turn R (length pre) (s ++ rest) _ (drop-append_seam pre (s ++ rest)) (f rest) in
        record { says = ap (λ c. all_said_in R (found_among c.points)) e; at = ap (λ c. c.at) e; stop = ap (λ c. c.stop) e }

  -- a tail t behind a front
  module _ (pre t : List ℕ) where
    -- where what is left is erased, the walk ends
    at_erased : (o : ℕ) (s : List ℕ) → drop o (pre ++ t) ≡ s → erased s ≡ true → walk (plain a) (pre ++ t) o ≡ record { points = []; at = o; stop = End }
    at_erased o s d e = turn (pre ++ t) o s (Over End) d (erased_stands a s e)

    after_skip : (n : ℕ) → erased (drop n t) ≡ true → walk (plain a) (pre ++ t) (length pre + n) ≡ record { points = []; at = length pre + n; stop = End }
    after_skip n e = at_erased (length pre + n) (drop n t) (drop-append-add pre t n) e

    -- in a calm tail the walk finds nothing
    none_found : Calm t (stands a t) → found_among (walk (plain a) (pre ++ t) (length pre)).points ≡ []
    none_found c = ap (λ w. found_among w.points) (turn (pre ++ t) (length pre) t (stands a t) (drop-append_seam pre t) refl) ∙ go (stands a t) c where
      go : (x : Stand) → Calm t x → found_among (onward (length pre) x (λ n. walk (plain a) (pre ++ t) (length pre + n))).points ≡ []
      go (Met x) k = absurd k
      go (Passed n) k = ap (λ w. found_among w.points) (after_skip n k)
      go (Over e) k = refl

    -- the walk skips the first bytes of t, up to o, and all behind them is erased
    record SkipsTo (o : ℕ) : Type 0 where
      by : ℕ
      fits : by ≤ length t
      place : o ≡ length pre + by
      passes : Passes a (take by t) []
      blank : erased (drop by t) ≡ true

    ends_clean : ((s : List ℕ) (n : ℕ) → stands a s ≡ Passed n → (rest : List ℕ) → stands a (take n s ++ rest) ≡ Passed n)
        → Calm t (stands a t) → (walk (plain a) (pre ++ t) (length pre)).stop ≡ End → SkipsTo (walk (plain a) (pre ++ t) (length pre)).at
    ends_clean f c q = go (stands a t) refl c (turn (pre ++ t) (length pre) t (stands a t) (drop-append_seam pre t) refl) where
      go : (x : Stand) → stands a t ≡ x → Calm t x → walk (plain a) (pre ++ t) (length pre) ≡ onward (length pre) x (λ n. walk (plain a) (pre ++ t) (length pre + n))
          → SkipsTo (walk (plain a) (pre ++ t) (length pre)).at
      go (Met x) e k w = absurd k
      go (Passed n) e k w =
          let i : n ≤ length t = (rw e at (near_stands a t h)).most in
          record {
            by = n;
            fits = i;
            place = ap (λ c. c.at) w ∙ ap (λ c. c.at) (after_skip n k);
            passes = passes_skipped (take n t) (λ rest. f t n e rest ∙ ap (λ m. Passed m) (sym (length-take-le n t i)));
            blank = k;
          }
      go (Over d) e k w = end d (ap (λ c. c.at) w) (sym (ap (λ c. c.stop) w) ∙ q) k where
        end : (d : Stop) → (walk (plain a) (pre ++ t) (length pre)).at ≡ length pre → d ≡ End → CalmEnd t d → SkipsTo (walk (plain a) (pre ++ t) (length pre)).at
        end End i z k = record { by = 0; fits = omega arith; place = i ∙ omega arith; passes = passes_none a; blank = k }
        end (Bad x) i z k = let no : ◌≡◌ {A = ℕ} 0 1 = cc in absurd (omega arith)
        end (BadTail at) i z k = let no : ◌≡◌ {A = ℕ} 0 1 = cc in absurd (omega arith)
        end NoSeal i z k = let no : ◌≡◌ {A = ℕ} 0 1 = cc in absurd (omega arith)
        end (NoSkip at) i z k = let no : ◌≡◌ {A = ℕ} 0 1 = cc in absurd (omega arith)
        end (TooSmall n) i z k = let no : ◌≡◌ {A = ℕ} 0 1 = cc in absurd (omega arith)

    -- from the start the walk says what the front says, and goes on as from its end
    from_start : (bs : List Given) → Passes a pre bs → Follows (pre ++ t) bs (walk (plain a) (pre ++ t) 0) (walk (plain a) (pre ++ t) (length pre))
    from_start bs p = subst (λ n. Follows (pre ++ t) bs (walk (plain a) (pre ++ t) 0) (walk (plain a) (pre ++ t) n)) (omega arith) (p.over [] t)

  -- the walk over a region of this shape finds bs
  pub finds : (region : List ℕ) (bs : List Given) → Shape a region bs → all_said_in region (found_among (walk (plain a) region 0).points) ≡ all_given bs
  unfolding all_said_in
  finds region bs v =
      let R : List ℕ = v.front ++ v.tail in
      let all : all_said_in R (found_among (walk (plain a) R 0).points) ≡ all_given bs =
      (from_start v.front v.tail bs v.passes).says ∙ ap (λ fs. all_given bs ++ all_said_in R fs) (none_found v.front v.tail v.calm) ∙ append-nil (all_given bs) in
      subst⁻¹ (λ r. all_said_in r (found_among (walk (plain a) r 0).points) ≡ all_given bs) v.split all

  -- where the walk over it ends clean, the region is ready at the offset it ends at, given that a skipped record stands alone
  pub opened_ready : (region : List ℕ) (bs : List Given) → ((t : List ℕ) (n : ℕ) → stands a t ≡ Passed n → (rest : List ℕ) → stands a (take n t ++ rest) ≡ Passed n)
      → Shape a region bs → (walk (plain a) region 0).stop ≡ End → Ready a region (walk (plain a) region 0).at bs
  opened_ready region bs f v q =
      let R : List ℕ = v.front ++ v.tail in
      let w : Follows R bs (walk (plain a) R 0) (walk (plain a) R (length v.front)) = from_start v.front v.tail bs v.passes in
      let z : (walk (plain a) R 0).stop ≡ End = rw v.split at q in
      let s : SkipsTo v.front v.tail (walk (plain a) R (length v.front)).at = ends_clean v.front v.tail f v.calm (sym w.stop ∙ z) in
      let n : ℕ = s.by in
      let long : length (v.front ++ take n v.tail) ≡ length v.front + n = length-append v.front (take n v.tail) ∙ ap (λ m. length v.front + m) (length-take-le n v.tail s.fits) in
      record {
        front = v.front ++ take n v.tail;
        tail = drop n v.tail;
        split = v.split ∙ ap (λ l. v.front ++ l) (sym (take-append-drop n v.tail)) ∙ sym (append_assoc v.front (take n v.tail) (drop n v.tail));
        place = ap (λ r. (walk (plain a) r 0).at) v.split ∙ w.at ∙ s.place ∙ sym long;
        passes = subst (Passes a (v.front ++ take n v.tail)) (append-nil bs) (passes_both a v.front (take n v.tail) bs [] v.passes s.passes);
        blank = s.blank;
      }
