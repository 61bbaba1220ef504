-- Text laid piece by piece into lent bytes, and a text parted around a byte.
use Rattle.std.specs.Prelude.{◌≡◌, List, ℕ, ◌+◌, ◌<◌, Option, MatchOption, length, take, drop}
use Rattle.std.specs.Borrow.{Bor}
use Rattle.text.specs.declared.Output.{Output}
use Rattle.text.specs.Text.{Puts, place_of}

-- s was put at the place of an output, which then stands where s ends; the bytes are still the ones that were lent
pub record Lays (old : Output) (s : List ℕ) (new : Output) : Type 0 where
  pub same : new.bytes.ghost_name ≡ old.bytes.ghost_name
  pub puts : Puts old.bytes.now old.place s new.place new.bytes.now

-- the parts of s before and behind its first byte b; none where s has no such byte
abbrev pub Parts : ℕ → List ℕ → Option (Bor (List ℕ) × Bor (List ℕ)) → Type 0
Parts b s x =
    let at = place_of b s in
    MatchOption x (at ≡ length s) (λ p. (at < length s) × (p.0.now ≡ take at s) × (p.1.now ≡ drop (at + 1) s))
