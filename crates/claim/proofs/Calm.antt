-- A calm tail: nothing is found at its start, and where it is skipped or clean, all that follows is erased.
-- Assumes nothing.
use mathlib.Core.Path.{◌≡◌}
use mathlib.Core.Bool.{true}
use mathlib.Core.List.{List}
use lib.ListN.{drop}
use Prim.Native.Nat.{ℕ}
use Rattle.storage.specs.Media.{erased}
use Rattle.place.specs.declared.Stop.{Stop}
use Rattle.place.specs.declared.Stop.TheVariants.{End, Bad, BadTail, NoSeal, NoSkip, TooSmall}
use Rattle.place.specs.declared.Stand.{Stand}
use Rattle.place.specs.declared.Stand.TheVariants.{Met, Passed, Over}

-- t is the tail, e how reading ends there, x what stands at its start
abbrev pub CalmEnd : List ℕ → Stop → Type 0
CalmEnd t End = erased t ≡ true
CalmEnd t (Bad e) = Unit {0}
CalmEnd t (BadTail i) = Unit {0}
CalmEnd t NoSeal = Unit {0}
CalmEnd t (NoSkip i) = Unit {0}
CalmEnd t (TooSmall n) = Unit {0}

abbrev pub Calm : List ℕ → Stand → Type 0
Calm t (Met x) = ⊥
Calm t (Passed n) = erased (drop n t) ≡ true
Calm t (Over e) = CalmEnd t e
