-- What reading an input promises: where it went well, the bytes that came lie in the buffer. Where it is known which
-- bytes the reader has left, those that came are the first of them, and the reader has none left where it gave fewer
-- than the buffer takes. Of standard input that is not known.
use Rattle.std.specs.Prelude.{List, ℕ, ◌<◌, ◌≤◌, Option, Result, IfOk, length, take}
use Rattle.std.specs.Io.KnownBytes.{Consumes, IsAtEnd}

-- the bytes that came lie in the buffer
abbrev pub ReadsInput : {E : Type 0} → List ℕ → Result ℕ E → Type 0
ReadsInput buf x = IfOk x (λ n. n ≤ length buf)

-- the bytes that came, with which the buffer begins, are those that the reader consumed
abbrev pub GivesConsumed : {E : Type 0} → Option (List ℕ) → Option (List ℕ) → List ℕ → Result ℕ E → Type 0
GivesConsumed old new buf x = IfOk x (λ n. Consumes old new (take n buf))

-- where fewer bytes came than the buffer takes, the reader is at its end
abbrev pub IsShortAtEnd : {E : Type 0} → Option (List ℕ) → List ℕ → Result ℕ E → Type 0
IsShortAtEnd new buf x = IfOk x (λ n. n < length buf → IsAtEnd new)
