-- A tally of answers: those that agree, those that do not, and the number of the first that does not.
use Rattle.std.specs.Prelude.{Bool, true, false, ℕ, ◌+◌, min, Option, Some, None}
use Rattle.std.specs.Option.{option_or}
use Rattle.testing.specs.declared.tally.Tally.{Tally}

-- a count stops at 4,294,967,295
abbrev pub one_more : ℕ → ℕ
one_more n = min (n + 1) 4294967295

-- a tally of these parts
abbrev pub tally : ℕ → ℕ → Option ℕ → Tally
tally g b f = record { good = g; bad = b; first = f }

-- no answer yet
abbrev pub none : Tally
none = tally 0 0 None

-- with one answer more, which agrees or does not
unfoldable pub with_one : Tally → Bool → Tally
with_one t true = tally (one_more t.good) t.bad t.first
with_one t false = tally t.good (one_more t.bad) (option_or t.first (Some t.good))
