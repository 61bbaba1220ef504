-- A record as the vectors give it.
use Rattle.std.specs.Prelude.{List, ℕ, get_or, take, drop}
use Rattle.std.specs.Int.{w16, w32, w64, from_le_bytes}
use Rattle.waymaker_core.specs.declared.record.Record.{Record}
use Rattle.waymaker_core.specs.Kinds.{from_numbers}

-- the number of the two bytes from a place on
abbrev pub two_at : List ℕ → ℕ → ℕ
two_at s i = from_le_bytes w16 (take 2 (drop i s))

-- of the four
abbrev pub four_at : List ℕ → ℕ → ℕ
four_at s i = from_le_bytes w32 (take 4 (drop i s))

-- of the eight
abbrev pub eight_at : List ℕ → ℕ → ℕ
eight_at s i = from_le_bytes w64 (take 8 (drop i s))

-- the record that 38 bytes are
abbrev pub record_in : List ℕ → Record
record_in s = from_numbers (get_or s 0 0) (four_at s 1) (two_at s 5) (two_at s 7) (two_at s 9) (two_at s 11)
    (four_at s 13) (get_or s 17 0) (eight_at s 18) (eight_at s 26) (two_at s 34) (two_at s 36)
