-- The lines of a listing, in ASCII; 44 is a comma, 10 a line feed.
use Rattle.std.specs.Prelude.{List, [], ◌∷◌, ◌++◌, ℕ}
use Prim.Native.String.{String}
use Rattle.waymaker_core.specs.Refusals.{refusal_of}
use Rattle.waymaker_core.specs.Kinds.{kind_of, seq_of}
use Rattle.text.specs.Text.{codes, decimal}
use Rattle.recovery.specs.declared.next.Ending.{Ending}
use Rattle.recovery.specs.declared.next.Ending.TheVariants.{Open, Clean, Damaged, Incomplete, Unsealed}
use Rattle.recovery.specs.declared.next.Found.{Found as OneFound}
use Rattle.recovery.specs.declared.next.Stepped.{Stepped}

-- a number and the byte behind it
abbrev pub field : ℕ → ℕ → List ℕ
field n e = decimal n ++ (e ∷ [])

-- offset, kind, sequence, payload length
unfoldable pub record_line : OneFound → List ℕ
record_line x =
    field x.offset 44
    ++ (field (kind_of x.«record».«record») 44
    ++ (field (seq_of x.«record».«record») 44
    ++ field x.«record».payload.len 10))

-- the records found, and the bytes that they take
unfoldable pub totals : ℕ → ℕ → List ℕ
totals n b = field n 44 ++ field b 10

-- a last line by its beginning: where the recovery ended, its refusal, the totals
unfoldable pub last_line : List ℕ → Stepped → ℕ → ℕ → List ℕ
last_line start x n b =
    start
    ++ (field x.state.offset 44
    ++ (field (refusal_of x.answer).number 44
    ++ totals n b))

-- the beginning of a last line: `end` and how the recovery ended
abbrev pub end_word : String → List ℕ
end_word word = codes "end," ++ (codes word ++ (44 ∷ []))

-- the last line by the ending; a recovery that is open or incomplete has none
abbrev pub end_by : Ending → Stepped → ℕ → ℕ → List ℕ
end_by Clean x n b = last_line (end_word "clean") x n b
end_by Damaged x n b = last_line (end_word "damaged") x n b
end_by Unsealed x n b = last_line (end_word "unsealed") x n b
end_by Incomplete x n b = []
end_by Open x n b = []

-- the last line of a listing
abbrev pub end_line : Stepped → ℕ → ℕ → List ℕ
end_line x n b = end_by x.state.ending x n b

-- the only line where the input is refused
abbrev pub refused_line : List ℕ
refused_line = codes "refused,1\n"
