-- More instances of demand 3, in the words of claim: refusals, openings over what there is, cuts between two calls and
-- within one. They stand apart from claim, so that its edits do not compute so many rows again.
use Rattle.std.specs.Prelude.{true, false, List, [], ◌∷◌, ◌++◌, ℕ, ◌+◌, length, get_or, take, drop, replicate}
use Rattle.waymaker_core.specs.declared.error.DecodeError.TheVariants.{LengthOutOfBounds}
use Rattle.waymaker_core.specs.declared.error.Refusal.TheVariants.{Decode, NotAppendable, Interrupted}
use Rattle.waymaker_core.specs.declared.error.Refusal.TheVariants.{NoRoom, OutOfOrder, NotARecord, CountTooLarge}
use Rattle.storage.specs.Media.{programmed}
use Rattle.frame.specs.Lengths.{body_len}
use Rattle.frame.specs.Format.{seal_of}
use Rattle.counts.specs.declared.WriteAmplification.{WriteAmplification}
use Rattle.counts.specs.Counts.{counts, largest_handed}
use Rattle.staging.specs.Stage.{check_for}
use Rattle.claim.specs.Saying.{Given, payload_for}
use Rattle.claim.specs.Events.{barrier, commit, nothing}
use Rattle.claim.specs.Instances.{Row, torn, torn_in, row, goes, refused, opening_from, an_opening, a_stage}
use Rattle.claim.specs.Instances.{to_stage, to_barrier, appends}
use Rattle.claim.specs.Instances.{giving, started, scheduled, failed, armed, fired, marker, blank, bodied}

-- # The words of a row

-- a region with the body and the seal of x programmed at o
abbrev pub sealed : List ℕ → ℕ → Given → List ℕ
sealed s o x =
    programmed (bodied s o x) (o + body_len 4 (length (payload_for x))) (seal_of 4 (check_for x.«record» x.free))

-- a write that makes t of s and came as far as place k
abbrev pub partly : ℕ → List ℕ → List ℕ → List ℕ
partly k s t = take k t ++ drop k s

-- t with one bit of the byte at place i, the bit worth b, which t has 0, left 1
abbrev pub but_bit : ℕ → ℕ → List ℕ → List ℕ
but_bit i b t = take i t ++ (get_or t i 0 + b) ∷ drop (i + 1) t

-- five counts alike
abbrev pub all_are : ℕ → WriteAmplification
all_are n = counts n n n n n

-- # The rows

-- a call that is refused
abbrev pub refusing : List Row
refusing =
    -- when ready: barrier and commit
    row (goes an_opening ∷ refused barrier OutOfOrder ∷ refused commit OutOfOrder ∷ appends fired)
    true nothing (fired ∷ [])
    -- when staged: stage and commit
    ∷ row (to_stage fired ++ refused (a_stage marker) Interrupted ∷ refused commit OutOfOrder
    ∷ goes barrier ∷ goes commit ∷ [])
    true nothing (fired ∷ [])
    -- when confirmed: stage and barrier
    ∷ row (to_barrier fired ++ refused (a_stage marker) Interrupted ∷ refused barrier OutOfOrder ∷ goes commit ∷ [])
    true nothing (fired ∷ [])
    -- when committed: commit
    ∷ row (goes an_opening ∷ appends fired ++ refused commit OutOfOrder ∷ []) true nothing (fired ∷ [])
    -- kind 10, kind 7 with sequence 1, kind 6 with a free byte, kind 5 with clock kind 3; a payload too long, and the
    -- longest, for which there is no room
    ∷ row (goes an_opening ∷ refused (a_stage (giving 10 0 0 0 0 [])) NotARecord
    ∷ refused (a_stage (giving 7 1 0 0 0 [])) NotARecord
    ∷ refused (a_stage (giving 6 3 0 0 0 (1 ∷ []))) NotARecord
    ∷ refused (a_stage (giving 5 3 3 0 0 [])) (Decode LengthOutOfBounds)
    ∷ refused (a_stage (giving 3 1 0 0 0 (replicate 65536 0))) (Decode LengthOutOfBounds)
    ∷ refused (a_stage (giving 3 1 0 0 0 (replicate 65535 0))) (NoRoom 65556 64)
    ∷ appends fired)
    true nothing (fired ∷ [])
    ∷ []

-- an opening where there is something, and one from counts
abbrev pub reopening : List Row
reopening =
    -- where there is a journal: with no record, and with one
    row (goes an_opening ∷ goes an_opening ∷ appends fired ++ goes an_opening ∷ appends armed)
    true nothing (fired ∷ armed ∷ [])
    -- where 4 bytes are left
    ∷ row (goes an_opening ∷ appends armed ++ appends fired ++ goes an_opening
    ∷ refused (a_stage fired) (NoRoom 20 4) ∷ [])
    true nothing (armed ∷ fired ∷ [])
    -- over a record of kind 2 without its seal: refused, time and again
    ∷ row (to_stage scheduled ++ torn (bodied blank 0 scheduled)
    ∷ refused an_opening NotAppendable ∷ refused an_opening NotAppendable ∷ [])
    false nothing []
    -- from counts of 2 to the 62nd; and from one above that, which is refused
    ∷ row (goes (opening_from (all_are largest_handed)) ∷ appends fired) true nothing (fired ∷ [])
    ∷ row (goes an_opening ∷ appends fired ++ refused (opening_from (counts 0 0 0 0 (largest_handed + 1))) CountTooLarge
    ∷ refused (opening_from (counts (largest_handed + 1) 0 0 0 0)) CountTooLarge ∷ goes an_opening ∷ appends armed)
    true nothing (fired ∷ armed ∷ [])
    ∷ []

-- a cut between two calls
abbrev pub cutting : List Row
cutting =
    -- at the very start
    row (torn blank ∷ goes an_opening ∷ appends fired) true nothing (fired ∷ [])
    -- with a journal and nothing loose
    ∷ row (goes an_opening ∷ torn blank ∷ []) false nothing []
    -- after a commit: the record stays
    ∷ row (goes an_opening ∷ appends fired ++ torn (sealed blank 0 fired) ∷ goes an_opening ∷ appends armed)
    true nothing (fired ∷ armed ∷ [])
    -- the same, its bytes written out
    ∷ row (goes an_opening ∷ appends fired
    ++ torn (0x57 ∷ 0x4d ∷ 1 ∷ 6 ∷ 3 ∷ 0 ∷ 0 ∷ 0 ∷ 0 ∷ 0 ∷ 0x1a ∷ 0x1a ∷ 0xf2 ∷ 0x37 ∷ 0xf2 ∷ 0x71
    ∷ 0x72 ∷ 0x37 ∷ 0x72 ∷ 0x71 ∷ replicate 44 255)
    ∷ [])
    false nothing (fired ∷ [])
    -- after a stage: nothing of the body is left, and the region is as it was
    ∷ row (to_stage scheduled ++ torn blank ∷ goes an_opening ∷ appends armed ++ appends fired)
    true nothing (armed ∷ fired ∷ [])
    -- all of it is left
    ∷ row (to_stage marker ++ torn (bodied blank 0 marker) ∷ []) false nothing []
    -- five bytes of it are left, over which no opening succeeds
    ∷ row (to_stage fired ++ torn (partly 5 blank (bodied blank 0 fired)) ∷ refused an_opening NotAppendable ∷ [])
    false nothing []
    -- all of it but a bit of its first byte
    ∷ row (to_stage fired ++ torn (but_bit 0 8 (bodied blank 0 fired)) ∷ refused an_opening NotAppendable ∷ [])
    false nothing []
    -- the same of a second record: the first stays
    ∷ row (goes an_opening ∷ appends fired ++ goes (a_stage marker)
    ∷ torn (but_bit 20 8 (bodied (sealed blank 0 fired) 20 marker)) ∷ refused an_opening NotAppendable ∷ [])
    false nothing (fired ∷ [])
    -- all of it but its header
    ∷ row (to_stage fired ++ torn (take 12 blank ++ drop 12 (bodied blank 0 fired))
    ∷ refused an_opening NotAppendable ∷ [])
    false nothing []
    -- bits of it whose two checks agree by chance, with another sequence: it has no seal, and is skipped
    ∷ row (to_stage fired
    ++ torn (0x57 ∷ 0x4d ∷ 1 ∷ 6 ∷ 0xa7 ∷ 0xa0 ∷ 0x15 ∷ 6 ∷ 0 ∷ 0 ∷ 0x9f ∷ 0x1b ∷ 0xfa ∷ 0x37 ∷ 0xf6 ∷ 0xf5
    ∷ replicate 48 255)
    ∷ goes an_opening ∷ appends armed)
    true nothing (armed ∷ [])
    -- after a stage and a commit that are refused: the body is still loose
    ∷ row (to_stage fired ++ refused (a_stage marker) Interrupted ∷ refused commit OutOfOrder
    ∷ torn (partly 7 blank (bodied blank 0 fired)) ∷ refused an_opening NotAppendable ∷ [])
    false nothing []
    -- after the barrier: the body is whole
    ∷ row (to_barrier started ++ torn (bodied blank 0 started) ∷ refused an_opening NotAppendable ∷ []) false nothing []
    -- a cut, and another
    ∷ row (to_stage fired ++ torn blank ∷ torn blank ∷ goes an_opening ∷ []) true nothing []
    ∷ []

-- a cut within a call
abbrev pub cutting_in : List Row
cutting_in =
    -- a stage
    row (goes an_opening ∷ torn_in (a_stage scheduled) (partly 7 blank (bodied blank 0 scheduled))
    ∷ refused an_opening NotAppendable ∷ [])
    false nothing []
    -- the same, and all of the body is left; nothing of it
    ∷ row (goes an_opening ∷ torn_in (a_stage failed) (bodied blank 0 failed) ∷ goes an_opening ∷ appends armed)
    true nothing (armed ∷ [])
    ∷ row (goes an_opening ∷ torn_in (a_stage failed) blank ∷ goes an_opening ∷ appends armed ++ appends failed)
    true nothing (armed ∷ failed ∷ [])
    -- a stage that is refused, nothing loose
    ∷ row (goes an_opening ∷ torn_in (a_stage (giving 10 0 0 0 0 [])) blank ∷ goes an_opening ∷ []) true nothing []
    -- a stage that is refused, a body loose
    ∷ row (to_stage fired ++ torn_in (a_stage marker) (partly 7 blank (bodied blank 0 fired)) ∷ []) false nothing []
    -- a barrier
    ∷ row (to_stage fired ++ torn_in barrier (but_bit 9 1 (bodied blank 0 fired)) ∷ []) false nothing []
    -- a stage that is refused, the body confirmed
    ∷ row (to_barrier fired ++ torn_in (a_stage marker) (bodied blank 0 fired) ∷ goes an_opening ∷ []) true nothing []
    -- a barrier that is refused, the body confirmed
    ∷ row (to_barrier fired ++ torn_in barrier (bodied blank 0 fired) ∷ goes an_opening ∷ []) true nothing []
    -- a commit that is refused, a body loose
    ∷ row (to_stage fired ++ torn_in commit (partly 15 blank (bodied blank 0 fired)) ∷ []) false nothing []
    -- a barrier, and a commit, with nothing under way
    ∷ row (goes an_opening ∷ torn_in barrier blank ∷ goes an_opening ∷ torn_in commit blank ∷ goes an_opening ∷ [])
    true nothing []
    -- an opening, with no journal and with one
    ∷ row (torn_in an_opening blank ∷ goes an_opening ∷ torn_in an_opening blank ∷ goes an_opening ∷ []) true nothing []
    -- an opening that is refused
    ∷ row (to_stage scheduled ++ torn (bodied blank 0 scheduled) ∷ torn_in an_opening (bodied blank 0 scheduled)
    ∷ refused an_opening NotAppendable ∷ [])
    false nothing []
    -- an opening, a body loose
    ∷ row (to_stage fired ++ torn_in an_opening (partly 7 blank (bodied blank 0 fired)) ∷ []) false nothing []
    -- a commit, the seal whole: the book has the record
    ∷ row (to_barrier fired ++ torn_in commit (sealed blank 0 fired) ∷ goes an_opening ∷ appends armed)
    true nothing (fired ∷ armed ∷ [])
    -- the same of a second record
    ∷ row (goes an_opening ∷ appends started ++ goes (a_stage scheduled) ∷ goes barrier
    ∷ torn_in commit (sealed (sealed blank 0 started) 28 scheduled) ∷ goes an_opening ∷ [])
    true nothing (started ∷ scheduled ∷ [])
    -- a commit, two bytes of the seal: it has not
    ∷ row (to_barrier fired ++ torn_in commit (partly 18 (bodied blank 0 fired) (sealed blank 0 fired))
    ∷ refused an_opening NotAppendable ∷ [])
    false nothing []
    -- a commit, all of the seal but one bit
    ∷ row (to_barrier fired ++ torn_in commit (but_bit 19 128 (sealed blank 0 fired))
    ∷ refused an_opening NotAppendable ∷ [])
    false nothing []
    -- a commit, nothing of the seal: kind 6 is skipped
    ∷ row (to_barrier fired ++ torn_in commit (bodied blank 0 fired) ∷ goes an_opening ∷ []) true nothing []
    -- the same of kind 2: no opening succeeds
    ∷ row (to_barrier scheduled ++ torn_in commit (bodied blank 0 scheduled) ∷ refused an_opening NotAppendable ∷ [])
    false nothing []
    ∷ []

-- the rows of this file
abbrev pub more_rows : List Row
more_rows = refusing ++ reopening ++ cutting ++ cutting_in
