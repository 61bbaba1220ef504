-- Instances of demand 3: lists over a region of 64 bytes, program unit 4, read unit 1, what their calls come to, the
-- book after each, and that a caller reads it. So the theorem speaks of something, and its model is seen at work.
-- Appends and skipped records stand here; refusals, openings and cuts of every place stand in the crate `instances`.
use Rattle.std.specs.Prelude.{◌≡◌, Bool, true, List, [], ◌∷◌, ◌++◌, ℕ, replicate}
use Rattle.waymaker_core.specs.declared.error.Refusal.{Refusal}
use Rattle.waymaker_core.specs.declared.error.Refusal.TheVariants.{NoRoom}
use Rattle.waymaker_core.specs.declared.«record».RecordRef.{RecordRef}
use Rattle.waymaker_core.specs.declared.«record».RecordRef.TheVariants.{RunStarted, EffectScheduled, EffectCompleted}
use Rattle.waymaker_core.specs.declared.«record».RecordRef.TheVariants.{EffectFailed, TimerScheduled, TimerFired}
use Rattle.waymaker_core.specs.declared.«record».RecordRef.TheVariants.{RunCompleted, RunFailed, VersionMarker}
use Rattle.storage.specs.Media.{programmed}
use Rattle.payload.specs.declared.Decoded.TheVariants.{Record as Known}
use Rattle.payload.specs.Payload.{part}
use Rattle.recovery.specs.Next.{fresh}
use Rattle.counts.specs.declared.WriteAmplification.{WriteAmplification}
use Rattle.counts.specs.Counts.{unwritten}
use Rattle.staging.specs.Stage.{body_for}
use Rattle.claim.specs.Saying.{Given, Said, all_given}
use Rattle.claim.specs.Events.{Call, opening, stage, barrier, commit, Event, call, cut, cut_in}
use Rattle.claim.specs.Events.{Verdict, unrefused, refused_with, Way, nothing, under, Book}
use Rattle.claim.specs.Events.{verdicts, Large, Valid, start}
use Rattle.claim.specs.Promised.{Reads}
use Rattle.claim.specs.Claim.{Exactly, units, after}

-- # What a row says

-- a call and what it comes to; a cut between two calls, and a cut within one, each with the region that it left
pub data RowEntry : Type 0 where
  does : Call → Verdict → RowEntry
  torn : List ℕ → RowEntry
  torn_in : Call → List ℕ → RowEntry

-- the entries of a list, and the book after it
pub record Row : Type 0 where
  pub entries : List RowEntry
  pub book : Book

-- a call, lent a page in place of its own
abbrev pub lent : List ℕ → Call → Call
lent page (opening w p) = opening w page
lent page (stage x p) = stage x page
lent page barrier = barrier
lent page commit = commit

-- the events of a row, each call lent the page
abbrev pub events : List ℕ → List RowEntry → List Event
events page [] = []
events page (does c v ∷ es) = call (lent page c) ∷ events page es
events page (torn t ∷ es) = cut t ∷ events page es
events page (torn_in c t ∷ es) = cut_in (lent page c) t ∷ events page es

-- what its calls come to
abbrev pub answers : List RowEntry → List Verdict
answers [] = []
answers (does c v ∷ es) = v ∷ answers es
answers (torn t ∷ es) = answers es
answers (torn_in c t ∷ es) = answers es

-- a row holds with a page: demand 3 speaks of its list, the list comes to what the row says, and with any large pages a
-- caller reads the row's records and no others
pub record HoldsWith (page : List ℕ) (x : Row) : Type 0 where
  pub valid : Valid 4 1 (start 64) (events page x.entries)
  pub comes : verdicts 4 1 (start 64) (events page x.entries) ≡ answers x.entries
  pub book : (after 64 4 1 (events page x.entries)).book ≡ x.book
  pub read : (pages : ℕ → List ℕ) → ((i : ℕ) → Large (pages i))
      → Exactly (Reads (after 64 4 1 (events page x.entries)).machine.region (fresh (units 64 4 1)) pages)
      (all_given x.book.records)

-- with every large page
abbrev pub Holds : Row → Type 0
Holds x = (page : List ℕ) → Large page → HoldsWith page x

-- every row of a list holds
abbrev pub AllHold : List Row → Type 0
AllHold [] = Unit {0}
AllHold (x ∷ xs) = Holds x × AllHold xs

-- # The words of a row

-- a row: its calls and cuts, then its book
abbrev pub row : List RowEntry → Bool → Way → List Given → Row
row es journal way records = record { entries = es; book = record { journal = journal; way = way; records = records } }

-- a call that is not refused
abbrev pub goes : Call → RowEntry
goes c = does c unrefused

-- a call that is refused
abbrev pub refused : Call → Refusal → RowEntry
refused c e = does c (refused_with e)

-- an opening that goes on from these counts, whose page is yet to be lent; and one that starts at zero
abbrev pub opening_from : WriteAmplification → Call
opening_from w = opening w []

abbrev pub an_opening : Call
an_opening = opening_from unwritten

-- a stage, likewise
abbrev pub a_stage : Given → Call
a_stage x = stage x []

-- an opening and a stage
abbrev pub to_stage : Given → List RowEntry
to_stage x = goes an_opening ∷ goes (a_stage x) ∷ []

-- these and the payload barrier
abbrev pub to_barrier : Given → List RowEntry
to_barrier x = goes an_opening ∷ goes (a_stage x) ∷ goes barrier ∷ []

-- the three steps of an append
abbrev pub appends : Given → List RowEntry
appends x = goes (a_stage x) ∷ goes barrier ∷ goes commit ∷ []

-- a record of kind k and sequence q; every kind's first number is l, its second m, its third n
abbrev pub giving : ℕ → ℕ → ℕ → ℕ → ℕ → List ℕ → Given
giving k q l m n free =
    record {
      «record» = record {
        kind = record { 0 = k };
        seq = record { 0 = q };
        workflow_kind = l;
        workflow_version = m;
        activity = record { 0 = l };
        input_len = m;
        input_crc = n;
        clock_kind = record { 0 = l };
        deadline = m;
        armed_at = n;
        gate = record { 0 = l };
        version = m;
      };
      free = free;
    }

-- one record of each kind, each under the number of bytes that it takes

-- 28
abbrev pub started : Given
started = giving 1 0 7 2 0 (0x68 ∷ 0x69 ∷ [])

-- 28
abbrev pub scheduled : Given
scheduled = giving 2 1 200 2 0xdeadbeef []

-- 24
abbrev pub completed : Given
completed = giving 3 1 0 0 0 (1 ∷ 2 ∷ 3 ∷ [])

-- 24
abbrev pub failed : Given
failed = giving 4 2 0 0 0 (0xff ∷ [])

-- 40; the largest sequence, and the largest number of 64 bits
abbrev pub armed : Given
armed =
    record {
      «record» = record {
        kind = record { 0 = 5 };
        seq = record { 0 = 4294967295 };
        workflow_kind = 0;
        workflow_version = 0;
        activity = record { 0 = 0 };
        input_len = 0;
        input_crc = 0;
        clock_kind = record { 0 = 2 };
        deadline = 18446744073709551615;
        armed_at = 59000;
        gate = record { 0 = 0 };
        version = 0;
      };
      free = [];
    }

-- 20
abbrev pub fired : Given
fired = giving 6 3 0 0 0 []

-- 28
abbrev pub finished : Given
finished = giving 7 0 0 0 0 (0 ∷ 0xff ∷ 0x57 ∷ 0x4d ∷ 1 ∷ [])

-- 24
abbrev pub broken : Given
broken = giving 8 0 0 0 0 (0x65 ∷ 0x66 ∷ [])

-- 24
abbrev pub marker : Given
marker = giving 9 4 12 65535 0 []

-- what they are read as: the kind's numbers, and the payload's bytes
abbrev pub said : RecordRef → List ℕ → Said
said x payload = record { «record» = Known x; payload = payload }

-- one record of each kind
abbrev pub nine : List Given
nine =
    started ∷ scheduled ∷ completed ∷ failed ∷ armed ∷ fired ∷ finished ∷ broken ∷ marker ∷ []

-- what a caller reads of the nine
abbrev pub nine_said : List Said
nine_said =
    said (RunStarted 7 2 (part 16 2)) (7 ∷ 0 ∷ 2 ∷ 0 ∷ 0x68 ∷ 0x69 ∷ [])
    ∷ said (EffectScheduled (record { 0 = 1 }) (record { 0 = 200 }) 2 0xdeadbeef)
    (200 ∷ 0 ∷ 2 ∷ 0 ∷ 0xef ∷ 0xbe ∷ 0xad ∷ 0xde ∷ [])
    ∷ said (EffectCompleted (record { 0 = 1 }) (part 12 3)) (1 ∷ 2 ∷ 3 ∷ [])
    ∷ said (EffectFailed (record { 0 = 2 }) (part 12 1)) (0xff ∷ [])
    ∷ said (TimerScheduled (record { 0 = 4294967295 }) (record { 0 = 2 }) 18446744073709551615 59000)
    (2 ∷ replicate 8 255 ++ 0x78 ∷ 0xe6 ∷ 0 ∷ 0 ∷ 0 ∷ 0 ∷ 0 ∷ 0 ∷ [])
    ∷ said (TimerFired (record { 0 = 3 })) []
    ∷ said (RunCompleted (part 12 5)) (0 ∷ 0xff ∷ 0x57 ∷ 0x4d ∷ 1 ∷ [])
    ∷ said (RunFailed (part 12 2)) (0x65 ∷ 0x66 ∷ [])
    ∷ said (VersionMarker (record { 0 = 4 }) (record { 0 = 12 }) 65535) (12 ∷ 0 ∷ 0xff ∷ 0xff ∷ [])
    ∷ []

-- the region at first
abbrev pub blank : List ℕ
blank = replicate 64 255

-- a region with the body of x programmed at o
abbrev pub bodied : List ℕ → ℕ → Given → List ℕ
bodied s o x = programmed s o (body_for 4 x.«record» x.free)

-- # The rows

-- appends, of which a record may be too long for the region
abbrev pub appending : List Row
appending =
    -- one record
    row (goes an_opening ∷ appends fired) true nothing (fired ∷ [])
    -- two, and no room for a third
    ∷ row (goes an_opening ∷ appends started ++ appends scheduled ++ refused (a_stage fired) (NoRoom 20 8) ∷ [])
    true nothing (started ∷ scheduled ∷ [])
    -- no room for one, which changes nothing: a shorter one goes through after it
    ∷ row (goes an_opening ∷ appends finished ++ refused (a_stage armed) (NoRoom 40 36) ∷ appends broken)
    true nothing (finished ∷ broken ∷ [])
    -- the same record three times
    ∷ row (goes an_opening ∷ appends fired ++ appends fired ++ appends fired) true nothing (fired ∷ fired ∷ fired ∷ [])
    -- kinds 4 and 3, the later one with the lower sequence
    ∷ row (goes an_opening ∷ appends failed ++ appends completed) true nothing (failed ∷ completed ∷ [])
    -- kinds 5 and 6
    ∷ row (goes an_opening ∷ appends armed ++ appends fired) true nothing (armed ∷ fired ∷ [])
    -- one that is staged is under way
    ∷ row (goes an_opening ∷ appends marker ++ goes (a_stage fired) ∷ []) true (under fired) (marker ∷ [])
    -- and so is one that is confirmed
    ∷ row (to_barrier marker) true (under marker) []
    ∷ []

-- a cut leaves a record without its seal: an opening skips it, and the next record goes behind it
abbrev pub skipping : List Row
skipping =
    -- kind 3
    row (to_stage completed ++ torn (bodied blank 0 completed) ∷ goes an_opening ∷ appends armed)
    true nothing (armed ∷ [])
    -- kind 4
    ∷ row (to_barrier failed ++ torn (bodied blank 0 failed) ∷ goes an_opening ∷ appends armed) true nothing
    (armed ∷ [])
    -- kind 6
    ∷ row (to_stage fired ++ torn (bodied blank 0 fired) ∷ goes an_opening ∷ appends armed
    ++ refused (a_stage fired) (NoRoom 20 4) ∷ [])
    true nothing (armed ∷ [])
    -- two of them, one behind the other
    ∷ row (to_stage fired ++ torn (bodied blank 0 fired) ∷ goes an_opening ∷ goes (a_stage failed)
    ∷ torn (bodied (bodied blank 0 fired) 20 failed) ∷ goes an_opening ∷ appends fired)
    true nothing (fired ∷ [])
    ∷ []

-- the rows of this file
abbrev pub table : List Row
table = appending ++ skipping
