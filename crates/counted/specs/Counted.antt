-- A fourth theorem: what the counts have grown by since the opening that a list of stages, barriers and commits goes
-- on from. Any settings, any region, any counts that the opening was handed; steps that are refused too, and whatever
-- something else writes between them; no cut.
-- w are the counts that the opening was handed, j its journal, k the journal after the list.
use Rattle.std.specs.Prelude.{◌≡◌, true, cond, List, ℕ, ◌+◌, ◌-◌, ◌≤◌, eqb, Ok}
use Rattle.counts.specs.declared.WriteAmplification.{WriteAmplification}
use Rattle.counts.specs.Counts.{up_to, largest_handed}
use Rattle.journal.specs.declared.Journal.{Journal}
use Rattle.journal.specs.Opening.{Opens}
use Rattle.foreign.specs.Steps.{Event, Leads}

-- how many records are staged and not yet committed: none or one
abbrev pub under_way : Journal → ℕ
under_way k = cond (eqb k.phase 0) 0 1

-- the length of the body of such a record, or 0
abbrev pub body_under_way : Journal → ℕ
body_under_way k = cond (eqb k.phase 0) 0 k.body_len

-- what something else may write: whatever it likes
abbrev pub Anything : List ℕ → List ℕ → Type 0
Anything s u = Unit {0}

-- what is claimed of the journal k
pub record Grown (w : WriteAmplification) (j k : Journal) : Type 0 where
  -- the offset has not gone back
  pub onward : j.offset ≤ k.offset
  -- programmed bytes have grown by its advance, and by the body of a record that is not committed yet
  pub programmed : k.written.programmed_bytes ≡ w.programmed_bytes + (k.offset - j.offset) + body_under_way k
  -- and the appends that were not committed by one while a record is under way
  pub uncommitted : k.written.uncommitted_appends ≡ w.uncommitted_appends + under_way k
  -- no count has stopped: an opening takes 2 to the 62nd at most in each, and none grows by more than 2 to the 24th,
  -- the longest region
  pub short : up_to (largest_handed + 16777216) k.written ≡ true

-- the theorem, proved in `proofs/Counting.antt`
abbrev pub Theorem : Type 0
Theorem = (w : WriteAmplification) (a r : ℕ) (s page page' : List ℕ) (j : Journal) → Opens w a r s page (Ok j) page'
    → (es : List Event) (k : Journal) (t : List ℕ) → Leads Anything j s es k t → Grown w j k
