-- Demand 3: the claim, a clause for each thing that the demand claims.
-- A region of n bytes, program unit a, read unit r; es is the list: calls, refused ones too, and cuts.
use Rattle.std.specs.Prelude.{◌≡◌, true, List, ◌∷◌, ◌++◌, ℕ, drop, Ok}
use Rattle.waymaker_core.specs.declared.error.Span.TheVariants.{Ahead}
use Rattle.waymaker_core.specs.declared.error.Refusal.TheVariants.{NotErased}
use Rattle.storage.specs.declared.geometry.Geometry.{Geometry}
use Rattle.storage.specs.Settings.{allowed}
use Rattle.storage.specs.Media.{erased}
use Rattle.recovery.specs.Next.{fresh}
use Rattle.counts.specs.declared.WriteAmplification.{WriteAmplification}
use Rattle.journal.specs.declared.Journal.{Journal}
use Rattle.journal.specs.Opening.{Opens}
use Rattle.claim.specs.Saying.{Given, all_given}
use Rattle.claim.specs.Events.{Event, call, stage, commit, unrefused, refused_with, done, under, State, run}
use Rattle.claim.specs.Events.{verdicts, Large, Valid, start}
use Rattle.claim.specs.Promised.{Plays, Reads}

-- x has the property P, and nothing else has
pub record Exactly {A : Type 0} (P : A → Type 0) (x : A) : Type 0 where
  pub has : P x
  pub only : (y : A) → P y → y ≡ x

-- a record is under way in s, and in bs it stands right behind the records that the book of s has
pub record Kept (s : State) (bs : List Given) : Type 0 where
  pub one : Given
  pub way : s.book.way ≡ under one
  pub behind : List Given
  pub is : bs ≡ s.book.records ++ (one ∷ behind)

module _ (n a r : ℕ) where
  -- the settings of the region
  abbrev pub units : Geometry
  units = record { bytes = n; program_size = a; read_size = r }

  -- the state after a list, by the papers' definitions
  abbrev pub after : List Event → State
  after es = run a r (start n) es

  -- what is claimed of a list
  pub record Claim (es : List Event) : Type 0 where
    -- calls that keep their promises come to what the papers' definitions give: the same refusals, the same state
    pub refuses : Exactly (Plays a r (start n) es) (record { verdicts = verdicts a r (start n) es; state = after es })
    -- a caller who reads from offset 0, with any large page at each step, reads the book's records and no others
    pub finds_book : (pages : ℕ → List ℕ) → ((i : ℕ) → Large (pages i))
        → Exactly (Reads (after es).machine.region (fresh units) pages) (all_given (after es).book.records)
    -- the record of a commit that was not refused is in the book at the list's end, behind those that it came after
    pub has_committed : (fs gs : List Event)
        → es ≡ fs ++ (call commit ∷ gs)
        → (done a r (after fs).machine commit).verdict ≡ unrefused
        → Kept (after fs) (after es).book.records
    -- an opening that succeeds after the list: nothing is programmed from its journal's offset on, the append offset
    pub opens_erased : (w : WriteAmplification) (page page' : List ℕ) (j : Journal)
        → Opens w a r (after es).machine.region page (Ok j) page'
        → erased (drop j.offset (after es).machine.region) ≡ true

-- the theorem, proved in `proofs/Demand3.antt`: within the limits of the settings, the claim holds of every list meant
abbrev pub Theorem : Type 0
Theorem = (n a r : ℕ) → allowed n a r ≡ true → (es : List Event) → Valid a r (start n) es → Claim n a r es

-- beside it: on the same premises no stage after the list is refused with 18, whatever it is given
abbrev pub FindsErased : Type 0
FindsErased = (n a r : ℕ) → allowed n a r ≡ true → (es : List Event) → Valid a r (start n) es
    → (x : Given) (page : List ℕ) (i : ℕ)
    → (done a r (after n a r es).machine (stage x page)).verdict ≡ refused_with (NotErased Ahead i) → ⊥
