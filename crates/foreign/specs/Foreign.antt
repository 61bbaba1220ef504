-- A second theorem beside demand 3. While a journal is ready something else may write into its region; then no step of
-- an append changes a byte of that which lies at or beyond the append offset and is not 0xFF.
-- Any settings and any region; steps that are refused too; no cut.
-- j and k are journals, s, t and u regions, i the place of a byte.
use Rattle.std.specs.Prelude.{◌≡◌, List, ℕ, ◌≤◌, get_or}
use Rattle.journal.specs.declared.Journal.{Journal}
use Rattle.foreign.specs.Steps.{Event, Leads}

-- the byte at place i; past the region's end all are taken to be erased
abbrev pub byte_at : ℕ → List ℕ → ℕ
byte_at i s = get_or s i 255

-- what something else may write: whatever it likes but for the byte at place i
abbrev pub Spares : ℕ → List ℕ → List ℕ → Type 0
Spares i s u = byte_at i u ≡ byte_at i s

-- the journal is ready, and the byte at place i lies at or beyond the append offset and is not erased
pub record Foreign (i : ℕ) (j : Journal) (s : List ℕ) : Type 0 where
  pub ready : j.phase ≡ 0
  pub beyond : j.offset ≤ i
  pub programmed : byte_at i s ≡ 255 → ⊥

-- the byte at place i is as it was in s, and the append offset has not passed it
pub record Stays (i : ℕ) (s : List ℕ) (k : Journal) (t : List ℕ) : Type 0 where
  pub same : byte_at i t ≡ byte_at i s
  pub beyond : k.offset ≤ i

-- the theorem, proved in `proofs/Stays.antt`: from any moment at which the journal is ready, so that what is written
-- later is covered from then on, whatever list comes after it, every such byte stays
abbrev pub Theorem : Type 0
Theorem = (i : ℕ) (j k : Journal) (s t : List ℕ) (es : List Event) → Foreign i j s → Leads (Spares i) j s es k t
    → Stays i s k t
