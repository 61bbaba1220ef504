-- What follows from the claim of demand 3: with one page for a whole recovery, with the opening's definition, and for a
-- committed record in what a caller reads.
-- Assumes nothing beyond the claim, but for the first that the settings are within their limits and the region is bytes.
use Rattle.std.specs.Prelude.{Ok}
use mathlib.Core.Path.{◌≡◌, refl, sym, ap, subst, ◌∙◌}
use mathlib.Core.Bool.{true}
use mathlib.Core.List.{List, ◌∷◌, ◌++◌}
use Prim.Native.Nat.{ℕ}
use lib.ListN.{drop}
use Rattle.storage.specs.Settings.{allowed}
use Rattle.storage.specs.Media.{erased}
use Rattle.recovery.specs.Next.{fresh}
use Rattle.finish.specs.Finish.{founds}
use Rattle.roundtrip.specs.Typed.{AllBytes}
use Rattle.counts.specs.declared.WriteAmplification.{WriteAmplification}
use Rattle.journal.specs.declared.Journal.{Journal}
use Rattle.journal.specs.Opening.{OpenLeft, opened_with}
use Rattle.journal.proofs.Openings.{opens_by_lem}
use Rattle.claim.specs.Saying.{Given, Said, given, all_given}
use Rattle.claim.specs.Events.{commit, Event, call, unrefused, done, under, State, after_event, run, start, Large}
use Rattle.claim.specs.Promised.{Reads}
use Rattle.claim.specs.Claim.{Kept, units, after, Claim}
use Rattle.claim.proofs.Said.{all_said_in}
use Rattle.claim.proofs.Passing.{given_append}
use Rattle.claim.proofs.Growth.{run_append}
use Rattle.claim.proofs.Reading.{reads_exactly}

-- a record was under way in s, and what it was given to say stands in xs right behind what the book of s says
pub record Told (s : State) (xs : List Said) : Type 0 where
  pub one : Given
  pub way : s.book.way ≡ under one
  pub behind : List Said
  pub is : xs ≡ all_given s.book.records ++ (given one ∷ behind)

module _ (n a r : ℕ) (es : List Event) (claim : Claim n a r es) where
  abbrev region : List ℕ
  region = (after n a r es).machine.region

  -- a run to the end with one page finds the book's records
  pub one_page_finds : allowed n a r ≡ true → AllBytes region → (page : List ℕ) → Large page
      → all_said_in region (founds (fresh (units n a r)) region page) ≡ all_given (after n a r es).book.records
  one_page_finds ok bytes page large =
      (claim.finds_book (λ _. page) (λ _. large)).only _ (reads_exactly region bytes (units n a r) ok (λ _. page) (λ _. large) page large).has

  -- an opening, by its definition, stands before erased bytes
  pub opened_stands : (w : WriteAmplification) (page : List ℕ) (j : Journal) → (opened_with w a r region page).opening ≡ Ok j
      → erased (drop j.offset region) ≡ true
  opened_stands w page j e =
      let l : OpenLeft = opened_with w a r region page in
      claim.opens_erased w page l.page j (opens_by_lem (ap (λ x. record { opening = x; page = l.page }) (sym e)))

  -- a record whose commit was not refused is among what a caller reads
  pub committed_read : (fs gs : List Event) → es ≡ fs ++ (call commit ∷ gs) → (done a r (after n a r fs).machine commit).verdict ≡ unrefused
      → (pages : ℕ → List ℕ) → ((i : ℕ) → Large (pages i)) → (xs : List Said) → Reads region (fresh (units n a r)) pages xs → Told (after n a r fs) xs
  unfolding all_given
  committed_read fs gs is went pages large xs reads =
      let k : Kept (after n a r fs) (after n a r es).book.records = claim.has_committed fs gs is went in
      record {
        one = k.one;
        way = k.way;
        behind = all_given k.behind;
        is = (claim.finds_book pages large).only xs reads ∙ ap all_given k.is ∙ given_append (after n a r fs).book.records (k.one ∷ k.behind);
      }

-- a commit's record is in the book after the commit and any further events of a list that demand 3 speaks of
pub committed_found : (n a r : ℕ) (es fs : List Event) → Claim n a r (es ++ (call commit ∷ fs)) → (done a r (after n a r es).machine commit).verdict ≡ unrefused
    → Kept (after n a r es) (run a r (after_event a r (after n a r es) (call commit)) fs).book.records
unfolding run
committed_found n a r es fs claim went =
    subst (λ t. Kept (after n a r es) t.book.records) (run_append a r (start n) es (call commit ∷ fs)) (claim.has_committed es fs refl went)
