-- The claim of demand 3 holds after every list.
-- Nothing is assumed of the checks' values, nor of which bits a cut takes.
use mathlib.Core.Path.{sym, ap, subst}
use mathlib.Core.List.{List, ◌∷◌}
use Prim.Native.Nat.{ℕ}
use Rattle.recovery.specs.Next.{fresh}
use Rattle.journal.proofs.Erased.{opened_erased}
use Rattle.claim.specs.Events.{commit, call, Valid, start}
use Rattle.claim.specs.Promised.{Reads}
use Rattle.claim.specs.Claim.{Exactly, Kept, units, after, Theorem}
use Rattle.claim.proofs.Invariant.{Inv, at_first, sound_of, run_finds, inv_after}
use Rattle.claim.proofs.Growth.{valid_front, committed_kept}
use Rattle.claim.proofs.Playing.{plays_exactly}
use Rattle.claim.proofs.Reading.{reads_exactly}

pub demand_3 : Theorem
demand_3 n a r ok es valid =
    let region : List ℕ = (after n a r es).machine.region in
    let i : Inv n a r ok (after n a r es) = inv_after n a r ok es valid in
    record {
      refuses = plays_exactly n a r ok (start n) es (at_first n a r ok) valid;
      finds_book =
          λ pages large.
          subst (Exactly (Reads region (fresh (units n a r)) pages)) (run_finds n a r ok (after n a r es) i (pages 0) (large 0))
          (reads_exactly region (sound_of n a r ok (after n a r es) i).bytes (units n a r) ok pages large (pages 0) (large 0));
      has_committed =
          λ fs gs is went.
          subst (λ l. Kept (after n a r fs) (after n a r l).book.records) (sym is)
          (committed_kept n a r ok fs gs (valid_front a r (start n) fs (call commit ∷ gs) (subst (Valid a r (start n)) is valid)) went);
      opens_erased = λ w page page' j k. opened_erased region w a r page j (sym (ap (λ l. l.opening) k.all));
    }
