-- The book only grows, and a commit that goes through puts the record under way into it.
-- Assumes nothing.
use mathlib.Core.Path.{◌≡◌, refl, sym, ap, subst, ◌∙◌}
use mathlib.Core.Bool.{Bool, true, false}
use mathlib.Core.List.{List, [], ◌∷◌, ◌++◌, append_assoc, append-nil}
use Prim.Native.Nat.{ℕ}
use native.Mathlib.Omega.{arith}
use Rattle.waymaker_core.specs.declared.error.Refusal.{Refusal}
use Rattle.storage.specs.Settings.{allowed}
use Rattle.journal.specs.declared.Journal.{Journal}
use Rattle.progress.specs.Phases.{is_next}
use Rattle.append.specs.Append.{committed}
use Rattle.claim.specs.Saying.{Given}
use Rattle.claim.specs.Events.{Call, opening, stage, barrier, commit, Event, call, cut, cut_in, holds, Machine, machine, Verdict, unrefused, refused_with, stepped, done, Way, nothing, under, Book, appended, told, told_cut, State, sealed_in, after_event, run, Valid, start}
use Rattle.claim.specs.Claim.{Kept, after}
use Rattle.progress.proofs.Noted.{on_device_case}
use Rattle.claim.proofs.Invariant.{idle, at, Inv, lost_inv, ready_inv, staged_inv, firm_inv, inv_after}

-- the records cs are the records bs and more behind them
record Grows (bs cs : List Given) : Type 0 where
  more : List Given
  is : cs ≡ bs ++ more

grows_none : (bs : List Given) → Grows bs bs
grows_none bs = record { more = []; is = sym (append-nil bs) }

grows_more : (bs cs ds : List Given) → Grows bs cs → Grows cs ds → Grows bs ds
grows_more bs cs ds x y = record { more = x.more ++ y.more; is = y.is ∙ ap (λ l. l ++ y.more) x.is ∙ append_assoc bs x.more y.more }

grows_appended : (bs : List Given) (w : Way) → Grows bs (appended bs w)
grows_appended bs nothing = grows_none bs
grows_appended bs (under x) = record { more = x ∷ []; is = refl }

grows_told : (b : Book) (c : Call) (v : Verdict) → Grows b.records (told b c v).records
grows_told b (opening w page) unrefused = grows_none b.records
grows_told b (opening w page) (refused_with e) = grows_none b.records
grows_told b (stage x page) unrefused = grows_none b.records
grows_told b (stage x page) (refused_with e) = grows_none b.records
grows_told b barrier v = grows_none b.records
grows_told b commit unrefused = grows_appended b.records b.way
grows_told b commit (refused_with e) = grows_none b.records

grows_cut : (b : Book) (whole : Bool) → Grows b.records (told_cut b whole).records
grows_cut b true = grows_appended b.records b.way
grows_cut b false = grows_none b.records

unrefused_refused : {A : Type 0} {e : Refusal} → refused_with e ≡ unrefused → A
unrefused_refused f = let z : ◌≡◌ {A = ℕ} 0 1 = cc in absurd (omega arith)

module _ (a r : ℕ) where
  grows_step : (s : State) (e : Event) → Grows s.book.records (after_event a r s e).book.records
  unfolding after_event
  grows_step s (call c) = grows_told s.book c (done a r s.machine c).verdict
  grows_step s (cut t) = grows_none s.book.records
  grows_step s (cut_in c t) = grows_cut s.book (sealed_in a s c t)

  grows : (s : State) (es : List Event) → Grows s.book.records (run a r s es).book.records
  unfolding run
  grows s [] = grows_none s.book.records
  grows s (e ∷ es) = grows_more s.book.records (after_event a r s e).book.records (run a r (after_event a r s e) es).book.records (grows_step s e) (grows (after_event a r s e) es)

  -- a list played in two parts
  pub run_append : (s : State) (es fs : List Event) → run a r s (es ++ fs) ≡ run a r (run a r s es) fs
  unfolding run
  run_append s [] fs = refl
  run_append s (e ∷ es) fs = run_append (after_event a r s e) es fs

  pub valid_front : (s : State) (es fs : List Event) → Valid a r s (es ++ fs) → Valid a r s es
  valid_front s [] fs h = tt
  valid_front s (e ∷ es) fs h = (h.0, valid_front (after_event a r s e) es fs h.1)

  kept : (s : State) (gs : List Event) (x : Given) → s.book.way ≡ under x → (done a r s.machine commit).verdict ≡ unrefused
      → Kept s (run a r (after_event a r s (call commit)) gs).book.records
  unfolding after_event
  kept s gs x e w =
      let t : State = after_event a r s (call commit) in
      let last : t.book.records ≡ s.book.records ++ (x ∷ []) = rw (w, e) in
      let g : Grows t.book.records (run a r t gs).book.records = grows t gs in
      record { one = x; way = e; behind = g.more; is = g.is ∙ ap (λ l. l ++ g.more) last ∙ append_assoc s.book.records (x ∷ []) g.more }

module _ (n a r : ℕ) (ok : allowed n a r ≡ true) where
  -- a commit that goes through has a record under way
  goes_through : (s : State) (gs : List Event) → Inv n a r ok s → (done a r s.machine commit).verdict ≡ unrefused → Kept s (run a r (after_event a r s (call commit)) gs).book.records
  unfolding committed is_next
  goes_through s gs (lost_inv u bs x v) = unrefused_refused
  goes_through s gs (ready_inv u o w bs x v) =
      let j : Journal = idle n a r ok o w in
      let m : Machine = machine u u (holds j) in
      let t : State = at n a r ok m true nothing bs in
      on_device_case (λ l. (stepped m l).verdict ≡ unrefused → Kept t (run a r (after_event a r t (call commit)) gs).book.records) j u [] _ (λ e _. unrefused_refused) (λ _ _. unrefused_refused)
  goes_through s gs (staged_inv base u o y w bs z x v) = kept a r s gs y refl
  goes_through s gs (firm_inv base u o y w bs x v) = kept a r s gs y refl

  -- the record of a commit that is not refused is in the book after any further events
  pub committed_kept : (fs gs : List Event) → Valid a r (start n) fs → (done a r (after n a r fs).machine commit).verdict ≡ unrefused
      → Kept (after n a r fs) (after n a r (fs ++ (call commit ∷ gs))).book.records
  unfolding run
  committed_kept fs gs valid went =
      subst (λ t. Kept (after n a r fs) t.book.records) (sym (run_append a r (start n) fs (call commit ∷ gs)))
      (goes_through (after n a r fs) gs (inv_after n a r ok fs valid) went)
