-- The readers that are started, and what they give back, one by one.
use Rattle.std.proofs.Common.{◌≡◌, ◌∙◌, ◌⊎◌, ℕ, ◌≤◌, ◌+◌, List, [], ◌∷◌, ◌++◌, length, Option, None}
use Rattle.std.proofs.Common.{Some, refl, ap, sym, subst, arith, add-one, append_assoc, append-nil}
use Rattle.std.proofs.Common.{inl, inr, suc, Iter, Bor, Vec, Bool, Result, IfErr}
use Rattle.std.proofs.iter.Yields.{fronts}
use Rattle.std.proofs.lemmas.Iterator.{zips}
use Rattle.std.proofs.lemmas.List.{nil_from_length}
use Rattle.std.specs.Iterator.Adapters.{zip_first, zip_second}
use Rattle.std.specs.Slice.Iter.{iter_rest}
use Rattle.std.specs.Vec.Iter.{into_iter_items, into_iter_len, into_iter_steps}
use Rattle.std.specs.declared.alloc.Global.{Global}
use Rattle.std.specs.declared.iter.Zip.{Zip}
use Rattle.std.specs.declared.vec.IntoIter.{IntoIter}
use Rattle.core.specs.declared.thread.PromisedHandle.{PromisedHandle}
use Rattle.osn_register.specs.declared.query.Query.{Query}
use Rattle.osn_core.specs.declared.step.Reply.{Reply}
use Rattle.osn_live.specs.declared.protocol.Origin.{Origin}
use Rattle.osn_live.specs.declared.work.WorkResult.{WorkResult}
use Rattle.osn_live.specs.declared.work.Works.{Works}
use Rattle.osn_live.specs.declared.work_fault.WorkFault.{WorkFault}
use Rattle.osn_live.specs.declared.work_fault.WorkFault.TheVariants as Work
use Rattle.osn_live.specs.declared.faults.AskFault.{AskFault}
use Rattle.osn_live.specs.declared.faults.AskFault.TheVariants as Ask
use Rattle.osn_live.specs.declared.faults.OpenFault.{OpenFault}
use Rattle.osn_live.specs.declared.faults.OpenFault.TheVariants as Open
use Rattle.osn_live.specs.declared.faults.DeskFault.{DeskFault}
use Rattle.osn_live.specs.Faults.{IsBadCount, IsDeskFault, IsOfGate}
use Rattle.osn_live.specs.InsideDesk.{AreStarted, IsStarted, IsFaultAt, IsFaultOf}
use Rattle.osn_live.specs.InsideFaults.{by_ask, by_work, by_open}
use Rattle.osn_live.specs.InsideWork.{IsOfPassing}

-- ---- lists, and beside them as many values of a vector
module _ {A B Z : Type 0} where
  pub next_pair : (s t : Zip (Iter A) (IntoIter B Z)) (r : Option (Bor A × B)) (p : Bor A × B) →
      r ≡ Some p → zips fronts into_iter_steps s r t →
      (iter_rest (zip_first s) ≡ p.0.now ∷ iter_rest (zip_first t))
      × (into_iter_items (zip_second s) ≡ p.1 ∷ into_iter_items (zip_second t))
      × (into_iter_len (zip_second t) + 1 ≡ into_iter_len (zip_second s))
  next_pair s t r p e h =
      let k = subst (λ o. zips fronts into_iter_steps s o t) e h in (k.0, k.1.0, k.1.1)

  pub no_pair : (s t : Zip (Iter A) (IntoIter B Z)) (r : Option (Bor A × B)) → r ≡ None →
      zips fronts into_iter_steps s r t →
      into_iter_len (zip_second s) ≡ length (iter_rest (zip_first s)) →
      iter_rest (zip_first s) ≡ []
  no_pair s t r e h count = by (subst (λ o. zips fronts into_iter_steps s o t) e h)
    where
      by : ((u : Iter A) × fronts (zip_first s) None u)
          ⊎ ((u : IntoIter B Z) × into_iter_steps (zip_second s) None u) →
          iter_rest (zip_first s) ≡ []
      by (inl a) = nil_from_length (iter_rest (zip_first s)) a.1.0
      by (inr b) = nil_from_length (iter_rest (zip_first s)) (sym count ∙ b.1.0)

one_longer : {X : Type 0} (ls xs : List X) (x : X) → ls ≡ x ∷ xs → length ls ≡ length xs + 1
one_longer ls xs x e = ap length e ∙ sym (add-one (length xs))

pub few_left : {X : Type 0} (who : ℕ) (ls : List X) (x : X) (xs : List X) → ls ≡ x ∷ xs →
    who + length ls ≤ 64 → who + 1 + length xs ≤ 64
few_left who ls x xs e few = omega (arith, one_longer ls xs x e, few)

pub lists_left : {X : Type 0} (who : ℕ) (ls : List X) (x : X) (xs : List X) (n : ℕ) → ls ≡ x ∷ xs →
    who + length ls ≡ n → who + 1 + length xs ≡ n
lists_left who ls x xs n e all = omega (arith, one_longer ls xs x e, all)

pub is_one_of : {X : Type 0} (who : ℕ) (ls : List X) (x : X) (xs : List X) (n : ℕ) → ls ≡ x ∷ xs →
    who + length ls ≡ n → who + 1 ≤ n
is_one_of who ls x xs n e all = omega (arith, one_longer ls xs x e, all)

pub count_left : {X : Type 0} (n m : ℕ) (ls : List X) (x : X) (xs : List X) → ls ≡ x ∷ xs →
    m + 1 ≡ n → n ≡ length ls → m ≡ length xs
count_left n m ls x xs e less count = omega (arith, one_longer ls xs x e, less, count)

-- ---- two lists of which the second goes on
module _ {A B : Type 0} (R : List A → List B → Type 0) (all : List A) where
  pub one_done : (rest next : List A) (x : A) (done : List B) (y : B) → rest ≡ x ∷ next →
      ((ys : List B) → R next ys → R (x ∷ next) (y ∷ ys)) →
      ((ys : List B) → R rest ys → R all (done ++ ys)) →
      (ys : List B) → R next ys → R all ((done ++ y ∷ []) ++ ys)
  one_done rest next x done y e one so_far ys h =
      subst (R all) (sym (append_assoc done (y ∷ []) ys))
      (so_far (y ∷ ys) (subst (λ l. R l (y ∷ ys)) (sym e) (one ys h)))

  pub all_done : (rest : List A) (done : List B) → rest ≡ [] → R [] [] →
      ((ys : List B) → R rest ys → R all (done ++ ys)) → R all done
  all_done rest done e none so_far =
      subst (R all) (append-nil done) (so_far [] (subst (λ l. R l []) (sym e) none))

-- ---- readers at work
module _ {G : Type 0} where
  pub started_rest : (o : Origin) (hs more : List (PromisedHandle WorkResult (Works G)))
      (ls next : List (Vec Query Global)) (h : PromisedHandle WorkResult (Works G))
      (l : Vec Query Global) →
      hs ≡ h ∷ more → ls ≡ l ∷ next → AreStarted o hs ls → AreStarted o more next
  started_rest o hs more ls next h l e f a =
      (subst (λ (x : List (Vec Query Global)). AreStarted o (h ∷ more) x) f
      (subst (λ (x : List (PromisedHandle WorkResult (Works G))). AreStarted o x ls) e a)).1

  pub started_first : (o : Origin) (hs more : List (PromisedHandle WorkResult (Works G)))
      (ls next : List (Vec Query Global)) (h : PromisedHandle WorkResult (Works G))
      (l : Vec Query Global) →
      hs ≡ h ∷ more → ls ≡ l ∷ next → AreStarted o hs ls → IsStarted o h l
  started_first o hs more ls next h l e f a =
      (subst (λ (x : List (Vec Query Global)). AreStarted o (h ∷ more) x) f
      (subst (λ (x : List (PromisedHandle WorkResult (Works G))). AreStarted o x ls) e a)).0

  pub started_count : (o : Origin) (hs : List (PromisedHandle WorkResult (Works G)))
      (ls : List (Vec Query Global)) → AreStarted o hs ls → length hs ≡ length ls
  started_count o [] [] a = refl
  started_count o (h ∷ hs) (l ∷ ls) a = ap suc (started_count o hs ls a.1)
  started_count o [] (l ∷ ls) a = absurd a
  started_count o (h ∷ hs) [] a = absurd a

-- ---- the replies or the fault of a reader that has worked
pub work_at : (lists published : ℕ) (f : WorkFault) → IsFaultAt lists published (by_work f)
work_at lists published Work.NoMemory = tt
work_at lists published Work.NoPlace = tt
work_at lists published Work.GateClosed = tt

pub fault_at : (who seen published lists : ℕ) (replies : Result (Vec Reply Global) WorkFault)
    (f : DeskFault) → 1 ≤ who → who ≤ lists → IsFaultOf who seen published replies f →
    IsFaultAt lists published f
fault_at who seen published lists replies f one few (inl e) =
    subst (IsFaultAt lists published) (sym e.2) (work_at lists published e.0)
fault_at who seen published lists replies f one few (inr e) =
    subst (IsFaultAt lists published) (sym e.0) (one, few, refl, e.1)

pub gate_at : (passes : Bool) (who seen published : ℕ)
    (replies : Result (Vec Reply Global) WorkFault) (f : DeskFault) →
    IfErr replies (IsOfPassing passes) → IsFaultOf who seen published replies f → IsOfGate passes f
gate_at passes who seen published replies f called (inl e) =
    subst (IsOfGate passes) (sym e.2) (subst (λ r. IfErr r (IsOfPassing passes)) e.1 called)
gate_at passes who seen published replies f called (inr e) = subst (IsOfGate passes) (sym e.0) tt

-- a reader that finds no place or no memory was not stopped by a gate
pub ask_at : (passes : Bool) (f : AskFault) → IsOfPassing passes (by_ask f)
ask_at passes Ask.NoMemory = tt
ask_at passes Ask.NoPlace = tt

pub open_at : (lists published : ℕ) (f : OpenFault) → (f ≡ Open.BadCount → IsBadCount lists) →
    IsDeskFault lists published (by_open f)
open_at lists published Open.NoMemory bad = tt
open_at lists published Open.BadCount bad = bad refl
open_at lists published Open.NoPlace bad = tt

pub opened_at : (passes : Bool) (f : OpenFault) → IsOfGate passes (by_open f)
opened_at passes Open.NoMemory = tt
opened_at passes Open.BadCount = tt
opened_at passes Open.NoPlace = tt
