-- The calls of a gate, for one item more and for one reader more, and whom a broken history names.
use Rattle.std.proofs.Common.{◌≡◌, ◌∙◌, ◌<◌, ◌+◌, ◌++◌, ℕ, List, [], ◌∷◌, Vec, Result, length}
use Rattle.std.proofs.Common.{inl, inr, subst, sym, ap, Err, IfErr, arith}
use Rattle.std.proofs.Math.Nat.{eq-or-lt_of_le}
use Rattle.std.specs.declared.alloc.Global.{Global}
use Rattle.core.specs.declared.thread.PromisedHandle.{PromisedHandle}
use Rattle.osn_register.specs.declared.query.Query.{Query}
use Rattle.osn_core.specs.declared.step.Reply.{Reply}
use Rattle.osn_live.specs.declared.faults.DeskFault.{DeskFault}
use Rattle.osn_live.specs.declared.work.WorkResult.{WorkResult}
use Rattle.osn_live.specs.declared.work.Works.{Works}
use Rattle.osn_live.specs.declared.work_fault.WorkFault.{WorkFault}
use Rattle.osn_live.specs.declared.work_fault.WorkFault.TheVariants as Work
use Rattle.osn_live.specs.Desk.{HearsOf}
use Rattle.osn_live.specs.InsideDesk.{AreNumbered, HasSeen, IsFaultOf, NamesReader}
use Rattle.osn_live.specs.InsideFaults.{by_work}

pub if_err_at : {T E : Type 0} (P : E → Type 0) (r : Result T E) (x y : E) → r ≡ Err x → x ≡ y →
    P y → IfErr r P
if_err_at {T} {E} P r x y e f p = subst (λ (o : Result T E). IfErr o P) (sym (e ∙ ap Err f)) p

each_more : (Holds : ℕ → Type 0) (n : ℕ) → ((place : ℕ) → place < n → Holds place) → Holds n →
    (place : ℕ) → place < n + 1 → Holds place
each_more Holds n before last place here =
    elim (eq-or-lt_of_le {n = place} {m = n} (omega (arith, here))) [
      | inl same ↦ subst Holds (sym same) last
      | inr less ↦ before place less
    ]

module _ {G : Type 0} where
  pub hears_more : (let_pass saw_end : G → ℕ → ℕ → Type 0) (gate : G) (who n : ℕ) →
      HearsOf let_pass saw_end gate who n → let_pass gate who n → saw_end gate who n →
      HearsOf let_pass saw_end gate who (n + 1)
  hears_more let_pass saw_end gate who n h passed ended = record {
    let_each_pass = each_more (let_pass gate who) n h.let_each_pass passed;
    saw_each_end = each_more (saw_end gate who) n h.saw_each_end ended;
  }

  -- what the promise of a reader says of its gate, its number and its list
  pub hears_at : (let_pass saw_end : G → ℕ → ℕ → Type 0) (p : Works G) (gate : G) (who : ℕ)
      (list : Vec Query Global) → p.2.value ≡ gate → p.3 ≡ who → p.1.value ≡ list →
      HearsOf let_pass saw_end p.2.value p.3 (length p.1.value.items) →
      HearsOf let_pass saw_end gate who (length list.items)
  hears_at let_pass saw_end p gate who list at number same h =
      subst (λ (x : G). HearsOf let_pass saw_end x who (length list.items)) at
      (subst (λ (n : ℕ). HearsOf let_pass saw_end p.2.value n (length list.items)) number
      (subst (λ (v : Vec Query Global). HearsOf let_pass saw_end p.2.value p.3 (length v.items))
      same h))

  pub numbers_more : (n : ℕ) (hs : List (PromisedHandle WorkResult (Works G)))
      (h : PromisedHandle WorkResult (Works G)) → AreNumbered n hs → h.promise.3 ≡ n + length hs →
      AreNumbered n (hs ++ h ∷ [])
  numbers_more n [] h a e = (omega (arith, e), tt)
  numbers_more n (x ∷ hs) h a e = (a.0, numbers_more (n + 1) hs h a.1 (omega (arith, e)))

  pub numbers_rest : (n : ℕ) (hs rest : List (PromisedHandle WorkResult (Works G)))
      (h : PromisedHandle WorkResult (Works G)) → hs ≡ h ∷ rest → AreNumbered n hs →
      (h.promise.3 ≡ n) × AreNumbered (n + 1) rest
  numbers_rest n hs rest h e a =
      subst (λ (x : List (PromisedHandle WorkResult (Works G))). AreNumbered n x) e a

  module _ (Kept : Works G → WorkResult → Type 0)
      (handles : List (PromisedHandle WorkResult (Works G)))
    where
      work_names : (f : WorkFault) → NamesReader Kept handles (by_work f)
      work_names Work.NoMemory = tt
      work_names Work.NoPlace = tt
      work_names Work.GateClosed = tt

      pub names_at : (who seen published : ℕ) (replies : Result (Vec Reply Global) WorkFault)
          (f : DeskFault) → HasSeen Kept handles who seen → IsFaultOf who seen published replies f →
          NamesReader Kept handles f
      names_at who seen published replies f is (inl e) =
          subst (NamesReader Kept handles) (sym e.2) (work_names e.0)
      names_at who seen published replies f is (inr e) =
          subst (NamesReader Kept handles) (sym e.0) is
