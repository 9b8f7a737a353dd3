-- Each step at the two copies keeps the rule.
use Rattle.std.proofs.Common.{◌≡◌, ℕ, ◌<◌, arith, false, true, length}
use Rattle.std.proofs.Common.{◌≢◌, List, [], ◌∷◌, Option, Some, None, set, refl, sym}
use Rattle.std.proofs.Common.{subst, ◌∙◌, ⊎_elim}
use mathlib.Core.Option.{some}
use lib.ListN.{get_elem?}
use Rattle.crossbeam_utils.specs.Register.{Admits, TurnsAt, Forks, Merges}
use Rattle.atomic_table.proofs.Lists.{at_set, at_snoc}
use Rattle.osn_live.specs.declared.protocol.Origin.{Origin}
use Rattle.osn_live.specs.Running.{EditionState, origin_of}
use Rattle.osn_live.specs.InsideProtocol.{Agrees, Keeps, Finds}

abbrev View : Type 0
View = Option Origin

none_agrees : (x : EditionState) → Agrees x None
none_agrees x o e = absurd cc

origin_agrees : (y : EditionState) → Agrees y (Some (origin_of y))
origin_agrees y o e = cc

agrees_later : (x y : EditionState) (v : View) → origin_of x ≡ origin_of y → Agrees x v →
    Agrees y v
agrees_later x y v same a o e = sym same ∙ a o e

pub admits : Admits Keeps None
admits x views h seat v at = ⊎_elim (h seat v)
    (λ (e : None ≡ v). subst (Agrees x) e (none_agrees x)) (at_snoc views None v seat at)

set_keeps : (x : EditionState) (views : List View) (seat : ℕ) (w : View) → Keeps x views →
    Agrees x w → Keeps x (set views seat w)
set_keeps x views seat w h a j u e = ⊎_elim
    (λ (t : (j ≡ seat) × (w ≡ u)). subst (Agrees x) t.1 a)
    (λ (t : (j ≢ seat) × (get_elem? views j ≡ some u)). h j u t.1) (at_set views seat j w u e)

-- the step of a reader that enters, and that of a publish
pub finds : (seat : ℕ) (v : View) (x y : EditionState) → origin_of x ≡ origin_of y →
    TurnsAt Keeps seat v x y Finds
finds seat v x y same views h at = (
  Some (origin_of y),
  set_keeps y views seat (Some (origin_of y)) (λ j u e. agrees_later x y u same (h j u e))
      (origin_agrees y),
  record { known = agrees_later x y v same (h seat v at); now = refl },
)

pub forks : (seat : ℕ) (v : View) → Forks Keeps seat v v v
forks seat v x views h at j u e = ⊎_elim (set_keeps x views seat v h (h seat v at) j u)
    (λ (same : v ≡ u). subst (Agrees x) same (h seat v at)) (at_snoc (set views seat v) v u j e)

pub merges : (seat : ℕ) (v : View) (other : ℕ) (w : View) → Merges Keeps seat v other w w None
merges seat v other w x views h at apart there =
    let b : Agrees x w = ⊎_elim (λ (t : (other ≡ seat) × (w ≡ w)). absurd (apart t.0))
    (λ (t : (other ≢ seat) × (get_elem? views other ≡ some w)). h other w t.1)
    (at_set views seat other w w there) in
    set_keeps x (set views seat w) other None (set_keeps x views seat w h b) (none_agrees x)

pub none_left : {A : Type 0} (xs : List A) → (0 < length xs → false ≡ true) → xs ≡ []
none_left [] none = refl
none_left (x ∷ xs) none = absurd (cc (none (omega arith)))
