-- The rule over what is published and what each seat of it knows: only its origin.
use Rattle.std.specs.Prelude.{◌≡◌, ℕ, List, Option, Some}
use mathlib.Core.Option.{some}
use lib.ListN.{get_elem?}
use Rattle.osn_live.specs.declared.protocol.Origin.{Origin}
use Rattle.osn_live.specs.Running.{EditionState, origin_of}

-- what a seat knows is true if x is published: the origin, if it knows one, is that of x
abbrev pub Agrees : EditionState → Option Origin → Type 0
Agrees x v = (o : Origin) → v ≡ Some o → origin_of x ≡ o

abbrev pub Keeps : EditionState → List (Option Origin) → Type 0
Keeps x views = (seat : ℕ) (v : Option Origin) → get_elem? views seat ≡ some v → Agrees x v

-- what was known is true if y is published, and the origin of y is known now
pub record Finds (v : Option Origin) (x : EditionState) (y : EditionState) (w : Option Origin) :
    Type 0 where
  pub known : Agrees y v
  pub now : w ≡ Some (origin_of y)
