-- The weekday of a name, found among the seven by their numbers.
use Rattle.std.proofs.Common.{◌≡◌, ℕ, Bool, true, false, List, [], ◌∷◌, map, find, Option, refl}
use Rattle.std.proofs.Common.{if◌then◌else◌, Some, option_map}
use Rattle.std.specs.List.{range_with_len}
use Rattle.osn_days.specs.declared.weekday.Weekday.TheVariants.{Sunday, Monday, Tuesday, Wednesday}
use Rattle.osn_days.specs.declared.weekday.Weekday.TheVariants.{Thursday, Friday, Saturday}
use Rattle.osn_days.specs.Weekday.{weekday_numbered}
use Rattle.osn_written.specs.WrittenDate.{has_name, weekday_named}

one_found : {A B : Type 0} (f : A → B) (t : Bool) (x : A) (others : Option A) (rest : Option B)
    → rest ≡ option_map f others
    → (if t then Some (f x) else rest) ≡ option_map f (if t then Some x else others)
one_found f true x others rest h = refl
one_found f false x others rest h = h

-- the first of some values that passes is that of the first thing whose value passes
found_of : {A B : Type 0} (f : A → B) (p : B → Bool) (xs : List A)
    → find p (map f xs) ≡ option_map f (find (λ x. p (f x)) xs)
found_of f p [] = refl
found_of f p (x ∷ xs) =
    one_found f (p (f x)) x (find (λ y. p (f y)) xs) (find p (map f xs)) (found_of f p xs)

pub weekday_found : (name : List ℕ)
    → find (has_name name)
    (Sunday ∷ Monday ∷ Tuesday ∷ Wednesday ∷ Thursday ∷ Friday ∷ Saturday ∷ [])
    ≡ weekday_named name
unfolding weekday_numbered
weekday_found name =
    found_of weekday_numbered (has_name name) (range_with_len 0 7)
