-- The territory that a code finds.
use Rattle.std.proofs.Common.{◌≡◌, ℕ, zero, suc, ◌<◌, Bool, true, false, cond, List, [], ◌∷◌}
use Rattle.std.proofs.Common.{length, Option, Some, None, slice_get, refl, sym, ap, ◌∙◌, subst}
use Rattle.std.proofs.Common.{arith}
use Rattle.std.proofs.lemmas.Option.{none-some, same_Some}
use Rattle.std.proofs.lemmas.Slice.Eq.{bytes_eq-Decides}
use Rattle.std.specs.Str.{bytes_eq}
use Rattle.osn_register.specs.Plain.{EntryModel, entry_of, AreDistinct}

pub self : (code : List ℕ) → bytes_eq code code ≡ true
self code = (bytes_eq-Decides code code).1 refl

code_by : (code : List ℕ) (b : Bool) (m : EntryModel) (rest : Option EntryModel) (l : EntryModel)
    → bytes_eq code m.code ≡ b → (rest ≡ Some l → code ≡ l.code) → cond b (Some m) rest ≡ Some l
    → code ≡ l.code
code_by code true m rest l same more is =
    (bytes_eq-Decides code m.code).0 same ∙ ap (λ k. k.code) (same_Some m l is)
code_by code false m rest l same more is = more is

-- the territory that a code finds has this code
pub code_of : (ls : List EntryModel) (code : List ℕ) (l : EntryModel) → entry_of code ls ≡ Some l
    → code ≡ l.code
code_of [] code l is = absurd (none-some l is)
code_of (m ∷ ms) code l is =
    code_by code (bytes_eq code m.code) m (entry_of code ms) l refl
    (λ more. code_of ms code l more) is

pub some_of : (ls : List EntryModel) (code : List ℕ) (l : EntryModel) → entry_of code ls ≡ Some l
    → 0 < length ls
some_of [] code l is = absurd (none-some l is)
some_of (m ∷ ms) code l is = omega arith

later_by : (b : Bool) (m : EntryModel) (ms : List EntryModel) (l : EntryModel)
    → bytes_eq l.code m.code ≡ b → entry_of m.code ms ≡ None → entry_of l.code ms ≡ Some l
    → cond b (Some m) (entry_of l.code ms) ≡ Some l
later_by true m ms l same none there =
    absurd (none-some l (sym none
    ∙ ap (λ c. entry_of c ms) (sym ((bytes_eq-Decides l.code m.code).0 same)) ∙ there))
later_by false m ms l same none there = there

-- if all codes are distinct, the code of each territory finds it
pub entry_of-at : (ls : List EntryModel) (i : ℕ) (l : EntryModel) → AreDistinct ls
    → slice_get ls i ≡ Some l → entry_of l.code ls ≡ Some l
entry_of-at [] i l distinct at = absurd (none-some l at)
entry_of-at (m ∷ ms) zero l distinct at =
    subst (λ k. entry_of k.code (m ∷ ms) ≡ Some k) (same_Some m l at)
    (ap (λ b. cond b (Some m) (entry_of m.code ms)) (self m.code))
entry_of-at (m ∷ ms) (suc i) l distinct at =
    later_by (bytes_eq l.code m.code) m ms l refl distinct.0 (entry_of-at ms i l distinct.1 at)
