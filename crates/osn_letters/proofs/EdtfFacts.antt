-- The texts of several days or runs are read as sets of them.
use Rattle.std.proofs.Common.{◌≡◌, ℕ, ◌==◌, Bool, true, false, if◌then◌else◌, List, [], ◌∷◌, ◌++◌}
use Rattle.std.proofs.Common.{codes, map, Some, None, refl, ap, ◌∙◌, subst, sym}
use Rattle.std.proofs.lemmas.List.Elements.{All-nil, All-cons, All-head, All-tail}
use Rattle.std.specs.List.{All, flat_map, join_by}
use Rattle.osn_days.specs.declared.calendar.Calendar.TheVariants.{Gregorian}
use Rattle.osn_days.specs.declared.date.Date.{Date}
use Rattle.osn_days.specs.Chain.{date_of}
use Rattle.osn_days.specs.Line.{IsDay}
use Rattle.osn_days.specs.Rules.{newest_rules}
use Rattle.osn_days.proofs.LineFacts.{date_of_line}
use Rattle.osn_grammar.specs.declared.text_reading.DateOrder.{DateOrder}
use Rattle.osn_grammar.specs.InDigits.{HasFourDigits, sign, text_with_signs}
use Rattle.osn_grammar.specs.SetsInDigits.{AreSetsRead, Days, HaveFourDigits, days_text, set_text}
use Rattle.osn_grammar.proofs.SetLaw.{sets_law}
use Rattle.osn_territory.specs.declared.dating.DatedDay.{DatedDay}
use Rattle.osn_territory.specs.declared.runs.Run.{Run}
use Rattle.osn_letters.specs.Edtf.{edtf_day, edtf_of_days, edtf_of_runs, edtf_run, in_brackets}
use Rattle.osn_letters.specs.Edtf.{sign_of}
use Rattle.osn_letters.specs.EdtfLaw.{AreDaysRead, AreRunsRead, IsReadAs, IsRunOf, days_of_day}
use Rattle.osn_letters.specs.EdtfLaw.{days_of_run}

sign_is : (a u : Bool) → sign_of u a ≡ sign a u
sign_is false false = refl
sign_is false true = refl
sign_is true false = refl
sign_is true true = refl

-- ---- the texts

flat_mapped : {X Y : Type 0} (f : X → List ℕ) (g : Y → List ℕ) (h : X → Y)
    → ((x : X) → f x ≡ g (h x)) → (xs : List X)
    → flat_map (λ x. codes "," ++ f x) xs ≡ flat_map (λ y. codes "," ++ g y) (map h xs)
flat_mapped f g h same [] = refl
flat_mapped f g h same (x ∷ xs) =
    ap (λ t. (codes "," ++ t) ++ flat_map (λ y. codes "," ++ f y) xs) (same x)
    ∙ ap (λ t. (codes "," ++ g (h x)) ++ t) (flat_mapped f g h same xs)

joined_mapped : {X Y : Type 0} (f : X → List ℕ) (g : Y → List ℕ) (h : X → Y)
    → ((x : X) → f x ≡ g (h x)) → (xs : List X)
    → join_by f (codes ",") xs ≡ join_by g (codes ",") (map h xs)
joined_mapped f g h same [] = refl
joined_mapped f g h same (x ∷ xs) =
    ap (λ t. t ++ flat_map (λ y. codes "," ++ f y) xs) (same x)
    ∙ ap (λ t. g (h x) ++ t) (flat_mapped f g h same xs)

run_by : (a u : Bool) (first last : Date) (one : Bool)
    → (if one then text_with_signs first a u else text_with_signs first a u ++ (codes ".."
    ++ text_with_signs last a u))
    ≡ days_text a u (first, if one then None else Some last)
run_by a u first last true = refl
run_by a u first last false = refl

run_text : (a u : Bool) (r : Run)
    → edtf_run (codes "..") (sign_of u a) r ≡ days_text a u (days_of_run r)
run_text a u r =
    ap (λ s. edtf_run (codes "..") s r) (sign_is a u)
    ∙ run_by a u (date_of Gregorian r.first) (date_of Gregorian r.last) (r.first == r.last)

day_text : (a u : Bool) (day : DatedDay)
    → edtf_day (sign_of u a) day.day ≡ days_text a u (days_of_day day)
day_text a u day = ap (λ s. edtf_day s day.day) (sign_is a u)

-- ---- their dates

four_digits : (n : ℕ) → IsDay newest_rules n → HasFourDigits (date_of Gregorian n)
four_digits n on =
    let d = date_of_line Gregorian n on in
    record {
      year_low = d.year_low;
      year_high = d.year_high;
      month_low = d.month_low;
      month_high = d.month_high;
      day_low = d.day_low;
      day_high = d.day_high;
    }

both_digits : (first last : Date) (one : Bool) → HasFourDigits first → HasFourDigits last
    → HaveFourDigits (first, if one then None else Some last)
both_digits first last true f l = f
both_digits first last false f l = (f, l)

run_digits : (r : Run) → IsRunOf newest_rules r → HaveFourDigits (days_of_run r)
run_digits r on =
    both_digits (date_of Gregorian r.first) (date_of Gregorian r.last) (r.first == r.last)
    (four_digits r.first on.0) (four_digits r.last on.1)

mapped_digits : {X : Type 0} (P : X → Type 0) (h : X → Days) →
    ((x : X) → P x → HaveFourDigits (h x))
    → (xs : List X) → All P xs → All HaveFourDigits (map h xs)
mapped_digits P h each [] all = All-nil HaveFourDigits
mapped_digits P h each (x ∷ xs) all =
    All-cons HaveFourDigits (h x) (map h xs) (each x (All-head P x xs all))
    (mapped_digits P h each xs (All-tail P x xs all))

-- ---- the laws

read_as : (o : DateOrder) (a u : Bool) (text : List ℕ) (first next : Days) (rest : List Days)
    → text ≡ set_text a u (first ∷ next ∷ rest) → All HaveFourDigits (first ∷ next ∷ rest)
    → IsReadAs o a u text (first ∷ next ∷ rest)
unfolding AreSetsRead
read_as o a u text first next rest same all =
    let read = sets_law o a u first next rest all in
    subst (λ t. IsReadAs o a u t (first ∷ next ∷ rest)) (sym same)
    (record {
      is = read.is;
      dates = read.dates;
    })

pub runs_read : AreRunsRead newest_rules
unfolding AreRunsRead
runs_read o a u first next rest all =
    read_as o a u (edtf_of_runs (sign_of u a) (first ∷ next ∷ rest)) (days_of_run first)
    (days_of_run next) (map days_of_run rest)
    (ap in_brackets (joined_mapped (edtf_run (codes "..") (sign_of u a)) (days_text a u) days_of_run
    (run_text a u) (first ∷ next ∷ rest)))
    (mapped_digits (IsRunOf newest_rules) days_of_run run_digits (first ∷ next ∷ rest) all)

pub days_read : AreDaysRead newest_rules
unfolding AreDaysRead
days_read o a u first next rest all =
    read_as o a u (edtf_of_days (sign_of u a) (first ∷ next ∷ rest)) (days_of_day first)
    (days_of_day next) (map days_of_day rest)
    (ap in_brackets (joined_mapped (λ day. edtf_day (sign_of u a) day.day) (days_text a u)
    days_of_day (day_text a u) (first ∷ next ∷ rest)))
    (mapped_digits (λ day. IsDay newest_rules day.day) days_of_day
    (λ day on. four_digits day.day on) (first ∷ next ∷ rest) all)
