-- Columns.
use Rattle.std.proofs.Common.{◌≡◌, ◌≤◌, ℕ, ◌-◌, ◌^◌, List, ◌++◌, length, refl, ap, arith}
use Rattle.std.proofs.Common.{lit<, lit≤}
use Rattle.std.specs.Fmt.{padded, char_count, styled_decimal, format_spec, decimal}
use Rattle.std.proofs.Padding.{take_chars_all, repeat_ascii, padded_integral_right}
use Rattle.osn_days.specs.declared.weekday.Weekday.{Weekday}
use Rattle.osn_days.specs.declared.weekday.Weekday.TheVariants.{Sunday, Monday, Tuesday, Wednesday}
use Rattle.osn_days.specs.declared.weekday.Weekday.TheVariants.{Thursday, Friday, Saturday}
use Rattle.osn_days.specs.Weekday.{weekday_name}
use Rattle.osn_pages.specs.Columns.{left_in, day_column}

-- what `{:<13}` and its like write of a text
pub padded_left : (width : ℕ) (text : List ℕ) → length text ≤ 2 ^ 64 - 1
    → padded (format_spec 32 1 0 width (2 ^ 64 - 1)) text ≡ left_in width text
unfolding padded
padded_left width text short =
    let none_before : width - char_count text - 0 ≡ width - char_count text = omega arith in
    rw (take_chars_all (2 ^ 64 - 1) text short, none_before)
    (ap (λ spaces. text ++ spaces) (repeat_ascii (width - char_count text) 32 (lit< tt)))

-- and `{:>7}` of a number
pub day_right : (n : ℕ) → styled_decimal (format_spec 32 3 0 7 (2 ^ 64 - 1)) n ≡ day_column n
day_right n =
    padded_integral_right (format_spec 32 3 0 7 (2 ^ 64 - 1)) (decimal n) refl
    refl (λ e. omega (arith, e)) (λ e. omega (arith, e)) (lit< tt)

-- a weekday's name is short
pub length-weekday_name : (w : Weekday) → length (weekday_name w) ≤ 9
length-weekday_name Sunday = lit≤ tt
length-weekday_name Monday = lit≤ tt
length-weekday_name Tuesday = lit≤ tt
length-weekday_name Wednesday = lit≤ tt
length-weekday_name Thursday = lit≤ tt
length-weekday_name Friday = lit≤ tt
length-weekday_name Saturday = lit≤ tt
