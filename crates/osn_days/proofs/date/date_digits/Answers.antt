use Rattle.std.proofs.Common.{sym, arith, lit<}
use Rattle.osn_days.proofs.AsciiFacts.{IsUtf8-low}
use Rattle.osn_days.proofs.DateDigits.{date_digits-digits}
use Rattle.osn_days.proofs.date.date_digits.Goals as goal

pub returns-clause-value : goal.returns-clause-value
returns-clause-value c =
    rw (
      c.digit.ensures,
      c.digit-2.ensures,
      c.digit-3.ensures,
      c.digit-4.ensures,
      c.digit-5.ensures,
      c.digit-6.ensures,
      c.digit-7.ensures,
      c.digit-8.ensures,
    )
    (sym (date_digits-digits c.args.year c.args.month c.args.day
    c.requires.year c.requires.month c.requires.day))

pub returns-clause-utf8 : goal.returns-clause-utf8
returns-clause-utf8 c = IsUtf8-low _ (
  omega (arith, c.digit.ensures),
  (
    omega (arith, c.digit-2.ensures),
    (
      omega (arith, c.digit-3.ensures),
      (
        omega (arith, c.digit-4.ensures),
        (
          lit< tt,
          (
            omega (
              arith,
              c.digit-5.ensures,
            ),
            (
              omega (arith, c.digit-6.ensures),
              (
                lit< tt,
                (
                  omega (arith, c.digit-7.ensures),
                  (omega (arith, c.digit-8.ensures), tt),
                ),
              ),
            ),
          ),
        ),
      ),
    ),
  ),
)
