use Rattle.std.proofs.Common.{◌≡◌, rules, to_z, of_z, w32, sym, subst, append_assoc}
use Rattle.json.specs.Print.{escape, quoted}
use Rattle.osn_days.specs.DateText as spec
use Rattle.osn_request.proofs.WriteLemmas.{at_last}
use Rattle.osn_service.proofs.LineLemmas.{escape-date}
use Rattle.osn_service.proofs.reply.date.write_date.Goals as goal

pub push_plain-requires-clause-plain : goal.push_plain-requires-clause-plain
push_plain-requires-clause-plain c =
    subst (λ l. escape l ≡ l) (sym c.date_digits.ensures.value)
    (escape-date c.unsigned_abs-years.result c.from.result c.from-then-day-lt100.result
    (search rules) (search rules) (search rules))

pub returns-then-day-lt100-clause-text : goal.returns-then-day-lt100-clause-text
unfolding spec.date_text
returns-then-day-lt100-clause-text c =
    let year : to_z w32 (of_z w32 c.args.year) ≡ c.args.year = search rules in
    let date = quoted (spec.date_text c.args.year c.args.month c.args.day) in
    at_last c.push_plain.result c.push_plain.ensures.text
    (λ e. rw (
      e,
      c.in_ok-push.ensures.text,
      c.date_digits.ensures.value,
      c.unsigned_abs-years.ensures.value,
      c.from.ensures,
      c.from-then-day-lt100.ensures,
      year,
    ) (append_assoc c.args.out.now.text c.args.front.now date))
