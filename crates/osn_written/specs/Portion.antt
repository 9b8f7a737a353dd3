-- The part of the days of a month or a year that `early`, `mid`, `late` and the halves are. This
-- project's profile.
use Rattle.std.specs.Prelude.{ℕ, ◌+◌, ◌-◌, ◌/◌, List, codes}
use Rattle.osn_territory.specs.declared.runs.Run.{Run}
use Rattle.osn_written.specs.declared.portion.Portion.{Portion}
use Rattle.osn_written.specs.declared.portion.Portion.TheVariants as portion

-- the words of a part of a time
abbrev pub portion_words : Portion → List ℕ
portion_words portion.FirstThird = codes "the first third of"
portion_words portion.MiddleThird = codes "the middle third of"
portion_words portion.LastThird = codes "the last third of"
portion_words portion.FirstHalf = codes "the first half of"
portion_words portion.SecondHalf = codes "the second half of"

-- Some days are cut into three or two equal parts, and a day that is cut belongs to both of its
-- sides. So of 30 days the thirds are the days 1 to 10, 11 to 20 and 21 to 30, and of 31 days they
-- are the days 1 to 11, 11 to 21 and 21 to 31.

-- how many days of some are left out before a part, and after it. The last day is `gap` days after
-- the first one
abbrev pub left_out : Portion → ℕ → ℕ × ℕ
left_out portion.FirstThird gap = (0, gap - gap / 3)
left_out portion.MiddleThird gap = ((gap + 1) / 3, (gap + 1) / 3)
left_out portion.LastThird gap = (gap - gap / 3, 0)
left_out portion.FirstHalf gap = (0, gap - gap / 2)
left_out portion.SecondHalf gap = (gap - gap / 2, 0)

-- the part of a run
abbrev pub part_of_run : Portion → Run → Run
part_of_run p r = record {
  first = r.first + (left_out p (r.last - r.first)).0;
  last = r.last - (left_out p (r.last - r.first)).1;
}
