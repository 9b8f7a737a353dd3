-- The names of a line's members: this project's profile.
use Rattle.std.specs.Prelude.{ℕ, List, codes}
use Rattle.osn_request.specs.declared.member.Member.{Member}
use Rattle.osn_request.specs.declared.member.Member.TheVariants.{Op, Code, Name, Calendar, Style}
use Rattle.osn_request.specs.declared.member.Member.TheVariants.{Rule, Source, Reader, Year, Month}
use Rattle.osn_request.specs.declared.member.Member.TheVariants.{Day, Date, Weekday, Journal, Step}
use Rattle.osn_request.specs.declared.member.Member.TheVariants.{Ask, Reply, Edition}

abbrev pub member_name : Member → List ℕ
member_name Op = codes "op"
member_name Code = codes "code"
member_name Name = codes "name"
member_name Calendar = codes "calendar"
member_name Style = codes "style"
member_name Rule = codes "rule"
member_name Source = codes "source"
member_name Reader = codes "reader"
member_name Year = codes "year"
member_name Month = codes "month"
member_name Day = codes "day"
member_name Date = codes "date"
member_name Weekday = codes "weekday"
member_name Journal = codes "journal"
member_name Step = codes "step"
member_name Ask = codes "ask"
member_name Reply = codes "reply"
member_name Edition = codes "edition"
