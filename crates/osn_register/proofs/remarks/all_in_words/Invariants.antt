use Rattle.std.proofs.Common.{◌≡◌, map, take}
use Rattle.osn_written.specs.DateInWords.{words_of}
use Rattle.osn_register.proofs.remarks.all_in_words.Given as goal

-- each date so far, in words
abbrev pub invariant-loop-date : goal.invariant-loop-date
invariant-loop-date l = l.texts.items ≡ map words_of (take l.date-index l.dates)
