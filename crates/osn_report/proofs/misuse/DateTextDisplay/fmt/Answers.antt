use Rattle.osn_report.proofs.misuse.DateTextDisplay.fmt.Goals as goal

pub returns-in-TwoDays-clause-writes : goal.returns-in-TwoDays-clause-writes
returns-in-TwoDays-clause-writes g c plain ok =
    rw (c.in-TwoDays.is) (c.write.ensures.writes plain ok)
