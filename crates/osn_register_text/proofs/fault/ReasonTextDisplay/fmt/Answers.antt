use Rattle.osn_register_text.proofs.fault.ReasonTextDisplay.fmt.Goals as goal

pub returns-in-UnknownKey-clause-writes : goal.returns-in-UnknownKey-clause-writes
returns-in-UnknownKey-clause-writes g c plain ok =
    rw (c.in-UnknownKey.is, ← c.as_str.ensures.value, ← c.keys_text.ensures)
    (c.write.ensures.writes plain ok)
