-- What a `Plain` has inside, and whether a call of it has failed.
use Rattle.std.specs.Prelude.{Bool}
use Rattle.osn_lines.specs.declared.plain.Plain.{Plain}

-- the reader or writer inside
abbrev pub inner_of : {T : Type 0} → Plain T → T
inner_of p = p.inner

-- whether a call has failed
abbrev pub failed_of : {T : Type 0} → Plain T → Bool
failed_of p = p.failed
