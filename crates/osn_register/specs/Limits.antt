-- The limits of the service: this project's profile.
use Rattle.osn_register.specs.declared.limits.Limits.{Limits}

abbrev pub standard_limits : Limits
standard_limits =
    record { lands = 500; changes = 40; exceptions = 200; edits = 20000; editions = 5000 }
