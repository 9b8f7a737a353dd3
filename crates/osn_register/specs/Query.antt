-- Which queries name a territory.
use Rattle.std.specs.Prelude.{Bool, true, false}
use Rattle.osn_register.specs.declared.query.Query.{Query}
use Rattle.osn_register.specs.declared.query.Query.TheVariants.{YearFigures, Lands}

-- whether a query names a territory by its code. A copy of the code takes memory
abbrev pub names_territory : Query → Bool
names_territory (YearFigures year) = false
names_territory Lands = false
names_territory query = true
