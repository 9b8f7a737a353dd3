-- A terminal on which the first line of a page is its title.
use Rattle.std.specs.Prelude.{Bool, true, false}
use Rattle.oldstyle.specs.declared.title.Part.{Part}
use Rattle.oldstyle.specs.declared.title.Part.TheVariants as parts
use Rattle.oldstyle.specs.declared.title.Titled.{Titled}

-- the sink inside
abbrev pub inner_of : {S : Type 0} → Titled S → S
inner_of p = p.inner

-- no title is left: the bytes that are written are passed on as they are
abbrev pub is_rest : Part → Bool
is_rest parts.Rest = true
is_rest part = false

abbrev pub is_plain : {S : Type 0} → Titled S → Bool
is_plain p = is_rest p.part
