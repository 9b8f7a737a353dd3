-- The members of a line's object, as they are written one after another.
use Rattle.std.specs.Prelude.{List, [], ◌∷◌}
use Rattle.json.specs.Token.{Token}
use Rattle.json.specs.Tree.{members_tokens}
use Rattle.serde_json.specs.Data.{Data, string, object, Members, member, no_members}
use Rattle.serde_json.specs.Written.{members_outline}
use Rattle.osn_request.specs.Json.{signed, source_member}
use Rattle.osn_files.specs.declared.written.Field.{Field}
use Rattle.osn_files.specs.declared.written.Field.TheVariants.{Text, Signed, Source}

-- the tokens of the members that are left, and of the end of the object
abbrev pub rest_tokens : Members → List Token
rest_tokens ms = members_tokens (members_outline ms)

-- a member, and others after it
abbrev pub with_field : Field → Members → Members
with_field (Text name text) ms = member name.now (string text.now) ms
with_field (Signed name n) ms = member name.now (signed n) ms
with_field (Source source) ms = source_member source.now ms

abbrev pub members_of : List Field → Members
members_of [] = no_members
members_of (f ∷ fs) = with_field f (members_of fs)

abbrev pub object_of : List Field → Data
object_of fs = object (members_of fs)
