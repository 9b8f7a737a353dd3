-- What a line asks for, by the word of its member `op`: this project's profile.
use Rattle.std.specs.Prelude.{ℕ, List, [], ◌∷◌, codes, Option, Result}
use Rattle.serde_json.specs.Data.{Data}
use Rattle.osn_days.specs.Keyword.{meaning}
use Rattle.osn_request.specs.declared.member.Member.TheVariants as members
use Rattle.osn_request.specs.declared.request.op.Op.{Op}
use Rattle.osn_request.specs.declared.request.op.Op.TheVariants.{Edit, Publish, Query}
use Rattle.osn_request.specs.declared.request.op.EditOp.TheVariants as edits
use Rattle.osn_request.specs.declared.request.op.QueryOp.TheVariants as queries
use Rattle.osn_request.specs.declared.wire_fault.WireFault.{WireFault}
use Rattle.osn_request.specs.declared.wire_fault.WireFault.TheVariants.{UnknownOp}
use Rattle.osn_request.specs.Field.{◌>>=◌, or_fault, text_at}

abbrev pub op_named : List ℕ → Option Op
op_named = meaning (
    (codes "add_land", Edit edits.AddLand)
    ∷ (codes "add_change", Edit edits.AddChange)
    ∷ (codes "alter_change", Edit edits.AlterChange)
    ∷ (codes "drop_change", Edit edits.DropChange)
    ∷ (codes "add_exception", Edit edits.AddException)
    ∷ (codes "drop_exception", Edit edits.DropException)
    ∷ (codes "publish", Publish)
    ∷ (codes "read", Query queries.Read)
    ∷ (codes "day", Query queries.DayIn)
    ∷ (codes "easter", Query queries.Easter)
    ∷ (codes "figures", Query queries.YearFigures)
    ∷ (codes "lands", Query queries.Lands)
    ∷ (codes "periods", Query queries.Periods)
    ∷ (codes "exceptions", Query queries.Exceptions)
    ∷ (codes "changes", Query queries.Changes)
    ∷ (codes "feasts", Query queries.Feasts)
    ∷ (codes "convert", Query queries.Convert)
    ∷ (codes "written", Query queries.Written)
    ∷ [])

-- what the object of a line asks for
abbrev pub op_of : Data → Result Op WireFault
op_of d = text_at members.Op d >>= λ word. or_fault UnknownOp (op_named word)
