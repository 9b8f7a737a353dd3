-- What a line of the first version may say: no style that goes from Easter to Easter.
use Rattle.std.proofs.Common.{◌≡◌, List, [], ◌∷◌, false, Option, Some, None}
use Rattle.std.proofs.Common.{option_and_then, if◌then◌else◌, Result, Ok, Err, refl, subst}
use Rattle.serde_json.specs.Data.{Data}
use Rattle.osn_days.specs.Rules.{first_rules}
use Rattle.osn_days.specs.CalendarWords.{calendar_named}
use Rattle.osn_computus.specs.RuleWords.{rule_named}
use Rattle.osn_territory.specs.declared.regime.Regime.{Regime}
use Rattle.osn_territory.specs.declared.style.Style.{Style}
use Rattle.osn_territory.specs.declared.style.Style.TheVariants as styles
use Rattle.osn_territory.specs.Style.{is_from_easter}
use Rattle.osn_territory.specs.StyleWords.{style_named, style_written, has_style}
use Rattle.osn_register.specs.declared.edit.Edit.{Edit}
use Rattle.osn_register.specs.declared.edit.Edit.TheVariants.{AddLand, AddChange, AlterChange}
use Rattle.osn_register.specs.declared.edit.Edit.TheVariants.{DropChange, AddException}
use Rattle.osn_register.specs.declared.edit.Edit.TheVariants.{DropException}
use Rattle.osn_core.specs.declared.command.Command.{Command}
use Rattle.osn_core.specs.declared.command.Command.TheVariants.{Stage, Publish}
use Rattle.osn_request.specs.declared.member.Member.TheVariants as members
use Rattle.osn_request.specs.declared.request.op.Op.{Op}
use Rattle.osn_request.specs.declared.request.op.Op.TheVariants as ops
use Rattle.osn_request.specs.declared.request.op.EditOp.{EditOp}
use Rattle.osn_request.specs.declared.request.op.EditOp.TheVariants as edit_ops
use Rattle.osn_request.specs.declared.version.Version.TheVariants.{First}
use Rattle.osn_request.specs.declared.wire_fault.WireFault.{WireFault}
use Rattle.osn_request.specs.declared.wire_fault.WireFault.TheVariants.{BadField}
use Rattle.osn_request.specs.EditRequest.{edit_of, add_land_of, add_change_of, alter_change_of}
use Rattle.osn_request.specs.EditRequest.{drop_change_of, add_exception_of, drop_exception_of}
use Rattle.osn_request.specs.Field.{◌>>=◌, or_fault, text_at, whole_at, word_at, style_at}
use Rattle.osn_request.specs.Field.{regime_of}
use Rattle.osn_request.specs.Op.{op_of}
use Rattle.osn_files.specs.Commands.{command_by, command_in}

-- the regime's year begins on the same date each year
abbrev pub IsFixed : Regime → Type 0
IsFixed r = is_from_easter r.style ≡ false

-- the year of an edit's regime begins on the same date each year, if the edit has a regime
abbrev pub HasFixed : Edit → Type 0
HasFixed (AddLand code name regime source) = IsFixed regime
HasFixed (AddChange code day regime source) = IsFixed regime
HasFixed (AlterChange code day regime source) = IsFixed regime
HasFixed (DropChange code day) = Unit {0}
HasFixed (AddException code year day source) = Unit {0}
HasFixed (DropException code year) = Unit {0}

-- the year of each edit's regime begins on the same date each year, if the edit has a regime
abbrev pub HaveFixed : List Edit → Type 0
HaveFixed [] = Unit {0}
HaveFixed (e ∷ es) = HasFixed e × HaveFixed es

abbrev pub CommandHasFixed : Command → Type 0
CommandHasFixed (Stage e) = HasFixed e
CommandHasFixed Publish = Unit {0}

abbrev read_as : {B : Type 0} → B → Result B WireFault
read_as b = Ok b

-- what holds of whatever the second of two readings gives holds of what both give
then_ok : {A B : Type 0} (P : B → Type 0) (r : Result A WireFault) (f : A → Result B WireFault)
    → ((a : A) → r ≡ Ok a → (b : B) → f a ≡ Ok b → P b) → (b : B) → r >>= f ≡ Ok b → P b
then_ok P (Ok a) f each b e = each a refl b e
then_ok P (Err x) f each b e = absurd (cc)

-- the last reading
at_ok : {B : Type 0} (P : B → Type 0) (made b : B) → P made → read_as made ≡ Ok b → P b
at_ok P made b h e = let same : made ≡ b = cc in subst P same h

fixed_style : (style s : Style)
    → or_fault (BadField members.Style) (if has_style first_rules style then Some style else None)
    ≡ Ok s → is_from_easter s ≡ false
fixed_style styles.January s e = at_ok (λ t. is_from_easter t ≡ false) styles.January s refl e
fixed_style styles.Annunciation s e =
    at_ok (λ t. is_from_easter t ≡ false) styles.Annunciation s refl e
fixed_style styles.Nativity s e = at_ok (λ t. is_from_easter t ≡ false) styles.Nativity s refl e
fixed_style styles.September s e = at_ok (λ t. is_from_easter t ≡ false) styles.September s refl e
fixed_style styles.Pisan s e = absurd (cc)
fixed_style styles.Easter s e = absurd (cc)

fixed_named : (o : Option Style) (s : Style)
    → or_fault (BadField members.Style)
    (option_and_then (λ style. if has_style first_rules style then Some style else None) o) ≡ Ok s
    → is_from_easter s ≡ false
fixed_named (Some style) s e = fixed_style style s e
fixed_named None s e = absurd (cc)

fixed_style_at : (d : Data) (s : Style) → style_at first_rules d ≡ Ok s → is_from_easter s ≡ false
fixed_style_at d s e =
    then_ok (λ t. is_from_easter t ≡ false) (text_at members.Style d)
    (λ word. or_fault (BadField members.Style) (style_named first_rules word))
    (λ word is t f. fixed_named (style_written word) t f) s e

fixed_regime : (d : Data) (r : Regime) → regime_of first_rules d ≡ Ok r → IsFixed r
unfolding regime_of
fixed_regime d r e =
    then_ok IsFixed (word_at members.Calendar calendar_named d) _
    (λ calendar _ a ea. then_ok IsFixed (style_at first_rules d) _
    (λ style is b eb. then_ok IsFixed (word_at members.Rule rule_named d) _
    (λ rule _ c ec. at_ok IsFixed _ c (fixed_style_at d style is) ec)
    b eb)
    a ea)
    r e

fixed_add_land : (d : Data) (e : Edit) → add_land_of First d ≡ Ok e → HasFixed e
unfolding add_land_of
fixed_add_land d e is =
    then_ok HasFixed (text_at members.Code d) _
    (λ code _ a ea. then_ok HasFixed (text_at members.Name d) _
    (λ name _ b eb. then_ok HasFixed (regime_of first_rules d) _
    (λ r is_r c ec. at_ok HasFixed _ c (fixed_regime d r is_r) ec)
    b eb)
    a ea)
    e is

fixed_add_change : (d : Data) (e : Edit) → add_change_of First d ≡ Ok e → HasFixed e
unfolding add_change_of
fixed_add_change d e is =
    then_ok HasFixed (text_at members.Code d) _
    (λ code _ a ea. then_ok HasFixed (whole_at members.Day d) _
    (λ day _ b eb. then_ok HasFixed (regime_of first_rules d) _
    (λ r is_r c ec. at_ok HasFixed _ c (fixed_regime d r is_r) ec)
    b eb)
    a ea)
    e is

fixed_alter_change : (d : Data) (e : Edit) → alter_change_of First d ≡ Ok e → HasFixed e
unfolding alter_change_of
fixed_alter_change d e is =
    then_ok HasFixed (text_at members.Code d) _
    (λ code _ a ea. then_ok HasFixed (whole_at members.Day d) _
    (λ day _ b eb. then_ok HasFixed (regime_of first_rules d) _
    (λ r is_r c ec. at_ok HasFixed _ c (fixed_regime d r is_r) ec)
    b eb)
    a ea)
    e is

fixed_drop_change : (d : Data) (e : Edit) → drop_change_of d ≡ Ok e → HasFixed e
unfolding drop_change_of
fixed_drop_change d e is =
    then_ok HasFixed (text_at members.Code d) _
    (λ code _ a ea. then_ok HasFixed (whole_at members.Day d) _
    (λ day _ b eb. at_ok HasFixed _ b tt eb)
    a ea)
    e is

fixed_add_exception : (d : Data) (e : Edit) → add_exception_of First d ≡ Ok e → HasFixed e
unfolding add_exception_of
fixed_add_exception d e is =
    then_ok HasFixed (text_at members.Code d) _
    (λ code _ a ea. then_ok HasFixed (whole_at members.Year d) _
    (λ year _ b eb. then_ok HasFixed (whole_at members.Day d) _
    (λ day _ c ec. at_ok HasFixed _ c tt ec)
    b eb)
    a ea)
    e is

fixed_drop_exception : (d : Data) (e : Edit) → drop_exception_of d ≡ Ok e → HasFixed e
unfolding drop_exception_of
fixed_drop_exception d e is =
    then_ok HasFixed (text_at members.Code d) _
    (λ code _ a ea. then_ok HasFixed (whole_at members.Year d) _
    (λ year _ b eb. at_ok HasFixed _ b tt eb)
    a ea)
    e is

fixed_edit : (op : EditOp) (d : Data) (e : Edit) → edit_of First op d ≡ Ok e → HasFixed e
fixed_edit edit_ops.AddLand d e is = fixed_add_land d e is
fixed_edit edit_ops.AddChange d e is = fixed_add_change d e is
fixed_edit edit_ops.AlterChange d e is = fixed_alter_change d e is
fixed_edit edit_ops.DropChange d e is = fixed_drop_change d e is
fixed_edit edit_ops.AddException d e is = fixed_add_exception d e is
fixed_edit edit_ops.DropException d e is = fixed_drop_exception d e is

fixed_command_by : (d : Data) (op : Op) (c : Command) → command_by First d op ≡ Ok c
    → CommandHasFixed c
fixed_command_by d (ops.Edit op) c is =
    then_ok CommandHasFixed (edit_of First op d) (λ e. Ok (Stage e))
    (λ e is_e b eb. at_ok CommandHasFixed (Stage e) b (fixed_edit op d e is_e) eb)
    c is
fixed_command_by d ops.Publish c is = at_ok CommandHasFixed Publish c tt is
fixed_command_by d (ops.Query op) c is = absurd (cc)

-- a command that is read by the rules of the first version
pub fixed_command : (d : Data) (c : Command) → command_in First d ≡ Ok c → CommandHasFixed c
fixed_command d c is =
    then_ok CommandHasFixed (op_of d) (command_by First d)
    (λ op _ a ea. fixed_command_by d op a ea)
    c is
