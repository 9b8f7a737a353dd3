-- An edit that a version has is read by its rules as by those of the newest one, and the version by
-- which a journal is written has its edits.
use Rattle.std.proofs.Common.{◌≡◌, ℕ, List, [], ◌∷◌, ◌++◌, Bool, true, false, ◌&&◌, ◌||◌}
use Rattle.std.proofs.Common.{Option, Some, None, is_some, Result, Ok, Err, refl, ap}
use Rattle.std.proofs.Common.{option_and_then, sym, subst, ◌∙◌, if◌then◌else◌}
use Rattle.std.specs.List.{All, list_any}
use Rattle.std.proofs.lemmas.List.Elements.{All-nil, All-cons}
use Rattle.std.proofs.lemmas.List.Folds.{list_any-append}
use Rattle.serde_json.specs.Data.{Data}
use Rattle.serde_json.specs.Find.{get}
use Rattle.osn_days.specs.Rules.{Rules, newest_rules}
use Rattle.osn_days.specs.CalendarWords.{calendar_named}
use Rattle.osn_territory.specs.declared.regime.Regime.{Regime}
use Rattle.osn_territory.specs.declared.style.Style.{Style}
use Rattle.osn_territory.specs.declared.style.Style.TheVariants as styles
use Rattle.osn_territory.specs.StyleWords.{has_style, style_written}
use Rattle.osn_register.specs.declared.edit.Edit.{Edit}
use Rattle.osn_register.specs.declared.edit.Edit.TheVariants.{AddLand, AddChange, AlterChange}
use Rattle.osn_register.specs.declared.edit.Edit.TheVariants.{DropChange, AddException}
use Rattle.osn_register.specs.declared.edit.Edit.TheVariants.{DropException}
use Rattle.osn_core.specs.Sequential.{ObjectState, joined}
use Rattle.osn_core.specs.declared.command.Command.TheVariants.{Stage}
use Rattle.osn_request.specs.declared.member.Member.TheVariants as members
use Rattle.osn_request.specs.declared.version.Version.{Version}
use Rattle.osn_request.specs.declared.version.Version.TheVariants.{Fourth}
use Rattle.osn_request.specs.declared.wire_fault.WireFault.{WireFault}
use Rattle.osn_request.specs.declared.wire_fault.WireFault.TheVariants.{BadField}
use Rattle.osn_request.specs.Member.{member_name}
use Rattle.osn_request.specs.Version.{newest_version, plain_version, rules_of, has_sources}
use Rattle.osn_request.specs.declared.request.op.Op.{Op}
use Rattle.osn_request.specs.declared.request.op.Op.TheVariants as ops
use Rattle.osn_request.specs.declared.request.op.EditOp.{EditOp}
use Rattle.osn_request.specs.declared.request.op.EditOp.TheVariants as edit_ops
use Rattle.osn_request.specs.EditRequest.{edit_of, add_land_of, add_change_of, alter_change_of}
use Rattle.osn_request.specs.EditRequest.{add_exception_of}
use Rattle.osn_request.specs.Field.{◌>>=◌, or_fault, text_at, whole_at, word_at, style_at}
use Rattle.osn_request.specs.Field.{regime_of, source_if, source_at}
use Rattle.osn_request.specs.Op.{op_of}
use Rattle.osn_files.specs.Commands.{command_by, command_in}
use Rattle.osn_files.specs.JournalText.{gives_source, give_source, version_for}
use Rattle.osn_files.specs.LoadedText.{HasStyle, HasSource, HasEdit, HasEdits}

-- what two readings give after the same one
same_first : {A B : Type 0} (r : Result A WireFault) (f g : A → Result B WireFault) (b : B)
    → r >>= f ≡ Ok b → ((a : A) → f a ≡ Ok b → g a ≡ Ok b) → r >>= g ≡ Ok b
same_first (Ok a) f g b h each = each a h
same_first (Err x) f g b h each = absurd (cc)

-- what the same reading gives after two
same_last : {A B : Type 0} (r q : Result A WireFault) (f : A → Result B WireFault) (b : B)
    → r >>= f ≡ Ok b → ((a : A) → r ≡ Ok a → f a ≡ Ok b → q ≡ Ok a) → q >>= f ≡ Ok b
same_last (Ok a) q f b h each = ap (λ x. x >>= f) (each a refl h) ∙ h
same_last (Err x) q f b h each = absurd (cc)

-- what two readings give after two
same_both : {A B : Type 0} (r q : Result A WireFault) (f g : A → Result B WireFault) (b : B)
    → r >>= f ≡ Ok b → ((a : A) → r ≡ Ok a → f a ≡ Ok b → (q ≡ Ok a) × (g a ≡ Ok b))
    → q >>= g ≡ Ok b
same_both (Ok a) q f g b h each = let both = each a refl h in ap (λ x. x >>= g) both.0 ∙ both.1
same_both (Err x) q f g b h each = absurd (cc)

-- ---- which edits a version has

newest_style : (style : Style) → has_style newest_rules style ≡ true
newest_style styles.January = refl
newest_style styles.Annunciation = refl
newest_style styles.Nativity = refl
newest_style styles.September = refl
newest_style styles.Pisan = refl
newest_style styles.Easter = refl

newest_source : (source : Option (List ℕ)) → HasSource newest_version source
newest_source None = tt
newest_source (Some source) = refl

-- the newest version has every edit
pub newest_edit : (e : Edit) → HasEdit newest_version e
newest_edit (AddLand code name regime source) = (newest_style regime.style, newest_source source)
newest_edit (AddChange code day regime source) = (newest_style regime.style, newest_source source)
newest_edit (AlterChange code day regime source) = (newest_style regime.style, newest_source source)
newest_edit (DropChange code day) = tt
newest_edit (AddException code year day source) = newest_source source
newest_edit (DropException code year) = tt

-- if no source is given, each version has it
no_source : (version : Version) (source : Option (List ℕ)) → is_some source ≡ false
    → HasSource version source
no_source version None h = tt
no_source version (Some source) h = absurd (cc)

-- the plain version has every edit that gives no source
plain_edit : (e : Edit) → gives_source e ≡ false → HasEdit plain_version e
plain_edit (AddLand code name regime source) h =
    (newest_style regime.style, no_source plain_version source h)
plain_edit (AddChange code day regime source) h =
    (newest_style regime.style, no_source plain_version source h)
plain_edit (AlterChange code day regime source) h =
    (newest_style regime.style, no_source plain_version source h)
plain_edit (DropChange code day) h = tt
plain_edit (AddException code year day source) h = no_source plain_version source h
plain_edit (DropException code year) h = tt

neither : (a b : Bool) → (a || b) ≡ false → (a ≡ false) × (b ≡ false)
neither true b h = absurd (cc)
neither false b h = (refl, h)

plain_edits : (es : List Edit) → give_source es ≡ false → All (HasEdit plain_version) es
plain_edits [] h = All-nil (HasEdit plain_version)
plain_edits (e ∷ es) h =
    let parts = neither (gives_source e) (give_source es) h in
    All-cons (HasEdit plain_version) e es (plain_edit e parts.0) (plain_edits es parts.1)

newest_edits : (es : List Edit) → All (HasEdit newest_version) es
newest_edits [] = All-nil (HasEdit newest_version)
newest_edits (e ∷ es) = All-cons (HasEdit newest_version) e es (newest_edit e) (newest_edits es)

-- edits of batches give a source if a batch does
joined_gives : (bs : List (List Edit)) → list_any give_source bs ≡ give_source (joined bs)
joined_gives [] = refl
joined_gives (b ∷ bs) =
    ap (λ any. give_source b || any) (joined_gives bs)
    ∙ sym (list_any-append gives_source b (joined bs))

own_by : (es : List Edit) (any : Bool) → give_source es ≡ any
    → All (HasEdit (if any then Fourth else plain_version)) es
own_by es true h = newest_edits es
own_by es false h = plain_edits es h

-- the version that a journal's head says has the edits of its object
pub has_own_edits : (s : ObjectState) → HasEdits (version_for s) s
has_own_edits s =
    own_by (joined s.batches ++ s.pending) (list_any give_source s.batches || give_source s.pending)
    (list_any-append gives_source (joined s.batches) s.pending
    ∙ ap (λ any. any || give_source s.pending) (sym (joined_gives s.batches)))

-- ---- what is read of an edit's object

-- the style of a word, if rules have it
abbrev style_if : Style → Bool → Result Style WireFault
style_if style has = or_fault (BadField members.Style) (if has then Some style else None)

abbrev style_in : Rules → Option Style → Result Style WireFault
style_in p o =
    or_fault (BadField members.Style)
    (option_and_then (λ style. if has_style p style then Some style else None) o)

style_named_by : (p : Rules) (o : Option Style) (s : Style) → has_style p s ≡ true
    → style_in newest_rules o ≡ Ok s → style_in p o ≡ Ok s
style_named_by p None s has h = absurd (cc)
style_named_by p (Some style) s has h =
    let read : style_if style true ≡ Ok s = sym (ap (style_if style) (newest_style style)) ∙ h in
    let same : style ≡ s = cc in
    ap (style_if style) (ap (has_style p) same ∙ has) ∙ read

style_by : (p : Rules) (d : Data) (s : Style) → has_style p s ≡ true
    → style_at newest_rules d ≡ Ok s → style_at p d ≡ Ok s
style_by p d s has h =
    same_first (text_at members.Style d) _ _ s h
    (λ word read. style_named_by p (style_written word) s has read)

-- a regime that is read last has the style that was read before
style_is : {A : Type 0} (o : Result A WireFault) (make : A → Regime) (style : Style) (r : Regime)
    → ((a : A) → (make a).style ≡ style) → (o >>= λ a. Ok (make a)) ≡ Ok r → r.style ≡ style
style_is (Ok a) make style r each h =
    let same : make a ≡ r = cc in ap (λ (q : Regime). q.style) (sym same) ∙ each a
style_is (Err x) make style r each h = absurd (cc)

regime_by : (version : Version) (d : Data) (r : Regime) → HasStyle version r
    → regime_of newest_rules d ≡ Ok r → regime_of (rules_of version) d ≡ Ok r
unfolding regime_of
regime_by version d r has h =
    same_first (word_at members.Calendar calendar_named d) _ _ r h
    (λ calendar behind.
    same_last (style_at newest_rules d) (style_at (rules_of version) d) _ r behind
    (λ style is rest.
    let same : r.style ≡ style =
    style_is _ (λ rule. record { calendar = calendar; style = style; rule = rule }) style r
    (λ rule. refl) rest in
    style_by (rules_of version) d style
    (ap (has_style (rules_of version)) (sym same) ∙ has) is))

none_read : (has there : Bool) (d : Data) → source_if there d ≡ Ok None
    → source_if (has && there) d ≡ Ok None
none_read true there d h = h
none_read false there d h = refl

source_by : (version : Version) (d : Data) (source : Option (List ℕ)) → HasSource version source
    → source_at newest_version d ≡ Ok source → source_at version d ≡ Ok source
source_by version d (Some source) has h =
    ap (λ b. source_if (b && is_some (get (member_name members.Source) d)) d) has ∙ h
source_by version d None has h =
    none_read (has_sources version) (is_some (get (member_name members.Source) d)) d h

-- an edit with a source, which is read last
record IsReadLast {A : Type 0} (r : Result A WireFault) (make : A → Edit) (e : Edit)
    : Type 0 where
  now : A
  is : r ≡ Ok now
  makes : make now ≡ e

read_last : {A : Type 0} (r : Result A WireFault) (make : A → Edit) (e : Edit)
    → (r >>= λ a. Ok (make a)) ≡ Ok e → IsReadLast r make e
read_last (Ok a) make e h = record { now = a; is = refl; makes = cc }
read_last (Err f) make e h = absurd (cc)

with_source : (version : Version) (d : Data) (make : Option (List ℕ) → Edit) (e : Edit)
    → ((source : Option (List ℕ)) → HasEdit version (make source) → HasSource version source)
    → HasEdit version e
    → (source_at newest_version d >>= λ source. Ok (make source)) ≡ Ok e
    → (source_at version d >>= λ source. Ok (make source)) ≡ Ok e
with_source version d make e fits has h =
    let read = read_last (source_at newest_version d) make e h in
    let own = fits read.now (subst (HasEdit version) (sym read.makes) has) in
    ap (λ x. x >>= λ source. Ok (make source)) (source_by version d read.now own read.is)
    ∙ ap (λ made. Ok made) read.makes

-- an edit with a regime, and then a source
with_regime : (version : Version) (d : Data) (make : Regime → Option (List ℕ) → Edit) (e : Edit)
    → ((r : Regime) (source : Option (List ℕ)) → HasEdit version (make r source)
    → HasStyle version r × HasSource version source)
    → HasEdit version e
    → (regime_of newest_rules d >>= λ r. source_at newest_version d >>= λ source.
    Ok (make r source)) ≡ Ok e
    → (regime_of (rules_of version) d >>= λ r. source_at version d >>= λ source.
    Ok (make r source)) ≡ Ok e
with_regime version d make e fits has h =
    same_both (regime_of newest_rules d) (regime_of (rules_of version) d) _ _ e h
    (λ r is behind.
    let read = read_last (source_at newest_version d) (make r) e behind in
    let own = fits r read.now (subst (HasEdit version) (sym read.makes) has) in (
      regime_by version d r own.0 is,
      with_source version d (make r) e (λ source has_it. (fits r source has_it).1) has behind,
    ))

add_land_by : (version : Version) (d : Data) (e : Edit) → HasEdit version e
    → add_land_of newest_version d ≡ Ok e → add_land_of version d ≡ Ok e
unfolding add_land_of
add_land_by version d e has h =
    same_first (text_at members.Code d) _ _ e h
    (λ code behind. same_first (text_at members.Name d) _ _ e behind
    (λ name last. with_regime version d (AddLand code name) e (λ r source k. k) has last))

add_change_by : (version : Version) (d : Data) (e : Edit) → HasEdit version e
    → add_change_of newest_version d ≡ Ok e → add_change_of version d ≡ Ok e
unfolding add_change_of
add_change_by version d e has h =
    same_first (text_at members.Code d) _ _ e h
    (λ code behind. same_first (whole_at members.Day d) _ _ e behind
    (λ day last. with_regime version d (AddChange code day) e (λ r source k. k) has last))

alter_change_by : (version : Version) (d : Data) (e : Edit) → HasEdit version e
    → alter_change_of newest_version d ≡ Ok e → alter_change_of version d ≡ Ok e
unfolding alter_change_of
alter_change_by version d e has h =
    same_first (text_at members.Code d) _ _ e h
    (λ code behind. same_first (whole_at members.Day d) _ _ e behind
    (λ day last. with_regime version d (AlterChange code day) e (λ r source k. k) has last))

add_exception_by : (version : Version) (d : Data) (e : Edit) → HasEdit version e
    → add_exception_of newest_version d ≡ Ok e → add_exception_of version d ≡ Ok e
unfolding add_exception_of
add_exception_by version d e has h =
    same_first (text_at members.Code d) _ _ e h
    (λ code behind. same_first (whole_at members.Year d) _ _ e behind
    (λ year rest. same_first (whole_at members.Day d) _ _ e rest
    (λ day last. with_source version d (AddException code year day) e (λ source k. k) has last)))

edit_by : (version : Version) (op : EditOp) (d : Data) (e : Edit) → HasEdit version e
    → edit_of newest_version op d ≡ Ok e → edit_of version op d ≡ Ok e
edit_by version edit_ops.AddLand d e has h = add_land_by version d e has h
edit_by version edit_ops.AddChange d e has h = add_change_by version d e has h
edit_by version edit_ops.AlterChange d e has h = alter_change_by version d e has h
edit_by version edit_ops.DropChange d e has h = h
edit_by version edit_ops.AddException d e has h = add_exception_by version d e has h
edit_by version edit_ops.DropException d e has h = h

command_by_op : (version : Version) (d : Data) (op : Op) (e : Edit) → HasEdit version e
    → command_by newest_version d op ≡ Ok (Stage e)
    → command_by version d op ≡ Ok (Stage e)
command_by_op version d (ops.Edit op) e has h =
    same_last (edit_of newest_version op d) (edit_of version op d)
    (λ made. Ok (Stage made)) (Stage e) h
    (λ made is staged.
    let same : made ≡ e = cc in
    edit_by version op d made (subst (HasEdit version) (sym same) has) is)
command_by_op version d ops.Publish e has h = h
command_by_op version d (ops.Query op) e has h = h

-- the command of an edit's object
pub edit_command : (version : Version) (d : Data) (e : Edit) → HasEdit version e
    → command_in newest_version d ≡ Ok (Stage e) → command_in version d ≡ Ok (Stage e)
edit_command version d e has h =
    same_first (op_of d) (command_by newest_version d) (command_by version d) (Stage e) h
    (λ op behind. command_by_op version d op e has behind)
