-- What the lines of a territory define in its table.
use Rattle.std.proofs.Common.{◌≡◌, ℕ, pos, Bool, true, false, if◌then◌else◌, List, [], ◌∷◌, ◌++◌}
use Rattle.std.proofs.Common.{Option, Some, None, option_and_then, codes, refl, sym, ap, ◌∙◌}
use Rattle.std.specs.Str.{bytes_eq}
use Rattle.toml.specs.Data.{Data, string, integer, table, Items, no_items, item, push_item}
use Rattle.toml.specs.Tables.{Nodes, no_nodes, node, value, open_array, Expression, Document, close}
use Rattle.toml.specs.Tables.{along_header, along_dots, at_key, define}
use Rattle.toml.proofs.Fill.{run-append}
use Rattle.toml.proofs.ReadLines.{run}
use Rattle.toml.proofs.ReadValues.{item_join, item_join-none, item_join-push}
use Rattle.osn_computus.specs.RuleWords.{rule_word}
use Rattle.osn_days.specs.CalendarWords.{calendar_word}
use Rattle.osn_territory.specs.declared.period.Period.{Period}
use Rattle.osn_territory.specs.declared.regime.Regime.{Regime}
use Rattle.osn_territory.specs.StyleWords.{style_word}
use Rattle.osn_territory.specs.Territory.{TerritoryModel, regime_at}
use Rattle.osn_register.specs.Answer.{period_source, easter_source}
use Rattle.osn_register.specs.Sources.{SourcesModel}
use Rattle.osn_register_text.proofs.Expressions as lines

-- a list of tables so far: those that are complete, and the last one
abbrev pub Tables : Type 0
Tables = Option (Items × Nodes)

-- all of them
abbrev pub items_of : Tables → Items
items_of None = no_items
items_of (Some ts) = push_item ts.0 (table (close ts.1))

-- a node for a list of tables, if there is one
abbrev pub list_at : List ℕ → Tables → Nodes → Nodes
list_at key None rest = rest
list_at key (Some ts) rest = node key (open_array ts.0 ts.1) rest

-- a node for a pair, if it was written
abbrev pub unless : Bool → List ℕ → Data → Nodes → Nodes
unless same key d rest = if same then rest else node key (value d) rest

-- a node for a source, if one was written
abbrev pub if_given : Option (List ℕ) → Nodes → Nodes
if_given None rest = rest
if_given (Some source) rest = node (codes "source") (value (string source)) rest

-- the table of a change
abbrev pub change_nodes : Bool → Bool → Bool → Option (List ℕ) → Data → Data → Data → Data → Nodes
change_nodes c s r source from new_calendar new_style new_rule =
    unless c (codes "calendar") new_calendar
    (node (codes "from") (value from)
    (unless r (codes "rule") new_rule
    (if_given source (unless s (codes "style") new_style no_nodes))))

abbrev pair_unless : Bool → List ℕ → Data → List Expression
pair_unless same key d = if same then [] else lines.pair key d ∷ []

-- the table of a listed Easter
abbrev pub easter_nodes : Option (List ℕ) → Data → Data → Nodes
easter_nodes source year date =
    node (codes "date") (value date)
    (if_given source (node (codes "year") (value year) no_nodes))

-- the table of the change with which a period begins
abbrev pub change_table : Option SourcesModel → Regime → Period → Nodes
change_table cited before p =
    change_nodes (bytes_eq (calendar_word before.calendar) (calendar_word p.regime.calendar))
    (bytes_eq (style_word before.style) (style_word p.regime.style))
    (bytes_eq (rule_word before.rule) (rule_word p.regime.rule)) (period_source cited p.first)
    (lines.date_data p.regime.calendar p.first) (string (calendar_word p.regime.calendar))
    (string (style_word p.regime.style)) (string (rule_word p.regime.rule))

abbrev pub easter_table : TerritoryModel → Option SourcesModel → ℕ × ℕ → Nodes
easter_table t cited e =
    easter_nodes (easter_source cited e.0) (integer (pos e.0))
    (lines.date_data (regime_at t e.1).calendar e.1)

-- the tables of some changes after others, and the table in which their lines end
abbrev pub changes_after : Tables → Option SourcesModel → Regime → List Period → Tables
changes_after ts cited before [] = ts
changes_after ts cited before (p ∷ ps) =
    changes_after (Some (items_of ts, change_table cited before p)) cited p.regime ps

abbrev pub at_changes : List (List ℕ) → List Period → List (List ℕ)
at_changes path [] = path
at_changes path (p ∷ ps) = at_changes (codes "changes" ∷ []) ps

-- the tables of some listed Easters after others
abbrev pub easters_after : Tables → TerritoryModel → Option SourcesModel → List (ℕ × ℕ) → Tables
easters_after ts t cited [] = ts
easters_after ts t cited (e ∷ es) =
    easters_after (Some (items_of ts, easter_table t cited e)) t cited es

abbrev pub at_easters : List (List ℕ) → List (ℕ × ℕ) → List (List ℕ)
at_easters path [] = path
at_easters path (e ∷ es) = at_easters (codes "easters" ∷ []) es

module _ (name calendar style rule : Data) where
  -- the table of a territory, with its lists of changes and of Easters so far
  abbrev pub territory : Option (List ℕ) → Tables → Tables → Nodes
  territory source changes easters =
      node (codes "calendar") (value calendar)
      (list_at (codes "changes") changes
      (list_at (codes "easters") easters
      (node (codes "name") (value name)
      (node (codes "rule") (value rule)
      (if_given source (node (codes "style") (value style) no_nodes))))))

  opening : (source : Option (List ℕ)) → run (no_nodes, [])
      (lines.pair (codes "name") name ∷ lines.pair (codes "calendar") calendar
      ∷ lines.pair (codes "style") style ∷ lines.pair (codes "rule") rule
      ∷ lines.source_pair source)
      ≡ Some (territory source None None, [])
  unfolding define along_header along_dots at_key
  opening None = refl
  opening (Some source) = refl

  -- ---- changes

  next_change : (source : Option (List ℕ)) (changes : Tables) (path : List (List ℕ))
      → define (territory source changes None, path) (lines.next_in (codes "changes"))
      ≡ Some (territory source (Some (items_of changes, no_nodes)) None, codes "changes" ∷ [])
  unfolding define along_header along_dots at_key
  next_change None None path = refl
  next_change (Some source) None path = refl
  next_change source (Some (done, last)) path = refl

  change : (source own : Option (List ℕ)) (c s r : Bool)
      (from new_calendar new_style new_rule : Data) (done : Items)
      → run (territory source (Some (done, no_nodes)) None, codes "changes" ∷ [])
      (lines.pair (codes "from") from
      ∷ ((pair_unless c (codes "calendar") new_calendar
      ++ (pair_unless s (codes "style") new_style ++ pair_unless r (codes "rule") new_rule))
      ++ lines.source_pair own))
      ≡ Some (
        territory source (Some (done, change_nodes c s r own from new_calendar new_style new_rule))
            None,
        codes "changes" ∷ [],
      )
  unfolding define along_header along_dots at_key
  change source None true true true from new_calendar new_style new_rule done = refl
  change source None true true false from new_calendar new_style new_rule done = refl
  change source None true false true from new_calendar new_style new_rule done = refl
  change source None true false false from new_calendar new_style new_rule done = refl
  change source None false true true from new_calendar new_style new_rule done = refl
  change source None false true false from new_calendar new_style new_rule done = refl
  change source None false false true from new_calendar new_style new_rule done = refl
  change source None false false false from new_calendar new_style new_rule done = refl
  change source (Some new) true true true from new_calendar new_style new_rule done = refl
  change source (Some new) true true false from new_calendar new_style new_rule done = refl
  change source (Some new) true false true from new_calendar new_style new_rule done = refl
  change source (Some new) true false false from new_calendar new_style new_rule done = refl
  change source (Some new) false true true from new_calendar new_style new_rule done = refl
  change source (Some new) false true false from new_calendar new_style new_rule done = refl
  change source (Some new) false false true from new_calendar new_style new_rule done = refl
  change source (Some new) false false false from new_calendar new_style new_rule done = refl

  -- ---- listed Easters

  next_easter : (source : Option (List ℕ)) (changes easters : Tables) (path : List (List ℕ))
      → define (territory source changes easters, path) (lines.next_in (codes "easters"))
      ≡ Some (territory source changes (Some (items_of easters, no_nodes)), codes "easters" ∷ [])
  unfolding define along_header along_dots at_key
  next_easter None None None path = refl
  next_easter (Some source) None None path = refl
  next_easter None (Some (before, change)) None path = refl
  next_easter (Some source) (Some (before, change)) None path = refl
  next_easter source None (Some (done, last)) path = refl
  next_easter source (Some (before, change)) (Some (done, last)) path = refl

  easter : (source own : Option (List ℕ)) (changes : Tables) (year date : Data) (done : Items)
      → run (territory source changes (Some (done, no_nodes)), codes "easters" ∷ [])
      (lines.pair (codes "year") year ∷ lines.pair (codes "date") date ∷ lines.source_pair own)
      ≡ Some (
        territory source changes (Some (done, easter_nodes own year date)),
        codes "easters"
            ∷ [],
      )
  unfolding define along_header along_dots at_key
  easter source None None year date done = refl
  easter source None (Some (before, change)) year date done = refl
  easter source (Some new) None year date done = refl
  easter source (Some new) (Some (before, change)) year date done = refl

  -- ---- all of them

  changes : (source : Option (List ℕ)) (cited : Option SourcesModel) (before : Regime)
      (ps : List Period) (ts : Tables) (path : List (List ℕ))
      → run (territory source ts None, path) (lines.changes cited before ps)
      ≡ Some (territory source (changes_after ts cited before ps) None, at_changes path ps)
  changes source cited before [] ts path = refl
  changes source cited before (p ∷ ps) ts path =
      let at = codes "changes" ∷ [] in
      let this : run (territory source ts None, path) (lines.change cited before p)
      ≡ Some (territory source (Some (items_of ts, change_table cited before p)) None, at) =
      ap (option_and_then (λ (d : Document). run d (lines.change_pairs cited before p)))
      (next_change source ts path)
      ∙ change source (period_source cited p.first)
      (bytes_eq (calendar_word before.calendar) (calendar_word p.regime.calendar))
      (bytes_eq (style_word before.style) (style_word p.regime.style))
      (bytes_eq (rule_word before.rule) (rule_word p.regime.rule))
      (lines.date_data p.regime.calendar p.first) (string (calendar_word p.regime.calendar))
      (string (style_word p.regime.style)) (string (rule_word p.regime.rule)) (items_of ts) in
      run-append (territory source ts None, path) (lines.change cited before p)
      (lines.changes cited p.regime ps)
      ∙ ap (option_and_then (λ (d : Document). run d (lines.changes cited p.regime ps))) this
      ∙ changes source cited p.regime ps (Some (items_of ts, change_table cited before p)) at

  easters : (source : Option (List ℕ)) (changed : Tables) (t : TerritoryModel)
      (cited : Option SourcesModel) (es : List (ℕ × ℕ)) (ts : Tables) (path : List (List ℕ))
      → run (territory source changed ts, path) (lines.easters t cited es)
      ≡ Some (territory source changed (easters_after ts t cited es), at_easters path es)
  easters source changed t cited [] ts path = refl
  easters source changed t cited (e ∷ es) ts path =
      let at = codes "easters" ∷ [] in
      let this : run (territory source changed ts, path) (lines.easter t cited e)
      ≡ Some (territory source changed (Some (items_of ts, easter_table t cited e)), at) =
      ap (option_and_then (λ (d : Document). run d (lines.easter_pairs t cited e)))
      (next_easter source changed ts path)
      ∙ easter source (easter_source cited e.0) changed (integer (pos e.0))
      (lines.date_data (regime_at t e.1).calendar e.1) (items_of ts) in
      run-append (territory source changed ts, path) (lines.easter t cited e)
      (lines.easters t cited es)
      ∙ ap (option_and_then (λ (d : Document). run d (lines.easters t cited es))) this
      ∙ easters source changed t cited es (Some (items_of ts, easter_table t cited e)) at

-- the table of a territory
abbrev pub territory_nodes : List ℕ → TerritoryModel → Option SourcesModel → List Period → Nodes
territory_nodes name t cited [] = no_nodes
territory_nodes name t cited (p ∷ ps) =
    territory (string name) (string (calendar_word p.regime.calendar))
    (string (style_word p.regime.style)) (string (rule_word p.regime.rule))
    (period_source cited p.first) (changes_after None cited p.regime ps)
    (easters_after None t cited t.exceptions)

-- the table in which the lines of a territory end
abbrev pub territory_end : TerritoryModel → List Period → List (List ℕ)
territory_end t [] = []
territory_end t (p ∷ ps) = at_easters (at_changes [] ps) t.exceptions

pub run_territory : (name : List ℕ) (t : TerritoryModel) (cited : Option SourcesModel) (p : Period)
    (ps : List Period) → run (no_nodes, []) (lines.after_header name t cited (p ∷ ps))
    ≡ Some (territory_nodes name t cited (p ∷ ps), territory_end t (p ∷ ps))
run_territory name t cited p ps =
    let calendar = string (calendar_word p.regime.calendar) in
    let style = string (style_word p.regime.style) in
    let rule = string (rule_word p.regime.rule) in
    let source = period_source cited p.first in
    let first_lines = lines.pair (codes "name") (string name)
    ∷ (lines.regime_pairs p.regime ++ lines.source_pair source) in
    let listed = lines.easters t cited t.exceptions in
    let rest = lines.changes cited p.regime ps ++ listed in
    run-append (no_nodes, []) first_lines rest
    ∙ ap (option_and_then (λ (d : Document). run d rest))
    (opening (string name) calendar style rule source)
    ∙ run-append (territory (string name) calendar style rule source None None, [])
    (lines.changes cited p.regime ps) listed
    ∙ ap (option_and_then (λ (d : Document). run d listed))
    (changes (string name) calendar style rule source cited p.regime ps None [])
    ∙ easters (string name) calendar style rule source (changes_after None cited p.regime ps) t
    cited t.exceptions None (at_changes [] ps)

-- ---- closed

abbrev pub change_items : Option SourcesModel → Regime → List Period → Items
change_items cited before [] = no_items
change_items cited before (p ∷ ps) =
    item (table (close (change_table cited before p))) (change_items cited p.regime ps)

abbrev pub easter_items : TerritoryModel → Option SourcesModel → List (ℕ × ℕ) → Items
easter_items t cited [] = no_items
easter_items t cited (e ∷ es) =
    item (table (close (easter_table t cited e))) (easter_items t cited es)

pub items_of-changes : (ts : Tables) (cited : Option SourcesModel) (before : Regime)
    (ps : List Period) → items_of (changes_after ts cited before ps)
    ≡ item_join (items_of ts) (change_items cited before ps)
items_of-changes ts cited before [] = sym (item_join-none (items_of ts))
items_of-changes ts cited before (p ∷ ps) =
    items_of-changes (Some (items_of ts, change_table cited before p)) cited p.regime ps
    ∙ item_join-push (items_of ts) (table (close (change_table cited before p)))
    (change_items cited p.regime ps)

pub items_of-easters : (ts : Tables) (t : TerritoryModel) (cited : Option SourcesModel)
    (es : List (ℕ × ℕ)) → items_of (easters_after ts t cited es)
    ≡ item_join (items_of ts) (easter_items t cited es)
items_of-easters ts t cited [] = sym (item_join-none (items_of ts))
items_of-easters ts t cited (e ∷ es) =
    items_of-easters (Some (items_of ts, easter_table t cited e)) t cited es
    ∙ item_join-push (items_of ts) (table (close (easter_table t cited e)))
    (easter_items t cited es)
