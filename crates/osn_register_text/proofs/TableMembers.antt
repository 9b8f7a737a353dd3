-- The values at the keys of the table of a territory, of a change and of a listed Easter.
use Rattle.std.proofs.Common.{◌≡◌, ℕ, Bool, true, false, cond, List, Option, Some, None, option_map}
use Rattle.std.proofs.Common.{codes, refl, sym, ap, ◌∙◌, Ordering, Less, Equal, Greater, nat_cmp}
use Rattle.std.proofs.Common.{is_eq}
use Rattle.std.proofs.lemmas.Bool.{false≢true}
use Rattle.std.specs.Cmp.Lexicographic.{slice_cmp}
use Rattle.std.specs.Ordering.{match_ordering}
use Rattle.toml.specs.Data.{Data, string, array, table, push_item, same_key, get_member}
use Rattle.toml.specs.Tables.{Nodes, no_nodes, node, value, close}
use Rattle.osn_register_text.specs.declared.key.Key.TheVariants as keys
use Rattle.osn_register_text.specs.declared.key.Part.{Part}
use Rattle.osn_register_text.specs.declared.key.Part.TheVariants as parts
use Rattle.osn_register_text.specs.Field.{unknown_key, value_at}
use Rattle.osn_register_text.specs.Key.{is_key_of}
use Rattle.osn_register_text.proofs.TerritoryNodes.{Tables, territory, list_at, unless, if_given}
use Rattle.osn_register_text.proofs.TerritoryNodes.{change_nodes, easter_nodes}

-- ---- past a key

past_by : (o : Ordering) (x y : Option Data) → is_eq o ≡ false → match_ordering o x y x ≡ x
past_by Less x y other = refl
past_by Equal x y other = absurd (false≢true (sym other))
past_by Greater x y other = refl

own_by : (o : Ordering) (x y : Option Data) → is_eq o ≡ true → match_ordering o x y x ≡ y
own_by Less x y same = absurd (false≢true same)
own_by Equal x y same = refl
own_by Greater x y same = absurd (false≢true same)

-- another key than that of a pair, of a source and of a list of tables
past : (k : List ℕ) (same : Bool) (key : List ℕ) (d : Data) (rest : Nodes)
    → same_key k key ≡ false
    → get_member k (close (unless same key d rest)) ≡ get_member k (close rest)
past k true key d rest other = refl
past k false key d rest other =
    past_by (slice_cmp nat_cmp k key) (get_member k (close rest)) (Some d) other

past_source : (k : List ℕ) (o : Option (List ℕ)) (rest : Nodes)
    → same_key k (codes "source") ≡ false
    → get_member k (close (if_given o rest)) ≡ get_member k (close rest)
past_source k None rest other = refl
past_source k (Some text) rest other =
    past_by (slice_cmp nat_cmp k (codes "source")) (get_member k (close rest))
    (Some (string text)) other

past_list : (k key : List ℕ) (ts : Tables) (rest : Nodes) → same_key k key ≡ false
    → get_member k (close (list_at key ts rest)) ≡ get_member k (close rest)
past_list k key None rest other = refl
past_list k key (Some ts) rest other =
    past_by (slice_cmp nat_cmp k key) (get_member k (close rest))
    (Some (array (push_item ts.0 (table (close ts.1))))) other

-- the key of a pair, and of a source
own : (same : Bool) (key : List ℕ) (d : Data) (rest : Nodes) → same_key key key ≡ true
    → get_member key (close rest) ≡ None
    → get_member key (close (unless same key d rest)) ≡ cond same None (Some d)
own true key d rest is none = none
own false key d rest is none =
    own_by (slice_cmp nat_cmp key key) (get_member key (close rest)) (Some d) is

own_source : (o : Option (List ℕ)) (rest : Nodes)
    → get_member (codes "source") (close rest) ≡ None
    → get_member (codes "source") (close (if_given o rest)) ≡ option_map string o
own_source None rest none = none
own_source (Some text) rest none = refl

-- keys that a table may have
known : (part : Part) (same : Bool) (key : List ℕ) (d : Data) (rest : Nodes)
    → is_key_of part key ≡ true
    → unknown_key part (close (unless same key d rest)) ≡ unknown_key part (close rest)
known part true key d rest is = refl
known part false key d rest is =
    ap (λ b. cond b (unknown_key part (close rest)) (Some key)) is

known_source : (part : Part) (o : Option (List ℕ)) (rest : Nodes)
    → is_key_of part (codes "source") ≡ true
    → unknown_key part (close (if_given o rest)) ≡ unknown_key part (close rest)
known_source part None rest is = refl
known_source part (Some text) rest is =
    ap (λ b. cond b (unknown_key part (close rest)) (Some (codes "source"))) is

known_list : (part : Part) (key : List ℕ) (ts : Tables) (rest : Nodes) → is_key_of part key ≡ true
    → unknown_key part (close (list_at key ts rest)) ≡ unknown_key part (close rest)
known_list part key None rest is = refl
known_list part key (Some ts) rest is =
    ap (λ b. cond b (unknown_key part (close rest)) (Some key)) is

-- ---- a territory

module _ (name calendar style rule : Data) (o : Option (List ℕ)) (changes easters : Tables) where
  abbrev after_rule : Nodes
  after_rule = if_given o (node (codes "style") (value style) no_nodes)

  abbrev after_easters : Nodes
  after_easters = node (codes "name") (value name) (node (codes "rule") (value rule) after_rule)

  abbrev after_changes : Nodes
  after_changes = list_at (codes "easters") easters after_easters

  -- a key that is not one of a list
  after_lists : (k : List ℕ) → same_key k (codes "changes") ≡ false
      → same_key k (codes "easters") ≡ false
      → get_member k (close (list_at (codes "changes") changes after_changes))
      ≡ get_member k (close after_easters)
  after_lists k no_changes no_easters =
      past_list k (codes "changes") changes after_changes no_changes
      ∙ past_list k (codes "easters") easters after_easters no_easters

  pub territory_keys
      : unknown_key parts.Territory (close (territory name calendar style rule o changes easters))
      ≡ None
  territory_keys =
      known_list parts.Territory (codes "changes") changes after_changes refl
      ∙ known_list parts.Territory (codes "easters") easters after_easters refl
      ∙ known_source parts.Territory o (node (codes "style") (value style) no_nodes) refl

  pub territory_name : value_at keys.Name
      (close (territory name calendar style rule o changes easters)) ≡ Some name
  territory_name = after_lists (codes "name") refl refl

  pub territory_rule : value_at keys.Rule
      (close (territory name calendar style rule o changes easters)) ≡ Some rule
  territory_rule = after_lists (codes "rule") refl refl

  pub territory_style : value_at keys.Style
      (close (territory name calendar style rule o changes easters)) ≡ Some style
  territory_style =
      after_lists (codes "style") refl refl
      ∙ past_source (codes "style") o (node (codes "style") (value style) no_nodes) refl

  pub territory_source : value_at keys.Source
      (close (territory name calendar style rule o changes easters)) ≡ option_map string o
  territory_source =
      after_lists (codes "source") refl refl
      ∙ own_source o (node (codes "style") (value style) no_nodes) refl

  pub territory_note : value_at keys.Note
      (close (territory name calendar style rule o changes easters)) ≡ None
  territory_note =
      after_lists (codes "note") refl refl
      ∙ past_source (codes "note") o (node (codes "style") (value style) no_nodes) refl

-- a list of tables, if there is one
abbrev pub list_of : Tables → Option Data
list_of ts = option_map (λ ts. array (push_item ts.0 (table (close ts.1)))) ts

pub territory_changes : (name calendar style rule : Data) (o : Option (List ℕ))
    (changes easters : Tables)
    → value_at keys.Changes (close (territory name calendar style rule o changes easters))
    ≡ list_of changes
territory_changes name calendar style rule o None easters =
    past_list (codes "changes") (codes "easters") easters
    (after_easters name calendar style rule o None easters) refl
    ∙ past_source (codes "changes") o (node (codes "style") (value style) no_nodes) refl
territory_changes name calendar style rule o (Some ts) easters = refl

easters_there : (name calendar style rule : Data) (o : Option (List ℕ)) (easters : Tables)
    → get_member (codes "easters")
    (close (after_changes name calendar style rule o None easters)) ≡ list_of easters
easters_there name calendar style rule o None =
    past_source (codes "easters") o (node (codes "style") (value style) no_nodes) refl
easters_there name calendar style rule o (Some ts) = refl

pub territory_easters : (name calendar style rule : Data) (o : Option (List ℕ))
    (changes easters : Tables)
    → value_at keys.Easters (close (territory name calendar style rule o changes easters))
    ≡ list_of easters
territory_easters name calendar style rule o changes easters =
    past_list (codes "easters") (codes "changes") changes
    (after_changes name calendar style rule o None easters) refl
    ∙ easters_there name calendar style rule o easters

-- ---- a change

module _ (c s r : Bool) (o : Option (List ℕ)) (from calendar style rule : Data) where
  abbrev style_part : Nodes
  style_part = unless s (codes "style") style no_nodes

  abbrev rule_part : Nodes
  rule_part = unless r (codes "rule") rule (if_given o style_part)

  abbrev from_part : Nodes
  from_part = node (codes "from") (value from) rule_part

  -- a key after that of the rule
  after_from : (k : List ℕ) → same_key k (codes "calendar") ≡ false
      → same_key k (codes "from") ≡ false → same_key k (codes "rule") ≡ false
      → get_member k (close (change_nodes c s r o from calendar style rule))
      ≡ get_member k (close (if_given o style_part))
  after_from k no_calendar no_from no_rule =
      past k c (codes "calendar") calendar from_part no_calendar
      ∙ past k false (codes "from") from rule_part no_from
      ∙ past k r (codes "rule") rule (if_given o style_part) no_rule

  pub change_keys : (n : ℕ)
      → unknown_key (parts.Change n) (close (change_nodes c s r o from calendar style rule)) ≡ None
  change_keys n =
      known (parts.Change n) c (codes "calendar") calendar from_part refl
      ∙ known (parts.Change n) r (codes "rule") rule (if_given o style_part) refl
      ∙ known_source (parts.Change n) o style_part refl
      ∙ known (parts.Change n) s (codes "style") style no_nodes refl

  pub change_from : value_at keys.From (close (change_nodes c s r o from calendar style rule))
      ≡ Some from
  change_from = past (codes "from") c (codes "calendar") calendar from_part refl

  pub change_calendar
      : value_at keys.Calendar (close (change_nodes c s r o from calendar style rule))
      ≡ cond c None (Some calendar)
  change_calendar =
      own c (codes "calendar") calendar from_part refl
      (past (codes "calendar") r (codes "rule") rule (if_given o style_part) refl
      ∙ past_source (codes "calendar") o style_part refl
      ∙ past (codes "calendar") s (codes "style") style no_nodes refl)

  pub change_style : value_at keys.Style (close (change_nodes c s r o from calendar style rule))
      ≡ cond s None (Some style)
  change_style =
      after_from (codes "style") refl refl refl
      ∙ past_source (codes "style") o style_part refl
      ∙ own s (codes "style") style no_nodes refl refl

  pub change_rule : value_at keys.Rule (close (change_nodes c s r o from calendar style rule))
      ≡ cond r None (Some rule)
  change_rule =
      past (codes "rule") c (codes "calendar") calendar from_part refl
      ∙ own r (codes "rule") rule (if_given o style_part) refl
      (past_source (codes "rule") o style_part refl
      ∙ past (codes "rule") s (codes "style") style no_nodes refl)

  pub change_source : value_at keys.Source (close (change_nodes c s r o from calendar style rule))
      ≡ option_map string o
  change_source =
      after_from (codes "source") refl refl refl
      ∙ own_source o style_part (past (codes "source") s (codes "style") style no_nodes refl)

  pub change_note : value_at keys.Note (close (change_nodes c s r o from calendar style rule))
      ≡ None
  change_note =
      after_from (codes "note") refl refl refl
      ∙ past_source (codes "note") o style_part refl
      ∙ past (codes "note") s (codes "style") style no_nodes refl

-- ---- a listed Easter

module _ (o : Option (List ℕ)) (year date : Data) where
  abbrev year_part : Nodes
  year_part = node (codes "year") (value year) no_nodes

  pub easter_keys : (n : ℕ)
      → unknown_key (parts.Easter n) (close (easter_nodes o year date)) ≡ None
  easter_keys n = known_source (parts.Easter n) o year_part refl

  pub easter_year : value_at keys.Year (close (easter_nodes o year date)) ≡ Some year
  easter_year = past_source (codes "year") o year_part refl

  pub easter_source_there : value_at keys.Source (close (easter_nodes o year date))
      ≡ option_map string o
  easter_source_there = own_source o year_part refl

  pub easter_note : value_at keys.Note (close (easter_nodes o year date)) ≡ None
  easter_note = past_source (codes "note") o year_part refl
