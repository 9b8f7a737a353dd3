-- The text of a register is read as the tables of its territories, in the order of their codes, and
-- its edition.
use Rattle.std.proofs.Common.{◌≡◌, ℕ, ◌<◌, ◌^◌, suc, pos, true, false, cond, ◌==◌, ◌&&◌, nat_le}
use Rattle.std.proofs.Common.{List, [], ◌∷◌, ◌++◌, length, Option, Some, None, option_and_then}
use Rattle.std.proofs.Common.{map, codes, refl, sym, ap, ◌∙◌, arith}
use Rattle.std.proofs.Common.{Ordering, Less, Equal, Greater, nat_cmp, is_eq}
use Rattle.std.proofs.lemmas.Bool.{and_parts}
use Rattle.std.proofs.lemmas.Bool.Decides.{nat_tests}
use Rattle.std.specs.Cmp.{nat_cmp_is}
use Rattle.std.specs.Cmp.Lexicographic.{slice_cmp}
use Rattle.std.specs.List.{list_all}
use Rattle.std.specs.Ordering.{match_ordering}
use Rattle.std.specs.Str.{bytes_eq}
use Rattle.toml_parser.specs.Lexical.{first}
use Rattle.toml_parser.specs.Strings.{Key}
use Rattle.toml.specs.Data.{string, integer, table, Members, no_members, member, get_member}
use Rattle.toml.specs.Tables.{Nodes, no_nodes, node, value, open_table, header, get_node, close}
use Rattle.toml.specs.Tables.{Definition, key_value, std_table, array_table, Expression, Document}
use Rattle.toml.specs.Tables.{along_header, along_dots, at_key, define}
use Rattle.toml.specs.Parse.{skip_bom, parse_document}
use Rattle.toml.proofs.Fill.{run-append}
use Rattle.toml.proofs.ReadLines.{run, AllPrinted, IsPrinted, line_turn, read_lines}
use Rattle.toml.proofs.Turns.{document_some, at_key_new}
use Rattle.std.proofs.lemmas.Map.Text.{is_eq-slice_cmp}
use Rattle.osn_computus.specs.RuleWords.{rule_word}
use Rattle.osn_days.specs.declared.calendar.Calendar.{Calendar}
use Rattle.osn_days.specs.CalendarWords.{calendar_word}
use Rattle.osn_days.specs.Rules.{newest_rules}
use Rattle.osn_territory.specs.StyleWords.{style_word}
use Rattle.osn_register.proofs.EntryFacts.{apart_first}
use Rattle.osn_territory.specs.declared.period.Period.{Period}
use Rattle.osn_territory.specs.declared.regime.Regime.{Regime}
use Rattle.osn_territory.specs.Territory.{TerritoryModel, periods_of, regime_at}
use Rattle.osn_register.specs.declared.limits.Limits.{Limits}
use Rattle.osn_register.specs.Answer.{period_source, easter_source}
use Rattle.osn_register.specs.Code.{has_length, is_capital, is_code, is_code_byte}
use Rattle.osn_register.specs.Plain.{EntryModel, entry_of, AreDistinct}
use Rattle.osn_register.specs.Sources.{SourcesModel}
use Rattle.osn_register_text.specs.Text.{edition_key}
use Rattle.osn_register_text.specs.WrittenText.{register_text}
use Rattle.osn_register_text.proofs.Expressions as lines
use Rattle.osn_register_text.proofs.JoinedLines.{IsWritten}
use Rattle.osn_register_text.proofs.TerritoryNodes.{territory_nodes, territory_end, run_territory}
use Rattle.osn_register_text.proofs.SortedTerritories.{insert_sorted, insert_sorted_by}
use Rattle.osn_register_text.proofs.SortedTerritories.{sorted_territories, AreNew, AreNew-none}
use Rattle.osn_register_text.proofs.SortedTerritories.{AreNew-insert_sorted, AreReadable}
use Rattle.osn_register_text.proofs.TableNodes.{with_table, run_below}
use Rattle.osn_register_text.proofs.WrittenTerritories.{IsCons, IsWritable, AreWritable}
use Rattle.osn_register_text.proofs.WrittenTerritories.{register_written}

-- ---- the text is read line by line

-- the expression is one of a territory's table: a pair with a short value, or a header
abbrev IsPlain : Key → Definition → Type 0
IsPlain key (key_value d) = IsPrinted key (key_value d)
IsPlain key std_table = key.0 ≡ []
IsPlain key array_table = key.0 ≡ []

abbrev ArePlain : List Expression → Type 0
ArePlain [] = Unit {0}
ArePlain (e ∷ es) = IsPlain e.0 e.1 × ArePlain es

plain_append : (es fs : List Expression) → ArePlain es → ArePlain fs → ArePlain (es ++ fs)
plain_append [] fs a b = b
plain_append (e ∷ es) fs a b = (a.0, plain_append es fs a.1 b)

printed_append : (es fs : List Expression) → AllPrinted es → AllPrinted fs → AllPrinted (es ++ fs)
printed_append [] fs a b = b
printed_append (e ∷ es) fs a b = (a.0, printed_append es fs a.1 b)

one_below : (code : List ℕ) (key : Key) (what : Definition) → IsPlain key what
    → IsPrinted (lines.under_as code key what).0 (lines.under_as code key what).1
one_below code key (key_value d) plain = plain
one_below code key std_table plain = rw plain (omega arith)
one_below code key array_table plain = rw plain (omega arith)

below : (code : List ℕ) (es : List Expression) → ArePlain es
    → AllPrinted (map (lines.under code) es)
below code [] plain = tt
below code (e ∷ es) plain = (one_below code e.0 e.1 plain.0, below code es plain.1)

text_plain : (key text : List ℕ) → IsPlain ([], key) (key_value (string text))
text_plain key text = (refl, omega arith, refl)

date_plain : (key : List ℕ) (c : Calendar) (day : ℕ)
    → IsPlain ([], key) (key_value (lines.date_data c day))
date_plain key c day = (refl, omega arith, refl)

changed_plain : (key before word : List ℕ) → ArePlain (lines.changed_pair key before word)
changed_plain key before word =
    elim (bytes_eq before word) as (λ b. ArePlain (cond b [] (lines.pair key (string word) ∷ []))) [
      | true ↦ tt
      | false ↦ (text_plain key word, tt)
    ]

source_plain : (o : Option (List ℕ)) → ArePlain (lines.source_pair o)
source_plain None = tt
source_plain (Some source) = (text_plain (codes "source") source, tt)

changed_pairs_plain : (before r : Regime) → ArePlain (lines.changed_pairs before r)
changed_pairs_plain before r =
    plain_append (lines.changed_pair (codes "calendar") (calendar_word before.calendar)
    (calendar_word r.calendar))
    (lines.changed_pair (codes "style") (style_word before.style) (style_word r.style)
    ++ lines.changed_pair (codes "rule") (rule_word before.rule) (rule_word r.rule))
    (changed_plain (codes "calendar") (calendar_word before.calendar) (calendar_word r.calendar))
    (plain_append (lines.changed_pair (codes "style") (style_word before.style)
    (style_word r.style))
    (lines.changed_pair (codes "rule") (rule_word before.rule) (rule_word r.rule))
    (changed_plain (codes "style") (style_word before.style) (style_word r.style))
    (changed_plain (codes "rule") (rule_word before.rule) (rule_word r.rule)))

change_plain : (cited : Option SourcesModel) (before : Regime) (p : Period)
    → ArePlain (lines.change_pairs cited before p)
change_plain cited before p = (
  date_plain (codes "from") p.regime.calendar p.first,
  plain_append (lines.changed_pairs before p.regime)
      (lines.source_pair (period_source cited p.first)) (changed_pairs_plain before p.regime)
      (source_plain (period_source cited p.first)),
)

changes_plain : (cited : Option SourcesModel) (before : Regime) (ps : List Period)
    → ArePlain (lines.changes cited before ps)
changes_plain cited before [] = tt
changes_plain cited before (p ∷ ps) =
    plain_append (lines.next_in (codes "changes") ∷ lines.change_pairs cited before p)
    (lines.changes cited p.regime ps)
    (refl, change_plain cited before p) (changes_plain cited p.regime ps)

easter_plain : (t : TerritoryModel) (cited : Option SourcesModel) (e : ℕ × ℕ)
    → ArePlain (lines.easter t cited e)
easter_plain t cited e = (
  refl,
  (
    (refl, omega arith, refl),
    (
      date_plain (codes "date") (regime_at t e.1).calendar e.1,
      source_plain (easter_source cited e.0),
    ),
  ),
)

easters_plain : (t : TerritoryModel) (cited : Option SourcesModel) (es : List (ℕ × ℕ))
    → ArePlain (lines.easters t cited es)
easters_plain t cited [] = tt
easters_plain t cited (e ∷ es) =
    plain_append (lines.easter t cited e) (lines.easters t cited es) (easter_plain t cited e)
    (easters_plain t cited es)

territory_plain : (name : List ℕ) (t : TerritoryModel) (cited : Option SourcesModel)
    (ps : List Period) → ArePlain (lines.after_header name t cited ps)
territory_plain name t cited [] = easters_plain t cited t.exceptions
territory_plain name t cited (p ∷ ps) = (
  text_plain (codes "name") name,
  (
    text_plain (codes "calendar") (calendar_word p.regime.calendar),
    (
      text_plain (codes "style") (style_word p.regime.style),
      (
        text_plain (codes "rule") (rule_word p.regime.rule),
        plain_append (lines.source_pair (period_source cited p.first))
            (lines.changes cited p.regime ps ++ lines.easters t cited t.exceptions)
            (source_plain (period_source cited p.first))
            (plain_append (lines.changes cited p.regime ps) (lines.easters t cited t.exceptions)
            (changes_plain cited p.regime ps) (easters_plain t cited t.exceptions)),
      ),
    ),
  ),
)

all_printed : (ls : List EntryModel) → AllPrinted (lines.territories newest_rules ls)
all_printed [] = tt
all_printed (l ∷ ls) =
    printed_append (lines.territory newest_rules l) (lines.territories newest_rules ls) (
      omega arith,
      below l.code
          (lines.after_header l.name l.territory (Some l.sources)
          (periods_of newest_rules l.territory))
          (territory_plain l.name l.territory (Some l.sources)
          (periods_of newest_rules l.territory)),
    )
    (all_printed ls)

not_bom : (es : List Expression) (text : List ℕ) → IsWritten false es text → AllPrinted es
    → (first text == 239) ≡ false
not_bom [] text written printed = rw written refl
not_bom (e ∷ es) text written printed =
    let (this, rest, whole, line, more) = written in
    let turn = line_turn false false e.0 e.1 this rest line printed.0 in
    rw whole turn.5

no_skip : (text : List ℕ) → (first text == 239) ≡ false → skip_bom text ≡ text
unfolding skip_bom
no_skip text other = rw other

-- a text is the document that its lines define
parsed : (es : List Expression) (text : List ℕ) (doc : Document) → IsWritten false es text
    → AllPrinted es → run (no_nodes, []) es ≡ Some doc → parse_document text ≡ Some (close doc.0)
parsed es text doc written printed ran =
    let room = suc (length text) in
    let read = read_lines false false es text text (no_nodes, []) room written printed refl
    (omega arith) in
    let kept = no_skip text (not_bom es text written printed) in
    document_some text doc (rw kept (read ∙ ran))

-- ---- the territories, in the order of their codes

-- a code comes before the key of the edition, whose letters are small
before_edition : (code : List ℕ) → is_code code ≡ true
    → (slice_cmp nat_cmp code edition_key ≡ Less) × (slice_cmp nat_cmp edition_key code ≡ Greater)
before_edition [] is = absurd (cc)
before_edition (c ∷ cs) is =
    let (size, bytes) =
    and_parts (has_length 2 8 (c ∷ cs)) (is_capital c && list_all is_code_byte (c ∷ cs)) is in
    let (capital, all) = and_parts (is_capital c) (list_all is_code_byte (c ∷ cs)) bytes in
    let (low, high) = and_parts (nat_le 65 c) (nat_le c 90) capital in
    let small : c < 101 = grind (arith, nat_tests) in
    let less : Less ≡ nat_cmp c 101 = nat_cmp_is c 101 Less small in
    let greater : Greater ≡ nat_cmp 101 c = nat_cmp_is 101 c Greater small in
    (rw (← less) refl, rw (← greater) refl)

-- and is another one
pub no_edition_key : (code : List ℕ) → is_code code ≡ true → bytes_eq code edition_key ≡ false
no_edition_key code is =
    sym (is_eq-slice_cmp code edition_key) ∙ ap is_eq (before_edition code is).0

abbrev pub table_of : EntryModel → Nodes
table_of l = territory_nodes l.name l.territory (Some l.sources)
    (periods_of newest_rules l.territory)

-- the tables of territories, and the edition after them
abbrev pub nodes_of : ℕ → List EntryModel → Nodes
nodes_of n [] = node edition_key (value (integer (pos n))) no_nodes
nodes_of n (l ∷ ls) = node l.code (open_table header (table_of l)) (nodes_of n ls)

abbrev pub members_of : ℕ → List EntryModel → Members
members_of n [] = member edition_key (integer (pos n)) no_members
members_of n (l ∷ ls) = member l.code (table (close (table_of l))) (members_of n ls)

close-nodes_of : (n : ℕ) (ls : List EntryModel) → close (nodes_of n ls) ≡ members_of n ls
close-nodes_of n [] = refl
close-nodes_of n (l ∷ ls) = ap (member l.code (table (close (table_of l)))) (close-nodes_of n ls)

-- the edition that the members say
pub edition_found : (n : ℕ) (limits : Limits) (ls : List EntryModel) → AreReadable limits ls
    → get_member edition_key (members_of n ls) ≡ Some (integer (pos n))
edition_found n limits [] can = refl
edition_found n limits (l ∷ ls) can =
    rw ((before_edition l.code can.0.code).1) (edition_found n limits ls can.1)

insert_by : (n : ℕ) (o : Ordering) (l m : EntryModel) (ms : List EntryModel)
    → with_table l.code (table_of l) (nodes_of n ms) ≡ nodes_of n (insert_sorted l ms)
    → match_ordering o (node l.code (open_table header (table_of l)) (nodes_of n (m ∷ ms)))
    (node m.code (open_table header (table_of l)) (nodes_of n ms))
    (node m.code (open_table header (table_of m)) (with_table l.code (table_of l) (nodes_of n ms)))
    ≡ nodes_of n (insert_sorted_by o l m ms (insert_sorted l ms))
insert_by n Less l m ms more = refl
insert_by n Equal l m ms more = refl
insert_by n Greater l m ms more = ap (node m.code (open_table header (table_of m))) more

insert-nodes_of : (n : ℕ) (l : EntryModel) (ms : List EntryModel) → is_code l.code ≡ true
    → with_table l.code (table_of l) (nodes_of n ms) ≡ nodes_of n (insert_sorted l ms)
insert-nodes_of n l [] is = rw ((before_edition l.code is).0) refl
insert-nodes_of n l (m ∷ ms) is =
    insert_by n (slice_cmp nat_cmp l.code m.code) l m ms (insert-nodes_of n l ms is)

no_node : (n : ℕ) (code : List ℕ) (ls : List EntryModel) → is_code code ≡ true
    → entry_of code ls ≡ None → get_node code (nodes_of n ls) ≡ None
no_node n code [] is none = rw ((before_edition code is).0) refl
no_node n code (l ∷ ls) is none =
    let (other, more) = apart_first code l ls none in
    rw (is_eq-slice_cmp code l.code, other) (no_node n code ls is more)

-- ---- what the lines define

abbrev IsRun : ℕ → List EntryModel → List Expression → List EntryModel → Type 0
IsRun n done es after =
    (s : List (List ℕ)) → (t : List (List ℕ)) × (run (nodes_of n done, s) es
    ≡ Some (nodes_of n after, t))

edition_run : (n : ℕ)
    → define (no_nodes, []) (lines.edition n) ≡ Some (nodes_of n [], [])
unfolding define along_header along_dots at_key
edition_run n = refl

header_run : (n : ℕ) (l : EntryModel) (done : List EntryModel) (s : List (List ℕ))
    → is_code l.code ≡ true → entry_of l.code done ≡ None
    → define (nodes_of n done, s) (([], l.code), std_table)
    ≡ Some (with_table l.code no_nodes (nodes_of n done), l.code ∷ [])
unfolding define along_header
header_run n l done s is none =
    rw (at_key_new l.code std_table (nodes_of n done) (no_node n l.code done is none)) refl

table_run : (l : EntryModel) (ps : List Period) → IsCons ps
    → run (no_nodes, []) (lines.after_header l.name l.territory (Some l.sources) ps)
    ≡ Some (territory_nodes l.name l.territory (Some l.sources) ps, territory_end l.territory ps)
table_run l [] some = absurd some
table_run l (p ∷ ps) some = run_territory l.name l.territory (Some l.sources) p ps

territory_run : (n : ℕ) (l : EntryModel) (done : List EntryModel) → IsWritable l
    → entry_of l.code done ≡ None
    → IsRun n done (lines.territory newest_rules l) (insert_sorted l done)
territory_run n l done can none s =
    let ps = periods_of newest_rules l.territory in
    let table_lines = lines.after_header l.name l.territory (Some l.sources) ps in
    let after = map (lines.under l.code) table_lines in
    let in_table = run_below l.code table_lines no_nodes (table_of l)
    (nodes_of n done) [] (territory_end l.territory ps) (table_run l ps can.some) in (
      l.code ∷ territory_end l.territory ps,
      ap (option_and_then (λ (d : Document). run d after)) (header_run n l done s can.code none)
          ∙ in_table
          ∙ ap (λ (made : Nodes). Some (made, l.code ∷ territory_end l.territory ps))
          (insert-nodes_of n l done can.code),
    )

run_then : (n : ℕ) (done mid after : List EntryModel) (es fs : List Expression)
    → IsRun n done es mid → IsRun n mid fs after → IsRun n done (es ++ fs) after
run_then n done mid after es fs first_part more s =
    let (t, ran) = first_part s in
    let (u, rest) = more t in (
      u,
      run-append (nodes_of n done, s) es fs
          ∙ ap (option_and_then (λ (d : Document). run d fs)) ran ∙ rest,
    )

all_run : (n : ℕ) (ls done : List EntryModel) → AreWritable ls → AreNew ls done → AreDistinct ls
    → IsRun n done (lines.territories newest_rules ls) (sorted_territories done ls)
all_run n [] done can new distinct = λ s. (s, refl)
all_run n (l ∷ ls) done can new distinct =
    run_then n done (insert_sorted l done) (sorted_territories (insert_sorted l done) ls)
    (lines.territory newest_rules l)
    (lines.territories newest_rules ls) (territory_run n l done can.0 new.0)
    (all_run n ls (insert_sorted l done) can.1
    (AreNew-insert_sorted l ls done new.0 distinct.0 new.1) distinct.1)

-- a register's text is read as its territories and its edition
pub register_parsed : (n : ℕ) (ls : List EntryModel) → n < 2 ^ 63 → AreWritable ls
    → AreDistinct ls
    → parse_document (register_text newest_rules n ls)
    ≡ Some (members_of n (sorted_territories [] ls))
register_parsed n ls small can distinct =
    let (path, ran) = all_run n ls [] can (AreNew-none ls) distinct [] in
    parsed (lines.register newest_rules n ls) (register_text newest_rules n ls)
    (nodes_of n (sorted_territories [] ls), path) (register_written n ls small can)
    ((refl, omega arith, refl), all_printed ls)
    (ap (option_and_then (λ (d : Document). run d (lines.territories newest_rules ls)))
    (edition_run n) ∙ ran)
    ∙ ap Some (close-nodes_of n (sorted_territories [] ls))
