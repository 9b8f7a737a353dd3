-- The text of a territory has these lines.
use Rattle.std.proofs.Common.{◌≡◌, ℕ, ◌<◌, ◌^◌, pos, true, false, List, [], ◌∷◌, ◌++◌, map, Option}
use Rattle.std.proofs.Common.{Some, codes, refl, ap, arith, append_assoc}
use Rattle.std.specs.Fmt.{decimal}
use Rattle.std.specs.Int.{w64}
use Rattle.std.specs.Prelude.{FitsSigned}
use Rattle.std.specs.List.{flat_map}
use Rattle.std.proofs.lemmas.Int.{ints}
use Rattle.std.proofs.lemmas.List.{map-append}
use Rattle.toml_writer.specs.Text.{key_text, string_text}
use Rattle.toml.specs.Data.{string, integer}
use Rattle.toml.specs.Tables.{key_value, std_table, Expression}
use Rattle.toml.specs.Text.{IsLineText}
use Rattle.osn_days.specs.Line.{IsDay, IsYear}
use Rattle.osn_days.specs.Rules.{newest_rules}
use Rattle.osn_territory.specs.declared.period.Period.{Period}
use Rattle.osn_territory.specs.Territory.{TerritoryModel, periods_of, regime_at}
use Rattle.osn_register.specs.Answer.{period_source, easter_source}
use Rattle.osn_register.specs.Code.{is_code}
use Rattle.osn_register.specs.Plain.{EntryModel, AreListed}
use Rattle.osn_register.specs.Sources.{SourcesModel}
use Rattle.osn_register_text.specs.WrittenText.{date_table, source_line, name_text, regime_text}
use Rattle.osn_register_text.specs.WrittenText.{changes_text, periods_text, listing_text}
use Rattle.osn_register_text.specs.WrittenText.{easter_text, territory_text, entry_text}
use Rattle.osn_register_text.specs.WrittenText.{edition_line, territories_text, register_text}
use Rattle.osn_register_text.proofs.Expressions as lines
use Rattle.osn_register_text.proofs.JoinedLines.{IsWritten, one, written-append, written-then}
use Rattle.osn_register_text.proofs.JoinedLines.{along}
use Rattle.osn_register_text.proofs.PlainText.{key_text-code}
use Rattle.osn_register_text.proofs.WrittenLines.{key_text-lists, key_text-members, dated}
use Rattle.osn_register_text.proofs.WrittenLines.{regime_written, source_written, under_source}
use Rattle.osn_register_text.proofs.WrittenLines.{header_text, next_in, AreDays}
use Rattle.osn_register_text.proofs.WrittenLines.{all_changes_written}

-- ---- a listed Easter

fits_signed : (y : ℕ) → IsYear newest_rules y → FitsSigned w64 (pos y)
fits_signed y is = omega (arith, ints)

key_text-name : key_text (codes "name") ≡ codes "name"
unfolding key_text
key_text-name = refl

year : (y : ℕ) → IsYear newest_rules y
    → IsLineText false true ([], codes "year") (key_value (integer (pos y)))
    (codes "year = " ++ (decimal y ++ codes "\n"))
year y is = (decimal y, rw (key_text-members.1) refl, (refl, fits_signed y is))

-- the lines of a listed Easter before that of its source
abbrev listing_lines : List ℕ → TerritoryModel → ℕ × ℕ → List Expression
listing_lines code t e =
    lines.under code (lines.next_in (codes "easters"))
    ∷ lines.pair (codes "year") (integer (pos e.0))
    ∷ lines.pair (codes "date") (lines.date_data (regime_at t e.1).calendar e.1)
    ∷ []

listing_written : (code : List ℕ) (t : TerritoryModel) (e : ℕ × ℕ) → is_code code ≡ true
    → IsYear newest_rules e.0 → IsDay newest_rules e.1
    → IsWritten true (listing_lines code t e) (listing_text code t e)
unfolding listing_text
listing_written code t e is year_is on =
    let calendar = (regime_at t e.1).calendar in
    let year_line = codes "year = " ++ (decimal e.0 ++ codes "\n") in
    let date_line = codes "date = " ++ (date_table calendar e.1 ++ codes "\n") in (
      header_text code (codes "easters"),
      year_line ++ date_line,
      simp append_assoc refl,
      next_in code (codes "easters") is key_text-lists.1,
      (
        year_line,
        date_line,
        refl,
        year e.0 year_is,
        one true (lines.pair (codes "date") (lines.date_data calendar e.1)) date_line
            (dated (codes "date") calendar e.1 key_text-members.2 on),
      ),
    )

easter_written : (code : List ℕ) (t : TerritoryModel) (cited : Option SourcesModel) (e : ℕ × ℕ)
    → is_code code ≡ true → IsYear newest_rules e.0 → IsDay newest_rules e.1
    → IsWritten true (map (lines.under code) (lines.easter t cited e)) (easter_text code t cited e)
unfolding easter_text
easter_written code t cited e is year_is on =
    let listing = listing_lines code t e in
    let source = easter_source cited e.0 in
    along (listing ++ map (lines.under code) (lines.source_pair source))
    (listing ++ lines.source_pair source) (easter_text code t cited e)
    (ap (λ es. listing ++ es) (under_source code source))
    (written-append listing (lines.source_pair source) (listing_text code t e) (source_line source)
    (listing_written code t e is year_is on) (source_written source))

easters_written : (code : List ℕ) (t : TerritoryModel) (cited : Option SourcesModel)
    (es : List (ℕ × ℕ)) → is_code code ≡ true → AreListed newest_rules es
    → IsWritten true (map (lines.under code) (lines.easters t cited es))
    (flat_map (easter_text code t cited) es)
easters_written code t cited [] is listed = refl
easters_written code t cited (e ∷ es) is listed =
    let this = lines.next_in (codes "easters") ∷ lines.easter_pairs t cited e in
    let rest = lines.easters t cited es in
    let below = lines.under code in
    along (map below (this ++ rest)) (map below this ++ map below rest)
    (flat_map (easter_text code t cited) (e ∷ es)) (map-append below this rest)
    (written-append (map below this) (map below rest) (easter_text code t cited e)
    (flat_map (easter_text code t cited) es) (easter_written code t cited e is listed.0 listed.1)
    (easters_written code t cited es is listed.2))

-- ---- a territory

name_written : (code name : List ℕ) → is_code code ≡ true
    → IsWritten true ((([], code), std_table) ∷ lines.pair (codes "name") (string name) ∷ [])
    (codes "\n" ++ name_text code name)
unfolding name_text
name_written code name is = (
  codes "\n[" ++ (code ++ codes "]\n"),
  codes "name = " ++ (string_text name ++ codes "\n"),
  simp append_assoc refl,
  rw (key_text-code code is) refl,
  one true (lines.pair (codes "name") (string name)) _
      (string_text name, rw key_text-name refl, refl),
)

abbrev pub IsCons : List Period → Type 0
IsCons [] = ⊥
IsCons (p ∷ ps) = Unit {0}

-- what the text of a territory needs
pub record IsWritable (l : EntryModel) : Type 0 where
  pub code : is_code l.code ≡ true
  pub periods : AreDays (periods_of newest_rules l.territory)
  pub some : IsCons (periods_of newest_rules l.territory)
  pub listed : AreListed newest_rules l.territory.exceptions

-- one by one
territory_from : (code name : List ℕ) (t : TerritoryModel)
    (cited : Option SourcesModel) (p : Period) (ps : List Period)
    → is_code code ≡ true → AreDays ps → AreListed newest_rules t.exceptions
    → IsWritten true
    ((([], code), std_table) ∷ map (lines.under code) (lines.after_header name t cited (p ∷ ps)))
    (codes "\n" ++ (periods_text code name cited (p ∷ ps)
    ++ flat_map (easter_text code t cited) t.exceptions))
unfolding periods_text
territory_from code name t cited p ps is days listed =
    let head : Expression = (([], code), std_table) in
    let named = lines.pair (codes "name") (string name) in
    let below = lines.under code in
    let source = period_source cited p.first in
    let changed = lines.changes cited p.regime ps in
    let listings = lines.easters t cited t.exceptions in
    let after = lines.source_pair source ++ (changed ++ listings) in
    let name_part = codes "\n" ++ name_text code name in
    let changed_text = changes_text code cited p.regime ps in
    let listed_text = flat_map (easter_text code t cited) t.exceptions in
    let after_text = source_line source ++ (changed_text ++ listed_text) in
    let apart : map below after ≡ lines.source_pair source ++ (map below changed
    ++ map below listings) =
    rw (
      map-append below (lines.source_pair source) (changed ++ listings),
      map-append below changed listings,
      under_source code source,
    ) in
    let after_written : IsWritten true (map below after) after_text =
    along (map below after) (lines.source_pair source ++ (map below changed ++ map below listings))
    after_text apart
    (written-append (lines.source_pair source) (map below changed ++ map below listings) _ _
    (source_written source)
    (written-append (map below changed) (map below listings) _ _
    (all_changes_written code cited p.regime ps is days)
    (easters_written code t cited t.exceptions is listed))) in
    let whole = written-then true head (named ∷ []) (lines.regime_pairs p.regime
    ++ map below after) name_part (regime_text p.regime ++ after_text)
    (name_written code name is)
    (written-append (lines.regime_pairs p.regime) (map below after) (regime_text p.regime)
    after_text (regime_written p.regime) after_written) in
    let same : codes "\n" ++ ((name_text code name ++ (regime_text p.regime
    ++ (source_line source ++ changed_text))) ++ listed_text)
    ≡ name_part ++ (regime_text p.regime ++ after_text) =
    simp append_assoc refl in
    rw same whole

territory_by : (l : EntryModel) (ps : List Period) → is_code l.code ≡ true
    → AreDays ps → IsCons ps → AreListed newest_rules l.territory.exceptions
    → IsWritten true
    ((([], l.code), std_table) ∷ map (lines.under l.code)
    (lines.after_header l.name l.territory (Some l.sources) ps))
    (codes "\n"
    ++ (periods_text l.code l.name (Some l.sources) ps
    ++ flat_map (easter_text l.code l.territory (Some l.sources)) l.territory.exceptions))
territory_by l [] is days some listed = absurd some
territory_by l (p ∷ ps) is days some listed =
    territory_from l.code l.name l.territory (Some l.sources) p ps is days.1 listed

territory_written : (l : EntryModel) → IsWritable l
    → IsWritten true (lines.territory newest_rules l)
    (codes "\n" ++ entry_text newest_rules l)
unfolding territory_text
territory_written l can =
    territory_by l (periods_of newest_rules l.territory) can.code can.periods can.some
    can.listed

abbrev pub AreWritable : List EntryModel → Type 0
AreWritable [] = Unit {0}
AreWritable (l ∷ ls) = IsWritable l × AreWritable ls

territories_written : (ls : List EntryModel) → AreWritable ls
    → IsWritten true (lines.territories newest_rules ls) (territories_text newest_rules ls)
unfolding territories_text
territories_written [] can = refl
territories_written (l ∷ ls) can =
    let text = entry_text newest_rules l in
    let after = map (lines.under l.code) (lines.after_header l.name l.territory (Some l.sources)
    (periods_of newest_rules l.territory)) in
    rw (← append_assoc (codes "\n") text (territories_text newest_rules ls))
    (written-then true (([], l.code), std_table) after (lines.territories newest_rules ls) _ _
    (territory_written l can.0) (territories_written ls can.1))

-- ---- a register

edition_fits : (n : ℕ) → n < 2 ^ 63 → FitsSigned w64 (pos n)
edition_fits n small = omega (arith, ints)

key_text-edition : key_text (codes "edition") ≡ codes "edition"
unfolding key_text
key_text-edition = refl

edition_written : (n : ℕ) → n < 2 ^ 63
    → IsWritten false (lines.edition n ∷ []) (edition_line n)
unfolding edition_line
edition_written n small =
    one false (lines.edition n) _ (
      decimal n,
      rw key_text-edition refl,
      (refl, edition_fits n small),
    )

pub register_written : (n : ℕ) (ls : List EntryModel) → n < 2 ^ 63 → AreWritable ls
    → IsWritten false (lines.register newest_rules n ls) (register_text newest_rules n ls)
unfolding register_text
register_written n ls small can =
    written-then false (lines.edition n) [] (lines.territories newest_rules ls) _ _
    (edition_written n small) (territories_written ls can)
