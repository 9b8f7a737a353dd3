-- The text of a register says the register's territories, with their sources.
use Rattle.std.proofs.Common.{◌≡◌, ℕ, ◌≤◌, ◌<◌, ◌^◌, pos, Bool, true, false, cond, List, [], ◌∷◌}
use Rattle.std.proofs.Common.{length, map, nat_lt}
use Rattle.std.proofs.lemmas.Bool.Decides.{nat_tests}
use Rattle.std.proofs.Common.{Option, Some, None, option_map, Ok, refl, sym, ap, ◌∙◌, subst, arith}
use Rattle.std.proofs.lemmas.List.{length-map}
use Rattle.std.proofs.lemmas.Option.{none-some, same_Some}
use Rattle.std.specs.Str.{bytes_eq}
use Rattle.toml.specs.Data.{table}
use Rattle.toml.specs.Tables.{close}
use Rattle.osn_days.specs.Rules.{newest_rules}
use Rattle.osn_territory.specs.declared.period.Period.{Period}
use Rattle.osn_territory.specs.Territory.{periods_of}
use Rattle.osn_register.specs.declared.limits.Limits.{Limits}
use Rattle.osn_register.specs.Answer.{period_source, easter_source}
use Rattle.osn_register.specs.Plain.{EntryModel, RegisterModel, entry_of, AreDistinct, AreNamed}
use Rattle.osn_register.specs.Plain.{AreSound, AreListed, HaveSources, IsWellFormed}
use Rattle.osn_register.specs.SameEntry.{AreSameEntry}
use Rattle.osn_register_text.specs.Text.{edition_number, text_edition, text_edits, text_says}
use Rattle.osn_register_text.specs.TerritoryText.{territory_edits}
use Rattle.osn_register_text.specs.Says.{SaysTerritories, SaysTerritory, SaysRegister}
use Rattle.osn_register_text.specs.WrittenText.{if_there, register_text, text_of_code}
use Rattle.osn_register_text.proofs.Documents.{edition_found, members_of, no_edition_key}
use Rattle.osn_register_text.proofs.Documents.{register_parsed}
use Rattle.osn_register_text.proofs.FoundTerritories.{some_of}
use Rattle.osn_register_text.proofs.TerritoryNodes.{territory_nodes}
use Rattle.osn_register_text.proofs.MadeSources.{source_is, remade, remade_are_same}
use Rattle.osn_register_text.proofs.ReadEdits.{Begins, all_edits, edits_by, period_facts, all_made}
use Rattle.osn_register_text.proofs.ReadTables.{Ascend, AreGiven, territory_read}
use Rattle.osn_register_text.proofs.SortedTerritories.{sorted_territories, IsReadable, AreReadable}
use Rattle.osn_register_text.proofs.SortedTerritories.{entry_of-all, AreDistinct-all, length-all}
use Rattle.osn_register_text.proofs.SortedTerritories.{AreReadable-all}
use Rattle.osn_register_text.proofs.WrittenTerritories.{IsCons, IsWritable, AreWritable}
use Rattle.osn_register_text.proofs.WrittenLines.{AreDays}

-- ---- what a readable territory has

days : (before : ℕ) (ps : List Period) → Ascend before ps → AreDays ps
days before [] all = tt
days before (p ∷ ps) all = (all.1, days p.first ps all.2)

writable_by : (ps : List Period) → Begins 1 ps → AreDays ps × IsCons ps
writable_by [] begun = absurd begun
writable_by (p ∷ ps) begun =
    (((omega (arith, begun.0), omega (arith, begun.0)), days p.first ps begun.1), tt)

writable : (limits : Limits) (l : EntryModel) → IsReadable limits l → IsWritable l
writable limits l can =
    let facts = writable_by (periods_of newest_rules l.territory) (period_facts limits l can) in
    record {
      code = can.code;
      periods = facts.0;
      some = facts.1;
      listed = can.sound.listed;
    }

all_writable : (limits : Limits) (ls : List EntryModel) → AreReadable limits ls
    → AreWritable ls
all_writable limits [] can = tt
all_writable limits (l ∷ ls) can = (writable limits l can.0, all_writable limits ls can.1)

-- ---- what the tables say

given : (limits : Limits) (l : EntryModel) → IsReadable limits l
    → AreGiven (period_source (Some l.sources)) × AreGiven (easter_source (Some l.sources))
given limits l can = (
  λ day. source_is day l.sources.periods can.sources.periods,
  λ year. source_is year l.sources.easters can.sources.easters,
)

read_by : (limits : Limits) (l : EntryModel) (ps : List Period) → IsReadable limits l → Begins 1 ps
    → AreListed newest_rules l.territory.exceptions
    → territory_edits l.code
    (table (close (territory_nodes l.name l.territory (Some l.sources) ps))) ≡ Ok (edits_by l ps)
read_by limits l [] can begun listings = absurd begun
read_by limits l (p ∷ ps) can begun listings =
    let sources = given limits l can in
    territory_read l.code l.name l.territory (Some l.sources) p ps sources.0 sources.1 begun.1
    listings

all_read : (n : ℕ) (limits : Limits) (ls : List EntryModel) → AreReadable limits ls
    → text_edits (members_of n ls) ≡ Ok (all_edits ls)
all_read n limits [] can = refl
all_read n limits (l ∷ ls) can =
    rw (
      no_edition_key l.code can.0.code,
      read_by limits l (periods_of newest_rules l.territory) can.0 (period_facts limits l can.0)
          can.0.sound.listed,
      all_read n limits ls can.1,
    )

-- no number is below 0
not_negative : (n : ℕ) → edition_number (pos n) ≡ Some n
not_negative n =
    let least : nat_lt n 0 ≡ false = grind (arith, nat_tests) in
    rw least refl

edition_read : (n : ℕ) (limits : Limits) (ls : List EntryModel) → AreReadable limits ls
    → text_edition (members_of n ls) ≡ Ok (Some n)
edition_read n limits ls can = rw (edition_found n limits ls can, not_negative n) refl

-- ---- the territories that the edits make

entry_of-remade : (code : List ℕ) (ls : List EntryModel)
    → entry_of code (map remade ls) ≡ option_map remade (entry_of code ls)
entry_of-remade code [] = refl
entry_of-remade code (l ∷ ls) =
    elim (bytes_eq code l.code) as (λ b. cond b (Some (remade l)) (entry_of code (map remade ls))
    ≡ option_map remade (cond b (Some l) (entry_of code ls))) [
      | true ↦ refl
      | false ↦ entry_of-remade code ls
    ]

AreDistinct-remade : (ls : List EntryModel) → AreDistinct ls → AreDistinct (map remade ls)
AreDistinct-remade [] distinct = tt
AreDistinct-remade (l ∷ ls) distinct = (
  entry_of-remade l.code ls ∙ ap (option_map remade) distinct.0,
  AreDistinct-remade ls distinct.1,
)

-- ---- the law

readable : (limits : Limits) (ls : List EntryModel) → AreNamed ls → AreSound newest_rules limits ls
    → HaveSources ls → AreReadable limits ls
readable limits [] named sound sources = tt
readable limits (l ∷ ls) named sound sources = (
  record {
    code = named.0;
    name = named.1;
    sound = sound.0;
    sources = sources.0;
  },
  readable limits ls named.2 sound.1 sources.1,
)

-- the text of territories says them
says : (n : ℕ) (limits : Limits) (ls : List EntryModel) → n < 2 ^ 63 → AreReadable limits ls
    → AreDistinct ls → length ls ≤ limits.lands
    → SaysTerritories limits (register_text newest_rules n ls) n ls
unfolding text_says
says n limits ls small can distinct within =
    let sorted = sorted_territories [] ls in
    let can_all = AreReadable-all limits ls can in
    let edition = edition_read n limits sorted can_all in
    let edits = all_read n limits sorted can_all in
    let made = all_made limits [] sorted can_all
    (AreDistinct-remade sorted (AreDistinct-all ls distinct))
    (omega (arith, length-map sorted remade, length-all ls distinct)) in
    record {
      territories = map remade sorted;
      reads =
          rw (
            register_parsed n ls small (all_writable limits ls can) distinct,
            edition,
            edits,
            made,
          );
      same = λ code. subst (λ found. AreSameEntry found (entry_of code ls))
          (sym (entry_of-remade code sorted
          ∙ ap (option_map remade) (entry_of-all code ls distinct)))
          (remade_are_same (entry_of code ls));
    }

all_readable : (r : RegisterModel) → IsWellFormed newest_rules r →
    AreReadable r.limits r.territories
all_readable r is = readable r.limits r.territories is.named is.territories is.sources

pub register_says : (n : ℕ) (r : RegisterModel)
    → SaysRegister r (register_text newest_rules n r.territories) n r.territories
register_says n r small is =
    says n r.limits r.territories small (all_readable r is) is.distinct is.within

-- ---- one territory

-- a territory of a code among readable ones
found_by : (limits : Limits) (b : Bool) (m : EntryModel) (rest : Option EntryModel) (l : EntryModel)
    → IsReadable limits m → (rest ≡ Some l → IsReadable limits l) → cond b (Some m) rest ≡ Some l
    → IsReadable limits l
found_by limits true m rest l can more is = subst (IsReadable limits) (same_Some m l is) can
found_by limits false m rest l can more is = more is

found : (limits : Limits) (ls : List EntryModel) (code : List ℕ) (l : EntryModel)
    → AreReadable limits ls
    → entry_of code ls ≡ Some l → IsReadable limits l
found limits [] code l can is = absurd (none-some l is)
found limits (m ∷ ms) code l can is =
    found_by limits (bytes_eq code m.code) m (entry_of code ms) l can.0
    (λ more. found limits ms code l can.1 more) is

-- what a code finds among readable territories is said
said_of : (n : ℕ) (limits : Limits) (ls : List EntryModel) (code : List ℕ) (o : Option EntryModel)
    → n < 2 ^ 63 → AreReadable limits ls → length ls ≤ limits.lands → entry_of code ls ≡ o
    → SaysTerritories limits (register_text newest_rules n (if_there o)) n (if_there o)
said_of n limits ls code None small can within is = says n limits [] small tt tt (omega arith)
said_of n limits ls code (Some l) small can within is =
    let some = some_of ls code l is in
    says n limits (l ∷ []) small (found limits ls code l can is, tt) (refl, tt)
    (omega (arith, some, within))

-- the text of the territory of a code says it
pub territory_says : (n : ℕ) (code : List ℕ) (r : RegisterModel)
    → SaysTerritory r (text_of_code newest_rules n code r.territories) n code
territory_says n code r small is =
    said_of n r.limits r.territories code (entry_of code r.territories) small (all_readable r is)
    is.within refl
