-- What the parts of a text say of a date, part by part from the last one.
use Rattle.std.proofs.Common.{◌≡◌, ℕ, Bool, true, false, ◌&&◌, ◌||◌, cond, List, [], ◌∷◌, ◌++◌}
use Rattle.std.proofs.Common.{filter}
use Rattle.std.proofs.Common.{Option, Some, None, Result, Ok, Err, refl, ap, ◌∙◌, length, arith}
use Rattle.std.proofs.lemmas.Bool.{ne_eqb}
use Rattle.std.specs.List.{list_any}
use Rattle.osn_days.specs.declared.weekday.Weekday.{Weekday}
use Rattle.osn_grammar.specs.declared.token.Token.{Token}
use Rattle.osn_grammar.specs.declared.token.Token.TheVariants as token
use Rattle.osn_written.specs.declared.written_date.DateFault.{DateFault}
use Rattle.osn_written.specs.declared.written_date.DateFault.TheVariants as faults
use Rattle.osn_grammar.specs.declared.text_reading.DateOrder.{DateOrder}
use Rattle.osn_written.specs.declared.any_date.Extent.{Extent}
use Rattle.osn_written.specs.declared.any_date.Reckoning.{Reckoning}
use Rattle.osn_grammar.specs.declared.text_reading.TextReading.TheVariants as say
use Rattle.osn_grammar.specs.Extent.{date_or_range, extent_of}
use Rattle.osn_written.specs.AnyDate.{has_three_digits}
use Rattle.osn_grammar.specs.Tokens.{is_of_time}
use Rattle.osn_grammar.specs.Reading.{read_date, reading_of_tokens, weekday_after, with_weekday}
use Rattle.osn_grammar.specs.Reading.{reckoning_after, with_reckoning, is_about, is_doubt}
use Rattle.osn_grammar.specs.Reading.{is_bracket, is_feast, is_undated, list_in, or_list, or_parts}
use Rattle.osn_grammar.specs.Reading.{or_phrase}
use Rattle.osn_grammar.specs.Reading.{or_set, or_years, set_in}
use Rattle.osn_grammar.specs.Scan.{tokens_in}
use Rattle.osn_grammar.specs.Simple.{◌>>=◌}
use Rattle.osn_grammar.proofs.TextFacts.{Scans, tokens_scanned}

-- what is named so far, with what the parts after it name
abbrev with_later : {X : Type 0} → Option X → Option X → Result (Option X) DateFault
with_later found None = Ok found
with_later None (Some x) = Ok (Some x)
with_later (Some y) (Some x) = Err faults.Malformed

-- the parts name this weekday and this calendar, say about, doubt and bracket or not, and these of
-- them say which day is meant
pub record Say (tokens times : List Token) (w : Option Weekday) (r : Option Reckoning)
    (a u s : Bool) : Type 0 where
  pub weekday : (found : Option Weekday) → weekday_after found tokens ≡ with_later found w
  pub reckoning : (found : Option Reckoning) → reckoning_after found tokens ≡ with_later found r
  pub about : list_any is_about tokens ≡ a
  pub doubt : list_any is_doubt tokens ≡ u
  pub bracket : list_any is_bracket tokens ≡ s
  pub feast : list_any is_feast tokens ≡ false
  pub time_tokens : filter is_of_time tokens ≡ times

nothing_later : {X : Type 0} (found : Option X) → Ok found ≡ with_later found None
nothing_later None = refl
nothing_later (Some x) = refl

none_before : {X : Type 0} (later : Option X) → with_later None later ≡ Ok later
none_before None = refl
none_before (Some x) = refl

pub nothing_says : Say [] [] None None false false false
nothing_says = record {
  weekday = nothing_later;
  reckoning = nothing_later;
  about = refl;
  doubt = refl;
  bracket = refl;
  feast = refl;
  time_tokens = refl;
}

-- ---- one part more

-- a part that names no weekday, no calendar and no feast
abbrev pub is_plain : Token → Bool
is_plain (token.Weekday w) = false
is_plain (token.Reckoning r) = false
is_plain (token.Feast w) = false
is_plain _ = true

weekday_stays : (found : Option Weekday) (p : Token) → is_plain p ≡ true
    → with_weekday found p ≡ Ok found
weekday_stays None (token.Weekday w) plain = absurd (cc)
weekday_stays (Some v) (token.Weekday w) plain = absurd (cc)
weekday_stays None p plain = refl
weekday_stays (Some v) p plain = refl

reckoning_stays : (found : Option Reckoning) (p : Token) → is_plain p ≡ true
    → with_reckoning found p ≡ Ok found
reckoning_stays None (token.Reckoning r) plain = absurd (cc)
reckoning_stays (Some v) (token.Reckoning r) plain = absurd (cc)
reckoning_stays None p plain = refl
reckoning_stays (Some v) p plain = refl

no_feast : (p : Token) → is_plain p ≡ true → is_feast p ≡ false
no_feast (token.Feast w) plain = absurd (cc)
no_feast p plain = refl

pub token_adds : {ps ts : List Token} {w : Option Weekday} {r : Option Reckoning} {a u s : Bool}
    (p : Token) → is_plain p ≡ true → Say ps ts w r a u s
    → Say (p ∷ ps) (cond (is_of_time p) (p ∷ ts) ts) w r (is_about p || a) (is_doubt p || u)
    (is_bracket p || s)
token_adds {ps} p plain rest_says = record {
  weekday = λ found. ap (λ read. read >>= (λ next. weekday_after next ps))
      (weekday_stays found p plain) ∙ rest_says.weekday found;
  reckoning = λ found. ap (λ read. read >>= (λ next. reckoning_after next ps))
      (reckoning_stays found p plain) ∙ rest_says.reckoning found;
  about = ap (λ b. is_about p || b) rest_says.about;
  doubt = ap (λ b. is_doubt p || b) rest_says.doubt;
  bracket = ap (λ b. is_bracket p || b) rest_says.bracket;
  feast = rw (no_feast p plain) rest_says.feast;
  time_tokens = ap (λ ts. cond (is_of_time p) (p ∷ ts) ts) rest_says.time_tokens;
}

reckoning_at_weekday : (found : Option Reckoning) (v : Weekday)
    → with_reckoning found (token.Weekday v) ≡ Ok found
reckoning_at_weekday None v = refl
reckoning_at_weekday (Some other) v = refl

weekday_at_reckoning : (found : Option Weekday) (v : Reckoning)
    → with_weekday found (token.Reckoning v) ≡ Ok found
weekday_at_reckoning None v = refl
weekday_at_reckoning (Some other) v = refl

one_weekday : (v : Weekday) (ps : List Token) (found : Option Weekday)
    → weekday_after (Some v) ps ≡ Ok (Some v)
    → weekday_after found (token.Weekday v ∷ ps) ≡ with_later found (Some v)
one_weekday v ps None rest = rest
one_weekday v ps (Some other) rest = refl

pub weekday_adds : {ps ts : List Token} {r : Option Reckoning} {a u s : Bool} (v : Weekday)
    → Say ps ts None r a u s → Say (token.Weekday v ∷ ps) ts (Some v) r a u s
weekday_adds {ps} v rest_says = record {
  weekday = λ found. one_weekday v ps found (rest_says.weekday (Some v));
  reckoning = λ found. ap (λ read. read >>= (λ next. reckoning_after next ps))
      (reckoning_at_weekday found v) ∙ rest_says.reckoning found;
  about = rest_says.about;
  doubt = rest_says.doubt;
  bracket = rest_says.bracket;
  feast = rest_says.feast;
  time_tokens = rest_says.time_tokens;
}

one_reckoning : (v : Reckoning) (ps : List Token) (found : Option Reckoning)
    → reckoning_after (Some v) ps ≡ Ok (Some v)
    → reckoning_after found (token.Reckoning v ∷ ps) ≡ with_later found (Some v)
one_reckoning v ps None rest = rest
one_reckoning v ps (Some other) rest = refl

pub reckoning_adds : {ps ts : List Token} {w : Option Weekday} {a u s : Bool} (v : Reckoning)
    → Say ps ts w None a u s → Say (token.Reckoning v ∷ ps) ts w (Some v) a u s
reckoning_adds {ps} v rest_says = record {
  weekday = λ found. ap (λ read. read >>= (λ next. weekday_after next ps))
      (weekday_at_reckoning found v) ∙ rest_says.weekday found;
  reckoning = λ found. one_reckoning v ps found (rest_says.reckoning (Some v));
  about = rest_says.about;
  doubt = rest_says.doubt;
  bracket = rest_says.bracket;
  feast = rest_says.feast;
  time_tokens = rest_says.time_tokens;
}

-- parts that only add some that say which day is meant
abbrev pub Adds : List Token → Type 0
Adds ps =
    (rest ts : List Token) (w : Option Weekday) (r : Option Reckoning) (a u s : Bool)
    → Say rest ts w r a u s → Say (ps ++ rest) (ps ++ ts) w r a u s

-- ---- the date

tokens_read : {ts : List Token} {w : Option Weekday} {r : Option Reckoning} {a u s : Bool}
    (ps : List Token) (o : DateOrder) (e : Extent) → Say ps ts w r a u s → is_undated ts ≡ false
    → (has_three_digits e && (u || s)) ≡ false → extent_of o ts ≡ Ok e
    → reading_of_tokens o ps (filter is_of_time ps) ≡ Ok (say.Date (record {
      extent = e;
      weekday = w;
      reckoning = r;
      is_approximate = a;
      is_uncertain = u;
      is_supplied = s;
    }))
unfolding date_or_range
tokens_read {ts} [] o e read dated sure is =
    let none : Err faults.Malformed ≡ Ok e = ap (extent_of o) read.time_tokens ∙ is in absurd (cc)
tokens_read {ts} {w} {r} (p ∷ ps) o e read dated sure is =
    rw (
      ne_eqb (length (p ∷ ps)) 0 (λ none. omega (arith, none)),
      read.time_tokens,
      dated,
      read.feast,
      read.weekday None,
      read.reckoning None,
      none_before w,
      none_before r,
      is,
      read.about,
      read.doubt,
      read.bracket,
      sure,
    ) refl

-- ---- a text

-- the parts of the text say this, and these of them say which day is meant
pub record TextSays (text : List ℕ) (time_tokens : List Token) (w : Option Weekday)
    (r : Option Reckoning)
    (a u s : Bool) : Type 0 where
  pub tokens : List Token
  pub scans : Scans text tokens
  pub says : Say tokens time_tokens w r a u s

-- such a text is read as the date
pub text_read : {text : List ℕ} {ts : List Token} {w : Option Weekday} {r : Option Reckoning}
    {a u s : Bool} (o : DateOrder) (e : Extent) → TextSays text ts w r a u s → is_undated ts ≡ false
    → (has_three_digits e && (u || s)) ≡ false → extent_of o ts ≡ Ok e
    → read_date o text ≡ Ok (say.Date (record {
      extent = e;
      weekday = w;
      reckoning = r;
      is_approximate = a;
      is_uncertain = u;
      is_supplied = s;
    }))
unfolding read_date
text_read {text} o e scanned dated sure is =
    let tokens = tokens_in text in
    ap (λ read. or_list (list_in text)
    (or_phrase o text (or_parts o tokens (filter is_of_time tokens) read)))
    (ap (λ ps. or_years text (or_set (set_in text) (reading_of_tokens o ps (filter is_of_time ps))))
    (tokens_scanned scanned.scans)
    ∙ ap (λ read. or_years text (or_set (set_in text) read))
    (tokens_read scanned.tokens o e scanned.says dated sure is))
