-- What the grammar reads as an object, a member at a time, and the value that this is.
use Rattle.std.proofs.Common.{◌≡◌, ◌<◌, ◌≤◌, ◌-◌, ℕ, List, [], length, Option, Some, None}
use Rattle.std.proofs.Common.{option_map, option_and_then, refl, ap, ◌∙◌}
use Rattle.json.specs.Json as json
use Rattle.json.specs.Json.{if_last, members, parse_map, Parse, read_key}
use Rattle.json.specs.Token.{Token}
use Rattle.json.proofs.Grammar.{members_end, members_more}
use Rattle.serde_json.specs.Data.{Data, Members, no_members, object, put}
use Rattle.serde_json.specs.Read.{converted, of_json, of_members}

abbrev members_onto : Members → Option (json.Members × List Token) → Option (Members × List Token)
members_onto old = converted (λ ms. of_members ms old)

abbrev either : {A : Type 0} → A → Option A → A
either d None = d
either d (Some a) = a

parts_of_some : {B : Type 0} (r s : List Token) (x : Option B) (b : B)
    → option_map {U = B × List Token} (λ y. (y, r)) x ≡ Some (b, s) → (r ≡ s) × (x ≡ Some b)
parts_of_some r s None b e = absurd (cc)
parts_of_some r s (Some y) b e =
    let same = ap (either (y, r)) e in (ap (λ p. p.1) same, ap (λ p. Some p.0) same)

converted_some : {A B : Type 0} (f : A → Option B) (o : Option (A × List Token)) (b : B)
    (r : List Token) → converted f o ≡ Some (b, r) → (a : A) × (o ≡ Some (a, r)) × (f a ≡ Some b)
converted_some f None b r e = absurd (cc)
converted_some f (Some p) b r e =
    let both = parts_of_some p.1 r (f p.0) b e in
    (p.0, ap (λ s. Some (p.0, s)) both.0, both.1)

under_object : (r : List Token) (x : Option Members)
    → option_map (λ d. (d, r)) (option_map object x)
    ≡ parse_map object (option_map (λ ms. (ms, r)) x)
under_object r None = refl
under_object r (Some ms) = refl

pub object_read : (o : Option (json.Members × List Token))
    → converted of_json (parse_map json.object o) ≡ parse_map object (members_onto no_members o)
object_read None = refl
object_read (Some p) = under_object p.1 (of_members p.0 no_members)

with_first : (k : List ℕ) (j : json.Json) (d : Data) (old : Members) → of_json j ≡ Some d
    → (o : Option (json.Members × List Token))
    → members_onto old (parse_map (json.member k j) o) ≡ members_onto (put k d old) o
with_first k j d old e None = refl
with_first k j d old e (Some p) = rw e

-- a member that is read is put, and the others are read onto it
pub member_read : (p : Parse json.Json) (old : Members) (n : ℕ) (k : List ℕ) (ts s r : List Token)
    (d : Data) → 0 < n → read_key ts ≡ Some (Some k, s) → converted of_json (p s) ≡ Some (d, r)
    → members_onto old (members p n ts) ≡ members_onto (put k d old) (members p (n - 1) r)
member_read p old n k ts s r d some key e =
    let j = converted_some of_json (p s) d r e in
    ap (members_onto old) (members_more p n k ts s r j.0 some key j.1)
    ∙ with_first k j.0 d old j.2 _

-- after the last one they are those that were put
pub members_over : (p : Parse json.Json) (old : Members) (n : ℕ) (ts r : List Token)
    → length ts ≤ n → read_key ts ≡ Some (None, r)
    → members_onto old (members p n ts) ≡ Some (old, r)
members_over p old n ts r enough e = ap (members_onto old) (members_end p n ts r enough e)

abbrev whole : Option (json.Json × List Token) → Option Data
whole o = option_and_then of_json (option_and_then (λ p. if_last p.0 p.1) o)

-- a value after which nothing is left is that of the whole text
pub whole_read : (o : Option (json.Json × List Token)) (d : Data)
    → converted of_json o ≡ Some (d, []) → whole o ≡ Some d
whole_read o d e = let j = converted_some of_json o d [] e in ap whole j.1 ∙ j.2
