use Rattle.std.proofs.Common.{◌≡◌, ◌<◌, ◌-◌, ℕ, List, ◌∷◌, length, Option, Some, None}
use Rattle.std.proofs.Common.{ap, ◌∙◌, sym, arith}
use Rattle.std.proofs.lemmas.List.Sums.{fold-append}
use Rattle.json.specs.Json as json
use Rattle.json.specs.Token.{Token}
use Rattle.json.specs.Json.{read_key, members, value}
use Rattle.json.specs.Reads.{token_of}
use Rattle.json.proofs.Grammar.{read_key-shorter}
use Rattle.serde_json.specs.Read.{converted, of_json, of_members}
use Rattle.serde_json.specs.Data.{Members, no_members}
use Rattle.osn_request.specs.Flat.{put_all, scalar_data, with_member}
use Rattle.osn_request.proofs.TreeLemmas.{member_read, members_over}
use Rattle.osn_request.proofs.request.flat.reading.members_in.Goals as goal

abbrev onto : Members → Option (json.Members × List Token) → Option (Members × List Token)
onto old = converted (λ ms. of_members ms old)

pub loop-name-preserved : goal.loop-name-preserved
loop-name-preserved c =
    let l = c.loop-name in
    let n = l.invariant.0 in
    let s = c.next_key.new.self in
    let r = c.next.new.self in
    let k = c.in-Some.name.now in
    let named : read_key l.reader ≡ Some (Some k, s) = grind arith in
    let first : s ≡ token_of c.in_ok-next.field-0 ∷ r = grind arith in
    let shorter = read_key-shorter l.reader (Some k) s named in
    let lesser : length r < length s = rw first (omega arith) in
    let old = put_all l.members.items in
    let d = scalar_data c.in_ok-value.value in
    let put = ap put_all c.push.ensures.items
    ∙ fold-append with_member no_members l.members.items _ in
    let some : 0 < n = omega (arith, l.invariant.1, shorter) in
    let value_read : (depth : ℕ) → converted of_json (value depth s) ≡ Some (d, r) =
    λ depth.
    ap (λ ts. converted of_json (value depth ts)) first ∙ c.in_ok-value.ensures depth r in (
      n - 1,
      omega (arith, l.invariant.1, shorter, lesser),
      λ depth. l.invariant.2 depth
          ∙ member_read (value depth) old n k l.reader s r d some named
          (value_read depth)
          ∙ ap (λ found. onto found (members (value depth) (n - 1) r)) (sym put),
    )

pub returns : goal.returns
returns c depth =
    let l = c.loop-name in
    let r = c.next_key.new.self in
    let old = put_all l.members.items in
    let last : read_key l.reader ≡ Some (None, r) = grind arith in
    l.invariant.2 depth
    ∙ members_over (value depth) old l.invariant.0 l.reader r l.invariant.1 last
