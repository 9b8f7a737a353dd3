use Rattle.std.proofs.Common.{◌≡◌, ℕ, ◌≤◌, ◌==◌, ◌&&◌, Bool, true, false, List, length, refl, ap}
use Rattle.std.proofs.Common.{sym, ◌∙◌, arith}
use Rattle.std.proofs.lemmas.Bool.Decides.{nat_tests}
use Rattle.std.specs.List.{list_all}
use Rattle.std.specs.Str.{is_utf8}
use Rattle.std.proofs.lemmas.Str.{is_utf8-from_IsUtf8}
use Rattle.osn_register.specs.Code.{has_length, is_name_byte}
use Rattle.osn_register.specs.Sources.{is_source}
use Rattle.osn_register.proofs.source.Source.is_source.Goals as goal

and_true : (b : Bool) → (b && true) ≡ b
and_true true = refl
and_true false = refl

-- a text of that length is a source by its bytes alone
given : (bytes : List ℕ) → (length bytes == 0) ≡ false → length bytes ≤ 1000 → is_utf8 bytes ≡ true
    →
    list_all is_name_byte bytes ≡ is_source bytes
given bytes some most valid =
    let fits : has_length 1 1000 bytes ≡ true = grind (arith, nat_tests) in
    sym (
    ap (λ b. b && (list_all is_name_byte bytes && is_utf8 bytes)) fits
    ∙ ap (λ b. list_all is_name_byte bytes && b) valid
    ∙ and_true (list_all is_name_byte bytes)
    )

pub returns : goal.returns
returns c =
    let bytes = c.as_bytes-bytes.ensures.value in
    let some : (length c.args.text.now == 0) ≡ false = rw (← bytes)
    (sym c.is_empty.ensures ∙ c.if-is_empty.false) in
    let most : length c.args.text.now ≤ 1000 = rw (← bytes) c.if-bytes-gt1000.false in
    c.are_name_bytes.ensures
    ∙ ap (list_all is_name_byte) bytes
    ∙ given c.args.text.now some most (is_utf8-from_IsUtf8 c.args.text.now c.utf8.text)
