-- What expressions define in a table is what they define below its header.
use Rattle.std.proofs.Common.{◌≡◌, ℕ, List, [], ◌∷◌, ◌++◌, Option, Some, None, option_map}
use Rattle.std.proofs.Common.{option_and_then, map, refl, sym, ap, ◌∙◌}
use Rattle.std.proofs.lemmas.Option.{none-some, same_Some}
use Rattle.toml_parser.specs.Strings.{Key}
use Rattle.toml.specs.Tables.{Nodes, open_table, header, insert, Edit, Definition, key_value}
use Rattle.toml.specs.Tables.{std_table, array_table, Expression, Document, along_header, at_key}
use Rattle.toml.specs.Tables.{put, define, define_as}
use Rattle.toml.proofs.NodeLaws.{along_found, get_node-insert, replace-insert}
use Rattle.toml.proofs.ReadLines.{run}
use Rattle.osn_register_text.proofs.Expressions.{under, under_as}

-- the nodes with a table that has its own header
abbrev pub with_table : List ℕ → Nodes → Nodes → Nodes
with_table code inner root = insert code (open_table header inner) root

-- an edit of the table
edit_in : (code : List ℕ) (path : List (List ℕ)) (e : Edit) (inner new root : Nodes)
    → along_header path e inner ≡ Some new
    → along_header (code ∷ path) e (with_table code inner root) ≡ Some (with_table code new root)
edit_in code path e inner new root made =
    along_found code path e (with_table code inner root) (open_table header inner)
    (get_node-insert code (open_table header inner) root)
    ∙ rw (made, replace-insert code (open_table header inner) (open_table header new) root) refl

-- what an edit made, and at which path
made_at : (o : Option Nodes) (p q : List (List ℕ)) (new : Nodes)
    → option_map {U = Document} (λ r. (r, p)) o ≡ Some (new, q) → (o ≡ Some new) × (p ≡ q)
made_at None p q new e = absurd (none-some (new, q) e)
made_at (Some r) p q new e =
    let same = same_Some (r, p) (new, q) e in
    (ap (λ d. Some d.0) same, ap (λ d. d.1) same)

define_below : (code : List ℕ) (inner new root : Nodes) (path next : List (List ℕ)) (key : Key)
    (what : Definition) → define_as (inner, path) key what ≡ Some (new, next)
    → define (with_table code inner root, code ∷ path) (under_as code key what)
    ≡ Some (with_table code new root, code ∷ next)
unfolding define
define_below code inner new root path next key (key_value d) e =
    let (made, same) = made_at (along_header path (put key d) inner) path next new e in
    rw (edit_in code path (put key d) inner new root made, same)
define_below code inner new root path next key std_table e =
    let (made, same) = made_at (along_header key.0 (at_key key.1 std_table) inner)
    (key.0 ++ key.1 ∷ []) next new e in
    rw (edit_in code key.0 (at_key key.1 std_table) inner new root made, same)
define_below code inner new root path next key array_table e =
    let (made, same) = made_at (along_header key.0 (at_key key.1 array_table) inner)
    (key.0 ++ key.1 ∷ []) next new e in
    rw (edit_in code key.0 (at_key key.1 array_table) inner new root made, same)

define_as-is : (doc : Document) (e : Expression) → define doc e ≡ define_as doc e.0 e.1
unfolding define
define_as-is doc e = refl

step_below : (code : List ℕ) (inner new root : Nodes) (path next : List (List ℕ)) (e : Expression)
    (es : List Expression) (o : Option Document) → define (inner, path) e ≡ o
    → option_and_then (λ d. run d es) o ≡ Some (new, next)
    → ((mid : Nodes) (at : List (List ℕ)) → run (mid, at) es ≡ Some (new, next)
    → run (with_table code mid root, code ∷ at) (map (under code) es)
    ≡ Some (with_table code new root, code ∷ next))
    → option_and_then (λ d. run d (map (under code) es))
    (define (with_table code inner root, code ∷ path) (under code e))
    ≡ Some (with_table code new root, code ∷ next)
step_below code inner new root path next e es None made whole more =
    absurd (none-some (new, next) whole)
step_below code inner new root path next e es (Some (mid, at)) made whole more =
    ap (option_and_then (λ d. run d (map (under code) es)))
    (define_below code inner mid root path at e.0 e.1 (sym (define_as-is (inner, path) e) ∙ made))
    ∙ more mid at whole

-- what expressions define in a table
pub run_below : (code : List ℕ) (es : List Expression) (inner new root : Nodes)
    (path next : List (List ℕ)) → run (inner, path) es ≡ Some (new, next)
    → run (with_table code inner root, code ∷ path) (map (under code) es)
    ≡ Some (with_table code new root, code ∷ next)
run_below code [] inner new root path next e =
    let same = same_Some (inner, path) (new, next) e in
    ap (λ (d : Document). Some (with_table code d.0 root, code ∷ d.1)) same
run_below code (e ∷ es) inner new root path next whole =
    step_below code inner new root path next e es (define (inner, path) e) refl whole
    (λ mid at left. run_below code es mid new root at next left)
