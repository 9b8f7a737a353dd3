-- Loops that append a line, or the lines, of each item.
use Rattle.std.proofs.Common.{◌≡◌, ◌⊎◌, ◌+◌, ◌<◌, ◌≤◌, arith, ℕ, List, [], ◌∷◌, ◌++◌, length}
use Rattle.std.proofs.Common.{take, get_or}
use Rattle.std.proofs.Common.{append_assoc, append-nil, add-one, refl, sym, ap, ◌∙◌, inl, inr, Vec}
use Rattle.std.proofs.Math.Seq.{take-suc}
use Rattle.std.proofs.lemmas.Grind.{flat_map-append}
use Rattle.std.specs.List.{flat_map}
use Rattle.std.specs.declared.alloc.Global.{Global}
use Rattle.osn_register.specs.declared.query.Query.{Query}
use Rattle.osn_core.specs.declared.step.Reply.{Reply}
use Rattle.osn_service.specs.Transcript.{transcript_line}
use Rattle.osn_file_commands.specs.Transcript.{reader_lines, transcript_from}

flat_map_next : {X A : Type 0} (f : X → List A) (xs : List X) (i : ℕ) (d : X) → i < length xs
    → flat_map f (take (i + 1) xs) ≡ flat_map f (take i xs) ++ f (get_or xs i d)
flat_map_next f xs i d low =
    rw (add-one i, take-suc xs i d low)
    (flat_map-append f (take i xs) (get_or xs i d ∷ [])
    ∙ ap (λ ys. flat_map f (take i xs) ++ ys) (append-nil (f (get_or xs i d))))

-- a loop that appends a line for each item
pub next_line : {X : Type 0} (f : X → List ℕ) (now new piece line : List ℕ) (xs : List X) (i : ℕ)
    (x : X) → i < length xs → now ≡ flat_map f (take i xs) → new ≡ now ++ piece
    → piece ≡ line → line ≡ f x → x ≡ get_or xs i x
    → new ≡ flat_map f (take (i + 1) xs)
next_line f now new piece line xs i x low so_far pushed shown made is =
    pushed ∙ ap (λ t. t ++ piece) so_far
    ∙ ap (λ t. flat_map f (take i xs) ++ t) (shown ∙ made ∙ ap f is)
    ∙ sym (flat_map_next f xs i x low)

-- a text is continued by a piece, which begins the remaining text
pub next_piece : (before now new piece line rest all left : List ℕ)
    → now ++ left ≡ before ++ all → left ≡ line ++ rest → new ≡ now ++ piece → piece ≡ line
    → new ++ rest ≡ before ++ all
next_piece before now new piece line rest all left so_far front pushed same =
    ap (λ t. t ++ rest) (pushed ∙ ap (λ t. now ++ t) same)
    ∙ append_assoc now line rest
    ∙ ap (λ t. now ++ t) (sym front)
    ∙ so_far

-- a text of which nothing is left
pub last_piece : (before now all left : List ℕ)
    → now ++ left ≡ before ++ all → left ≡ [] → now ≡ before ++ all
last_piece before now all left so_far none =
    sym (append-nil now) ∙ ap (λ t. now ++ t) (sym none) ∙ so_far

-- the lines of a reader, of whose questions and replies these are the first
pub reader_front : (reader : ℕ) (ls : List Query) (ms : List Reply) (q : Query) (qs : List Query)
    (r : Reply) (rs : List Reply) → ls ≡ q ∷ qs → ms ≡ r ∷ rs
    → reader_lines reader ls ms ≡ transcript_line reader q r ++ reader_lines reader qs rs
reader_front reader ls ms q qs r rs e k = rw (e, k) refl

pub reader_end : (reader : ℕ) (ls : List Query) (ms : List Reply) → (ls ≡ []) ⊎ (ms ≡ [])
    → reader_lines reader ls ms ≡ []
reader_end reader ls ms (inl e) = rw e refl
reader_end reader [] ms (inr e) = refl
reader_end reader (q ∷ qs) ms (inr e) = rw e refl

-- the lines of readers, of whom this is the first
pub readers_front : (reader next : ℕ) (ls : List (Vec Query Global)) (ms : List (Vec Reply Global))
    (qs : Vec Query Global) (lists : List (Vec Query Global))
    (rs : Vec Reply Global) (answers : List (Vec Reply Global))
    → ls ≡ qs ∷ lists → ms ≡ rs ∷ answers → next ≡ reader + 1
    → transcript_from reader ls ms
    ≡ reader_lines reader qs.items rs.items ++ transcript_from next lists answers
readers_front reader next ls ms qs lists rs answers e k n = rw (e, k, n) refl

pub readers_end : (reader : ℕ) (ls : List (Vec Query Global)) (ms : List (Vec Reply Global))
    → (ls ≡ []) ⊎ (ms ≡ []) → transcript_from reader ls ms ≡ []
readers_end reader ls ms (inl e) = rw e refl
readers_end reader [] ms (inr e) = refl
readers_end reader (qs ∷ lists) ms (inr e) = rw e refl

-- how many readers are left after the first
pub few_left : {X : Type 0} (reader : ℕ) (ls : List X) (x : X) (xs : List X)
    → ls ≡ x ∷ xs → reader + length ls ≤ 64 → reader + 1 + length xs ≤ 64
few_left reader ls x xs e few =
    let longer : length ls ≡ length xs + 1 = ap length e ∙ sym (add-one (length xs)) in
    omega (arith, longer, few)

pub same_lines : (reader : ℕ) (qs questions : List Query) (rs replies : List Reply)
    → qs ≡ questions → rs ≡ replies
    → reader_lines reader qs rs ≡ reader_lines reader questions replies
same_lines reader qs questions rs replies e k = rw (e, k) refl
