-- The result of reading a file by one rule, and so by another.
use Rattle.std.proofs.Common.{◌≡◌, ◌<◌, ◌≤◌, ℕ, Bool, List, [], Option, Some, None, Result, Ok}
use Rattle.std.proofs.Common.{Err, IfSome, IfErr, subst, sym, ap, ◌∙◌, arith, append-nil}
use Rattle.std.specs.Io.KnownBytes.{Consumes}
use Rattle.std.specs.Result.{IsErrAnd}
use Rattle.std.specs.Prelude.{⊤}
use Rattle.std.proofs.lemmas.Result.{err_from_is_err_and, IfErr-weaker}
use Rattle.osn_lines.specs.Lines.{lines}
use Rattle.osn_lines.specs.Takers.{HasRead, HasKeptUp}
use Rattle.osn_lines.proofs.ByteLemmas.{Consumes-nothing}
use Rattle.osn_files.specs.declared.fault.FileFault.{FileFault}
use Rattle.osn_files.specs.declared.fault.FileFault.TheVariants.{NoMemory, ReadFault, BadLine}
use Rattle.osn_files.specs.declared.fault.LineFault.{LineFault}
use Rattle.osn_files.specs.declared.fault.Role.{Role}
use Rattle.osn_files.specs.Faults.{MatchFileFault}
use Rattle.osn_files.specs.Files.{ReadsFile, AcceptsRead}

-- what follows for each input that is known
pub if_some : {P Q : List ℕ → Type 0} (o : Option (List ℕ)) → ((x : List ℕ) → P x → Q x)
    → IfSome o P → IfSome o Q
if_some None f h = tt
if_some (Some x) f h = f x h

-- a rule of a file's lines
abbrev Rule : Type 0 → Type 0
Rule A = List (List ℕ) → Result A (ℕ × LineFault)

-- the file as another rule reads it, which makes its own value of the same lines
pub ReadsFile-ok : {A B T U S : Type 0} {role : Role} {rule : Rule A} {rule_too : Rule B}
    {view : T → A} {view_too : U → B} {t : T} {u : U} {remaining : S → Option (List ℕ)}
    {has_failed : S → Bool} {old new : S}
    → ReadsFile role rule view (Ok t) remaining has_failed old new
    → ((ls : List (List ℕ)) → rule ls ≡ Ok (view t) → rule_too ls ≡ Ok (view_too u))
    → ReadsFile role rule_too view_too (Ok u) remaining has_failed old new
ReadsFile-ok h same = record {
  made = if_some _ (λ input made. same (lines input) made) h.made;
  end = h.end;
  sound = h.sound;
  fault = tt;
  reason = tt;
}

-- two rules refuse the same line for the same fault, or none
abbrev pub IsSameFault : {A B : Type 0} → Result A (ℕ × LineFault) → Result B (ℕ × LineFault)
    → Type 0
IsSameFault (Ok a) (Ok b) = ⊤
IsSameFault (Ok a) (Err f) = ⊥
IsSameFault (Err e) (Ok b) = ⊥
IsSameFault (Err e) (Err f) = e ≡ f

pub same_fault : {A : Type 0} (r s : Result A (ℕ × LineFault)) → r ≡ s → IsSameFault r s
same_fault (Ok a) (Ok b) is = tt
same_fault (Ok a) (Err f) is = absurd (cc)
same_fault (Err e) (Ok b) is = absurd (cc)
same_fault (Err e) (Err f) is = cc

is_fault : {A B : Type 0} (r : Result A (ℕ × LineFault)) (s : Result B (ℕ × LineFault))
    (e : ℕ × LineFault) → IsSameFault r s → r ≡ Err e → s ≡ Err e
is_fault (Ok a) s e same is = absurd (cc)
is_fault (Err f) (Ok b) e same is = absurd same
is_fault (Err f) (Err g) e same is =
    let named : f ≡ e = cc in ap Err (sym same ∙ named)

if_fault : {A B : Type 0} (r : Result A (ℕ × LineFault)) (s : Result B (ℕ × LineFault))
    (P : ℕ × LineFault → Type 0) → IsSameFault r s → IfErr r P → IfErr s P
if_fault r (Ok b) P same h = tt
if_fault (Ok a) (Err f) P same h = absurd same
if_fault (Err e) (Err f) P same h = subst P same h

module _ {A B : Type 0} (rule : Rule A) (rule_too : Rule B)
    (same : (ls : List (List ℕ)) → IsSameFault (rule ls) (rule_too ls)) where
  spares_too : (old new : Option (List ℕ)) (most : ℕ) → AcceptsRead rule old new most
      → AcceptsRead rule_too old new most
  spares_too old new most h = record {
    earlier = h.earlier;
    last = h.last;
    consumed = h.consumed;
    few = h.few;
    spared =
        if_some old (λ bytes k. if_fault (rule (lines bytes)) (rule_too (lines bytes)) _
        (same (lines bytes)) k) h.spared;
  }

  fault_too : (role : Role) (old new : Option (List ℕ)) (fault : FileFault)
      → MatchFileFault fault (AcceptsRead rule old new 65536) (AcceptsRead rule old new 0)
      (λ named line why.
      (named ≡ role) × IfSome old (λ bytes. rule (lines bytes) ≡ Err (line, why)))
      → MatchFileFault fault (AcceptsRead rule_too old new 65536) (AcceptsRead rule_too old new 0)
      (λ named line why.
      (named ≡ role) × IfSome old (λ bytes. rule_too (lines bytes) ≡ Err (line, why)))
  fault_too role old new NoMemory h = spares_too old new 65536 h
  fault_too role old new ReadFault h = spares_too old new 0 h
  fault_too role old new (BadLine named line why) h = (
    h.0,
    if_some old (λ bytes is. is_fault (rule (lines bytes)) (rule_too (lines bytes)) (line, why)
        (same (lines bytes)) is) h.1,
  )

module _ {A : Type 0} (rule : Rule A) (old new : Option (List ℕ)) (n : ℕ) where
  -- no line of those that were taken is refused, and those are all that ended
  pub spares_all : HasRead old new n
      → IfSome old (λ bytes. IfErr (rule (lines bytes)) (λ e. n < e.0)) → AcceptsRead rule old new 0
  spares_all h spared = record {
    earlier = h.read;
    last = [];
    consumed = subst (Consumes old new) (sym (append-nil h.read)) h.consumed;
    few = omega arith;
    spared =
        if_some old
        (λ bytes k. IfErr-weaker (rule (lines bytes)) _ _ (λ e lt. omega (arith, h.ended, lt)) k)
        spared;
  }

  -- no line of those that were taken is refused, and those are all that ended before the last bytes
  pub spares_most : HasKeptUp old new n
      → IfSome old (λ bytes. IfErr (rule (lines bytes)) (λ e. n < e.0))
      → AcceptsRead rule old new 65536
  spares_most h spared = record {
    earlier = h.earlier;
    last = h.last;
    consumed = h.consumed;
    few = h.few;
    spared =
        if_some old
        (λ bytes k. IfErr-weaker (rule (lines bytes)) _ _ (λ e lt. omega (arith, h.ended, lt)) k)
        spared;
  }

some_spared : {A : Type 0} (rule : Rule A) (input : Option (List ℕ))
    → ((ls : List (List ℕ)) → IfErr (rule ls) (λ e. 0 < e.0))
    → IfSome input (λ bytes. IfErr (rule (lines bytes)) (λ e. 1 ≤ e.0))
some_spared rule None first = tt
some_spared rule (Some bytes) first =
    IfErr-weaker (rule (lines bytes)) _ _ (λ e lt. omega (arith, lt)) (first (lines bytes))

-- if nothing was read, no line has ended
pub spares_nothing : {A : Type 0} (rule : Rule A) (input : Option (List ℕ)) (most : ℕ)
    → ((ls : List (List ℕ)) → IfErr (rule ls) (λ e. 0 < e.0)) → AcceptsRead rule input input most
spares_nothing rule input most first = record {
  earlier = [];
  last = [];
  consumed = Consumes-nothing input;
  few = omega arith;
  spared = some_spared rule input first;
}

-- the fault by another rule, if both rules have the same faults
pub ReadsFile-err : {A B T U S : Type 0} {role : Role} {rule : Rule A} {rule_too : Rule B}
    {view : T → A} {view_too : U → B} {fault : FileFault} {result : Result U FileFault}
    {remaining : S → Option (List ℕ)} {has_failed : S → Bool} {old new : S}
    → IsErrAnd result (λ e. e ≡ fault)
    → ReadsFile role rule view (Err fault) remaining has_failed old new
    → ((ls : List (List ℕ)) → IsSameFault (rule ls) (rule_too ls))
    → ReadsFile role rule_too view_too result remaining has_failed old new
ReadsFile-err {role = role} {rule = rule} {rule_too = rule_too} {view_too = view_too}
    {fault = fault} {result = result} {remaining = remaining} {has_failed = has_failed} {old = old}
    {new = new} failed h same =
    let err = err_from_is_err_and result failed in
    subst (λ r. ReadsFile role rule_too view_too r remaining has_failed old new)
    (sym (err.1 ∙ ap Err err.2))
    (record {
      made = tt;
      end = tt;
      sound = tt;
      fault = fault_too rule rule_too same role (remaining old) (remaining new) fault h.fault;
      reason = h.reason;
    })
