-- What a call that reads a file of lines gives.
use Rattle.std.specs.Prelude.{◌≡◌, ◌≤◌, ℕ, Bool, List, [], ◌∷◌, ◌++◌, length, Option, Result, Ok}
use Rattle.std.specs.Prelude.{Err, IfOk, IfErr, IfSome, OnOk}
use Rattle.std.specs.Io.KnownBytes.{Consumes, IsAtEnd}
use Rattle.osn_lines.specs.Lines.{lines}
use Rattle.osn_files.specs.declared.fault.FileFault.{FileFault}
use Rattle.osn_files.specs.declared.fault.LineFault.{LineFault}
use Rattle.osn_files.specs.declared.fault.Role.{Role}
use Rattle.osn_files.specs.Faults.{MatchFileFault, FailsByFault}

-- The rule refuses no line that ended in the earlier bytes of those that were read of a source. The
-- last ones are at most this many.
pub record AcceptsRead {A : Type 0} (rule : List (List ℕ) → Result A (ℕ × LineFault))
    (old new : Option (List ℕ)) (most : ℕ) : Type 0 where
  pub earlier : List ℕ
  pub last : List ℕ
  pub consumed : Consumes old new (earlier ++ last)
  pub few : length last ≤ most
  pub spared : IfSome old (λ input. IfErr (rule (lines input)) (λ refused.
      length (lines (earlier ++ 10 ∷ [])) ≤ refused.0))

-- A file of this role is read by a rule, which says what lines make, or the first fault and the
-- number of its line, counted from 1. The value that they make has this view. The source was `old`
-- before, and is `new` now. Its remaining bytes are described only if they are known.
pub record ReadsFile {A T S : Type 0} (role : Role)
    (rule : List (List ℕ) → Result A (ℕ × LineFault)) (view : T → A) (result : Result T FileFault)
    (remaining : S → Option (List ℕ)) (has_failed : S → Bool) (old new : S) : Type 0 where
  -- the value is the one that the rule makes of the lines of all bytes that were read
  pub made : IfOk result (λ made. IfSome (remaining old) (λ input.
      rule (lines input) ≡ Ok (view made)))
  -- all of the source was read, and it didn't fail
  pub end : OnOk result (IsAtEnd (remaining new))
  pub sound : OnOk result (has_failed new ≡ has_failed old)
  -- a line that is returned is one of this file, and the first that the rule refuses, with its
  -- fault. A read fault is returned only if no line that had ended is refused. NoMemory is returned
  -- only if no line is refused that had ended before the last 65,536 bytes were read
  pub fault : IfErr result (λ fault. MatchFileFault fault
      (AcceptsRead rule (remaining old) (remaining new) 65536)
      (AcceptsRead rule (remaining old) (remaining new) 0) (λ named line why.
      (named ≡ role)
      × IfSome (remaining old) (λ input. rule (lines input) ≡ Err (line, why))))
  -- after a read fault the source failed, or gave no end in 4,294,967,295 reads; otherwise it is as
  -- it was
  pub reason : IfErr result (FailsByFault (has_failed old) (has_failed new) (remaining old))
