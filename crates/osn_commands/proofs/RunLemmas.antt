-- A run of the program did what its contract says.
use Rattle.std.proofs.Common.{◌≡◌, ◌≢◌, Bool, true, List, ℕ, Result, Ok, Err, IfOk, IfErr, OnErr}
use Rattle.std.proofs.Common.{sym, subst, inl, inr}
use Rattle.std.specs.Result.{is_ok}
use Rattle.clap.specs.Words.{HasKind, fault_of, kind_of}
use Rattle.clap.specs.declared.error.Error.{Error}
use Rattle.clap.specs.declared.error.kind.ErrorKind.{ErrorKind}
use Rattle.clap.specs.declared.error.kind.ErrorKind.TheVariants.{OutOfMemory}
use Rattle.osn_register.specs.declared.limits.Limits.{Limits}
use Rattle.osn_invocation.specs.Grammar.{command_line}
use Rattle.osn_invocation.specs.Invocation.{command_model}
use Rattle.osn_invocation.specs.declared.invocation.CommandWords.{CommandWords}
use Rattle.osn_lines.specs.Streams.{Input, Output}
use Rattle.osn_report.specs.Folders.{Folders, ReadsOne, ReadsTwo}
use Rattle.osn_report.specs.Printing.{PrintsIfMade, PrintsOrReports}
use Rattle.osn_report.specs.declared.fault.CommandFault.{CommandFault}
use Rattle.osn_report.specs.declared.status.Status.{Status}
use Rattle.osn_commands.specs.Help.{help_on}
use Rattle.osn_commands.specs.Run.{Fails, IsHelp, PrintsSuch, Runs, RunsWords, ShowsOrEnds}

-- what was run is what these words ask for
pub ran : (limits : Limits) (given found : CommandWords) (CanFail : Bool → Type 0)
    (CanStay : Type 0) (d : Folders) (i : Input) (o e : Output) (status : Status)
    → given ≡ found → Runs limits (command_model found) CanFail CanStay d i o e status
    → Runs limits (command_model given) CanFail CanStay d i o e status
ran limits given found CanFail CanStay d i o e status is h =
    subst (λ w. Runs limits (command_model w) CanFail CanStay d i o e status) (sym is) h

-- help is not NoMemory
help_is_no_fault : (kind : ErrorKind) → IsHelp kind → kind ≢ OutOfMemory
help_is_no_fault kind (inl help) e = cc
help_is_no_fault kind (inr version) e = cc

-- help was shown
pub shows_help : (kind given : ErrorKind) (more : List ℕ) (o e : Output) (status : Status)
    (text : List ℕ)
    → given ≡ kind → IsHelp given → PrintsIfMade text o e status
    → ShowsOrEnds kind more o e status
shows_help kind given more o e status text is help (inl printed) =
    let request = subst IsHelp is help in
    inr (help_is_no_fault kind request, (text, inl (request, printed)))
shows_help kind given more o e status text is help (inr memory) = inl memory

-- what the grammar refuses was shown
pub show_runs : (arguments args : List (List ℕ)) (error : Error) (CanFail : Bool → Type 0)
    (CanStay : Type 0) (d : Folders) (i : Input) (o e : Output) (status : Status)
    → HasKind (fault_of command_line args) error → d.after ≡ d.before
    → ShowsOrEnds (kind_of error) (help_on (kind_of error) arguments) o e status
    → RunsWords arguments args CanFail CanStay d i o e status
show_runs arguments args error CanFail CanStay d i o e status kind same (inl first) =
    inr (same, inl first)
show_runs arguments args error CanFail CanStay d i o e status (inl memory) same (inr escaped) =
    absurd (escaped.0 memory)
show_runs arguments args error CanFail CanStay d i o e status (inr among) same (inr escaped) =
    inr (same, inr (kind_of error, among, escaped.1))

-- why what was run ended early is why these words did
pub failed : (limits : Limits) (given found : CommandWords) (CanFail : Bool → Type 0)
    (d : Folders) (path : List ℕ) (fault : CommandFault)
    → given ≡ found → Fails limits (command_model found) CanFail d path fault
    → Fails limits (command_model given) CanFail d path fault
failed limits given found CanFail d path fault is h =
    subst (λ w. Fails limits (command_model w) CanFail d path fault) (sym is) h

-- the text that a command made of its files was printed
module _ {T F : Type 0} (bytes : T → List ℕ) (CanFail : Bool → Type 0) (d : Folders) (o e : Output)
    (status : Status) where
  pub one_printed : (made : Result T F) (path : List ℕ) (Such : Input → List ℕ → Type 0)
      → IfOk made (λ text. ReadsOne path CanFail d (λ file. Such file (bytes text)))
      → is_ok made ≡ true → IfOk made (λ text. PrintsOrReports (bytes text) o e status)
      → ReadsOne path CanFail d (λ file. PrintsSuch (Such file) o e status)
  one_printed (Ok text) path Such h ok prints =
      (h.0, h.1, h.2, (bytes text, h.3, prints))
  one_printed (Err failure) path Such h ok prints = absurd (cc)

  pub two_printed : (made : Result T F) (first second : List ℕ)
      (Such : Input → Input → List ℕ → Type 0)
      → IfOk made (λ text. ReadsTwo first second CanFail d
      (λ file other. Such file other (bytes text)))
      → is_ok made ≡ true → IfOk made (λ text. PrintsOrReports (bytes text) o e status)
      → ReadsTwo first second CanFail d (λ file other. PrintsSuch (Such file other) o e status)
  two_printed (Ok text) first second Such h ok prints =
      (h.0, h.1, h.2, h.3, h.4, (bytes text, h.5, prints))
  two_printed (Err failure) first second Such h ok prints = absurd (cc)

-- why a command has no text
pub if_failed : {T F : Type 0} (made : Result T F) (failure : F) (Why : F → Type 0)
    → made ≡ Err failure → IfErr made Why → Why failure
if_failed made failure Why is h = subst (λ r. IfErr r Why) is h

-- what a command did whose file was opened, and what is known if it was not
pub if_done : {T F : Type 0} (done : Result T F) (status : T) (Did : T → Type 0)
    → done ≡ Ok status → IfOk done Did → Did status
if_done done status Did is h = subst (λ r. IfOk r Did) is h

pub not_done : {T F : Type 0} (done : Result T F) (cause : F) (Why : Type 0)
    → done ≡ Err cause → OnErr done Why → Why
not_done done cause Why is h = subst (λ r. OnErr r Why) is h

-- the fault of the arguments was shown with the help on the typed words
pub show_typed : (arguments args : List (List ℕ)) (error : Error) (help : List ℕ)
    (CanFail : Bool → Type 0) (CanStay : Type 0) (d : Folders) (i : Input) (o e : Output)
    (status : Status)
    → HasKind (fault_of command_line args) error → d.after ≡ d.before
    → help ≡ help_on (kind_of error) arguments → ShowsOrEnds (kind_of error) help o e status
    → RunsWords arguments args CanFail CanStay d i o e status
show_typed arguments args error help CanFail CanStay d i o e status kind same is escaped =
    show_runs arguments args error CanFail CanStay d i o e status kind same
    (subst (λ help. ShowsOrEnds (kind_of error) help o e status) is escaped)
