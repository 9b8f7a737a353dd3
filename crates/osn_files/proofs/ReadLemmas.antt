-- The result of a file that is being read, by its lines and at their end.
use Rattle.std.proofs.Common.{◌≡◌, ℕ, ◌+◌, ◌<◌, List, [], ◌∷◌, ◌++◌, length, take, drop, zero, suc}
use Rattle.std.proofs.Common.{Option, Some, None, Result, Ok, Err, IfSome, IfErr, refl, sym, ap}
use Rattle.std.proofs.Common.{unwrap_or, Bool, ◌∙◌, arith, append-nil, append_assoc}
use Rattle.std.proofs.Common.{length-append, subst}
use Rattle.std.proofs.lemmas.List.{take-append-drop}
use Rattle.std.specs.Prelude.{slice_get}
use Rattle.serde_json.specs.Data.{Data}
use Rattle.osn_lines.specs.Lines.{lines}
use Rattle.osn_lines.specs.declared.fault.TakeFault.{TakeFault}
use Rattle.osn_lines.specs.declared.fault.TakeFault.TheVariants as ends
use Rattle.osn_lines.specs.Faults.{MatchFault, IsReadFault}
use Rattle.osn_lines.specs.Takers.{TakesAll, TakesFirst, TakesEnded, StopsAfter}
use Rattle.osn_lines.specs.Takers.{HasKeptUp}
use Rattle.osn_request.specs.declared.request.RequestError.{RequestError}
use Rattle.osn_request.specs.declared.request.RequestError.TheVariants as errors
use Rattle.osn_request.specs.declared.wire_fault.WireFault.{WireFault}
use Rattle.osn_request.specs.declared.wire_fault.WireFault.TheVariants.{BadHead}
use Rattle.osn_request.specs.Field.{◌>>=◌, or_fault}
use Rattle.osn_request.specs.Request.{object_of, Fails}
use Rattle.osn_request.specs.declared.version.Version.{Version}
use Rattle.osn_files.specs.declared.fault.LineFault.{LineFault}
use Rattle.osn_files.specs.declared.fault.LineFault.TheVariants.{Wire}
use Rattle.osn_files.specs.declared.fault.Role.{Role}
use Rattle.osn_files.specs.declared.reading.Reading.{Reading}
use Rattle.osn_files.specs.declared.stop.LineStop.{LineStop}
use Rattle.osn_files.specs.declared.stop.LineStop.TheVariants.{NoMemory, Fault}
use Rattle.osn_files.specs.Files.{ReadsFile}
use Rattle.osn_files.specs.LoadedText.{IsOfVersion}
use Rattle.osn_files.specs.ReadingInside.{after_line, with_version, goes_on, IsKnownOf, Reads}
use Rattle.osn_files.specs.ReadingInside.{Faults}
use Rattle.osn_files.specs.ReadingInside.{Spares, StaysKnown, StopsReading}
use Rattle.osn_files.specs.Stops.{Stops, stop_of, file_fault}
use Rattle.osn_files.specs.Turns.{on_read, go_on, in_turn}
use Rattle.osn_files.specs.Version.{version_in}
use Rattle.osn_files.proofs.FileLemmas.{if_some, spares_all, spares_most}
use Rattle.osn_files.proofs.TurnLemmas.{faults_after}

-- the rule of a fold
abbrev Rule : Type 0 → Type 0 → Type 0
Rule S A = S → Version → A → Data → Result A LineFault

-- what a line makes, and then those after it
in_turn-line : {A : Type 0} (step : Version → A → Data → Result A LineFault) (n : ℕ)
    (version : Option Version) (a : A) (line : List ℕ) (more : List (List ℕ))
    → in_turn step n version a (line ∷ more)
    ≡ go_on n (on_read (object_of line) (after_line step version a))
    (λ t. in_turn step (n + 1) t.0 t.1 more)
in_turn-line {A = A} step n None a line more =
    elim (object_of line) as (λ r.
    go_on n (on_read (r >>= λ d. or_fault BadHead (version_in d)) Ok)
    (λ v. in_turn step (n + 1) (Some v) a more)
    ≡ go_on n (on_read r (after_line step None a)) (λ t. in_turn step (n + 1) t.0 t.1 more)) [
      | Ok d ↦ elim (version_in d) as (λ o.
          go_on n (on_read (or_fault BadHead o) Ok) (λ v. in_turn step (n + 1) (Some v) a more)
          ≡ go_on {S = Option Version × A} n
          (on_read (or_fault BadHead o) (λ v. Ok (Some v, a)))
          (λ t. in_turn step (n + 1) t.0 t.1 more)) [
            | Some v ↦ refl
            | None ↦ refl
          ]
      | Err f ↦ refl
    ]
in_turn-line {A = A} step n (Some version) a line more =
    elim (object_of line) as (λ r.
    go_on n (on_read r (step version a)) (λ t. in_turn step (n + 1) (Some version) t more)
    ≡ go_on n (on_read r (after_line step (Some version) a))
    (λ t. in_turn step (n + 1) t.0 t.1 more)) [
      | Ok d ↦ elim (step version a d) as (λ r.
          go_on n r (λ t. in_turn step (n + 1) (Some version) t more)
          ≡ go_on n (with_version version r) (λ t. in_turn step (n + 1) t.0 t.1 more)) [
            | Ok t ↦ refl
            | Err f ↦ refl
          ]
      | Err f ↦ refl
    ]

-- the version after a line, if it is known
abbrev version_read : {A : Type 0} → Result (Option Version × A) LineFault → Option Version
version_read (Ok t) = t.0
version_read (Err f) = None

-- the version after a line that is a head
head_says : {A : Type 0} (line : List ℕ) (a b : A) (new : Option Version)
    (step : Version → A → Data → Result A LineFault)
    → on_read (object_of line) (after_line step None a) ≡ Ok (new, b)
    → IsKnownOf (line ∷ []) new
head_says {A = A} line a b new step =
    elim (object_of line) as (λ r.
    on_read r (after_line step None a) ≡ Ok (new, b)
    → KnownBy (r >>= λ d. or_fault BadHead (version_in d)) new) [
      | Ok d ↦ version_of_head (version_in d)
      | Err f ↦ λ h. absurd (cc)
    ]
  where
    KnownBy : Result Version WireFault → Option Version → Type 0
    KnownBy r None = line ∷ [] ≡ []
    KnownBy r (Some v) = r ≡ Ok v

    version_of_head : (o : Option Version)
        → on_read {S = Option Version × A} (or_fault BadHead o) (λ v. Ok (Some v, a)) ≡ Ok (new, b)
        → KnownBy (or_fault BadHead o) new
    version_of_head (Some v) h = subst (KnownBy (Ok v)) (ap version_read h) refl
    version_of_head None h = absurd (cc)

-- the version after a line that follows a head
is_same : {A : Type 0} (line : List ℕ) (a b : A) (version : Version) (new : Option Version)
    (step : Version → A → Data → Result A LineFault)
    → on_read (object_of line) (after_line step (Some version) a) ≡ Ok (new, b) → Some version ≡ new
is_same {A = A} line a b version new step =
    elim (object_of line) as (λ r.
    on_read r (after_line step (Some version) a) ≡ Ok (new, b) → Some version ≡ new) [
      | Ok d ↦ version_stays (step version a d)
      | Err f ↦ λ h. absurd (cc)
    ]
  where
    version_stays : (r : Result A LineFault) → with_version version r ≡ Ok (new, b)
        → Some version ≡ new
    version_stays (Ok t) h = ap version_read h
    version_stays (Err f) h = absurd (cc)

-- the version is known by one line more
known-line : {A : Type 0} (step : Version → A → Data → Result A LineFault)
    (old new : Option Version) (a b : A) (before : List (List ℕ)) (line : List ℕ)
    → on_read (object_of line) (after_line step old a) ≡ Ok (new, b)
    → IsKnownOf before old → IsKnownOf (before ++ line ∷ []) new
known-line step None new a b before line one h =
    subst (λ ls. IsKnownOf (ls ++ line ∷ []) new) (sym h) (head_says line a b new step one)
known-line step (Some version) new a b [] line one h = absurd h
known-line step (Some version) new a b (head ∷ rest) line one h =
    subst (IsKnownOf (head ∷ (rest ++ line ∷ []))) (is_same line a b version new step one) h

-- a version that is known stays by one line more
stays-line : {A : Type 0} (step : Version → A → Data → Result A LineFault)
    (initial old new : Option Version) (a b : A) (line : List ℕ)
    → on_read (object_of line) (after_line step old a) ≡ Ok (new, b)
    → StaysKnown initial old → StaysKnown initial new
stays-line step None old new a b line one h = tt
stays-line step (Some v) None new a b line one h = absurd (cc)
stays-line step (Some v) (Some w) new a b line one h =
    sym (is_same line a b w new step one) ∙ h

fresh_by : (initial now : Option Version) (lines : List (List ℕ))
    → (initial ≡ None → IsKnownOf lines now) → StaysKnown initial now → now ≡ None → length lines
    ≡ 0
fresh_by None now lines known stays none =
    ap length (subst (IsKnownOf lines) none (known refl))
fresh_by (Some v) now lines known stays none = absurd (cc)

-- lines that were taken have no fault
Reads-spares : {S A : Type 0} (step : Rule S A) (state : S → A) (initial now : Reading S)
    (lines : List (List ℕ)) → Reads step state initial lines now → Spares step state initial lines
Reads-spares step state initial now lines h = λ more.
    subst (λ r. IfErr r (λ e. length lines < e.0)) (sym (h.0 more))
    (faults_after (step now.fold) (length lines) now.version (state now.fold) more
    (fresh_by initial.version now.version lines h.1 h.2))

-- a line was taken
pub Reads-line : {S A : Type 0} (step : Rule S A) (state : S → A) (initial old new : Reading S)
    (before : List (List ℕ)) (line : List ℕ) → Reads step state initial before old
    → on_read (object_of line) (after_line (step old.fold) old.version (state old.fold))
    ≡ Ok (new.version, state new.fold)
    → step new.fold ≡ step old.fold
    → Reads step state initial (before ++ line ∷ []) new
Reads-line step state initial old new before line h one same = (
  λ more.
      let n = length before + 1 in
      ap (goes_on step state initial 1) (append_assoc before (line ∷ []) more)
      ∙ (h.0 (line ∷ more)
      ∙ (in_turn-line (step old.fold) n old.version (state old.fold) line more
      ∙ (ap (λ r. go_on n r (λ t. in_turn (step old.fold) (n + 1) t.0 t.1 more)) one
      ∙ (ap (λ rule. in_turn rule (n + 1) new.version (state new.fold) more) (sym same)
      ∙ ap (λ k. goes_on step state new k more)
      (omega (arith, length-append before (line ∷ []))))))),
  λ none. known-line (step old.fold) old.version new.version (state old.fold) (state new.fold)
      before line one (h.1 none),
  stays-line (step old.fold) initial.version old.version new.version (state old.fold)
      (state new.fold) line one h.2,
)

-- a line stopped the reading
pub StopsReading-line : {S A : Type 0} (step : Rule S A) (state : S → A) (initial old : Reading S)
    (before : List (List ℕ)) (line : List ℕ) (why : LineStop) → Reads step state initial before old
    → Stops (on_read (object_of line) (after_line (step old.fold) old.version (state old.fold))) why
    → StopsReading step state initial before (Some line) why
StopsReading-line step state initial old before line NoMemory h stop =
    Reads-spares step state initial old before h
StopsReading-line step state initial old before line (Fault f) h stop = λ more.
    let n = length before + 1 in
    h.0 (line ∷ more)
    ∙ (in_turn-line (step old.fold) n old.version (state old.fold) line more
    ∙ ap (λ r. go_on n r (λ t. in_turn (step old.fold) (n + 1) t.0 t.1 more)) stop)

-- an object was read, of which this is made
pub made-object : {A : Type 0} (make : Data → Result A LineFault) (r : Result Data WireFault)
    (d : Data) (a : A) → r ≡ Ok d → make d ≡ Ok a → on_read r make ≡ Ok a
made-object make r d a read one = ap (λ o. on_read o make) read ∙ one

-- no object was read
pub Stops-none : {A : Type 0} (make : Data → Result A LineFault) (r : Result Data WireFault)
    (why : RequestError) → Fails why r → Stops (on_read r make) (stop_of why)
Stops-none make r errors.NoMemory none = tt
Stops-none make r (errors.Fault f) none = ap (λ o. on_read o make) none

pub Stops-fault : {A : Type 0} (make : Data → Result A LineFault) (r : Result Data WireFault)
    (f : WireFault) → r ≡ Err f → Stops (on_read r make) (Fault (Wire f))
Stops-fault make r f none = ap (λ o. on_read o make) none

-- an object that was read stops the reading
pub Stops-object : {A : Type 0} (make : Data → Result A LineFault) (r : Result Data WireFault)
    (d : Data) (why : LineStop) → r ≡ Ok d → Stops (make d) why → Stops (on_read r make) why
Stops-object make r d NoMemory read stop = tt
Stops-object make r d (Fault f) read stop = ap (λ o. on_read o make) read ∙ stop

stays_so : (version : Option Version) → StaysKnown version version
stays_so None = tt
stays_so (Some version) = refl

-- nothing was taken
begun_so : {S A : Type 0} (step : Rule S A) (state : S → A) (initial : Reading S)
    → Reads step state initial [] initial
begun_so step state initial =
    (λ more. refl, λ none. subst (IsKnownOf []) (sym none) refl, stays_so initial.version)

-- if all lines were taken, their result is that of no lines after them
ended : {S A : Type 0} (step : Rule S A) (state : S → A) (initial now : Reading S)
    (input : Option (List ℕ)) (n : ℕ) (r : Result A (ℕ × LineFault))
    → TakesAll (Reads step state) initial now input n
    → ((k : ℕ) → goes_on step state now k [] ≡ r)
    → IfSome input (λ bytes. goes_on step state initial 1 (lines bytes) ≡ r)
ended step state initial now input n r h is =
    if_some input
    (λ bytes all. ap (goes_on step state initial 1) (all ∙ sym (append-nil h.lines_taken))
    ∙ ((h.takes initial [] (begun_so step state initial)).0 [] ∙ is (length h.lines_taken + 1)))
    h.all

pub made-all : {S A : Type 0} (step : Rule S A) (state : S → A) (initial now : Reading S)
    (input : Option (List ℕ)) (n : ℕ) (version : Version) → now.version ≡ Some version
    → TakesAll (Reads step state) initial now input n
    → IfSome input (λ bytes. goes_on step state initial 1 (lines bytes) ≡ Ok (state now.fold))
made-all step state initial now input n version known h =
    ended step state initial now input n (Ok (state now.fold)) h
    (λ k. ap (λ v. in_turn (step now.fold) k v (state now.fold) []) known)

pub no-head : {S A : Type 0} (step : Rule S A) (state : S → A) (initial now : Reading S)
    (input : Option (List ℕ)) (n : ℕ) → now.version ≡ None
    → TakesAll (Reads step state) initial now input n
    → IfSome input (λ bytes. goes_on step state initial 1 (lines bytes) ≡ Err (1, Wire BadHead))
no-head step state initial now input n none h =
    ended step state initial now input n (Err (1, Wire BadHead)) h
    (λ k. ap (λ v. in_turn (step now.fold) k v (state now.fold) []) none)

-- the version is the one that the first line says, unless one was given
pub first_version : {S A : Type 0} (step : Rule S A) (state : S → A) (initial now : Reading S)
    (input : Option (List ℕ)) (n : ℕ) (version : Version) → now.version ≡ Some version
    → TakesAll (Reads step state) initial now input n → initial.version ≡ None
    → IfSome input (λ bytes. IsOfVersion version (lines bytes))
first_version step state initial now input n version known h none =
    let said =
    subst (IsKnownOf h.lines_taken) known
    ((h.takes initial [] (begun_so step state initial)).1 none) in
    if_some input (λ bytes all. subst (IsOfVersion version) (sym all) said) h.all

-- the version that was given stays
pub given_version : {S A : Type 0} (step : Rule S A) (state : S → A) (initial now : Reading S)
    (input : Option (List ℕ)) (n : ℕ) (version : Version) → now.version ≡ Some version
    → TakesAll (Reads step state) initial now input n
    → IfSome initial.version (λ known. version ≡ known)
given_version step state initial now input n version is h =
    same initial.version now.version is (h.takes initial [] (begun_so step state initial)).2
  where
    same : (old new : Option Version) → new ≡ Some version → StaysKnown old new
        → IfSome old (λ known. version ≡ known)
    same None new is stays = tt
    same (Some known) new is stays = ap (λ o. unwrap_or o known) (sym is ∙ stays)

-- a list from the element at a place
split_at : (xs : List (List ℕ)) (n : ℕ) (x : List ℕ) → slice_get xs n ≡ Some x
    → xs ≡ take n xs ++ x ∷ drop (suc n) xs
split_at [] n x h = absurd (cc)
split_at (y ∷ ys) zero x h = ap (λ o. unwrap_or o y ∷ ys) h
split_at (y ∷ ys) (suc n) x h = ap (λ l. y ∷ l) (split_at ys n x h)

stopped_at : {S A : Type 0} (step : Rule S A) (state : S → A) (initial : Reading S)
    (input : Option (List ℕ)) (n : ℕ) (taken : List (List ℕ)) (at : Option (List ℕ))
    (f : LineFault) → Faults step state initial taken at f → n ≡ length taken
    → IfSome input (λ bytes. take n (lines bytes) ≡ taken)
    → IfSome input (λ bytes. IfSome at (λ line. slice_get (lines bytes) n ≡ Some line))
    → IfSome input (λ bytes. goes_on step state initial 1 (lines bytes) ≡ Err (n + 1, f))
stopped_at step state initial None n taken at f faults count first next = tt
stopped_at step state initial (Some bytes) n taken None f faults count first next = absurd faults
stopped_at step state initial (Some bytes) n taken (Some line) f faults count first next =
    let more = drop (suc n) (lines bytes) in
    let all : lines bytes ≡ taken ++ line ∷ more =
    split_at (lines bytes) n line next ∙ ap (λ front. front ++ line ∷ more) first in
    ap (goes_on step state initial 1) all
    ∙ (faults more ∙ ap (λ k. Err (k + 1, f)) (sym count))

-- the first lines of an input have no fault
spared_first : {S A : Type 0} (step : Rule S A) (state : S → A) (initial : Reading S)
    (input : Option (List ℕ)) (n : ℕ) (taken : List (List ℕ)) → Spares step state initial taken
    → n ≡ length taken → IfSome input (λ bytes. take n (lines bytes) ≡ taken)
    → IfSome input (λ bytes. IfErr (goes_on step state initial 1 (lines bytes)) (λ e. n < e.0))
spared_first step state initial input n taken spares count first =
    if_some input
    (λ bytes e.
    let rest = drop n (lines bytes) in
    let all : taken ++ rest ≡ lines bytes =
    ap (λ l. l ++ rest) (sym e) ∙ take-append-drop n (lines bytes) in
    subst (λ (m : ℕ). IfErr (goes_on step state initial 1 (lines bytes)) (λ x. m < x.0)) (sym count)
    (subst (λ (ls : List (List ℕ)). IfErr (goes_on step state initial 1 ls)
    (λ x. length taken < x.0)) all (spares rest)))
    first

-- if the lines ended early, the file has the fault that is returned
pub ended_early : {F A T S : Type 0} (step : Rule F A) (state : F → A) (initial now : Reading F)
    (view : T → A) (role : Role) (n : ℕ) (cause : TakeFault LineStop)
    (remaining : S → Option (List ℕ)) (has_failed : S → Bool) (old new : S)
    → MatchFault cause (TakesFirst (Reads step state) initial now (remaining old) n)
    (TakesEnded (Reads step state) initial now (remaining old) (remaining new) n)
    (StopsAfter (Reads step state)
    (λ b ls at _ stop. StopsReading step state b ls at stop) initial now (remaining old) n)
    → HasKeptUp (remaining old) (remaining new) n
    → MatchFault cause (has_failed new ≡ has_failed old)
    (IsReadFault (has_failed new) (remaining old)) (λ _. has_failed new ≡ has_failed old)
    → ReadsFile role (goes_on step state initial 1) view (Err (file_fault role n cause)) remaining
    has_failed old new
ended_early step state initial now view role n ends.NoMemory remaining has_failed old new h recent
    reason =
    record {
      made = tt;
      end = tt;
      sound = tt;
      fault =
          spares_most (goes_on step state initial 1) (remaining old) (remaining new) n recent
          (spared_first step state initial (remaining old) n h.lines_taken
          (Reads-spares step state initial now h.lines_taken
          (h.takes initial [] (begun_so step state initial)))
          h.count h.first);
      reason = reason;
    }
ended_early step state initial now view role n ends.ReadFault remaining has_failed old new h recent
    reason =
    record {
      made = tt;
      end = tt;
      sound = tt;
      fault =
          spares_all (goes_on step state initial 1) (remaining old) (remaining new) n h.read
          (spared_first step state initial (remaining old) n h.first.lines_taken
          (Reads-spares step state initial now h.first.lines_taken
          (h.first.takes initial [] (begun_so step state initial))) h.first.count h.first.first);
      reason = reason;
    }
ended_early step state initial now view role n (ends.Stopped NoMemory) remaining has_failed old new
    h
    recent reason =
    record {
      made = tt;
      end = tt;
      sound = tt;
      fault =
          spares_most (goes_on step state initial 1) (remaining old) (remaining new) n recent
          (spared_first step state initial (remaining old) n h.lines_taken
          (h.stops initial [] (begun_so step state initial)) h.count h.first);
      reason = reason;
    }
ended_early step state initial now view role n (ends.Stopped (Fault f)) remaining has_failed old
    new h
    recent reason =
    record {
      made = tt;
      end = tt;
      sound = tt;
      fault = (
        refl,
        stopped_at step state initial (remaining old) n h.lines_taken h.at f
            (h.stops initial [] (begun_so step state initial)) h.count h.first h.next,
      );
      reason = reason;
    }
