-- Why a line has no text, by why there is no page.
use Rattle.std.proofs.Common.{◌≡◌, Option, None, Result, Ok, Err, IfErr, OnOk}
use Rattle.std.proofs.Common.{inl, inr}
use Rattle.osn_register.specs.Refusal.{IsRefusalOrNoMemory}
use Rattle.osn_register.specs.declared.refusal.Refusal.{Refusal}
use Rattle.osn_page_commands.specs.PageText.{IsRefusalOrLack}

-- what refuses a page refuses a line
refusal_or_lack : (refused : Option Refusal) (f : Refusal) → IsRefusalOrNoMemory refused f
    → IsRefusalOrLack refused f
refusal_or_lack refused f (inl some) = inl some
refusal_or_lack refused f (inr none) = inr none.0

-- if nothing refuses, memory ran out
lack_alone : (refused : Option Refusal) (f : Refusal) → refused ≡ None → IsRefusalOrLack refused f
    → IsRefusalOrNoMemory refused f
lack_alone refused f none (inl some) = inl some
lack_alone refused f none (inr is) = inr (is, none)

pub line_refused : {T : Type 0} (result : Result T Refusal) (refused : Option Refusal)
    → IfErr result (IsRefusalOrNoMemory refused) → IfErr result (IsRefusalOrLack refused)
line_refused (Ok text) refused h = h
line_refused (Err f) refused h = refusal_or_lack refused f h

pub lines_refused : {T : Type 0} (result : Result T Refusal) (refused : Option Refusal)
    → refused ≡ None → IfErr result (IsRefusalOrLack refused)
    → IfErr result (IsRefusalOrNoMemory refused)
lines_refused (Ok text) refused none h = h
lines_refused (Err f) refused none h = lack_alone refused f none h

-- what holds anyhow holds of what is made
pub on_any : {T E P : Type 0} (result : Result T E) → P → OnOk result P
on_any (Ok made) h = h
on_any (Err f) h = tt
