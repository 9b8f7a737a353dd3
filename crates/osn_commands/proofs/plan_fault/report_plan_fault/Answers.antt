use Rattle.std.proofs.Common.{◌≡◌, ◌∙◌, ℕ, List, refl}
use Rattle.std.proofs.lemmas.Result.{IfOk-weaker}
use Rattle.osn_register.specs.declared.refusal.Refusal.{Refusal}
use Rattle.osn_commands.specs.PlanFault.{refused_line, renamed_line}
use Rattle.osn_commands.proofs.plan_fault.report_plan_fault.Goals as goal

same_renamed : (path a code b name c new_name : List ℕ) → a ≡ code → b ≡ name → c ≡ new_name
    → renamed_line path a b c ≡ renamed_line path code name new_name
same_renamed path a code b name c new_name p q r = rw (p, q, r) refl

same_refused : (path a code : List ℕ) (refusal : Refusal) → a ≡ code
    → refused_line path a refusal ≡ refused_line path code refusal
same_refused path a code refusal p = rw p refl

pub returns-in-Renamed : goal.returns-in-Renamed
returns-in-Renamed g c =
    let fault = c.in-Renamed in
    let path = c.args.path.now in
    rw fault.is (c.report_line.ensures (renamed_line path fault.code fault.name fault.new_name)
    (IfOk-weaker c.renamed_line-line.result _ _
    (λ line is. is ∙ same_renamed path _ _ _ _ _ _ c.as_str.ensures.value
    c.as_str-in-Renamed.ensures.value c.as_str-in-Renamed-2.ensures.value)
    c.renamed_line-line.ensures))

pub returns-in-Refused : goal.returns-in-Refused
returns-in-Refused g c =
    let fault = c.in-Refused in
    let path = c.args.path.now in
    rw fault.is (c.report_line-in-Refused.ensures (refused_line path fault.code fault.refusal)
    (IfOk-weaker c.refused_line-line.result _ _
    (λ line is. is ∙ same_refused path _ _ fault.refusal c.as_str-in-Refused.ensures.value)
    c.refused_line-line.ensures))
