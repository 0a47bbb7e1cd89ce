-- The line of each status.
use Rattle.std.proofs.Common.{◌≡◌, codes, refl}
use Rattle.pef_top.specs.declared.outcome.RunOutcome.{RunOutcome}
use Rattle.pef_top.specs.FaultLine.{fault_text, limit_text, script_text}

pub text_one : (outcome : RunOutcome) → outcome.status ≡ 1 → fault_text outcome ≡ script_text outcome.line
text_one outcome is = rw is refl

pub text_two : (outcome : RunOutcome) → outcome.status ≡ 2 → fault_text outcome ≡ codes "pef: words\n"
text_two outcome is = rw is refl

pub text_three : (outcome : RunOutcome) → outcome.status ≡ 3 → fault_text outcome ≡ codes "pef: read fault\n"
text_three outcome is = rw is refl

pub text_four : (outcome : RunOutcome) → outcome.status ≡ 4 → fault_text outcome ≡ codes "pef: write fault\n"
text_four outcome is = rw is refl

pub text_five : (outcome : RunOutcome) → outcome.status ≡ 5 → fault_text outcome ≡ codes "pef: no memory\n"
text_five outcome is = rw is refl

pub text_six : (outcome : RunOutcome) → outcome.status ≡ 6 → fault_text outcome ≡ limit_text outcome
text_six outcome is = rw is refl
