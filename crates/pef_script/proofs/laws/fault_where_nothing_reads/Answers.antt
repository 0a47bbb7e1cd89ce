use Rattle.std.proofs.Common.{◌≡◌, refl}
use Rattle.std.specs.Prelude.{Result, Ok, Err, None, IsSome, ◌↔◌}
use Rattle.pef_script.specs.Setting.{ok_of}
use Rattle.pef_script.specs.Script.{err_of, script_or_fault}
use Rattle.pef_script.proofs.laws.fault_where_nothing_reads.Goals as goal

one_of_both : {A E : Type 0} (r : Result A E) → IsSome (err_of r) ↔ (ok_of r ≡ None)
one_of_both (Ok x) = (λ yes. absurd (cc), λ e. absurd (cc))
one_of_both (Err e) = (λ yes. refl, λ yes. refl)

pub returns : goal.returns
returns c text = one_of_both (script_or_fault text)
