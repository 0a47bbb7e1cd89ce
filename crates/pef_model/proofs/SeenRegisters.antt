-- The registers that the hypervisor can read on a CPU are those that were seen last.
use Rattle.std.proofs.Common.{[], ◌∷◌, refl, arith}
use Rattle.std.proofs.lemmas.Bool.Decides.{nat_tests}
use Rattle.std.proofs.lemmas.Grind.{common_steps}
use Rattle.pef_model.specs.SeenLaw.{RegistersAreSeen}
use Rattle.pef_model.proofs.Steps.{ctx_after}

-- by induction on the history: an entry of the CPU leaves the context that it tells, and another's leaves the CPU
pub registers_are_seen : RegistersAreSeen
registers_are_seen plan [] n legal runs = refl
registers_are_seen plan (e ∷ past) n legal runs =
    let before = registers_are_seen plan past n legal.1 in
    let after = ctx_after plan past e in
    grind (arith, nat_tests, common_steps)
