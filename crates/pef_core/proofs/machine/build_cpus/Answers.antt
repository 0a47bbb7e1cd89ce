use Rattle.std.proofs.Common.{rules, ◌≡◌, ◌+◌, ◌^◌, ℕ, length, List, [], ◌∷◌, ◌++◌, sym, subst}
use Rattle.pef_guest.specs.declared.cpu.Cpu.{Cpu}
use Rattle.pef_guest.specs.Start.{IsStartCpu}
use Rattle.pef_core.specs.State.{Each}
use Rattle.pef_core.proofs.Lists.{each_push}
use Rattle.pef_core.proofs.machine.build_cpus.Goals as goal

-- the CPU that is added has the next number
pub loop-number-preserved : goal.loop-number-preserved
loop-number-preserved c =
    let P : ℕ → Cpu → Type 0 = λ n cpu. IsStartCpu n (2 ^ c.args.config.now.shift) cpu in
    let inv = c.loop-number.invariant in
    let items : c.push.new.self.items ≡ c.loop-number.cpus.items ++ c.in_ok-build.field-0 ∷ [] = search rules in
    let begun : IsStartCpu c.loop-number.number (2 ^ c.args.config.now.shift) c.in_ok-build.field-0 = search rules in
    let count : length c.push.new.self.items ≡ c.loop-number.number + 1 = search rules in
    (count, subst (λ (xs : List Cpu). Each P xs) (sym items) (each_push P c.loop-number.cpus.items c.in_ok-build.field-0 inv.1 (subst (λ (n : ℕ). P n c.in_ok-build.field-0) (sym inv.0) begun)))
