-- A guest of which one vCPU's registers change.
use Rattle.std.proofs.Common.{◌≡◌, ℕ, ◌<◌, length, get_or, ap, ◌∙◌}
use Rattle.std.specs.Vec.{with_item}
use Rattle.pef_model.specs.declared.state.Regs.{Regs}
use Rattle.pef_regs.specs.declared.vcpu.Vcpu.{Vcpu}
use Rattle.pef_guest.specs.declared.guest.Guest.{Guest}
use Rattle.pef_regs.specs.Registers.{with_registers}
use Rattle.pef_guest.specs.Shows.{vcpu_at}
use Rattle.pef_guest.proofs.OneVcpu.{is_at}
use Rattle.pef_access.specs.Access.{with_change}

-- the vCPU that was written, with registers that changed this way
pub changed : {S : Type 0} (guest : Guest S) (vid : ℕ) (change : Regs → Regs) (vcpu : Vcpu) (regs : Regs) → vid < length guest.vcpus.items → vcpu ≡ get_or guest.vcpus.items vid vcpu → regs ≡ change vcpu.regs →
    record guest { vcpus = with_item guest.vcpus vid (with_registers vcpu regs) } ≡ with_change guest vid change
changed guest vid change vcpu regs below there is =
    let here : vcpu ≡ vcpu_at guest vid = is_at guest vid vcpu below there in
    let same : regs ≡ change (vcpu_at guest vid).regs = is ∙ ap (λ (v : Vcpu). change v.regs) here in
    λ i. record guest { vcpus = with_item guest.vcpus vid (with_registers (here i) (same i)) }
