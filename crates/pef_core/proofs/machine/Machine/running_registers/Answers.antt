use Rattle.std.proofs.Common.{rules, ◌-◌, ◌<◌, length, replicate, sym, subst, ◌∙◌}
use Rattle.pef_regs.specs.declared.vcpu.Vcpu.{Vcpu}
use Rattle.pef_guest.proofs.OneVcpu.{is_at}
use Rattle.pef_core.specs.State.{State}
use Rattle.pef_core.specs.Did.{HasRegisters}
use Rattle.pef_core.proofs.Places.{read_at, guest_below, vcpu_below}
use Rattle.pef_core.proofs.Sites.{state_of}
use Rattle.pef_core.proofs.Seeing.{runs_vcpu, has_registers, has_none}
use Rattle.pef_core.proofs.machine.Machine.running_registers.Goals as goal

-- the vCPU that runs is one of the machine's
pub overflow_sub-run : goal.overflow_sub-run
overflow_sub-run g c =
    let below = subst (λ (m : State _). c.args.cpu < length m.cpus) (sym c.self.view_is) c.requires in
    let there = read_at c.self.inside.cpus.items c.args.cpu c.index.result.now below c.index.ensures in
    (runs_vcpu g.S.Seal.takes g.S.Seal.stands g.S.Seal.image (state_of c.self.inside) c.args.cpu c.self.invariant c.index.result.now there c.in-Guest.run' c.in-Guest.is).least

pub index-requires-in-Guest : goal.index-requires-in-Guest
index-requires-in-Guest g c =
    let below = subst (λ (m : State _). c.args.cpu < length m.cpus) (sym c.self.view_is) c.requires in
    let there = read_at c.self.inside.cpus.items c.args.cpu c.index.result.now below c.index.ensures in
    let one = runs_vcpu g.S.Seal.takes g.S.Seal.stands g.S.Seal.image (state_of c.self.inside) c.args.cpu c.self.invariant c.index.result.now there c.in-Guest.run' c.in-Guest.is in
    let guest : c.in-Guest.run'.lpid - 1 < length c.self.inside.guests.items = guest_below c.self.inside.guests.items c.in-Guest.run'.lpid c.in-Guest.run'.vid one in
    search (rules, guest)

pub index-requires-in-Guest-2 : goal.index-requires-in-Guest-2
index-requires-in-Guest-2 g c =
    let below = subst (λ (m : State _). c.args.cpu < length m.cpus) (sym c.self.view_is) c.requires in
    let there = read_at c.self.inside.cpus.items c.args.cpu c.index.result.now below c.index.ensures in
    let one = runs_vcpu g.S.Seal.takes g.S.Seal.stands g.S.Seal.image (state_of c.self.inside) c.args.cpu c.self.invariant c.index.result.now there c.in-Guest.run' c.in-Guest.is in
    let here = read_at c.self.inside.guests.items (c.in-Guest.run'.lpid - 1) c.index-in-Guest.result.now (guest_below c.self.inside.guests.items c.in-Guest.run'.lpid c.in-Guest.run'.vid one) c.index-in-Guest.ensures in
    let vcpu = vcpu_below c.self.inside.guests.items c.in-Guest.run'.lpid c.in-Guest.run'.vid c.index-in-Guest.result.now one here in
    search (rules, vcpu)

-- its registers are those of the model
pub returns-in-Guest : goal.returns-in-Guest
returns-in-Guest g c =
    let below = subst (λ (m : State _). c.args.cpu < length m.cpus) (sym c.self.view_is) c.requires in
    let there = read_at c.self.inside.cpus.items c.args.cpu c.index.result.now below c.index.ensures in
    let one = runs_vcpu g.S.Seal.takes g.S.Seal.stands g.S.Seal.image (state_of c.self.inside) c.args.cpu c.self.invariant c.index.result.now there c.in-Guest.run' c.in-Guest.is in
    let here = read_at c.self.inside.guests.items (c.in-Guest.run'.lpid - 1) c.index-in-Guest.result.now (guest_below c.self.inside.guests.items c.in-Guest.run'.lpid c.in-Guest.run'.vid one) c.index-in-Guest.ensures in
    let vcpu = vcpu_below c.self.inside.guests.items c.in-Guest.run'.lpid c.in-Guest.run'.vid c.index-in-Guest.result.now one here in
    subst (λ m. HasRegisters g.S.Seal.stands g.S.Seal.image m c.args.cpu c.index-in-Guest-2.result.now.regs.gpr) c.self.view_is
    (subst (λ (v : Vcpu). HasRegisters g.S.Seal.stands g.S.Seal.image (state_of c.self.inside) c.args.cpu v.regs.gpr) (sym (is_at c.index-in-Guest.result.now c.in-Guest.run'.vid c.index-in-Guest-2.result.now vcpu c.index-in-Guest-2.ensures))
    (has_registers g.S.Seal.takes g.S.Seal.stands g.S.Seal.image (state_of c.self.inside) c.args.cpu c.self.invariant c.index.result.now there c.in-Guest.run' c.index-in-Guest.result.now c.in-Guest.is here))

-- a CPU that runs none has none
pub returns-in-Hv : goal.returns-in-Hv
returns-in-Hv g c =
    let below = subst (λ (m : State _). c.args.cpu < length m.cpus) (sym c.self.view_is) c.requires in
    let there = read_at c.self.inside.cpus.items c.args.cpu c.index.result.now below c.index.ensures in
    subst (λ m. HasRegisters g.S.Seal.stands g.S.Seal.image m c.args.cpu (replicate 32 0)) c.self.view_is
    (has_none g.S.Seal.takes g.S.Seal.stands g.S.Seal.image (state_of c.self.inside) c.args.cpu c.self.invariant c.index.result.now there (replicate 32 0) (λ run is. (let two = sym is ∙ c.in-Hv.is in cc)))

pub returns-in-Uv : goal.returns-in-Uv
returns-in-Uv g c =
    let below = subst (λ (m : State _). c.args.cpu < length m.cpus) (sym c.self.view_is) c.requires in
    let there = read_at c.self.inside.cpus.items c.args.cpu c.index.result.now below c.index.ensures in
    subst (λ m. HasRegisters g.S.Seal.stands g.S.Seal.image m c.args.cpu (replicate 32 0)) c.self.view_is
    (has_none g.S.Seal.takes g.S.Seal.stands g.S.Seal.image (state_of c.self.inside) c.args.cpu c.self.invariant c.index.result.now there (replicate 32 0) (λ run is. (let two = sym is ∙ c.in-Uv.is in cc)))
