use Rattle.std.proofs.Common.{rules, ℕ, ◌^◌, ◌<◌, length, ap, sym, subst}
use Rattle.pef_core.specs.State.{State}
use Rattle.pef_core.specs.Does.{Targets, target_shown}
use Rattle.pef_core.specs.Did.{LooksAt, HasRegisters}
use Rattle.pef_core.proofs.Sites.{state_of}
use Rattle.pef_core.proofs.Seeing.{looks_alone, looks_at_frame, range, guest_ready, looks_at_guest}
use Rattle.pef_core.proofs.machine.Machine.look.Goals as goal

pub returns-in-Alone : goal.returns-in-Alone
returns-in-Alone g c =
    let below = subst (λ (m : State _). c.args.cpu < length m.cpus) (sym c.self.view_is) c.requires.cpu in
    let registers = subst (λ m. HasRegisters g.S.Seal.stands g.S.Seal.image m c.args.cpu c.running_registers-gpr.result) (sym c.self.view_is) c.running_registers-gpr.ensures in
    let targets = subst (Targets (length c.self.inside.guests.items) c.self.inside.normal c.index-own.result.now c.args.cmd.now) (ap target_shown c.in-Alone.is) (subst (λ (k : ℕ). Targets k c.self.inside.normal c.index-own.result.now c.args.cmd.now (target_shown c.target_of.result)) (search rules) c.target_of.ensures) in
    subst (λ m. LooksAt g.S.Seal.stands g.S.Seal.image m c.args.cpu c.args.cmd.now c.look_of.result) c.self.view_is
    (subst (LooksAt g.S.Seal.stands g.S.Seal.image (state_of c.self.inside) c.args.cpu c.args.cmd.now) (sym c.look_of.ensures)
    (looks_alone g.S.Seal.takes g.S.Seal.stands g.S.Seal.image (state_of c.self.inside) c.args.cpu c.self.invariant below c.index-own.result.now (search rules) c.args.cmd.now c.running_registers-gpr.result registers targets))

pub returns-in-Frame : goal.returns-in-Frame
returns-in-Frame g c =
    let below = subst (λ (m : State _). c.args.cpu < length m.cpus) (sym c.self.view_is) c.requires.cpu in
    let registers = subst (λ m. HasRegisters g.S.Seal.stands g.S.Seal.image m c.args.cpu c.running_registers-gpr.result) (sym c.self.view_is) c.running_registers-gpr.ensures in
    let targets = subst (Targets (length c.self.inside.guests.items) c.self.inside.normal c.index-own.result.now c.args.cmd.now) (ap target_shown c.in-Frame.is) (subst (λ (k : ℕ). Targets k c.self.inside.normal c.index-own.result.now c.args.cmd.now (target_shown c.target_of.result)) (search rules) c.target_of.ensures) in
    subst (λ m. LooksAt g.S.Seal.stands g.S.Seal.image m c.args.cpu c.args.cmd.now c.look_of-in-Frame.result) c.self.view_is
    (subst (LooksAt g.S.Seal.stands g.S.Seal.image (state_of c.self.inside) c.args.cpu c.args.cmd.now) (sym c.look_of-in-Frame.ensures)
    (looks_at_frame g.S.Seal.takes g.S.Seal.stands g.S.Seal.image (state_of c.self.inside) c.args.cpu c.self.invariant below c.index-own.result.now (search rules) c.args.cmd.now c.running_registers-gpr.result registers c.in-Frame.frame targets))

-- the guest is one of the machine's, and ready
pub overflow_sub-lpid : goal.overflow_sub-lpid
overflow_sub-lpid g c =
    let below = subst (λ (m : State _). c.args.cpu < length m.cpus) (sym c.self.view_is) c.requires.cpu in
    let registers = subst (λ m. HasRegisters g.S.Seal.stands g.S.Seal.image m c.args.cpu c.running_registers-gpr.result) (sym c.self.view_is) c.running_registers-gpr.ensures in
    let targets = subst (Targets (length c.self.inside.guests.items) c.self.inside.normal c.index-own.result.now c.args.cmd.now) (ap target_shown c.in-Guest.is) (subst (λ (k : ℕ). Targets k c.self.inside.normal c.index-own.result.now c.args.cmd.now (target_shown c.target_of.result)) (search rules) c.target_of.ensures) in
    (range g.S.Seal.takes g.S.Seal.stands g.S.Seal.image (state_of c.self.inside) c.args.cpu c.self.invariant below c.index-own.result.now (search rules) c.args.cmd.now c.running_registers-gpr.result registers c.in-Guest.lpid targets).0

pub index-guest-requires : goal.index-guest-requires
index-guest-requires g c =
    let below = subst (λ (m : State _). c.args.cpu < length m.cpus) (sym c.self.view_is) c.requires.cpu in
    let registers = subst (λ m. HasRegisters g.S.Seal.stands g.S.Seal.image m c.args.cpu c.running_registers-gpr.result) (sym c.self.view_is) c.running_registers-gpr.ensures in
    let targets = subst (Targets (length c.self.inside.guests.items) c.self.inside.normal c.index-own.result.now c.args.cmd.now) (ap target_shown c.in-Guest.is) (subst (λ (k : ℕ). Targets k c.self.inside.normal c.index-own.result.now c.args.cmd.now (target_shown c.target_of.result)) (search rules) c.target_of.ensures) in
    let there = (range g.S.Seal.takes g.S.Seal.stands g.S.Seal.image (state_of c.self.inside) c.args.cpu c.self.invariant below c.index-own.result.now (search rules) c.args.cmd.now c.running_registers-gpr.result registers c.in-Guest.lpid targets).1 in
    search (rules, there)

pub needs-wanted-requires : goal.needs-wanted-requires
needs-wanted-requires g c =
    let below = subst (λ (m : State _). c.args.cpu < length m.cpus) (sym c.self.view_is) c.requires.cpu in
    let registers = subst (λ m. HasRegisters g.S.Seal.stands g.S.Seal.image m c.args.cpu c.running_registers-gpr.result) (sym c.self.view_is) c.running_registers-gpr.ensures in
    let targets = subst (Targets (length c.self.inside.guests.items) c.self.inside.normal c.index-own.result.now c.args.cmd.now) (ap target_shown c.in-Guest.is) (subst (λ (k : ℕ). Targets k c.self.inside.normal c.index-own.result.now c.args.cmd.now (target_shown c.target_of.result)) (search rules) c.target_of.ensures) in
    let few = subst (λ (m : State _). m.steps < 2 ^ 63) (sym c.self.view_is) c.requires.count in
    guest_ready g.S.Seal.takes g.S.Seal.stands g.S.Seal.image (state_of c.self.inside) c.args.cpu c.self.invariant below c.index-own.result.now (search rules) c.args.cmd.now c.running_registers-gpr.result registers c.in-Guest.lpid targets c.index-guest.result.now c.index-guest.ensures few

pub returns-in-Guest : goal.returns-in-Guest
returns-in-Guest g c =
    let below = subst (λ (m : State _). c.args.cpu < length m.cpus) (sym c.self.view_is) c.requires.cpu in
    let registers = subst (λ m. HasRegisters g.S.Seal.stands g.S.Seal.image m c.args.cpu c.running_registers-gpr.result) (sym c.self.view_is) c.running_registers-gpr.ensures in
    let targets = subst (Targets (length c.self.inside.guests.items) c.self.inside.normal c.index-own.result.now c.args.cmd.now) (ap target_shown c.in-Guest.is) (subst (λ (k : ℕ). Targets k c.self.inside.normal c.index-own.result.now c.args.cmd.now (target_shown c.target_of.result)) (search rules) c.target_of.ensures) in
    subst (λ m. LooksAt g.S.Seal.stands g.S.Seal.image m c.args.cpu c.args.cmd.now c.look_of-in-Guest.result) c.self.view_is
    (rw (c.look_of-in-Guest.ensures, c.is_pool.ensures, c.frame.ensures)
    (let few = subst (λ (m : State _). m.steps < 2 ^ 63) (sym c.self.view_is) c.requires.count in looks_at_guest g.S.Seal.takes g.S.Seal.stands g.S.Seal.image (state_of c.self.inside) c.args.cpu c.self.invariant below c.index-own.result.now (search rules) c.args.cmd.now c.running_registers-gpr.result registers c.in-Guest.lpid targets c.index-guest.result.now c.index-guest.ensures few c.needs-wanted.result c.needs-wanted.ensures.touches))
