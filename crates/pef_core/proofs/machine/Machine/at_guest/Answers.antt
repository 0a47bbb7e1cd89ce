use Rattle.pef_core.specs.Normal.{frame_at}
use Rattle.std.proofs.Common.{rules, ◌-◌, ap, subst, ◌<◌, ℕ, [], Option, Some, None, sym, ◌∙◌, refl, List, length}
use Rattle.std.specs.Prelude.{slice_set, IfSome}
use Rattle.pef_core.specs.State.{State}
use Rattle.pef_core.specs.Does.{DoesStep}
use Rattle.pef_core.specs.Lent.{is_pool, frame_wanted}
use Rattle.pef_core.proofs.Sites.{state_of, aimed_range, aimed_site}
use Rattle.pef_core.proofs.AtGuest.{ready_for, ready_pool, stays_whole, does_step}
use Rattle.pef_core.proofs.machine.Machine.at_guest.Goals as goal

pub overflow_sub-lpid : goal.overflow_sub-lpid
overflow_sub-lpid g c = (aimed_range g.S.Seal.takes (state_of c.self.inside) c.args.self.now c.args.cpu c.self.view_is c.self.invariant c.args.cmd.now c.args.lpid c.requires).0

pub index_mut-guest-requires : goal.index_mut-guest-requires
index_mut-guest-requires g c =
    let below = (aimed_range g.S.Seal.takes (state_of c.self.inside) c.args.self.now c.args.cpu c.self.view_is c.self.invariant c.args.cmd.now c.args.lpid c.requires).1 in
    search (rules, below)

-- the machine keeps what the step needs
pub needs-requires : goal.needs-requires
needs-requires g c =
    let a = aimed_site g.S.Seal.takes (state_of c.self.inside) c.args.self.now c.args.cpu c.self.view_is c.self.invariant c.index_mut-own.result.now c.index_mut-own.ensures.value c.args.cmd.now c.args.lpid c.index_mut-guest.result.now c.requires c.index_mut-guest.ensures.value in
    ready_for g.S.Seal.takes (state_of c.self.inside) c.args.cpu c.index_mut-own.result.now (c.args.lpid - 1) c.index_mut-guest.result.now a.found c.self.invariant c.args.cmd.now a.aims

pub apply_guest-requires : goal.apply_guest-requires
apply_guest-requires g c =
    let a = aimed_site g.S.Seal.takes (state_of c.self.inside) c.args.self.now c.args.cpu c.self.view_is c.self.invariant c.index_mut-own.result.now c.index_mut-own.ensures.value c.args.cmd.now c.args.lpid c.index_mut-guest.result.now c.requires c.index_mut-guest.ensures.value in
    record { ready = ready_for g.S.Seal.takes (state_of c.self.inside) c.args.cpu c.index_mut-own.result.now (c.args.lpid - 1) c.index_mut-guest.result.now a.found c.self.invariant c.args.cmd.now a.aims; lent = (λ wants. (let pool = c.needs.ensures.here.1 wants in let none = ap is_pool c.in-Nothing.is in cc), sym c.needs.ensures.frame ∙ ap frame_wanted c.in-Nothing.is) }

pub apply_guest-requires-in-Pool-clause-ready : goal.apply_guest-requires-in-Pool-clause-ready
apply_guest-requires-in-Pool-clause-ready g c =
    let a = aimed_site g.S.Seal.takes (state_of c.self.inside) c.args.self.now c.args.cpu c.self.view_is c.self.invariant c.index_mut-own.result.now c.index_mut-own.ensures.value c.args.cmd.now c.args.lpid c.index_mut-guest.result.now c.requires c.index_mut-guest.ensures.value in
    ready_for g.S.Seal.takes (state_of c.self.inside) c.args.cpu c.index_mut-own.result.now (c.args.lpid - 1) c.index_mut-guest.result.now a.found c.self.invariant c.args.cmd.now a.aims

pub apply_guest-requires-in-Pool-clause-lent : goal.apply_guest-requires-in-Pool-clause-lent
apply_guest-requires-in-Pool-clause-lent g c =
    let a = aimed_site g.S.Seal.takes (state_of c.self.inside) c.args.self.now c.args.cpu c.self.view_is c.self.invariant c.index_mut-own.result.now c.index_mut-own.ensures.value c.args.cmd.now c.args.lpid c.index_mut-guest.result.now c.requires c.index_mut-guest.ensures.value in
    (c.needs.ensures.here.0 (ap is_pool c.in-Pool.is), ready_pool g.S.Seal.takes (state_of c.self.inside) c.args.cpu c.index_mut-own.result.now (c.args.lpid - 1) c.index_mut-guest.result.now a.found c.self.invariant c.args.cmd.now a.aims)

-- it stays whole
pub invariant_of-self : goal.invariant_of-self
invariant_of-self g c =
    let a = aimed_site g.S.Seal.takes (state_of c.self.inside) c.args.self.now c.args.cpu c.self.view_is c.self.invariant c.index_mut-own.result.now c.index_mut-own.ensures.value c.args.cmd.now c.args.lpid c.index_mut-guest.result.now c.requires c.index_mut-guest.ensures.value in
    stays_whole g.S.Seal.takes (state_of c.self.inside) c.args.cpu c.index_mut-own.result.now (c.args.lpid - 1) c.index_mut-guest.result.now a.found c.self.invariant c.args.cmd.now a.aims
    g.S.Seal.stands g.S.Seal.image c.apply_guest.new.guest c.apply_guest.new.cpu c.self.inside.pool c.apply_guest.result None [] c.self.inside.normal (c.apply_guest.ensures.does c.self.inside.pool) refl

pub invariant_of-self-in-Pool : goal.invariant_of-self-in-Pool
invariant_of-self-in-Pool g c =
    let a = aimed_site g.S.Seal.takes (state_of c.self.inside) c.args.self.now c.args.cpu c.self.view_is c.self.invariant c.index_mut-own.result.now c.index_mut-own.ensures.value c.args.cmd.now c.args.lpid c.index_mut-guest.result.now c.requires c.index_mut-guest.ensures.value in
    stays_whole g.S.Seal.takes (state_of c.self.inside) c.args.cpu c.index_mut-own.result.now (c.args.lpid - 1) c.index_mut-guest.result.now a.found c.self.invariant c.args.cmd.now a.aims
    g.S.Seal.stands g.S.Seal.image c.apply_guest-in-Pool.new.guest c.apply_guest-in-Pool.new.cpu c.apply_guest-in-Pool.new.inner.0 c.apply_guest-in-Pool.result None [] c.self.inside.normal (c.apply_guest-in-Pool.ensures.does c.self.inside.pool) refl

-- and does the step
pub returns-in-Nothing : goal.returns-in-Nothing
returns-in-Nothing g c =
    let old = state_of c.self.inside in
    let a = aimed_site g.S.Seal.takes (state_of c.self.inside) c.args.self.now c.args.cpu c.self.view_is c.self.invariant c.index_mut-own.result.now c.index_mut-own.ensures.value c.args.cmd.now c.args.lpid c.index_mut-guest.result.now c.requires c.index_mut-guest.ensures.value in
    let new : State _ = record old { cpus = slice_set old.cpus c.args.cpu c.apply_guest.new.cpu; guests = slice_set old.guests (c.args.lpid - 1) c.apply_guest.new.guest } in
    subst (λ m. DoesStep g.S.Seal.stands g.S.Seal.image c.args.cpu c.args.cmd.now m new c.apply_guest.result) c.self.view_is
    (does_step g.S.Seal.takes (state_of c.self.inside) c.args.cpu c.index_mut-own.result.now (c.args.lpid - 1) c.index_mut-guest.result.now a.found c.self.invariant c.args.cmd.now a.aims
    g.S.Seal.stands g.S.Seal.image c.apply_guest.new.guest c.apply_guest.new.cpu c.self.inside.pool c.apply_guest.result None [] c.self.inside.normal (c.apply_guest.ensures.does c.self.inside.pool) refl (sym c.needs.ensures.frame ∙ ap frame_wanted c.in-Nothing.is) tt a.below a.here)

pub returns-in-Pool : goal.returns-in-Pool
returns-in-Pool g c =
    let old = state_of c.self.inside in
    let a = aimed_site g.S.Seal.takes (state_of c.self.inside) c.args.self.now c.args.cpu c.self.view_is c.self.invariant c.index_mut-own.result.now c.index_mut-own.ensures.value c.args.cmd.now c.args.lpid c.index_mut-guest.result.now c.requires c.index_mut-guest.ensures.value in
    let new : State _ = record old { cpus = slice_set old.cpus c.args.cpu c.apply_guest-in-Pool.new.cpu; guests = slice_set old.guests (c.args.lpid - 1) c.apply_guest-in-Pool.new.guest; pool = c.apply_guest-in-Pool.new.inner.0 } in
    subst (λ m. DoesStep g.S.Seal.stands g.S.Seal.image c.args.cpu c.args.cmd.now m new c.apply_guest-in-Pool.result) c.self.view_is
    (does_step g.S.Seal.takes (state_of c.self.inside) c.args.cpu c.index_mut-own.result.now (c.args.lpid - 1) c.index_mut-guest.result.now a.found c.self.invariant c.args.cmd.now a.aims
    g.S.Seal.stands g.S.Seal.image c.apply_guest-in-Pool.new.guest c.apply_guest-in-Pool.new.cpu c.apply_guest-in-Pool.new.inner.0 c.apply_guest-in-Pool.result None [] c.self.inside.normal (c.apply_guest-in-Pool.ensures.does c.self.inside.pool) refl (sym c.needs.ensures.frame ∙ ap frame_wanted c.in-Pool.is) tt a.below a.here)

-- the normal frame that it needs is one of the machine's
pub lend-requires-clause-number : goal.lend-requires-clause-number
lend-requires-clause-number g c =
    let a = aimed_site g.S.Seal.takes (state_of c.self.inside) c.args.self.now c.args.cpu c.self.view_is c.self.invariant c.index_mut-own.result.now c.index_mut-own.ensures.value c.args.cmd.now c.args.lpid c.index_mut-guest.result.now c.requires c.index_mut-guest.ensures.value in
    let below : c.in-Frame.number < c.index_mut-guest.result.now.normal = subst (λ (frame : Option ℕ). IfSome frame (λ number. number < c.index_mut-guest.result.now.normal)) (ap frame_wanted c.in-Frame.is) c.needs.ensures.below in
    subst (λ (n : ℕ). c.in-Frame.number < n) a.found.is_guest.normal below

pub lend-requires-clause-shift : goal.lend-requires-clause-shift
lend-requires-clause-shift g c =
    let a = aimed_site g.S.Seal.takes (state_of c.self.inside) c.args.self.now c.args.cpu c.self.view_is c.self.invariant c.index_mut-own.result.now c.index_mut-own.ensures.value c.args.cmd.now c.args.lpid c.index_mut-guest.result.now c.requires c.index_mut-guest.ensures.value in
    a.found.is_guest.shift

pub lend-requires-clause-ready : goal.lend-requires-clause-ready
lend-requires-clause-ready g c =
    let a = aimed_site g.S.Seal.takes (state_of c.self.inside) c.args.self.now c.args.cpu c.self.view_is c.self.invariant c.index_mut-own.result.now c.index_mut-own.ensures.value c.args.cmd.now c.args.lpid c.index_mut-guest.result.now c.requires c.index_mut-guest.ensures.value in
    ready_for g.S.Seal.takes (state_of c.self.inside) c.args.cpu c.index_mut-own.result.now (c.args.lpid - 1) c.index_mut-guest.result.now a.found c.self.invariant c.args.cmd.now a.aims

pub invariant_of-self-in-Frame : goal.invariant_of-self-in-Frame
invariant_of-self-in-Frame g c =
    let a = aimed_site g.S.Seal.takes (state_of c.self.inside) c.args.self.now c.args.cpu c.self.view_is c.self.invariant c.index_mut-own.result.now c.index_mut-own.ensures.value c.args.cmd.now c.args.lpid c.index_mut-guest.result.now c.requires c.index_mut-guest.ensures.value in
    let number : c.in-Frame.number < length c.self.inside.normal.frames = subst (λ (n : ℕ). c.in-Frame.number < n) a.found.is_guest.normal (subst (λ (frame : Option ℕ). IfSome frame (λ number. number < c.index_mut-guest.result.now.normal)) (ap frame_wanted c.in-Frame.is) c.needs.ensures.below) in
    let left : List ℕ = frame_at c.lend.new.self.frames c.in-Frame.number in
    stays_whole g.S.Seal.takes (state_of c.self.inside) c.args.cpu c.index_mut-own.result.now (c.args.lpid - 1) c.index_mut-guest.result.now a.found c.self.invariant c.args.cmd.now a.aims
    g.S.Seal.stands g.S.Seal.image c.lend.new.guest c.index_mut-own.result.now c.self.inside.pool c.lend.result (Some (record { number = c.in-Frame.number; bytes = frame_at c.self.inside.normal.frames c.in-Frame.number })) left c.lend.new.self (c.lend.ensures.does c.self.inside.pool)
    (record { below = number; bytes = refl; rest = c.lend.ensures.rest })

pub returns-in-Frame : goal.returns-in-Frame
returns-in-Frame g c =
    let old = state_of c.self.inside in
    let a = aimed_site g.S.Seal.takes (state_of c.self.inside) c.args.self.now c.args.cpu c.self.view_is c.self.invariant c.index_mut-own.result.now c.index_mut-own.ensures.value c.args.cmd.now c.args.lpid c.index_mut-guest.result.now c.requires c.index_mut-guest.ensures.value in
    let number : c.in-Frame.number < length c.self.inside.normal.frames = subst (λ (n : ℕ). c.in-Frame.number < n) a.found.is_guest.normal (subst (λ (frame : Option ℕ). IfSome frame (λ number. number < c.index_mut-guest.result.now.normal)) (ap frame_wanted c.in-Frame.is) c.needs.ensures.below) in
    let left : List ℕ = frame_at c.lend.new.self.frames c.in-Frame.number in
    let new : State _ = record old { cpus = slice_set old.cpus c.args.cpu c.index_mut-own.result.now; guests = slice_set old.guests (c.args.lpid - 1) c.lend.new.guest; normal = c.lend.new.self } in
    subst (λ m. DoesStep g.S.Seal.stands g.S.Seal.image c.args.cpu c.args.cmd.now m new c.lend.result) c.self.view_is
    (does_step g.S.Seal.takes (state_of c.self.inside) c.args.cpu c.index_mut-own.result.now (c.args.lpid - 1) c.index_mut-guest.result.now a.found c.self.invariant c.args.cmd.now a.aims
    g.S.Seal.stands g.S.Seal.image c.lend.new.guest c.index_mut-own.result.now c.self.inside.pool c.lend.result (Some (record { number = c.in-Frame.number; bytes = frame_at c.self.inside.normal.frames c.in-Frame.number })) left c.lend.new.self (c.lend.ensures.does c.self.inside.pool)
    (record { below = number; bytes = refl; rest = c.lend.ensures.rest }) (sym c.needs.ensures.frame ∙ ap frame_wanted c.in-Frame.is) c.lend.ensures.left a.below a.here)
