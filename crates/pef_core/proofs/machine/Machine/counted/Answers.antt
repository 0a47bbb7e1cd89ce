use Rattle.std.proofs.Common.{rules, ℕ, ap, subst}
use Rattle.pef_model.specs.Target.{Alone, AtGuest, AtFrame}
use Rattle.pef_core.specs.Does.{Targets, target_shown}
use Rattle.pef_core.proofs.Sites.{state_of, aims_found}
use Rattle.pef_core.proofs.machine.Machine.counted.Goals as goal

pub at_own-requires : goal.at_own-requires
at_own-requires g c =
    aims_found g.S.Seal.takes (state_of c.self.inside) c.args.self.now c.args.cpu c.self.view_is c.self.invariant c.index.result.now (search rules) c.requires.cpu c.requires.steps c.args.cmd.now (target_shown c.target_of.result) Alone
    (subst (λ (k : ℕ). Targets k c.self.inside.normal c.index.result.now c.args.cmd.now (target_shown c.target_of.result)) (search rules) c.target_of.ensures) (ap target_shown c.in-Alone.is)

pub at_guest-requires : goal.at_guest-requires
at_guest-requires g c =
    aims_found g.S.Seal.takes (state_of c.self.inside) c.args.self.now c.args.cpu c.self.view_is c.self.invariant c.index.result.now (search rules) c.requires.cpu c.requires.steps c.args.cmd.now (target_shown c.target_of.result) (AtGuest c.in-Guest.lpid)
    (subst (λ (k : ℕ). Targets k c.self.inside.normal c.index.result.now c.args.cmd.now (target_shown c.target_of.result)) (search rules) c.target_of.ensures) (ap target_shown c.in-Guest.is)

pub at_frame-requires : goal.at_frame-requires
at_frame-requires g c =
    aims_found g.S.Seal.takes (state_of c.self.inside) c.args.self.now c.args.cpu c.self.view_is c.self.invariant c.index.result.now (search rules) c.requires.cpu c.requires.steps c.args.cmd.now (target_shown c.target_of.result) (AtFrame c.in-Frame.frame)
    (subst (λ (k : ℕ). Targets k c.self.inside.normal c.index.result.now c.args.cmd.now (target_shown c.target_of.result)) (search rules) c.target_of.ensures) (ap target_shown c.in-Frame.is)
