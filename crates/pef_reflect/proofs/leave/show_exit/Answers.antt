use Rattle.std.proofs.Common.{rules, ◌≡◌, ◌⊎◌, inl, inr, ap}
use Rattle.pef_model.specs.declared.state.Phase.{Phase}
use Rattle.pef_model.specs.declared.state.Phase.TheVariants.{Absent, Starting, Secure, Aborting}
use Rattle.pef_model.specs.declared.entry.Exit.TheVariants.{Irq}
use Rattle.pef_reflect.specs.Leave.{exit_in}
use Rattle.pef_reflect.proofs.leave.show_exit.Goals as goal

shows_interrupt : (phase : Phase) → ((phase ≡ Absent) ⊎ ((phase ≡ Starting) ⊎ ((phase ≡ Secure) ⊎ (phase ≡ Aborting)))) → exit_in phase ≡ Irq
shows_interrupt phase (inl is) = ap exit_in is
shows_interrupt phase (inr (inl is)) = ap exit_in is
shows_interrupt phase (inr (inr (inl is))) = ap exit_in is
shows_interrupt phase (inr (inr (inr is))) = ap exit_in is

pub returns-in-Absent : goal.returns-in-Absent
returns-in-Absent c = rw (shows_interrupt c.args.phase c.in-Absent.is) (search rules)
