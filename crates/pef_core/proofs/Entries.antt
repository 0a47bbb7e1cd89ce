-- The entry that the model gives for a step of the machine's CPU, by what the step learns of its CPU and at what it aims.
use Rattle.std.proofs.Common.{◌≡◌, List, ap, ◌∙◌}
use Rattle.pef_model.specs.declared.command.Cmd.{Cmd}
use Rattle.pef_model.specs.Plan.{Plan}
use Rattle.pef_model.specs.Event.{Event, Mark}
use Rattle.pef_model.specs.Target.{Ask, Target, target_in}
use Rattle.pef_model.specs.History.{ask_of, cpu_after, deed_after, entry_of, next_entry, next_entry_by}

module _ (plan : Plan) (past : List Event) where
  -- the entry of a step, once it is known what the step learns of its CPU and at what it aims
  pub entry_at : (mark : Mark) (cmd : Cmd) (ask : Ask) (t : Target) → ask_of (cpu_after plan mark.cpu past) cmd ≡ ask → target_in plan ask.before ask.lpid cmd ≡ t →
      next_entry plan past mark cmd ≡ entry_of ask mark cmd (deed_after plan past ask cmd t)
  entry_at mark cmd ask t learns aims = ap (λ (a : Ask). next_entry_by plan past a mark cmd) learns ∙ ap (λ (x : Target). entry_of ask mark cmd (deed_after plan past ask cmd x)) aims
