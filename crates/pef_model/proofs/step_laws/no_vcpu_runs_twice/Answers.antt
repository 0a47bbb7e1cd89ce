use Rattle.pef_model.proofs.Running.{no_vcpu_runs_twice}
use Rattle.pef_model.proofs.step_laws.no_vcpu_runs_twice.Goals as goal

pub returns : goal.returns
returns c = no_vcpu_runs_twice
