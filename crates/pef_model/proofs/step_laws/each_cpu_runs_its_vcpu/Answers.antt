use Rattle.pef_model.proofs.Running.{each_cpu_runs_its_vcpu}
use Rattle.pef_model.proofs.step_laws.each_cpu_runs_its_vcpu.Goals as goal

pub returns : goal.returns
returns c = each_cpu_runs_its_vcpu
