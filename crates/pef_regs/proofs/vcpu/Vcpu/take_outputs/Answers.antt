use Rattle.std.proofs.Common.{rules}
use Rattle.pef_regs.proofs.Outputs.{takes_outputs}
use Rattle.pef_regs.proofs.vcpu.Vcpu.take_outputs.Goals as goal

pub returns-clause-each : goal.returns-clause-each
returns-clause-each c = takes_outputs c.args.self.now.regs.gpr c.args.outs.now c.args.row.now.outputs (search rules) (search rules) c.requires.outputs _ (search rules)
