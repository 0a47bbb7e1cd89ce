use Rattle.pef_core.proofs.FrameRows.{load_does}
use Rattle.pef_core.proofs.at_frame.load.Goals as goal

pub returns : goal.returns
returns c = rw (c.load-2.ensures.answer, c.load-2.ensures.cpu, c.load.ensures, c.offset.ensures.offset) (load_does c.args.cpu.now c.args.frame.now c.requires.hypervisor c.args.ra)
