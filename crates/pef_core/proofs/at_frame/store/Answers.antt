use Rattle.std.proofs.Common.{◌≡◌, ◌%◌, length}
use Rattle.pef_model.specs.Doubleword.{with_doubleword}
use Rattle.pef_core.proofs.FrameRows.{store_does}
use Rattle.pef_core.proofs.at_frame.store.Goals as goal

pub returns : goal.returns
returns c =
    let size : length (with_doubleword c.args.frame.now (c.args.ra % length c.args.frame.now) c.args.value) ≡ length c.args.frame.now = rw (c.store.ensures.bytes, c.offset-off.ensures.offset) at c.store.ensures.size in
    rw (c.answer.ensures.answer, c.answer.ensures.cpu, c.store.ensures.bytes, c.offset-off.ensures.offset) (store_does c.args.cpu.now c.args.frame.now c.requires.hypervisor c.args.ra c.args.value size)
