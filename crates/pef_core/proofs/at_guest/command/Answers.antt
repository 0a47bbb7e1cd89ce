use Rattle.pef_core.proofs.at_guest.command.Goals as goal

pub returns-in-UPate : goal.returns-in-UPate
returns-in-UPate g c pool = c.refuse_call.ensures pool

pub returns-in-GLi : goal.returns-in-GLi
returns-in-GLi g c pool = rw c.in-GLi.is (c.load_immediate.ensures pool)

pub returns-in-GIrq : goal.returns-in-GIrq
returns-in-GIrq g c pool = rw c.in-GIrq.is (c.interrupt.ensures pool)

pub returns-in-GLd : goal.returns-in-GLd
returns-in-GLd g c pool = rw c.in-GLd.is (c.load.ensures pool)

pub returns-in-GSt : goal.returns-in-GSt
returns-in-GSt g c pool = rw c.in-GSt.is (c.store.ensures pool)

pub returns-in-GAdd : goal.returns-in-GAdd
returns-in-GAdd g c pool = rw c.in-GAdd.is (c.add.ensures pool)

pub returns-in-GXor : goal.returns-in-GXor
returns-in-GXor g c pool = rw c.in-GXor.is (c.exclusive_or.ensures pool)

pub returns-in-GHcall : goal.returns-in-GHcall
returns-in-GHcall g c pool = rw c.in-GHcall.is (c.hypercall.ensures pool)

pub returns-in-Dump : goal.returns-in-Dump
returns-in-Dump g c pool = rw c.in-Dump.is (c.show.ensures pool)
