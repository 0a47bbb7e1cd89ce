-- The code with which a call about a memory slot comes back.
use Rattle.pef_model.specs.declared.command.Code.{Code}
use Rattle.pef_model.specs.declared.command.Code.TheVariants.{UP2, UP3, UP4, UP5}
use Rattle.pef_slots.specs.declared.slot.SlotFault.{SlotFault}
use Rattle.pef_slots.specs.declared.slot.SlotFault.TheVariants.{BadStart, BadSize, Overlap, BadFlags, IdOutOfRange, IdTaken, Full, NoSlot}

-- the code of a fault: that of the operand which is wrong, and that of the id where the guest has 32 slots
abbrev pub code_of : SlotFault → Code
code_of BadStart = UP2
code_of BadSize = UP3
code_of Overlap = UP3
code_of BadFlags = UP4
code_of IdOutOfRange = UP5
code_of IdTaken = UP5
code_of Full = UP5
code_of NoSlot = UP2
