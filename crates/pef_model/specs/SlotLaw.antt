-- Memory slots, computed: what a page in no slot meets, and each code of the calls for slots.
use Rattle.std.specs.Prelude.{◌≡◌, List, [], ◌∷◌}
use Rattle.pef_model.specs.declared.command.Code.TheVariants.{USuccess, UParameter, UP2, UP3, UP4, UP5}
use Rattle.pef_model.specs.declared.command.Cmd.TheVariants.{URegslot, UUnregslot, GLi, GLd, GSt}
use Rattle.pef_model.specs.declared.entry.Answer.TheVariants.{Done, Val, Ret, Enter, Hole}
use Rattle.pef_model.specs.Script.{Line}
use Rattle.pef_model.specs.RunLaw.{line_at, return_with, answers_of}
use Rattle.pef_model.specs.RefusalLaw.{rets}

-- a guest stores in page 1; while no slot has the page its accesses meet a hole, and CPU 1 registers a slot of another id over it: the guest loads what it stored
abbrev pub hole_lines : List Line
hole_lines =
    line_at 1 0 (return_with 0) ∷ line_at 2 0 (GLi 20 7) ∷ line_at 3 0 (GSt 20 0x108) ∷ line_at 4 1 (UUnregslot 1 0) ∷ line_at 5 0 (GLd 6 0x108) ∷ line_at 6 0 (GSt 20 0x108)
    ∷ line_at 7 1 (URegslot 1 0x100 0x100 0 7) ∷ line_at 8 0 (GLd 6 0x108) ∷ line_at 9 0 (GLd 6 0xf8) ∷ line_at 10 0 (GLd 6 0x200) ∷ []

abbrev pub APageComesBack : Type 0
APageComesBack = answers_of hole_lines ≡ Enter ∷ Done ∷ Done ∷ Ret USuccess ∷ Hole ∷ Hole ∷ Ret USuccess ∷ Val 7 ∷ Hole ∷ Hole ∷ []

-- UV_REGISTER_MEM_SLOT: no guest 0, none past the last, one that is Absent; a start within a page, one past the last page; no size, one within a page, one past the last page, one whose end wraps; an overlap by one page; flags;
-- an id of 17 bits, one that a slot has; the last page; and the second, once its slot has left
abbrev pub RegisterRefusals : Type 0
RegisterRefusals =
    answers_of
    (line_at 1 0 (URegslot 0 0x80 0x0 1 65536) ∷ line_at 2 0 (URegslot 4 0x80 0x0 1 65536) ∷ line_at 3 0 (URegslot 2 0x80 0x0 1 65536) ∷ line_at 4 0 (URegslot 1 0x80 0x0 1 65536)
    ∷ line_at 5 0 (URegslot 1 0x400 0x0 1 65536) ∷ line_at 6 0 (URegslot 1 0x100 0x0 1 65536) ∷ line_at 7 0 (URegslot 1 0x100 0x180 1 65536) ∷ line_at 8 0 (URegslot 1 0x100 0x400 1 65536)
    ∷ line_at 9 0 (URegslot 1 0x100 0xffffffffffffff00 1 65536) ∷ line_at 10 0 (URegslot 1 0x100 0x300 1 65536) ∷ line_at 11 0 (UUnregslot 1 0) ∷ line_at 12 0 (URegslot 1 0x100 0x100 0 65535)
    ∷ line_at 13 0 (URegslot 1 0x0 0x200 1 65536) ∷ line_at 14 0 (URegslot 1 0x200 0x200 1 65536) ∷ line_at 15 0 (URegslot 1 0x200 0x200 0 65536) ∷ line_at 16 0 (URegslot 1 0x200 0x200 0 65535)
    ∷ line_at 17 0 (URegslot 1 0x200 0x200 0 0) ∷ [])
    ≡ rets (UParameter ∷ UParameter ∷ UParameter ∷ UP2 ∷ UP2 ∷ UP3 ∷ UP3 ∷ UP3 ∷ UP3 ∷ UP3 ∷ USuccess ∷ USuccess ∷ UP3 ∷ UP4 ∷ UP5 ∷ UP5 ∷ USuccess ∷ [])

-- UV_UNREGISTER_MEM_SLOT: no guest 0, none past the last, one that is Absent; no slot of that id; slot 0, once
abbrev pub UnregisterRefusals : Type 0
UnregisterRefusals =
    answers_of
    (line_at 1 0 (UUnregslot 0 9) ∷ line_at 2 0 (UUnregslot 4 9) ∷ line_at 3 0 (UUnregslot 2 9) ∷ line_at 4 0 (UUnregslot 1 9) ∷ line_at 5 0 (UUnregslot 1 65536) ∷ line_at 6 0 (UUnregslot 1 0) ∷ line_at 7 0 (UUnregslot 1 0) ∷ [])
    ≡ rets (UParameter ∷ UParameter ∷ UParameter ∷ UP2 ∷ UP2 ∷ USuccess ∷ UP2 ∷ [])
