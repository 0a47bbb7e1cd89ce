-- Guests in normal memory, computed: a run of one, its end while it runs, and each code of the commands for it.
use Rattle.std.specs.Prelude.{◌≡◌, List, [], ◌∷◌, ◌++◌, replicate, codes}
use Rattle.pef_model.specs.declared.config.Config.{Config}
use Rattle.pef_model.specs.declared.command.Code.TheVariants.{USuccess, UParameter, UP2, UP3, UPermission, UInvalid}
use Rattle.pef_model.specs.declared.command.Cmd.TheVariants.{HLd, HSt, HSelect, HEnter, UPate, GLi, GLd, GSt, GIrq}
use Rattle.pef_model.specs.declared.entry.Exit.TheVariants.{Normal}
use Rattle.pef_model.specs.declared.entry.Answer.TheVariants.{Done, Val, Ret, Enter, Exit, Gone}
use Rattle.pef_model.specs.Plan.{plan_of, default_config}
use Rattle.pef_model.specs.Script.{Line, Script}
use Rattle.pef_model.specs.Run.{run_of}
use Rattle.pef_model.specs.Report.{report}
use Rattle.pef_model.specs.View.{view}
use Rattle.pef_model.specs.SeenLaw.{registers_seen}
use Rattle.pef_model.specs.RunLaw.{small_config, line_at, return_with, answers_of}
use Rattle.pef_model.specs.RefusalLaw.{rets}
use Rattle.pef_model.specs.NameLaw.{digest_text}

-- a machine with four pages and four normal frames, and no guest that is born secure
abbrev pub normal_config : Config
normal_config = record default_config { shift = 8; normal = 4; secure = 4; pages = 4 }

-- a partition entry that begins within a frame, one that ends behind the last frame, and one with frames 1 to 3; the guest stores in its page 0 and finds no page 3, and the hypervisor loads from frame 1 what
-- it stored; then the guest ends
abbrev pub normal_script : Script
normal_script = record {
  config = normal_config;
  lines =
      line_at 7 0 (UPate 1 0x80 4) ∷ line_at 8 0 (UPate 1 0x100 4) ∷ line_at 9 0 (UPate 1 0x100 3) ∷ line_at 10 0 (HEnter 1 0 0) ∷ line_at 11 0 (GLi 20 7) ∷ line_at 12 0 (GSt 20 0x8)
      ∷ line_at 13 0 (GLd 6 0x300) ∷ line_at 14 0 GIrq ∷ line_at 15 0 (HLd 0x108) ∷ line_at 16 0 (UPate 1 0x0 0) ∷ line_at 17 0 (HEnter 1 0 0) ∷ [];
}

abbrev pub ANormalGuest : Type 0
ANormalGuest =
    report (plan_of normal_config) (run_of normal_script)
    ≡ codes "7 0 u.pate ret U_P2\n8 0 u.pate ret U_P3\n9 0 u.pate ret U_SUCCESS\n10 0 h.enter enter\n11 0 g.li done\n12 0 g.st done\n13 0 g.ld hole\n14 0 g.irq exit normal\n15 0 h.ld val 0x7\n16 0 u.pate ret U_SUCCESS\n17 0 h.enter ret U_PARAMETER\nframe 1 "
    ++ (digest_text (replicate 15 0 ++ 7 ∷ replicate 240 0) ++ codes "\nfree 4\nend\n")

-- CPU 1 enters vCPU 1 of guest 2, whose entry has frames 1 and 2; it stores in frame 2, where CPU 0 loads it and stores, and the guest loads that; then CPU 0 ends the guest, and the vCPU's next command is Gone.
-- The guest's entry is written again: the vCPU, entered anew, has zeros in its registers
abbrev pub ended_lines : List Line
ended_lines =
    line_at 1 0 (UPate 2 0x100 2) ∷ line_at 2 1 (HEnter 2 1 0) ∷ line_at 3 1 (GLi 20 7) ∷ line_at 4 1 (GSt 20 0x1f8) ∷ line_at 5 0 (HLd 0x2f8) ∷ line_at 6 0 (HSt 0x200 9) ∷ line_at 7 1 (GLd 6 0x100)
    ∷ line_at 8 0 (UPate 2 0x0 0) ∷ line_at 9 1 (GLd 6 0x100) ∷ line_at 10 0 (UPate 2 0x200 1) ∷ line_at 11 1 (HEnter 2 1 0) ∷ line_at 12 1 (GSt 20 0x0) ∷ line_at 13 0 (HLd 0x200) ∷ []

abbrev pub AGuestEndsAsItRuns : Type 0
AGuestEndsAsItRuns =
    answers_of ended_lines
    ≡ Ret USuccess ∷ Enter ∷ Done ∷ Done ∷ Val 7 ∷ Done ∷ Val 9 ∷ Ret USuccess ∷ Gone ∷ Ret USuccess ∷ Enter ∷ Done ∷ Val 0 ∷ []

-- what the CPU's registers show where a guest in normal memory leaves: all its own
abbrev pub AllRegistersAreLeft : Type 0
AllRegistersAreLeft =
    registers_seen (view (plan_of small_config) (run_of (record { config = small_config; lines = line_at 1 0 (UPate 2 0x100 2) ∷ line_at 2 0 (HEnter 2 0 0) ∷ line_at 3 0 (GLi 20 7) ∷ line_at 4 0 (GLi 31 8) ∷ line_at 5 0 GIrq ∷ [] }))) 0
    ≡ replicate 20 0 ++ 7 ∷ replicate 10 0 ++ 8 ∷ []

-- UV_WRITE_PATE: no guest 0, none past the last, one that is Secure; an address within a frame, one past the last frame; more pages than a guest has, more frames than there are; all frames to the last; no page
abbrev pub PateRefusals : Type 0
PateRefusals =
    answers_of
    (line_at 1 0 (UPate 0 0x80 9) ∷ line_at 2 0 (UPate 4 0x80 9) ∷ line_at 3 0 (UPate 1 0x80 9) ∷ line_at 4 0 (UPate 2 0x80 9) ∷ line_at 5 0 (UPate 2 0x500 9) ∷ line_at 6 0 (UPate 2 0x0 5)
    ∷ line_at 7 0 (UPate 2 0x200 4) ∷ line_at 8 0 (UPate 2 0x100 4) ∷ line_at 9 0 (UPate 2 0x400 0) ∷ line_at 10 0 (UPate 2 0x500 0) ∷ [])
    ≡ rets (UParameter ∷ UParameter ∷ UPermission ∷ UP2 ∷ UP2 ∷ UP3 ∷ UP3 ∷ USuccess ∷ USuccess ∷ UP2 ∷ [])

-- h.select: no guest 0, none past the last; no vCPU past the last; the last of the last guest
abbrev pub SelectRefusals : Type 0
SelectRefusals =
    answers_of (line_at 1 0 (HSelect 0 2) ∷ line_at 2 0 (HSelect 4 2) ∷ line_at 3 0 (HSelect 3 2) ∷ line_at 4 0 (HSelect 3 1) ∷ line_at 5 0 (return_with 0) ∷ line_at 6 0 (HSelect 1 1) ∷ line_at 7 0 (return_with 0) ∷ [])
    ≡ rets (UParameter ∷ UParameter ∷ UP2 ∷ []) ++ (Done ∷ Ret UInvalid ∷ Done ∷ Enter ∷ [])

-- h.enter: no guest 0, none past the last, one that is Secure, one that is Absent; no vCPU past the last, one that runs on another CPU; one that waits, and a second beside it
abbrev pub EnterRefusals : Type 0
EnterRefusals =
    answers_of
    (line_at 1 0 (HEnter 0 2 0) ∷ line_at 2 0 (HEnter 4 2 0) ∷ line_at 3 0 (HEnter 1 2 0) ∷ line_at 4 0 (HEnter 2 2 0) ∷ line_at 5 0 (UPate 2 0x0 1) ∷ line_at 6 0 (HEnter 2 2 0) ∷ line_at 7 1 (HEnter 2 1 0)
    ∷ line_at 8 0 (HEnter 2 1 0) ∷ line_at 9 1 GIrq ∷ line_at 10 0 (HEnter 2 1 0) ∷ line_at 11 1 (HEnter 2 0 0) ∷ line_at 12 0 (GLi 20 7) ∷ line_at 13 1 (GLi 20 9) ∷ [])
    ≡ rets (UParameter ∷ UParameter ∷ UParameter ∷ UParameter ∷ USuccess ∷ UP2 ∷ []) ++ (Enter ∷ Ret UP2 ∷ Exit Normal ∷ Enter ∷ Enter ∷ Done ∷ Done ∷ [])
