-- Names and numbers, computed: those of a report, those in registers.
use Rattle.std.specs.Prelude.{◌≡◌, ℕ, List, [], ◌∷◌, ◌++◌, map, replicate, codes}
use Rattle.hex.specs.Hex.{encode_lower}
use Rattle.sha2.specs.Sha256.{sha256}
use Rattle.pef_model.specs.declared.command.TheConstants.{UV_WRITE_PATE, UV_REGISTER_MEM_SLOT, UV_UNREGISTER_MEM_SLOT, UV_PAGE_IN, UV_PAGE_OUT, UV_PAGE_INVAL, UV_RETURN, EXTERNAL_INTERRUPT}
use Rattle.pef_model.specs.declared.command.Code.TheVariants.{USuccess, UParameter, UP2, UP3, UP4, UP5, UFunction, UBusy, UPermission, UInvalid, HSuccess, HUnsupported, HFunction, HHardware}
use Rattle.pef_model.specs.declared.command.Cmd.TheVariants.{HLd, HSt, HSelect, UPate, URegslot, UUnregslot, UPagein, UPageout, UInval, GLi, GAdd, GXor, GLd, GSt, GHcall, GIrq, Dump}
use Rattle.pef_model.specs.declared.config.Config.{Config}
use Rattle.pef_model.specs.declared.entry.Exit.TheVariants as exit
use Rattle.pef_model.specs.declared.entry.Answer.TheVariants.{Ret, Exit, Gone, Nothing}
use Rattle.pef_model.specs.Plan.{plan_of}
use Rattle.pef_model.specs.Registers.{number_of}
use Rattle.pef_model.specs.Script.{Line, Script}
use Rattle.pef_model.specs.Run.{run_of}
use Rattle.pef_model.specs.Report.{answer_text, report, command_name}
use Rattle.pef_model.specs.View.{view}
use Rattle.pef_model.specs.SeenLaw.{registers_seen}
use Rattle.pef_model.specs.RunLaw.{small_config, line_at, go_all_at, return_with, store_lines}
use Rattle.pef_model.specs.RefusalLaw.{page_out_to}
use Rattle.pef_model.specs.PairLaw.{vault_config}

-- a run with names of commands, codes and answers; what is sealed is overwritten by zeros
abbrev pub names_script : Script
names_script = record {
  config = vault_config;
  lines =
      line_at 1 0 (return_with 0) ∷ line_at 2 0 (GLi 20 7) ∷ line_at 3 0 (GSt 20 0x0) ∷ line_at 4 0 (UPagein 0 0 0 0 0) ∷ line_at 5 0 (return_with 0) ∷ line_at 6 0 GIrq
      ∷ line_at 7 0 (UPageout 0 0x80 0x80 9 9) ∷ line_at 8 0 (UPageout 1 0x80 0x80 9 9) ∷ line_at 9 0 (UPageout 1 0x0 0x80 9 9) ∷ line_at 10 0 (UPageout 1 0x0 0x0 1 9)
      ∷ line_at 11 0 (UPageout 1 0x0 0x0 2 9) ∷ line_at 12 0 (UPageout 1 0x0 0x0 0 9) ∷ line_at 13 0 (page_out_to 0x0) ∷ line_at 14 1 (page_out_to 0x0) ∷ line_at 15 1 (return_with 0)
      ∷ line_at 16 1 (GLd 6 0x0) ∷ line_at 17 1 (HLd 0x0) ∷ go_all_at 18 0 ∷ line_at 19 1 (GLd 6 0x0) ∷ line_at 20 0 (HLd 0x0) ∷ line_at 21 0 (HSt 0x0 0) ∷ line_at 22 0 (HSt 0x8 0)
      ∷ line_at 23 0 (HSt 0x18 0) ∷ line_at 24 0 (HSelect 3 1) ∷ line_at 25 0 (URegslot 1 0x0 0x0 0 0) ∷ line_at 26 0 (UUnregslot 1 0) ∷ line_at 27 0 (UInval 1 0x0 9) ∷ [];
}

-- its report, and the names of answers that it hasn't
pub record EachNameIsWritten : Type 0 where
  pub written :
      report (plan_of vault_config) (run_of names_script)
      ≡ codes "1 0 u.return enter\n2 0 g.li done\n3 0 g.st done\n4 0 u.pagein ret U_PERMISSION\n5 0 u.return ret U_INVALID\n6 0 g.irq exit irq\n7 0 u.pageout ret U_PARAMETER\n8 0 u.pageout ret U_P2\n9 0 u.pageout ret U_P3\n10 0 u.pageout ret U_FUNCTION\n11 0 u.pageout ret U_P4\n12 0 u.pageout ret U_P5\n13 0 u.pageout step\n14 1 u.pageout ret U_BUSY\n15 1 u.return enter\n16 1 g.ld again\n17 1 h.ld context\n18 0 go step\n18 0 go ret U_SUCCESS\n19 1 g.ld hole\n20 0 h.ld val 0x1\n21 0 h.st done\n22 0 h.st done\n23 0 h.st done\n24 0 h.select done\n25 0 u.regslot ret U_P3\n26 0 u.unregslot ret U_SUCCESS\n27 0 u.inval ret U_P2\nfree 1\nend\n"
  pub others : map answer_text (Gone ∷ Nothing ∷ Exit (exit.Hcall 8) ∷ Exit (exit.Hcall 18) ∷ Ret HHardware ∷ Ret HSuccess ∷ []) ≡ codes "gone" ∷ codes "nothing" ∷ codes "exit H_PROD" ∷ codes "exit H_REGISTER_VPA" ∷ codes "ret H_HARDWARE" ∷ codes "ret H_SUCCESS" ∷ []
  pub commands : map command_name (GAdd 1 2 3 ∷ GXor 1 2 3 ∷ GHcall ∷ Dump 1 ∷ []) ≡ codes "g.add" ∷ codes "g.xor" ∷ codes "g.hcall" ∷ codes "dump" ∷ []

-- a machine with twelve CPUs and normal frames; CPU 11 stores a number of sixteen digits in frame 11 and one in the last doubleword of frame 0, and CPU 10 loads it, and a zero
abbrev pub twelve_config : Config
twelve_config = record small_config { normal = 12; cpus = 12 }

abbrev pub frames_script : Script
frames_script = record {
  config = twelve_config;
  lines = line_at 1 11 (HSt 0xb08 0xfedcba9876543210) ∷ line_at 2 10 (HLd 0xb08) ∷ line_at 3 10 (HLd 0x0) ∷ line_at 4 11 (HSt 0xf8 5) ∷ [];
}

-- the digest of a frame's bytes, in hexadecimal
abbrev pub digest_text : List ℕ → List ℕ
digest_text bytes = encode_lower (sha256 bytes)

-- each normal frame that isn't all zero has a line, in their order, with the SHA-256 of its bytes; CPUs and frames are numbered in decimal, values are in hexadecimal
abbrev pub FrameHasItsLine : Type 0
FrameHasItsLine =
    report (plan_of twelve_config) (run_of frames_script)
    ≡ codes "1 11 h.st done\n2 10 h.ld val 0xfedcba9876543210\n3 10 h.ld val 0x0\n4 11 h.st done\nframe 0 "
    ++ (digest_text (replicate 255 0 ++ 5 ∷ [])
    ++ (codes "\nframe 11 "
    ++ (digest_text (replicate 8 0 ++ 0xfe ∷ 0xdc ∷ 0xba ∷ 0x98 ∷ 0x76 ∷ 0x54 ∷ 0x32 ∷ 0x10 ∷ replicate 240 0)
    ++ codes "\nfree 1\nend\n")))

-- what the view shows of CPU 0's registers after lines
abbrev pub seen_after : List Line → List ℕ
seen_after lines = registers_seen (view (plan_of vault_config) (run_of (record { config = vault_config; lines = lines }))) 0

-- the numbers that registers show: of an interrupt, of calls and a selection that were refused, of a load, of codes, of calls
pub record AreNumbers : Type 0 where
  pub interrupt : seen_after store_lines ≡ 0 ∷ 0 ∷ 0 ∷ 0x500 ∷ replicate 28 0
  pub refused : seen_after (line_at 1 0 (UPageout 1 0x400 0x300 1 8) ∷ []) ≡ 0 ∷ 0 ∷ 0 ∷ 3 ∷ 1 ∷ 0x400 ∷ 0x300 ∷ 1 ∷ 8 ∷ replicate 23 0
  pub selected : seen_after (line_at 1 0 (HSelect 3 2) ∷ []) ≡ 0 ∷ 0 ∷ 0 ∷ 2 ∷ replicate 28 0
  pub written : seen_after (line_at 1 0 (UPate 2 0x100 3) ∷ line_at 2 0 (UPate 2 0x80 1) ∷ []) ≡ 0 ∷ 0 ∷ 0 ∷ 2 ∷ 2 ∷ 0x80 ∷ 1 ∷ replicate 25 0
  pub loaded : seen_after (line_at 1 0 (HSt 0x8 6) ∷ line_at 2 0 (HLd 0x8) ∷ []) ≡ 0 ∷ 0 ∷ 0 ∷ 6 ∷ replicate 28 0
  pub numbers : map number_of (USuccess ∷ UParameter ∷ UP2 ∷ UP3 ∷ UP4 ∷ UP5 ∷ UFunction ∷ UBusy ∷ UPermission ∷ UInvalid ∷ HSuccess ∷ HUnsupported ∷ HFunction ∷ HHardware ∷ []) ≡ 0 ∷ 1 ∷ 2 ∷ 3 ∷ 4 ∷ 5 ∷ 6 ∷ 7 ∷ 8 ∷ 9 ∷ 0 ∷ 37 ∷ 38 ∷ 39 ∷ []
  pub registered : seen_after (line_at 1 0 (URegslot 1 0x80 0x100 4 9) ∷ []) ≡ 0 ∷ 0 ∷ 0 ∷ 2 ∷ 1 ∷ 0x80 ∷ 0x100 ∷ 4 ∷ 9 ∷ replicate 23 0
  pub unregistered : seen_after (line_at 1 0 (UUnregslot 1 9) ∷ []) ≡ 0 ∷ 0 ∷ 0 ∷ 2 ∷ 1 ∷ 9 ∷ replicate 26 0
  pub invalidated : seen_after (line_at 1 0 (UInval 1 0x300 9) ∷ []) ≡ 0 ∷ 0 ∷ 0 ∷ 3 ∷ 1 ∷ 0x300 ∷ 9 ∷ replicate 25 0
  pub calls :
      UV_WRITE_PATE ∷ UV_REGISTER_MEM_SLOT ∷ UV_UNREGISTER_MEM_SLOT ∷ UV_PAGE_IN ∷ UV_PAGE_OUT ∷ UV_PAGE_INVAL ∷ UV_RETURN ∷ EXTERNAL_INTERRUPT ∷ []
      ≡ 1 ∷ 2 ∷ 3 ∷ 4 ∷ 5 ∷ 6 ∷ 8 ∷ 0x500 ∷ []
