-- A report at the edges of its numbers, computed from the definitions.
use Rattle.std.specs.Prelude.{◌≡◌, ◌^◌, [], ◌∷◌, ◌++◌, replicate, codes}
use Rattle.hex.specs.Hex.{encode_lower}
use Rattle.sha2.specs.Sha256.{sha256}
use Rattle.pef_model.specs.declared.config.Config.{Config}
use Rattle.pef_model.specs.declared.command.Cmd.TheVariants.{HLd, HSt}
use Rattle.pef_model.specs.Plan.{plan_of, default_config}
use Rattle.pef_model.specs.Script.{Script}
use Rattle.pef_model.specs.RunLaw.{line_at}
use Rattle.pef_model.specs.Run.{run_of}
use Rattle.pef_model.specs.Report.{report}

-- twelve CPUs, and eleven normal frames of 256 bytes
abbrev pub wide_config : Config
wide_config = record default_config { shift = 8; normal = 11; secure = 1; cpus = 12 }

-- the last CPU stores into the first and the last frame, and loads again: of the first frame the first byte alone isn't zero
abbrev pub wide_script : Script
wide_script = record {
  config = wide_config;
  lines = line_at 9 11 (HSt 0x0 (2 ^ 56)) ∷ line_at 10 11 (HSt 0xa00 0xab) ∷ line_at 100 0 (HLd 0x0) ∷ line_at 101 11 (HLd 0xa00) ∷ line_at 102 1 (HLd 0x100) ∷ [];
}

-- its report: numbers of two and three digits, values without zeros in front, frames 0 and 10
abbrev pub EdgesAreWritten : Type 0
EdgesAreWritten =
    report (plan_of wide_config) (run_of wide_script)
    ≡ codes "9 11 h.st done\n10 11 h.st done\n100 0 h.ld val 0x100000000000000\n101 11 h.ld val 0xab\n102 1 h.ld val 0x0\nframe 0 "
    ++ (encode_lower (sha256 (1 ∷ replicate 255 0)) ++ (codes "\nframe 10 " ++ (encode_lower (sha256 (replicate 7 0 ++ 0xab ∷ replicate 248 0)) ++ codes "\nfree 1\nend\n")))
