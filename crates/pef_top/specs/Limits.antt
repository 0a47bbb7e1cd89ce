-- The limits of a script.
use Rattle.std.specs.Prelude.{ℕ, ◌+◌, ◌*◌, ◌^◌, ◌<◌, nat_lt, if◌then◌else◌, List, length, Option, Some, None, option_and_then, Result, Ok, Err}
use Rattle.pef_model.specs.declared.config.Config.{Config}
use Rattle.pef_model.specs.Script.{Script}
use Rattle.pef_script.specs.Script.{script_of}
use Rattle.pef_top.specs.declared.fault.RunFault.{RunFault}
use Rattle.pef_top.specs.declared.fault.RunFault.TheVariants as fault
use Rattle.pef_top.specs.declared.limits.Limit.{Limit}
use Rattle.pef_top.specs.declared.limits.Limit.TheVariants as limit
use Rattle.pef_top.specs.declared.limits.TheConstants.{COMMAND_LIMIT, MEMORY_LIMIT}
use Rattle.pef_top.specs.declared.outcome.TheConstants.{SCRIPT_LIMIT}

-- how many bytes the normal and the secure frames have
abbrev pub frames_bytes : Config → ℕ
frames_bytes config = (config.normal + config.secure) * 2 ^ config.shift

-- how many bytes the pages of all guests have
abbrev pub pages_bytes : Config → ℕ
pages_bytes config = config.guests * config.pages * 2 ^ config.shift

-- the first of limits 2 to 4 that so many command lines and a configuration pass
abbrev pub limit_of : ℕ → Config → Option Limit
limit_of count config =
    if nat_lt COMMAND_LIMIT count then Some (limit.Commands count)
    else if nat_lt MEMORY_LIMIT (frames_bytes config) then Some (limit.Frames (frames_bytes config))
    else if nat_lt MEMORY_LIMIT (pages_bytes config) then Some (limit.Pages (pages_bytes config))
    else None

-- the first limit that an input passes: 1, for its own bytes, and then one of the script that it is
abbrev pub limit_in : List ℕ → Option Limit
limit_in text = if nat_lt SCRIPT_LIMIT (length text) then Some limit.Script else option_and_then (λ (script : Script). limit_of (length script.lines) script.config) (script_of text)

-- a limit that is passed is the fault
abbrev pub checked : Option Limit → Result (Unit {0}) RunFault
checked None = Ok tt
checked (Some passed) = Err (fault.Limit passed)

-- what a limit counts is more than it
abbrev pub IsOver : Limit → Type 0
IsOver limit.Script = Unit {0}
IsOver (limit.Commands count) = COMMAND_LIMIT < count
IsOver (limit.Frames bytes) = MEMORY_LIMIT < bytes
IsOver (limit.Pages bytes) = MEMORY_LIMIT < bytes
