-- Texts and their first faults, computed from the definitions.
use Rattle.std.specs.Prelude.{◌≡◌, ℕ, List, codes, Some}
use Rattle.pef_script.specs.declared.fault.Cause.{Cause}
use Rattle.pef_script.specs.declared.fault.Cause.TheVariants as cause
use Rattle.pef_script.specs.Script.{line_fault}

-- a text has its first fault at a line, of a cause
abbrev pub HasFault : List ℕ → ℕ → Cause → Type 0
HasFault text line cause = line_fault text ≡ Some (record { line = line; cause = cause })

-- what is nearly a line is none, a line that says nothing counts, and the first fault is the one that is told
pub record SomeFaults : Type 0 where
  pub empty : HasFault (codes "") 1 cause.Header
  pub version : HasFault (codes "pef 10\nbegin\n") 1 cause.Header
  pub no_begin : HasFault (codes "pef 1\n# c\n") 3 cause.NoBegin
  pub begins : HasFault (codes "pef 1\n# c\nbegins\n") 3 cause.Word
  pub shifts : HasFault (codes "pef 1\nshifts 8\nbegin\n") 2 cause.Word
  pub born : HasFault (codes "pef 1\nborn 2\nbegin\n") 2 cause.Range
  pub comment : HasFault (codes "pef 1\n # c\nbegin\n") 2 cause.Word
  pub load : HasFault (codes "pef 1\nbegin\n\n0 h.ldx 1\n") 4 cause.Word
  pub go : HasFault (codes "pef 1\nbegin\n0 gox\n") 3 cause.Word
  pub register : HasFault (codes "pef 1\nbegin\n0 g.li r031 1") 3 cause.Number
  pub first : HasFault (codes "pef 1\nbegin\n0 go 1\nx\n") 3 cause.Count
