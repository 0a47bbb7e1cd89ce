-- Command lines at the edge of the grammar, each computed from the definitions.
use Rattle.std.specs.Prelude.{◌≡◌, ℕ, ◌+◌, List, [], ◌∷◌, ◌++◌, map, filter, drop, length, replicate, codes, Option, Some, None, Ok}
use Rattle.std.specs.List.{flat_map}
use Rattle.pef_model.specs.declared.command.Directive.{Directive}
use Rattle.pef_model.specs.declared.command.Directive.TheVariants.{Once, GoAll}
use Rattle.pef_model.specs.declared.command.Cmd.TheVariants.{HLd, HSt, HSelect, HEnter, UPate, URegslot, UUnregslot, UPagein, UPageout, UInval, UReturn, GLi, GAdd, GXor, GLd, GSt, GHcall, GIrq, Go, Dump}
use Rattle.pef_model.specs.Plan.{default_config}
use Rattle.pef_model.specs.RunLaw.{store_script}
use Rattle.pef_script.specs.declared.fault.Cause.{Cause}
use Rattle.pef_script.specs.declared.fault.Cause.TheVariants.{Word, Count, Number, Range}
use Rattle.pef_script.specs.Line.{ReadLine}
use Rattle.pef_script.specs.Table.{shape, words}
use Rattle.pef_script.specs.Token.{has_bytes}
use Rattle.pef_script.specs.Command.{line_in}
use Rattle.pef_script.specs.Script.{script_or_fault, script_of, err_of}
use Rattle.pef_script.specs.FaultLaw.{HasFault}

-- a text of one line behind `begin`, or of more
abbrev pub behind_begin : List ℕ → List ℕ
behind_begin lines = codes "pef 1\ncpus 2\nbegin\n" ++ lines

-- a text with these command lines is a script with these lines, on a machine with two CPUs
abbrev pub AreRead : List ℕ → List ReadLine → Type 0
AreRead lines read = script_or_fault (behind_begin lines) ≡ Ok (record { config = record default_config { cpus = 2 }; lines = read })

-- a line of CPU 0 is read so, with the right number of its pair
abbrev pub IsReadWith : List ℕ → ℕ → Directive → Type 0
IsReadWith line right d = AreRead line (record { line = record { number = 4; cpu = 0; directive = d }; right = right } ∷ [])

-- or without a pair
abbrev pub IsRead : List ℕ → Directive → Type 0
IsRead line d = IsReadWith line 0 d

-- each command with operands that differ
pub record EachCommandIsRead : Type 0 where
  pub load : IsRead (codes "0 h.ld 8\n") (Once (HLd 8))
  pub store : IsRead (codes "0 h.st 8 5\n") (Once (HSt 8 5))
  pub select : IsRead (codes "0 h.select 1 2\n") (Once (HSelect 1 2))
  pub enter : IsRead (codes "0 h.enter 1 2 0x3\n") (Once (HEnter 1 2 3))
  pub partition : IsRead (codes "0 u.pate 1 0x200 3\n") (Once (UPate 1 0x200 3))
  pub register : IsRead (codes "0 u.regslot 1 0x200 0x100 3 4\n") (Once (URegslot 1 0x200 0x100 3 4))
  pub unregister : IsRead (codes "0 u.unregslot 1 2\n") (Once (UUnregslot 1 2))
  pub page_in : IsRead (codes "0 u.pagein 1 2 3 4 5\n") (Once (UPagein 1 2 3 4 5))
  pub page_out : IsRead (codes "0 u.pageout 1 2 3 4 5\n") (Once (UPageout 1 2 3 4 5))
  pub invalidate : IsRead (codes "0 u.inval 1 2 3\n") (Once (UInval 1 2 3))
  pub returns : IsRead (codes "0 u.return 1 2\n") (Once (UReturn 1 2 (replicate 9 0)))
  pub returns_one : IsRead (codes "0 u.return 1 2 3\n") (Once (UReturn 1 2 (3 ∷ replicate 8 0)))
  pub returns_nine : IsRead (codes "0 u.return 1 2 3 4 5 6 7 8 9 10 11\n") (Once (UReturn 1 2 (3 ∷ 4 ∷ 5 ∷ 6 ∷ 7 ∷ 8 ∷ 9 ∷ 10 ∷ 11 ∷ [])))
  pub immediate : IsReadWith (codes "0 g.li r2 7\n") 7 (Once (GLi 2 7))
  pub pair : IsReadWith (codes "0 g.li r2 7|9\n") 9 (Once (GLi 2 7))
  pub add : IsRead (codes "0 g.add r2 r3 r4\n") (Once (GAdd 2 3 4))
  pub exclusive : IsRead (codes "0 g.xor r31 r0 r9\n") (Once (GXor 31 0 9))
  pub guest_load : IsRead (codes "0 g.ld r2 8\n") (Once (GLd 2 8))
  pub guest_store : IsRead (codes "0 g.st r2 8\n") (Once (GSt 2 8))
  pub hypercall : IsRead (codes "0 g.hcall\n") (Once GHcall)
  pub interrupt : IsRead (codes "0 g.irq\n") (Once GIrq)
  pub go : IsRead (codes "0 go\n") (Once Go)
  pub go_all : IsRead (codes "0 go*\n") GoAll
  pub dump : IsRead (codes "0 dump r31\n") (Once (Dump 31))
  pub script : script_of (codes "pef 1\nborn 1\nbegin\n0 u.return 0 0\n0 g.li r20 7\n0 g.st r20 0x0\n0 g.ld r6 0x0\n") ≡ Some store_script

-- spaces, ends of lines, and the CPU
pub record PartsAtTheEdge : Type 0 where
  pub two_spaces : IsRead (codes "0 g.ld  r1 0\n") (Once (GLd 1 0))
  pub spaces_around : IsRead (codes "  0 g.ld r1 0 \n") (Once (GLd 1 0))
  pub no_last_line_feed : IsRead (codes "0 g.irq") (Once GIrq)
  pub lines_count :
      AreRead (codes "\n# c\n0 g.irq\n  \n1 go\n") (record { line = record { number = 6; cpu = 0; directive = Once GIrq }; right = 0 } ∷ record { line = record { number = 8; cpu = 1; directive = Once Go }; right = 0 } ∷ [])
  pub last_cpu : AreRead (codes "0x1 g.ld r3 4\n") (record { line = record { number = 4; cpu = 1; directive = Once (GLd 3 4) }; right = 0 } ∷ [])
  pub cpu_too_great : HasFault (behind_begin (codes "2 g.ld r3 4\n")) 4 Range
  pub cpu_is_no_number : HasFault (behind_begin (codes "r0 g.ld r1 0\n")) 4 Number
  pub tab : HasFault (behind_begin (codes "0\tg.ld r1 0\n")) 4 Number
  pub carriage_return : HasFault (behind_begin (codes "0 g.ld r1 0\r\n")) 4 Number
  pub comment_behind_space : HasFault (behind_begin (codes " # c\n")) 4 Number
  pub cpu_alone : HasFault (behind_begin (codes "0\n")) 4 Word
  pub unknown_command : HasFault (behind_begin (codes "0 g.no r1 0\n")) 4 Word
  pub go_all_apart : HasFault (behind_begin (codes "0 go *\n")) 4 Count
  pub setting : HasFault (behind_begin (codes "shift 8\n")) 4 Number
  pub begins_again : HasFault (behind_begin (codes "begin\n")) 4 Number

-- where a line has more than one fault, the first of number, word, count, number and range is told
pub record CausesInOrder : Type 0 where
  pub no_number_first : HasFault (behind_begin (codes "x g.no 1 2\n")) 4 Number
  pub word_before_range : HasFault (behind_begin (codes "2 g.no\n")) 4 Word
  pub count_before_number : HasFault (behind_begin (codes "2 h.ld x x\n")) 4 Count
  pub number_before_range : HasFault (behind_begin (codes "2 h.ld x\n")) 4 Number
  pub register_for_number : HasFault (behind_begin (codes "0 h.ld r1\n")) 4 Number
  pub number_for_register : HasFault (behind_begin (codes "0 g.ld 1 0\n")) 4 Number
  pub pair_for_number : HasFault (behind_begin (codes "0 h.ld 1|2\n")) 4 Number
  pub first_line : HasFault (behind_begin (codes "0 go 1\nx\n")) 4 Count

-- a command: its name, its fewest operands, and how many numbers may follow them
pub record Words : Type 0 where
  pub name : List ℕ
  pub operands : List (List ℕ)
  pub more : ℕ

abbrev pub command : List ℕ → List (List ℕ) → Words
command name operands = record { name = name; operands = operands; more = 0 }

-- each command
abbrev pub commands : List Words
commands =
    command (codes "h.ld") (codes "0" ∷ [])
    ∷ command (codes "h.st") (codes "0" ∷ codes "0" ∷ [])
    ∷ command (codes "h.select") (codes "0" ∷ codes "0" ∷ [])
    ∷ command (codes "h.enter") (codes "0" ∷ codes "0" ∷ codes "0" ∷ [])
    ∷ command (codes "u.pate") (codes "0" ∷ codes "0" ∷ codes "0" ∷ [])
    ∷ command (codes "u.regslot") (codes "0" ∷ codes "0" ∷ codes "0" ∷ codes "0" ∷ codes "0" ∷ [])
    ∷ command (codes "u.unregslot") (codes "0" ∷ codes "0" ∷ [])
    ∷ command (codes "u.pagein") (codes "0" ∷ codes "0" ∷ codes "0" ∷ codes "0" ∷ codes "0" ∷ [])
    ∷ command (codes "u.pageout") (codes "0" ∷ codes "0" ∷ codes "0" ∷ codes "0" ∷ codes "0" ∷ [])
    ∷ command (codes "u.inval") (codes "0" ∷ codes "0" ∷ codes "0" ∷ [])
    ∷ record { name = codes "u.return"; operands = codes "0" ∷ codes "0" ∷ []; more = 9 }
    ∷ command (codes "g.li") (codes "r0" ∷ codes "0" ∷ [])
    ∷ command (codes "g.add") (codes "r0" ∷ codes "r0" ∷ codes "r0" ∷ [])
    ∷ command (codes "g.xor") (codes "r0" ∷ codes "r0" ∷ codes "r0" ∷ [])
    ∷ command (codes "g.ld") (codes "r0" ∷ codes "0" ∷ [])
    ∷ command (codes "g.st") (codes "r0" ∷ codes "0" ∷ [])
    ∷ command (codes "g.hcall") []
    ∷ command (codes "g.irq") []
    ∷ command (codes "go") []
    ∷ command (codes "go*") []
    ∷ command (codes "dump") (codes "r0" ∷ [])
    ∷ []

-- those that have operands
abbrev pub with_operands : List Words
with_operands = filter (λ (c : Words). has_bytes (flat_map (λ word. word) c.operands)) commands

-- the causes of their lines with other operands
abbrev pub causes : (Words → List (List ℕ)) → List Words → List (Option Cause)
causes operands cs = map (λ (c : Words). err_of (line_in 1 1 (codes "0" ∷ c.name ∷ operands c))) cs

-- each is read with its fewest and its most operands, and with one less, one more, or one of another kind it is not
pub record CommandsAtTheEdge : Type 0 where
  pub all : map (λ (c : Words). c.name) commands ≡ map (λ w. (shape w).name) words
  pub fewest : causes (λ (c : Words). c.operands) commands ≡ replicate (length commands) None
  pub most : causes (λ (c : Words). c.operands ++ replicate c.more (codes "0")) commands ≡ replicate (length commands) None
  pub one_more : causes (λ (c : Words). c.operands ++ replicate (c.more + 1) (codes "0")) commands ≡ replicate (length commands) (Some Count)
  pub one_less : causes (λ (c : Words). drop 1 c.operands) with_operands ≡ replicate (length with_operands) (Some Count)
  pub other_kind : causes (λ (c : Words). codes "x" ∷ drop 1 c.operands) with_operands ≡ replicate (length with_operands) (Some Number)

-- the edge, whole
pub record LinesAtTheEdge : Type 0 where
  pub each : EachCommandIsRead
  pub parts : PartsAtTheEdge
  pub order : CausesInOrder
  pub commands_ : CommandsAtTheEdge
