-- The text of a report.
use Rattle.std.specs.Prelude.{ℕ, zero, suc, ◌==◌, Bool, if◌then◌else◌, [], false, List, ◌∷◌, ◌++◌, reverse, codes, decimal, slice_index_or}
use Rattle.std.specs.List.{flat_map, list_all}
use Rattle.std.specs.Fmt.{digits}
use Rattle.hex.specs.Hex.{encode_lower}
use Rattle.sha2.specs.Sha256.{sha256}
use Rattle.pef_model.specs.declared.command.Code.{Code}
use Rattle.pef_model.specs.declared.command.Code.TheVariants.{USuccess, UParameter, UP2, UP3, UP4, UP5, UFunction, UBusy, UPermission, UInvalid, HSuccess, HUnsupported, HFunction, HHardware}
use Rattle.pef_model.specs.declared.command.Cmd.{Cmd}
use Rattle.pef_model.specs.declared.command.Cmd.TheVariants.{HLd, HSt, HSelect, HEnter, UPate, URegslot, UUnregslot, UPagein, UPageout, UInval, UReturn, GLi, GAdd, GXor, GLd, GSt, GHcall, GIrq, Go, Dump}
use Rattle.pef_model.specs.declared.entry.Exit.TheVariants as exit
use Rattle.pef_model.specs.declared.entry.Answer.{Answer}
use Rattle.pef_model.specs.declared.entry.Answer.TheVariants.{Done, Val, Ret, Step, Enter, Exit, Again, Gone, Hole, Context, Nothing}
use Rattle.pef_model.specs.Plan.{Plan}
use Rattle.pef_model.specs.Event.{Event}
use Rattle.pef_model.specs.History.{frame_after, pool_after}

-- a value: 0x and lower-case hexadecimal without leading zeros
abbrev pub value_text : ℕ → List ℕ
value_text value = codes "0x" ++ digits 16 false value

-- a command's name
abbrev pub command_name : Cmd → List ℕ
command_name (HLd ra) = codes "h.ld"
command_name (HSt ra value) = codes "h.st"
command_name (HSelect lpid vid) = codes "h.select"
command_name (HEnter lpid vid value) = codes "h.enter"
command_name (UPate lpid dw0 dw1) = codes "u.pate"
command_name (URegslot lpid start size flags id) = codes "u.regslot"
command_name (UUnregslot lpid id) = codes "u.unregslot"
command_name (UPagein lpid src gpa flags order) = codes "u.pagein"
command_name (UPageout lpid dest gpa flags order) = codes "u.pageout"
command_name (UInval lpid gpa order) = codes "u.inval"
command_name (UReturn r0 r2 outs) = codes "u.return"
command_name (GLi rd value) = codes "g.li"
command_name (GAdd rd ra rb) = codes "g.add"
command_name (GXor rd ra rb) = codes "g.xor"
command_name (GLd rd gpa) = codes "g.ld"
command_name (GSt rs gpa) = codes "g.st"
command_name GHcall = codes "g.hcall"
command_name GIrq = codes "g.irq"
command_name Go = codes "go"
command_name (Dump reg) = codes "dump"

-- a code's name
abbrev pub code_name : Code → List ℕ
code_name USuccess = codes "U_SUCCESS"
code_name UParameter = codes "U_PARAMETER"
code_name UP2 = codes "U_P2"
code_name UP3 = codes "U_P3"
code_name UP4 = codes "U_P4"
code_name UP5 = codes "U_P5"
code_name UFunction = codes "U_FUNCTION"
code_name UBusy = codes "U_BUSY"
code_name UPermission = codes "U_PERMISSION"
code_name UInvalid = codes "U_INVALID"
code_name HSuccess = codes "H_SUCCESS"
code_name HUnsupported = codes "H_UNSUPPORTED"
code_name HFunction = codes "H_FUNCTION"
code_name HHardware = codes "H_HARDWARE"

-- the hypercalls' names, in the order of their numbers; 0 is none
abbrev pub hypercall_names : List (List ℕ)
hypercall_names =
    []
    ∷ codes "H_SVM_INIT_START" ∷ codes "H_SVM_INIT_DONE" ∷ codes "H_SVM_INIT_ABORT" ∷ codes "H_SVM_PAGE_IN" ∷ codes "H_SVM_PAGE_OUT" ∷ codes "H_RANDOM"
    ∷ codes "H_CEDE" ∷ codes "H_PROD" ∷ codes "H_CONFER" ∷ codes "H_PUT_TERM_CHAR" ∷ codes "H_GET_TERM_CHAR" ∷ codes "H_EOI"
    ∷ codes "H_CPPR" ∷ codes "H_IPI" ∷ codes "H_IPOLL" ∷ codes "H_XIRR" ∷ codes "H_SET_MODE" ∷ codes "H_REGISTER_VPA" ∷ []

-- an answer
abbrev pub answer_text : Answer → List ℕ
answer_text Done = codes "done"
answer_text (Val value) = codes "val " ++ value_text value
answer_text (Ret code) = codes "ret " ++ code_name code
answer_text Step = codes "step"
answer_text Enter = codes "enter"
answer_text (Exit exit.Normal) = codes "exit normal"
answer_text (Exit exit.Irq) = codes "exit irq"
answer_text (Exit (exit.Hcall n)) = codes "exit " ++ slice_index_or hypercall_names n []
answer_text Again = codes "again"
answer_text Gone = codes "gone"
answer_text Hole = codes "hole"
answer_text Context = codes "context"
answer_text Nothing = codes "nothing"

-- the line of an entry: script line, CPU, command and answer
abbrev pub entry_line : Event → List ℕ
entry_line e =
    decimal e.trace.line ++ (codes " " ++ (decimal e.trace.cpu ++ (codes " " ++ (command_name e.trace.cmd ++ (codes " " ++ (answer_text e.trace.answer ++ codes "\n"))))))

-- whether bytes are all zero
abbrev pub is_zero : List ℕ → Bool
is_zero bytes = list_all (λ b. b == 0) bytes

-- the line of a normal frame: its number, and the SHA-256 of its bytes; none for a frame that is all zero
abbrev pub frame_line : ℕ → List ℕ → List ℕ
frame_line n bytes = if is_zero bytes then [] else codes "frame " ++ (decimal n ++ (codes " " ++ (encode_lower (sha256 bytes) ++ codes "\n")))

-- the lines of the normal frames below a number, in order
abbrev pub frames_below : ℕ → (ℕ → List ℕ) → List ℕ
frames_below zero frames = []
frames_below (suc n) frames = frames_below n frames ++ frame_line n (frames n)

-- the end of a report: the number of free secure frames
abbrev pub free_text : ℕ → List ℕ
free_text free = codes "free " ++ (decimal free ++ codes "\nend\n")

-- what follows the entries: the normal frames that are not all zero, and what is free
abbrev pub report_end : Plan → List Event → List ℕ
report_end plan past = frames_below plan.normal (λ n. frame_after plan n past) ++ free_text (pool_after plan past)

-- the report of a history: its entries, the oldest first, and the end
abbrev pub report : Plan → List Event → List ℕ
report plan past = flat_map entry_line (reverse past) ++ report_end plan past
