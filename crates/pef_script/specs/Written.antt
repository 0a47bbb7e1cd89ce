-- How a script is written: each line is its words, parted by one space, and ends in LF.
use Rattle.std.specs.Prelude.{◌≡◌, ℕ, ◌+◌, ◌^◌, ◌<◌, ◌==◌, Bool, false, if◌then◌else◌, List, [], ◌∷◌, ◌++◌, length, map, codes}
use Rattle.std.specs.List.{AllByRecursion, flat_map, join_with_byte}
use Rattle.std.specs.Fmt.{digits, decimal}
use Rattle.hex.specs.Hex.{IsBytes, encode_lower}
use Rattle.pef_model.specs.declared.config.Config.{Config}
use Rattle.pef_model.specs.declared.config.EntropyWord.{EntropyWord}
use Rattle.pef_model.specs.declared.command.Directive.{Directive}
use Rattle.pef_model.specs.declared.command.Directive.TheVariants.{Once, GoAll}
use Rattle.pef_model.specs.declared.command.Cmd.{Cmd}
use Rattle.pef_model.specs.declared.command.Cmd.TheVariants.{HLd, HSt, HSelect, HEnter, UPate, URegslot, UUnregslot, UPagein, UPageout, UInval, UReturn, GLi, GAdd, GXor, GLd, GSt, Dump}
use Rattle.pef_model.specs.Plan.{IsInRange}
use Rattle.pef_model.specs.Report.{command_name}
use Rattle.pef_script.specs.Line.{ReadLine}
use Rattle.pef_script.specs.Script.{ReadScript}

-- a number in hexadecimal or in decimal
abbrev pub number_text : Bool → ℕ → List ℕ
number_text hex n = if hex then codes "0x" ++ digits 16 false n else decimal n

-- a register by its name
abbrev pub register_text : ℕ → List ℕ
register_text r = codes "r" ++ decimal r

-- a pair, whose number is written once where both are the same
abbrev pub pair_text : Bool → ℕ → ℕ → List ℕ
pair_text hex left right = if left == right then number_text hex left else number_text hex left ++ (codes "|" ++ number_text hex right)

-- an operand of a command
pub data Operand : Type 0 where
  Number : ℕ → Operand
  Register : ℕ → Operand
  Pair : ℕ → ℕ → Operand

-- an operand's text
abbrev pub operand_text : Bool → Operand → List ℕ
operand_text hex (Number n) = number_text hex n
operand_text hex (Register r) = register_text r
operand_text hex (Pair left right) = pair_text hex left right

-- an operand that can be written: its register is below 32, its numbers are below 2^64
abbrev pub Fits : Operand → Type 0
Fits (Number n) = n < 2 ^ 64
Fits (Register r) = r < 32
Fits (Pair left right) = (left < 2 ^ 64) × (right < 2 ^ 64)

-- a command's operands, with the right number of its pair
abbrev pub command_operands : ℕ → Cmd → List Operand
command_operands right (HLd ra) = Number ra ∷ []
command_operands right (HSt ra value) = Number ra ∷ Number value ∷ []
command_operands right (HSelect lpid vid) = Number lpid ∷ Number vid ∷ []
command_operands right (HEnter lpid vid value) = Number lpid ∷ Number vid ∷ Number value ∷ []
command_operands right (UPate lpid dw0 dw1) = Number lpid ∷ Number dw0 ∷ Number dw1 ∷ []
command_operands right (URegslot lpid start size flags id) = Number lpid ∷ Number start ∷ Number size ∷ Number flags ∷ Number id ∷ []
command_operands right (UUnregslot lpid id) = Number lpid ∷ Number id ∷ []
command_operands right (UPagein lpid src gpa flags order) = Number lpid ∷ Number src ∷ Number gpa ∷ Number flags ∷ Number order ∷ []
command_operands right (UPageout lpid dest gpa flags order) = Number lpid ∷ Number dest ∷ Number gpa ∷ Number flags ∷ Number order ∷ []
command_operands right (UInval lpid gpa order) = Number lpid ∷ Number gpa ∷ Number order ∷ []
command_operands right (UReturn r0 r2 outs) = Number r0 ∷ Number r2 ∷ map (λ out. Number out) outs
command_operands right (GLi rd value) = Register rd ∷ Pair value right ∷ []
command_operands right (GAdd rd ra rb) = Register rd ∷ Register ra ∷ Register rb ∷ []
command_operands right (GXor rd ra rb) = Register rd ∷ Register ra ∷ Register rb ∷ []
command_operands right (GLd rd gpa) = Register rd ∷ Number gpa ∷ []
command_operands right (GSt rs gpa) = Register rs ∷ Number gpa ∷ []
command_operands right (Dump reg) = Register reg ∷ []
command_operands right cmd = []

-- the name of what a line tells its CPU to do
abbrev pub name_of : Directive → List ℕ
name_of (Once cmd) = command_name cmd
name_of GoAll = codes "go*"

-- its operands
abbrev pub operands_of : ℕ → Directive → List Operand
operands_of right (Once cmd) = command_operands right cmd
operands_of right GoAll = []

-- UV_RETURN has nine outputs
abbrev pub HasOutputs : Directive → Type 0
HasOutputs (Once (UReturn r0 r2 outs)) = length outs ≡ 9
HasOutputs d = Unit {0}

-- where no pair stands, there is 0 for its right number
abbrev pub HasRight : ℕ → Directive → Type 0
HasRight right (Once (GLi rd value)) = Unit {0}
HasRight right d = right ≡ 0

-- a directive that can be written, with the right number of its pair
pub record CanBeWritten (right : ℕ) (d : Directive) : Type 0 where
  pub operands : AllByRecursion Fits (operands_of right d)
  pub outputs : HasOutputs d
  pub pair : HasRight right d

-- a command line's words: its CPU, the directive's name, its operands
abbrev pub line_words : Bool → ReadLine → List (List ℕ)
line_words hex l = number_text hex l.line.cpu ∷ name_of l.line.directive ∷ map (operand_text hex) (operands_of l.right l.line.directive)

-- a seal by its name
abbrev pub seal_text : Bool → List ℕ
seal_text vault = if vault then codes "vault" else codes "stream"

-- the entropy words of a guest
pub record GuestWords : Type 0 where
  pub lpid : ℕ
  pub words : List EntropyWord

-- a word in front of those of guests: it is with those of its guest, where they come first
abbrev pub onto_guests : EntropyWord → List GuestWords → List GuestWords
onto_guests word [] = record { lpid = word.lpid; words = word ∷ [] } ∷ []
onto_guests word (g ∷ more) =
    if g.lpid == word.lpid
    then record { lpid = g.lpid; words = word ∷ g.words } ∷ more
    else record { lpid = word.lpid; words = word ∷ [] } ∷ g ∷ more

-- the words of each guest that has some
abbrev pub by_guest : List EntropyWord → List GuestWords
by_guest [] = []
by_guest (word ∷ words) = onto_guests word (by_guest words)

-- the words of the line of a guest that is secure from the start
abbrev pub born_words : Bool → ℕ → List (List ℕ)
born_words hex lpid = codes "born" ∷ number_text hex lpid ∷ []

-- and of that of a guest's entropy words
abbrev pub entropy_words : Bool → GuestWords → List (List ℕ)
entropy_words hex g = codes "entropy" ∷ number_text hex g.lpid ∷ map (λ (word : EntropyWord). pair_text hex word.left word.right) g.words

-- the words of the lines before the commands: the first line, each configuration line, `begin`
abbrev pub header_words : Bool → Config → List (List (List ℕ))
header_words hex config =
    (codes "pef" ∷ codes "1" ∷ [])
    ∷ (codes "shift" ∷ number_text hex config.shift ∷ [])
    ∷ (codes "normal" ∷ number_text hex config.normal ∷ [])
    ∷ (codes "secure" ∷ number_text hex config.secure ∷ [])
    ∷ (codes "cpus" ∷ number_text hex config.cpus ∷ [])
    ∷ (codes "guests" ∷ number_text hex config.guests ∷ [])
    ∷ (codes "vcpus" ∷ number_text hex config.vcpus ∷ [])
    ∷ (codes "pages" ∷ number_text hex config.pages ∷ [])
    ∷ (codes "seal" ∷ seal_text config.vault ∷ [])
    ∷ (codes "key" ∷ encode_lower config.key ∷ [])
    ∷ (map (born_words hex) config.born ++ (map (entropy_words hex) (by_guest config.entropy) ++ (codes "begin" ∷ []) ∷ []))

-- the text of a line's words
abbrev pub words_text : List (List ℕ) → List ℕ
words_text words = join_with_byte 32 words ++ codes "\n"

-- the text of a script
abbrev pub script_text : Bool → ReadScript → List ℕ
script_text hex s = flat_map words_text (header_words hex s.config ++ map (line_words hex) s.lines)

-- the lines' numbers count up from this one
abbrev pub CountsFrom : ℕ → List ReadLine → Type 0
CountsFrom number [] = Unit {0}
CountsFrom number (l ∷ more) = (l.line.number ≡ number) × CountsFrom (number + 1) more

-- a key of 32 bytes, and entropy words whose numbers are below 2^64
pub record AreSecrets (key : List ℕ) (words : List EntropyWord) : Type 0 where
  pub size : length key ≡ 32
  pub bytes : IsBytes key
  pub fit : AllByRecursion (λ (word : EntropyWord). (word.left < 2 ^ 64) × (word.right < 2 ^ 64)) words

-- a script that can be written: its configuration is in its ranges, and its lines follow one another behind `begin`, each one of a CPU with a directive that can be written
pub record IsWritable (hex : Bool) (s : ReadScript) : Type 0 where
  pub range : IsInRange s.config
  pub secrets : AreSecrets s.config.key s.config.entropy
  pub counts : CountsFrom (length (header_words hex s.config) + 1) s.lines
  pub cpus : AllByRecursion (λ (l : ReadLine). l.line.cpu < s.config.cpus) s.lines
  pub directives : AllByRecursion (λ (l : ReadLine). CanBeWritten l.right l.line.directive) s.lines
