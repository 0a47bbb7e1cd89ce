-- The configuration lines: each one's name, how many operands it has, which lines may come behind it, and what it sets.
use Rattle.std.specs.Prelude.{◌≡◌, ℕ, ◌-◌, slice_index, slice_get, nat_le, nat_lt, ◌&&◌, if◌then◌else◌, Bool, true, false, List, [], ◌∷◌, ◌++◌, length, drop, codes, Option, Some, None, option_map, option_and_then, is_some, Result, Ok, Err}
use Rattle.std.specs.List.{find, list_all}
use Rattle.std.specs.Str.{bytes_eq}
use Rattle.pef_model.specs.declared.config.Config.{Config}
use Rattle.pef_model.specs.declared.config.EntropyWord.{EntropyWord}
use Rattle.pef_model.specs.Words.{number_in}
use Rattle.hex.specs.Hex.{decode_sized}
use Rattle.pef_script.specs.declared.fault.Cause.{Cause}
use Rattle.pef_script.specs.declared.fault.Cause.TheVariants as cause
use Rattle.pef_script.specs.declared.fault.LineEnd.{LineEnd}
use Rattle.pef_script.specs.declared.fault.LineEnd.TheVariants.{Fault, NoMemory}
use Rattle.pef_script.specs.declared.setting.Setting.{Setting}
use Rattle.pef_script.specs.declared.setting.Setting.TheVariants as s
use Rattle.pef_script.specs.declared.setting.SettingRow.{SettingRow}
use Rattle.pef_script.specs.declared.setting.Header.{Header}
use Rattle.pef_script.specs.Cause.{◌>>=◌, or_fault, first}
use Rattle.pef_script.specs.Token.{pair_in}

-- a configuration line: its name, its fewest and its most operands, the place of the first line that may come behind it, whether its operands are of its words, and what it sets
pub record Form : Type 0 where
  pub name : List ℕ
  pub few : ℕ
  pub many : ℕ
  pub next : ℕ
  pub knows : List (List ℕ) → Bool
  pub set : Config → List (List ℕ) → Result Config Cause

-- a number from a least one to a greatest one
abbrev pub within : ℕ → ℕ → ℕ → Option ℕ
within least greatest n = if nat_le least n && nat_le n greatest then Some n else None

-- the one operand that is such a number
unfoldable pub size_in : ℕ → ℕ → List (List ℕ) → Result ℕ Cause
size_in least greatest operands = do
  n ← or_fault cause.Number (option_and_then number_in (first operands))
  or_fault cause.Range (within least greatest n)

-- operands of which none has to be a certain word
abbrev pub any : List (List ℕ) → Bool
any operands = true

-- a line with one such number, which is set
abbrev pub sized : List ℕ → ℕ → ℕ → ℕ → (Config → ℕ → Config) → Form
sized name next least greatest set = record {
  name = name;
  few = 1;
  many = 1;
  next = next;
  knows = any;
  set = λ config operands. size_in least greatest operands >>= (λ n. Ok (set config n));
}

-- whether a number is above the last of others, or above 0 where there is none
abbrev pub rises : List ℕ → ℕ → Bool
rises ns n = nat_lt (slice_index ns (length ns - 1)) n

-- one more guest is secure from the start; the guests' numbers rise
unfoldable pub born_set : Config → List (List ℕ) → Result Config Cause
born_set config operands = do
  n ← size_in 1 config.guests operands
  lpid ← or_fault cause.Range (if rises config.born n then Some n else None)
  Ok (record config { born = config.born ++ lpid ∷ [] })

-- whether a seal is the vault
abbrev pub vault_in : List ℕ → Option Bool
vault_in word = if bytes_eq word (codes "vault") then Some true else if bytes_eq word (codes "stream") then Some false else None

-- whether the first operand, if there is one, is a seal
abbrev pub seal_known : List (List ℕ) → Bool
seal_known [] = true
seal_known (word ∷ more) = is_some (vault_in word)

-- the seal is set
abbrev pub seal_set : Config → List (List ℕ) → Result Config Cause
seal_set config operands = do
  vault ← or_fault cause.Word (option_and_then vault_in (first operands))
  Ok (record config { vault = vault })

-- the value of a result without a fault
abbrev pub ok_of : {A E : Type 0} → Result A E → Option A
ok_of (Ok x) = Some x
ok_of (Err e) = None

-- 32 bytes in 64 hexadecimal digits of either case
abbrev pub key_in : List ℕ → Option (List ℕ)
key_in token = ok_of (decode_sized token 32)

-- the key is set
unfoldable pub key_set : Config → List (List ℕ) → Result Config Cause
key_set config operands = do
  key ← or_fault cause.Number (option_and_then key_in (first operands))
  Ok (record config { key = key })

-- whether all tokens are pairs
abbrev pub all_pairs : List (List ℕ) → Bool
all_pairs tokens = list_all (λ token. is_some (pair_in token)) tokens

-- words with those of a guest behind them, one for each pair
abbrev pub words_in : List EntropyWord → ℕ → List (List ℕ) → Result (List EntropyWord) Cause
words_in words lpid [] = Ok words
words_in words lpid (token ∷ more) = or_fault cause.Number (pair_in token) >>= (λ p. words_in (words ++ record { lpid = lpid; left = p.left; right = p.right } ∷ []) lpid more)

-- the guest of a word, or 0 where there is none
abbrev pub guest_or_none : Option EntropyWord → ℕ
guest_or_none None = 0
guest_or_none (Some word) = word.lpid

-- the guest of the last word
abbrev pub last_guest : List EntropyWord → ℕ
last_guest words = guest_or_none (slice_get words (length words - 1))

-- a guest's entropy words are set; the guests' numbers rise
unfoldable pub entropy_set : Config → List (List ℕ) → Result Config Cause
entropy_set config operands = do
  n ← or_fault cause.Number (option_and_then number_in (first operands))
  all ← or_fault cause.Number (if all_pairs (drop 1 operands) then Some n else None)
  own ← or_fault cause.Range (within 1 config.guests n)
  lpid ← or_fault cause.Range (if nat_lt (last_guest config.entropy) own then Some own else None)
  words ← words_in config.entropy lpid (drop 1 operands)
  Ok (record config { entropy = words })

-- the configuration lines; the place of a line is its number in `settings`, and `born` and `entropy` may be repeated
abbrev pub form : Setting → Form
form s.Shift = sized (codes "shift") 1 8 16 (λ config n. record config { shift = n })
form s.Normal = sized (codes "normal") 2 1 1024 (λ config n. record config { normal = n })
form s.Secure = sized (codes "secure") 3 1 1024 (λ config n. record config { secure = n })
form s.Cpus = sized (codes "cpus") 4 1 16 (λ config n. record config { cpus = n })
form s.Guests = sized (codes "guests") 5 1 16 (λ config n. record config { guests = n })
form s.Vcpus = sized (codes "vcpus") 6 1 8 (λ config n. record config { vcpus = n })
form s.Pages = sized (codes "pages") 7 1 1024 (λ config n. record config { pages = n })
form s.Seal = record { name = codes "seal"; few = 1; many = 1; next = 8; knows = seal_known; set = seal_set }
form s.Key = record { name = codes "key"; few = 1; many = 1; next = 9; knows = any; set = key_set }
form s.Born = record { name = codes "born"; few = 1; many = 1; next = 9; knows = any; set = born_set }
form s.Entropy = record { name = codes "entropy"; few = 2; many = 65; next = 10; knows = any; set = entropy_set }

-- the configuration lines in their order
abbrev pub settings : List Setting
settings = s.Shift ∷ s.Normal ∷ s.Secure ∷ s.Cpus ∷ s.Guests ∷ s.Vcpus ∷ s.Pages ∷ s.Seal ∷ s.Key ∷ s.Born ∷ s.Entropy ∷ []

-- the configuration line of a name, from a place on
unfoldable pub setting_from : ℕ → List ℕ → Option Setting
setting_from place name = find (λ s. bytes_eq (form s).name name) (drop place settings)

-- the configuration line of a row of the code's table
abbrev pub form_in : SettingRow → Form
form_in row = record { name = row.name.now; few = row.few; many = row.many; next = row.next; knows = (form row.setting).knows; set = (form row.setting).set }

-- the configuration line whose name is the first token, from a place on
abbrev pub form_of : ℕ → List (List ℕ) → Option Form
form_of place tokens = option_and_then (λ name. option_map form (setting_from place name)) (first tokens)

-- what the line of some tokens sets, where the lines from a place on may come: the causes in the order in which they are tried
unfoldable pub setting_in : ℕ → Config → List (List ℕ) → Result Header Cause
setting_in place config tokens = do
  f ← or_fault cause.Word (form_of place tokens)
  known ← or_fault cause.Word (if f.knows (drop 1 tokens) then Some f else None)
  count ← or_fault cause.Count (within f.few f.many (length (drop 1 tokens)))
  c ← f.set config (drop 1 tokens)
  Ok (record { config = c; place = f.next })

-- a function of the code ended with the fault that the definition gives, unless memory ran out
abbrev pub Fails : {Y : Type 0} → LineEnd → Result Y Cause → Type 0
Fails NoMemory wanted = Unit {0}
Fails (Fault cause) wanted = wanted ≡ Err cause

-- a function of the code gave what the definition gives, seen so, unless memory ran out
abbrev pub Gives : {X Y : Type 0} → (X → Y) → Result X LineEnd → Result Y Cause → Type 0
Gives view (Ok x) wanted = wanted ≡ Ok (view x)
Gives view (Err e) wanted = Fails e wanted
