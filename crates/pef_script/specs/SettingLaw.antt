-- The lines before the commands at the edge of the grammar, each computed from the definitions.
use Rattle.std.specs.Prelude.{◌≡◌, ℕ, true, false, List, [], ◌∷◌, ◌++◌, replicate, codes, Ok}
use Rattle.std.specs.List.{flat_map}
use Rattle.pef_model.specs.declared.config.Config.{Config}
use Rattle.pef_model.specs.Plan.{default_config}
use Rattle.pef_script.specs.declared.fault.Cause.TheVariants.{Header, Word, Count, Number, Range, NoBegin}
use Rattle.pef_script.specs.Script.{script_or_fault}
use Rattle.pef_script.specs.FaultLaw.{HasFault}

-- a text is a script of a configuration without commands
abbrev pub IsIdle : List ℕ → Config → Type 0
IsIdle text config = script_or_fault text ≡ Ok (record { config = config; lines = [] })

-- lines between the first one and `begin`
abbrev pub header : List ℕ → List ℕ
header lines = codes "pef 1\n" ++ (lines ++ codes "begin\n")

-- each size from its least to its greatest value
pub record SizesAtTheEdge : Type 0 where
  pub shift_too_small : HasFault (header (codes "shift 7\n")) 2 Range
  pub least_shift : IsIdle (header (codes "shift 8\n")) (record default_config { shift = 8 })
  pub greatest_shift : IsIdle (header (codes "shift 0x10\n")) (record default_config { shift = 16 })
  pub shift_too_great : HasFault (header (codes "shift 17\n")) 2 Range
  pub no_normal : HasFault (header (codes "normal 0\n")) 2 Range
  pub least_normal : IsIdle (header (codes "normal 1\n")) (record default_config { normal = 1 })
  pub greatest_normal : IsIdle (header (codes "normal 1024\n")) (record default_config { normal = 1024 })
  pub normal_too_great : HasFault (header (codes "normal 1025\n")) 2 Range
  pub no_secure : HasFault (header (codes "secure 0\n")) 2 Range
  pub least_secure : IsIdle (header (codes "secure 1\n")) (record default_config { secure = 1 })
  pub greatest_secure : IsIdle (header (codes "secure 1024\n")) (record default_config { secure = 1024 })
  pub secure_too_great : HasFault (header (codes "secure 1025\n")) 2 Range
  pub no_cpu : HasFault (header (codes "cpus 0\n")) 2 Range
  pub least_cpus : IsIdle (header (codes "cpus 1\n")) (record default_config { cpus = 1 })
  pub greatest_cpus : IsIdle (header (codes "cpus 16\n")) (record default_config { cpus = 16 })
  pub cpus_too_great : HasFault (header (codes "cpus 17\n")) 2 Range
  pub no_guest : HasFault (header (codes "guests 0\n")) 2 Range
  pub least_guests : IsIdle (header (codes "guests 1\n")) (record default_config { guests = 1 })
  pub greatest_guests : IsIdle (header (codes "guests 16\n")) (record default_config { guests = 16 })
  pub guests_too_great : HasFault (header (codes "guests 17\n")) 2 Range
  pub no_vcpu : HasFault (header (codes "vcpus 0\n")) 2 Range
  pub least_vcpus : IsIdle (header (codes "vcpus 1\n")) (record default_config { vcpus = 1 })
  pub greatest_vcpus : IsIdle (header (codes "vcpus 8\n")) (record default_config { vcpus = 8 })
  pub vcpus_too_great : HasFault (header (codes "vcpus 9\n")) 2 Range
  pub no_page : HasFault (header (codes "pages 0\n")) 2 Range
  pub least_pages : IsIdle (header (codes "pages 1\n")) (record default_config { pages = 1 })
  pub greatest_pages : IsIdle (header (codes "pages 1024\n")) (record default_config { pages = 1024 })
  pub pages_too_great : HasFault (header (codes "pages 1025\n")) 2 Range

-- 64 words
abbrev pub sixty_four : List ℕ
sixty_four = flat_map (λ word. word) (replicate 64 (codes " 7"))

-- guests that are born, and that have entropy words: from 1 to their number, each above the one before
pub record GuestsAtTheEdge : Type 0 where
  pub born : IsIdle (header (codes "guests 3\nborn 1\nborn 3\n")) (record default_config { guests = 3; born = 1 ∷ 3 ∷ [] })
  pub none_born : HasFault (header (codes "born 0\n")) 2 Range
  pub born_too_great : HasFault (header (codes "guests 3\nborn 4\n")) 3 Range
  pub born_again : HasFault (header (codes "guests 3\nborn 2\nborn 2\n")) 4 Range
  pub born_falls : HasFault (header (codes "guests 3\nborn 2\nborn 1\n")) 4 Range
  pub entropy :
      IsIdle (header (codes "guests 3\nentropy 1 1|2 3\nentropy 3 0x4\n"))
      (record default_config { guests = 3; entropy = record { lpid = 1; left = 1; right = 2 } ∷ record { lpid = 1; left = 3; right = 3 } ∷ record { lpid = 3; left = 4; right = 4 } ∷ [] })
  pub entropy_of_none : HasFault (header (codes "entropy 0 1\n")) 2 Range
  pub entropy_too_great : HasFault (header (codes "guests 3\nentropy 4 1\n")) 3 Range
  pub entropy_again : HasFault (header (codes "entropy 1 1\nentropy 1 1\n")) 3 Range
  pub no_word : HasFault (header (codes "entropy 1\n")) 2 Count
  pub most_words : IsIdle (header (codes "entropy 1" ++ (sixty_four ++ codes "\n"))) (record default_config { entropy = replicate 64 (record { lpid = 1; left = 7; right = 7 }) })
  pub word_too_many : HasFault (header (codes "entropy 1 7" ++ (sixty_four ++ codes "\n"))) 2 Count
  pub no_pair : HasFault (header (codes "entropy 1 1|\n")) 2 Number

-- the seal and the key
pub record SealsAtTheEdge : Type 0 where
  pub stream : IsIdle (header (codes "seal stream\n")) default_config
  pub vault : IsIdle (header (codes "seal vault\n")) (record default_config { vault = true })
  pub other_seal : HasFault (header (codes "seal wax\n")) 2 Word
  pub other_seals : HasFault (header (codes "seal wax wax\n")) 2 Word
  pub two_seals : HasFault (header (codes "seal vault vault\n")) 2 Count
  pub no_seal : HasFault (header (codes "seal\n")) 2 Count
  pub key :
      IsIdle (header (codes "key 000102030405060708090a0b0c0d0e0f101112131415161718191A1B1C1D1eFf\n"))
      (record default_config { key = 0 ∷ 1 ∷ 2 ∷ 3 ∷ 4 ∷ 5 ∷ 6 ∷ 7 ∷ 8 ∷ 9 ∷ 10 ∷ 11 ∷ 12 ∷ 13 ∷ 14 ∷ 15 ∷ 16 ∷ 17 ∷ 18 ∷ 19 ∷ 20 ∷ 21 ∷ 22 ∷ 23 ∷ 24 ∷ 25 ∷ 26 ∷ 27 ∷ 28 ∷ 29 ∷ 30 ∷ 255 ∷ [] })
  pub short_key : HasFault (header (codes "key 000102030405060708090a0b0c0d0e0f101112131415161718191a1b1c1d1e1\n")) 2 Number
  pub long_key : HasFault (header (codes "key 000102030405060708090a0b0c0d0e0f101112131415161718191a1b1c1d1e1f0\n")) 2 Number
  pub other_key : HasFault (header (codes "key 000102030405060708090a0b0c0d0e0f101112131415161718191a1b1c1d1e1g\n")) 2 Number
  pub no_key : HasFault (header (codes "key\n")) 2 Count

-- configuration lines in their order, each at most once but for those of guests
pub record OrdersAtTheEdge : Type 0 where
  pub nothing :
      IsIdle (header (codes ""))
      (record { shift = 16; normal = 16; secure = 16; cpus = 1; guests = 1; vcpus = 1; pages = 16; vault = false; key = replicate 32 0; born = []; entropy = [] })
  pub all :
      IsIdle (header (codes "shift 9\nnormal 2\nsecure 3\ncpus 4\nguests 5\nvcpus 6\npages 7\nseal vault\nkey 0707070707070707070707070707070707070707070707070707070707070707\nborn 2\nborn 4\nentropy 3 8|9\n"))
      (record { shift = 9; normal = 2; secure = 3; cpus = 4; guests = 5; vcpus = 6; pages = 7; vault = true; key = replicate 32 7; born = 2 ∷ 4 ∷ []; entropy = record { lpid = 3; left = 8; right = 9 } ∷ [] })
  pub twice : HasFault (header (codes "shift 8\nshift 8\n")) 3 Word
  pub vcpus_twice : HasFault (header (codes "vcpus 2\nvcpus 2\n")) 3 Word
  pub seal_twice : HasFault (header (codes "seal vault\nseal vault\n")) 3 Word
  pub key_twice :
      HasFault (header (codes "key 0707070707070707070707070707070707070707070707070707070707070707\nkey 0707070707070707070707070707070707070707070707070707070707070707\n")) 3 Word
  pub wrong_order : HasFault (header (codes "normal 2\nshift 8\n")) 3 Word
  pub secure_before_normal : HasFault (header (codes "secure 2\nnormal 2\n")) 3 Word
  pub guests_too_late : HasFault (header (codes "vcpus 2\nguests 2\n")) 3 Word
  pub seal_too_soon : HasFault (header (codes "seal vault\npages 2\n")) 3 Word
  pub born_too_soon : HasFault (header (codes "born 1\nseal vault\n")) 3 Word
  pub entropy_too_soon : HasFault (header (codes "entropy 1 1\nborn 1\n")) 3 Word
  pub two_numbers : HasFault (header (codes "shift 8 8\n")) 2 Count
  pub no_number : HasFault (header (codes "shift\n")) 2 Count
  pub other_number : HasFault (header (codes "shift r8\n")) 2 Number
  pub other_line : HasFault (header (codes "frames 8\n")) 2 Word
  pub program : HasFault (header (codes "prog 0\n")) 2 Word

-- the first line, and `begin`
pub record EndsAtTheEdge : Type 0 where
  pub empty : HasFault (codes "") 1 Header
  pub other_version : HasFault (codes "pef 2\nbegin\n") 1 Header
  pub other_number : HasFault (codes "pef 01\nbegin\n") 1 Header
  pub version_alone : HasFault (codes "1\nbegin\n") 1 Header
  pub three_words : HasFault (codes "pef 1 1\nbegin\n") 1 Header
  pub not_first : HasFault (codes "shift 8\npef 1\nbegin\n") 1 Header
  pub comment_first : HasFault (codes "# c\npef 1\nbegin\n") 1 Header
  pub spaces : IsIdle (codes "  pef   1 \n begin  \n") default_config
  pub no_begin : HasFault (codes "pef 1\nborn 1\n") 3 NoBegin
  pub no_begin_and_no_line_feed : HasFault (codes "pef 1\nborn 1") 3 NoBegin
  pub first_line_alone : HasFault (codes "pef 1") 2 NoBegin
  pub other_begin : HasFault (codes "pef 1\nend\n") 2 Word
  pub no_last_line_feed : IsIdle (codes "pef 1\nbegin") default_config
  pub skipped : IsIdle (codes "pef 1\n\n  \n# c\n#\nshift 8\n#shift 9\nbegin\n\n# c\n  \n") (record default_config { shift = 8 })
  pub carriage_return : HasFault (codes "pef 1\nbegin\r\n") 2 Word

-- the edge, whole
pub record SettingsAtTheEdge : Type 0 where
  pub sizes : SizesAtTheEdge
  pub guests : GuestsAtTheEdge
  pub seals : SealsAtTheEdge
  pub orders : OrdersAtTheEdge
  pub ends : EndsAtTheEdge
