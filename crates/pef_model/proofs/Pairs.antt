-- Two runs that page out pages with different values: the stream's sealed pages differ.
use Rattle.std.proofs.Common.{◌≡◌, ℕ, ◌^◌, ◌<◌, List, [], ◌∷◌, drop, replicate, refl, ap, sym, ◌∙◌, arith}
use Rattle.pef_model.specs.Plan.{Plan, plan_of}
use Rattle.pef_model.specs.Event.{Event}
use Rattle.pef_model.specs.Doubleword.{doubleword}
use Rattle.pef_model.specs.Seal.{stream_image}
use Rattle.pef_model.specs.PageOut.{page_bytes}
use Rattle.pef_model.specs.History.{last_store}
use Rattle.pef_model.specs.Run.{run_of}
use Rattle.pef_model.specs.RunLaw.{small_config, page_out_script}
use Rattle.pef_model.specs.View.{Sight, view}
use Rattle.pef_model.specs.Memory.{Write}
use Rattle.pef_model.specs.SeenReport.{all_sealed}
use Rattle.pef_model.specs.PairLaw.{StreamTells}
use Rattle.pef_model.proofs.PageBytes.{page_has_each_doubleword}
use Rattle.pef_model.proofs.Streams.{stream_image-tells}

abbrev plan : Plan
plan = plan_of small_config

abbrev run : ℕ → List Event
run value = run_of (page_out_script small_config value)

-- the page before its page-out begins, which is the third entry from the end
abbrev page : ℕ → List ℕ
page value = page_bytes 8 (last_store plan (drop 3 (run value)) 1) 0

abbrev sealed_page : ℕ → List ℕ
sealed_page value = stream_image (replicate 32 0) (record { lpid = 1; generation = 1; gfn = 0; version = 1 }) (page value)

-- what the second entry from the end writes: it is the copy
copied_bytes : List Sight → List ℕ
copied_bytes [] = []
copied_bytes (end ∷ []) = []
copied_bytes (end ∷ copy ∷ earlier) = first_bytes copy.writes where
  first_bytes : List Write → List ℕ
  first_bytes [] = []
  first_bytes (write ∷ more) = write.bytes

first_page : List (List ℕ) → List ℕ
first_page [] = []
first_page (sealed ∷ more) = sealed

is_sealed : (value : ℕ) → first_page (all_sealed (run value)) ≡ sealed_page value
unfolding first_page
is_sealed value = refl

is_copied : (value : ℕ) → copied_bytes (view plan (run value)) ≡ sealed_page value
unfolding copied_bytes
is_copied value = refl

-- the page has the value that was stored there
holds : (value : ℕ) → value < 2 ^ 64 → doubleword (page value) 8 ≡ value
holds value small = page_has_each_doubleword 8 (last_store plan (drop 3 (run value)) 1) 8 (omega arith, omega arith) refl small

-- so sealed pages that are the same hold the same
tells : (one other : ℕ) → one < 2 ^ 64 → other < 2 ^ 64 → sealed_page one ≡ sealed_page other → one ≡ other
tells one other small small_too same =
    sym (holds one small) ∙ ap (λ (bytes : List ℕ). doubleword bytes 8) (stream_image-tells _ _ (page one) (page other) same) ∙ holds other small_too

pub stream_tells : StreamTells
stream_tells = record {
  sealed = λ same. absurd (apart (sym (is_sealed 7) ∙ ap first_page same ∙ is_sealed 9));
  seen = λ same. absurd (apart (sym (is_copied 7) ∙ ap copied_bytes same ∙ is_copied 9));
} where
  apart : sealed_page 7 ≡ sealed_page 9 → ⊥
  apart same = omega (arith, tells 7 9 (omega arith) (omega arith) same)
