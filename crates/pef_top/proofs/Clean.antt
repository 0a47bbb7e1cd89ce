-- Histories with and without a digest collision, as they go on.
use Rattle.std.proofs.Common.{◌≡◌, Bool, true, false, not, ◌&&◌, if◌then◌else◌, List, [], ◌∷◌, ◌++◌, refl, ap, sym, ◌∙◌}
use Rattle.pef_model.specs.Plan.{Plan}
use Rattle.pef_model.specs.Event.{Event}
use Rattle.pef_model.specs.Sound.{is_clash, is_clean, sound}

both_hold : (clean clash : Bool) → (clean && not clash) ≡ true → (clean ≡ true) × (clash ≡ false)
both_hold true false e = (refl, refl)
both_hold true true e = absurd (cc)
both_hold false clash e = absurd (cc)

-- a history with one more entry is clean only where it was, and the entry is no clash
pub clean_parts : (plan : Plan) (past : List Event) (e : Event) → is_clean plan (e ∷ past) ≡ true → (is_clean plan past ≡ true) × (is_clash plan past e ≡ false)
clean_parts plan past e clean = both_hold (is_clean plan past) (is_clash plan past e) clean

-- a history that isn't clean stays so as it goes on
pub unclean-append : (plan : Plan) (block past : List Event) → is_clean plan past ≡ false → is_clean plan (block ++ past) ≡ false
unclean-append plan [] past unclean = unclean
unclean-append plan (e ∷ block) past unclean = ap (λ (clean : Bool). clean && not (is_clash plan (block ++ past) e)) (unclean-append plan block past unclean)

-- an entry with which a history isn't clean leaves what stands before the first clash
pub sound-unclean : (plan : Plan) (past : List Event) (e : Event) → is_clean plan (e ∷ past) ≡ false → sound plan (e ∷ past) ≡ sound plan past
sound-unclean plan past e unclean = ap (λ (clean : Bool). if clean then e ∷ past else sound plan past) unclean

-- and so do all that follow
pub sound-append : (plan : Plan) (block past : List Event) → is_clean plan past ≡ false → sound plan (block ++ past) ≡ sound plan past
sound-append plan [] past unclean = refl
sound-append plan (e ∷ block) past unclean = sound-unclean plan (block ++ past) e (unclean-append plan (e ∷ block) past unclean) ∙ sound-append plan block past unclean

-- nothing of a clean history stands behind a clash
pub sound-clean : (plan : Plan) (past : List Event) → is_clean plan past ≡ true → sound plan past ≡ past
sound-clean plan [] clean = refl
sound-clean plan (e ∷ past) clean = ap (λ (b : Bool). if b then e ∷ past else sound plan past) clean

-- a clean history stands whole before the first clash of one that goes on from it
pub sound-holds : (plan : Plan) (block past : List Event) → is_clean plan past ≡ true → (more : List Event) × (sound plan (block ++ past) ≡ more ++ past)
sound-holds plan [] past clean = ([], sound-clean plan past clean)
sound-holds plan (e ∷ block) past clean = by_test (is_clean plan (e ∷ block ++ past)) (sound-holds plan block past clean)
  where
    by_test : (b : Bool) → ((more : List Event) × (sound plan (block ++ past) ≡ more ++ past)) → (more : List Event) × ((if b then e ∷ block ++ past else sound plan (block ++ past)) ≡ more ++ past)
    by_test true earlier = (e ∷ block, refl)
    by_test false earlier = earlier

-- a history that isn't clean, and has before its first clash what another has
pub record IsCutAs (plan : Plan) (past whole : List Event) : Type 0 where
  pub unclean : is_clean plan whole ≡ false
  pub sound : sound plan whole ≡ sound plan past

-- one that goes on from a history that isn't clean is cut as it is
pub cut-append : (plan : Plan) (block past whole : List Event) → whole ≡ block ++ past → is_clean plan past ≡ false → IsCutAs plan past whole
cut-append plan block past whole is unclean = record {
  unclean = ap (is_clean plan) is ∙ unclean-append plan block past unclean;
  sound = ap (sound plan) is ∙ sound-append plan block past unclean;
}

-- where a history that goes on from an entry while all is clean, and else is cut as it is, is still cut so with the entry
pub cut_step : (plan : Plan) (past whole : List Event) (e : Event) → (is_clean plan past ≡ true → (block : List Event) × (whole ≡ block ++ (e ∷ past))) →
    (is_clean plan past ≡ false → IsCutAs plan past whole) → is_clean plan (e ∷ past) ≡ false → IsCutAs plan (e ∷ past) whole
cut_step plan past whole e goes cut unclean = by_clean (is_clean plan past) refl
  where
    by_clean : (b : Bool) → is_clean plan past ≡ b → IsCutAs plan (e ∷ past) whole
    by_clean true clean = cut-append plan (goes clean).0 (e ∷ past) whole (goes clean).1 unclean
    by_clean false before = record { unclean = (cut before).unclean; sound = (cut before).sound ∙ sym (sound-unclean plan past e unclean) }

-- where a clean history is one that is cut as another if that isn't clean, the other is clean
pub clean_whole : (plan : Plan) (past whole : List Event) → (is_clean plan past ≡ false → IsCutAs plan past whole) → is_clean plan whole ≡ true → is_clean plan past ≡ true
clean_whole plan past whole cut clean = by_clean (is_clean plan past) refl
  where
    by_clean : (b : Bool) → is_clean plan past ≡ b → is_clean plan past ≡ true
    by_clean true is = is
    by_clean false is = absurd (let both : true ≡ false = sym clean ∙ (cut is).unclean in cc)
