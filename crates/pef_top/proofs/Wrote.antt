-- What was written of a history, up to its first digest collision.
use Rattle.std.proofs.Common.{◌≡◌, ℕ, Bool, true, false, List, [], ◌∷◌, ◌++◌, take, ◌⊎◌, inl, inr, refl, ap, sym, subst, ◌∙◌, append_assoc, append-nil}
use Rattle.pef_io.specs.Sink.{AppendsPrefix}
use Rattle.pef_model.specs.Event.{Event}
use Rattle.pef_model.specs.Plan.{Plan}
use Rattle.pef_model.specs.Report.{entry_line}
use Rattle.pef_model.specs.Sound.{is_clash, is_clean, sound}
use Rattle.pef_top.specs.Text.{text_of, AppendsMore, WroteBy, Wrote, WrotePartBy, WrotePart}
use Rattle.pef_top.proofs.Clean.{clean_parts, sound-unclean, sound-clean, sound-holds, IsCutAs, cut-append, cut_step}
use Rattle.pef_top.proofs.RunText.{written_more, part_more, part-append}

-- what is known of whether a history is clean says what was written of it
pub wrote_is : (plan : Plan) (start now : List ℕ) (past : List Event) (b : Bool) → is_clean plan past ≡ b → Wrote plan start now past → WroteBy b plan start now past
wrote_is plan start now past b is wrote = subst (λ (clean : Bool). WroteBy clean plan start now past) is wrote

is_wrote : (plan : Plan) (start now : List ℕ) (past : List Event) (b : Bool) → is_clean plan past ≡ b → WroteBy b plan start now past → Wrote plan start now past
is_wrote plan start now past b is wrote = subst (λ (clean : Bool). WroteBy clean plan start now past) (sym is) wrote

pub part_is : (plan : Plan) (start now : List ℕ) (past : List Event) (b : Bool) → is_clean plan past ≡ b → WrotePart plan start now past → WrotePartBy b plan start now past
part_is plan start now past b is part = subst (λ (clean : Bool). WrotePartBy clean plan start now past) is part

is_part : (plan : Plan) (start now : List ℕ) (past : List Event) (b : Bool) → is_clean plan past ≡ b → WrotePartBy b plan start now past → WrotePart plan start now past
is_part plan start now past b is part = subst (λ (clean : Bool). WrotePartBy clean plan start now past) (sym is) part

-- what is written behind a text and more is more
more-append : (start old new : List ℕ) (text added : List ℕ) → AppendsMore start old text → new ≡ old ++ added → AppendsMore start new text
more-append start old new text added before now = record {
  more = before.more ++ added;
  bytes =
      now ∙ ap (λ (bytes : List ℕ). bytes ++ added) before.bytes ∙ append_assoc start (text ++ before.more) added
      ∙ ap (λ (end : List ℕ). start ++ end) (append_assoc text before.more added);
}

-- of every history at least the lines before its first clash were written
wrote_sound : (plan : Plan) (start now : List ℕ) (past : List Event) → Wrote plan start now past → AppendsMore start now (text_of (sound plan past))
wrote_sound plan start now past wrote = by_clean (is_clean plan past) refl
  where
    by_clean : (b : Bool) → is_clean plan past ≡ b → AppendsMore start now (text_of (sound plan past))
    by_clean false unclean = wrote_is plan start now past false unclean wrote
    by_clean true clean = record {
      more = [];
      bytes = wrote_is plan start now past true clean wrote ∙ ap (λ (end : List ℕ). start ++ end) (ap text_of (sym (sound-clean plan past clean)) ∙ sym (append-nil (text_of (sound plan past))));
    }

-- and more, where something was written behind them
pub wrote_more : (plan : Plan) (start old new : List ℕ) (past : List Event) (added : List ℕ) → Wrote plan start old past → new ≡ old ++ added → AppendsMore start new (text_of (sound plan past))
wrote_more plan start old new past added wrote now = more-append start old new (text_of (sound plan past)) added (wrote_sound plan start old past wrote) now

-- a text behind a history's lines is the line of the next entry, unless that is a clash or comes after one
pub wrote_step : (plan : Plan) (start old new : List ℕ) (past : List Event) (e : Event) (text : List ℕ) → Wrote plan start old past → new ≡ old ++ text →
    (is_clean plan past ≡ true → is_clash plan past e ≡ false → text ≡ entry_line e) → Wrote plan start new (e ∷ past)
wrote_step plan start old new past e text wrote now own = by_clean (is_clean plan (e ∷ past)) refl
  where
    by_clean : (b : Bool) → is_clean plan (e ∷ past) ≡ b → Wrote plan start new (e ∷ past)
    by_clean false unclean =
        is_wrote plan start new (e ∷ past) false unclean
        (subst (λ (earlier : List Event). AppendsMore start new (text_of earlier)) (sym (sound-unclean plan past e unclean)) (wrote_more plan start old new past text wrote now))
    by_clean true clean =
        let parts = clean_parts plan past e clean in
        is_wrote plan start new (e ∷ past) true clean
        (written_more start old new e past (wrote_is plan start old past true parts.0 wrote) (now ∙ ap (λ (end : List ℕ). old ++ end) (own parts.0 parts.1)))

-- and so it is with a first part of that text
pub part_step : (plan : Plan) (start old new : List ℕ) (past : List Event) (e : Event) (text : List ℕ) → Wrote plan start old past → AppendsPrefix old new text →
    (is_clean plan past ≡ true → is_clash plan past e ≡ false → text ≡ entry_line e) → WrotePart plan start new (e ∷ past)
part_step plan start old new past e text wrote part own = by_clean (is_clean plan (e ∷ past)) refl
  where
    by_clean : (b : Bool) → is_clean plan (e ∷ past) ≡ b → WrotePart plan start new (e ∷ past)
    by_clean false unclean =
        is_part plan start new (e ∷ past) false unclean
        (inr (subst (λ (earlier : List Event). AppendsMore start new (text_of earlier)) (sym (sound-unclean plan past e unclean)) (wrote_more plan start old new past (take part.count text) wrote part.bytes)))
    by_clean true clean =
        let parts = clean_parts plan past e clean in
        is_part plan start new (e ∷ past) true clean
        (part_more start old new e past (wrote_is plan start old past true parts.0 wrote) (subst (λ (line : List ℕ). AppendsPrefix old new line) (own parts.0 parts.1) part))

-- what was written of a history was written of another that is cut as it is
wrote_cut : (plan : Plan) (start now : List ℕ) (past whole : List Event) → IsCutAs plan past whole → is_clean plan past ≡ false → Wrote plan start now past → Wrote plan start now whole
wrote_cut plan start now past whole cut unclean wrote =
    is_wrote plan start now whole false cut.unclean
    (subst (λ (earlier : List Event). AppendsMore start now (text_of earlier)) (sym cut.sound) (wrote_is plan start now past false unclean wrote))

part_cut : (plan : Plan) (start now : List ℕ) (past whole : List Event) → IsCutAs plan past whole → is_clean plan past ≡ false → WrotePart plan start now past → WrotePart plan start now whole
part_cut plan start now past whole cut unclean part =
    is_part plan start now whole false cut.unclean
    (subst (λ (earlier : List Event). AppendsPrefix start now (text_of earlier) ⊎ AppendsMore start now (text_of earlier)) (sym cut.sound) (part_is plan start now past false unclean part))

-- and it was of a history that it is where it is clean
pub wrote_whole : (plan : Plan) (start now : List ℕ) (past whole : List Event) → (is_clean plan past ≡ true → whole ≡ past) → (is_clean plan past ≡ false → IsCutAs plan past whole) → Wrote plan start now past → Wrote plan start now whole
wrote_whole plan start now past whole same cut wrote = by_clean (is_clean plan past) refl
  where
    by_clean : (b : Bool) → is_clean plan past ≡ b → Wrote plan start now whole
    by_clean true clean = subst (Wrote plan start now) (sym (same clean)) wrote
    by_clean false unclean = wrote_cut plan start now past whole (cut unclean) unclean wrote

-- a first part of a history's lines is one of those of a history that goes on
pub part-longer : (plan : Plan) (start now : List ℕ) (block past whole : List Event) → whole ≡ block ++ past → WrotePart plan start now past → WrotePart plan start now whole
part-longer plan start now block past whole is part = by_clean (is_clean plan past) refl
  where
    by_whole : is_clean plan past ≡ true → AppendsPrefix start now (text_of past) → (b : Bool) → is_clean plan whole ≡ b → WrotePart plan start now whole
    by_whole clean lines true holds = is_part plan start now whole true holds (part-append start now block past whole is lines)
    by_whole clean lines false unclean =
        let earlier = sound-holds plan block past clean in
        is_part plan start now whole false unclean (inl (part-append start now earlier.0 past (sound plan whole) (ap (sound plan) is ∙ earlier.1) lines))

    by_clean : (b : Bool) → is_clean plan past ≡ b → WrotePart plan start now whole
    by_clean true clean = by_whole clean (part_is plan start now past true clean part) (is_clean plan whole) refl
    by_clean false unclean = part_cut plan start now past whole (cut-append plan block past whole is unclean) unclean part

-- a first part of the lines with one more entry is one of those of a history that goes on from it while all is clean, and else is cut as what stands before the entry
pub part_whole : (plan : Plan) (start now : List ℕ) (past whole : List Event) (e : Event) → (is_clean plan past ≡ true → (block : List Event) × (whole ≡ block ++ (e ∷ past))) →
    (is_clean plan past ≡ false → IsCutAs plan past whole) → WrotePart plan start now (e ∷ past) → WrotePart plan start now whole
part_whole plan start now past whole e goes cut part = by_clean (is_clean plan (e ∷ past)) refl
  where
    by_clean : (b : Bool) → is_clean plan (e ∷ past) ≡ b → WrotePart plan start now whole
    by_clean true clean =
        let on = goes (clean_parts plan past e clean).0 in
        part-longer plan start now on.0 (e ∷ past) whole on.1 part
    by_clean false unclean = part_cut plan start now (e ∷ past) whole (cut_step plan past whole e goes cut unclean) unclean part
