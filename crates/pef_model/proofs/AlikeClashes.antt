-- Two histories that are alike have clashes at the same entries.
use Rattle.std.proofs.Common.{◌≡◌, ℕ, List, [], ◌∷◌, length, Bool, true, not, ◌&&◌, refl, ap, sym, subst, ◌∙◌, arith}
use Rattle.std.proofs.lemmas.Grind.{common_steps}
use Rattle.pef_model.specs.declared.state.Ctx.{Ctx}
use Rattle.pef_model.specs.declared.command.Cmd.{Cmd}
use Rattle.pef_model.specs.Plan.{Plan, plan_of, with_entropy}
use Rattle.pef_model.specs.Event.{Event}
use Rattle.pef_model.specs.GuestPart.{GuestPart}
use Rattle.pef_model.specs.History.{IsLegal, part_after}
use Rattle.pef_model.specs.SecretLaw.{open_cmd}
use Rattle.pef_model.specs.Clash.{clashes_in}
use Rattle.pef_model.specs.Sound.{clashes_at, is_clash, is_clean, sound}
use Rattle.pef_model.specs.Target.{Target, Alone, AtGuest, AtFrame, target_of}
use Rattle.pef_model.specs.Alike.{AreAlikeOpen, AllAlikeOpen, begins_sealing, TouchesNoAborting, SealedBytesAgree, AlikeClashTogether}
use Rattle.pef_model.proofs.AlikeEntries.{IsNext, opened, Same, sealed_agree, entries_agree}
use Rattle.pef_model.proofs.Opened.{target_open}
use Rattle.pef_model.proofs.Views.{same_so_far, length_alike, one_plan}

-- the value of a g.li counts for no clash
clashes_open : (g : GuestPart) (c : Ctx) (cmd : Cmd) (bytes : List ℕ) → clashes_in g c cmd bytes ≡ clashes_in g c (open_cmd cmd) bytes
clashes_open g c cmd bytes = grind (arith, common_steps)

-- so an entry is one where it is as an onlooker may know it
clash_opened : (guests : ℕ → GuestPart) (e : Event) (t : Target) → clashes_at guests e t ≡ clashes_at guests (opened e) t
clash_opened guests e Alone = refl
clash_opened guests e (AtFrame n) = refl
clash_opened guests e (AtGuest lpid) = clashes_open (guests lpid) e.saw.before e.trace.cmd e.bytes

opened_clash : (plan : Plan) (guests : ℕ → GuestPart) (e : Event) → clashes_at guests e (target_of plan e) ≡ clashes_at guests (opened e) (target_of plan (opened e))
opened_clash plan guests e = clash_opened guests e (target_of plan e) ∙ ap (clashes_at guests (opened e)) (target_open plan e.saw.before e.saw.lpid e.trace.cmd)

-- alike entries after histories with as much in common are clashes together
clash_alike : (plan : Plan) (words : ℕ → List ℕ) (past history : List Event) (e f : Event) → Same plan words past history → IsNext plan past e → IsNext (with_entropy plan words) history f → AreAlikeOpen e f →
    (begins_sealing e ≡ true → TouchesNoAborting plan past e → e.bytes ≡ f.bytes) → is_clash plan past e ≡ is_clash (with_entropy plan words) history f
clash_alike plan words past history e f same p q alike sealed =
    opened_clash plan (part_after plan past) e
    ∙ (λ i. let x : Event = entries_agree plan words past history e f same p q alike (sealed_agree plan words past history e f same p q alike sealed) i in clashes_at (λ lpid. same.part lpid i) x (target_of plan x))
    ∙ sym (opened_clash plan (part_after (with_entropy plan words) history) f)

-- so there is one in both or in neither
clean_alike : (plan : Plan) (words : ℕ → List ℕ) (past history : List Event) → IsLegal plan past → IsLegal (with_entropy plan words) history → AllAlikeOpen past history → SealedBytesAgree plan past history →
    is_clean plan past ≡ is_clean (with_entropy plan words) history
clean_alike plan words [] [] p q alike sealed = refl
clean_alike plan words [] (f ∷ history) p q alike sealed = absurd alike
clean_alike plan words (e ∷ past) [] p q alike sealed = absurd alike
clean_alike plan words (e ∷ past) (f ∷ history) p q alike sealed =
    let same : Same plan words past history = same_so_far plan words past history p.1 q.1 alike.1 sealed.1 in
    let clash : is_clash plan past e ≡ is_clash (with_entropy plan words) history f = clash_alike plan words past history e f same p.0.is q.0.is alike.0 sealed.0 in
    ap (λ (b : Bool). b && not (is_clash plan past e)) (clean_alike plan words past history p.1 q.1 alike.1 sealed.1)
    ∙ ap (λ (b : Bool). is_clean (with_entropy plan words) history && not b) clash

-- and their sound parts are as long
sound_alike : (plan : Plan) (words : ℕ → List ℕ) (past history : List Event) → IsLegal plan past → IsLegal (with_entropy plan words) history → AllAlikeOpen past history → SealedBytesAgree plan past history →
    length (sound plan past) ≡ length (sound (with_entropy plan words) history)
sound_alike plan words [] [] p q alike sealed = refl
sound_alike plan words [] (f ∷ history) p q alike sealed = absurd alike
sound_alike plan words (e ∷ past) [] p q alike sealed = absurd alike
sound_alike plan words (e ∷ past) (f ∷ history) p q alike sealed =
    let before = sound_alike plan words past history p.1 q.1 alike.1 sealed.1 in
    let clean = clean_alike plan words (e ∷ past) (f ∷ history) p q alike sealed in
    let long = length_alike past history alike.1 in
    grind (arith, common_steps)

pub alike_clash_together : AlikeClashTogether
alike_clash_together one other past history alike legal legal_too =
    let plan : Plan = plan_of one in
    let words : ℕ → List ℕ = (plan_of other).entropy in
    let plans : with_entropy plan words ≡ plan_of other = one_plan one other alike.open_.configs in
    let too : IsLegal (with_entropy plan words) history = subst (λ (x : Plan). IsLegal x history) (sym plans) legal_too in
    record {
      clean = clean_alike plan words past history legal too alike.open_.entries alike.sealed ∙ ap (λ (x : Plan). is_clean x history) plans;
      sound_parts = sound_alike plan words past history legal too alike.open_.entries alike.sealed ∙ ap (λ (x : Plan). length (sound x history)) plans;
    }
