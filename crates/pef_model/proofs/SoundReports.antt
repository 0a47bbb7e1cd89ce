-- Two histories that are alike have sound parts whose reports agree in the hypervisor's lines.
use Rattle.std.proofs.Common.{◌≡◌, ℕ, ◌-◌, List, drop, length, ap, sym, subst, ◌∙◌}
use Rattle.pef_model.specs.Plan.{plan_of}
use Rattle.pef_model.specs.Event.{Event}
use Rattle.pef_model.specs.History.{IsLegal}
use Rattle.pef_model.specs.Sound.{sound}
use Rattle.pef_model.specs.Alike.{IsAlike}
use Rattle.pef_model.specs.SeenReport.{ReportTheSame, AlikeSoundPartsReportTheSame}
use Rattle.pef_model.proofs.Views.{length_alike, alike_prefix, sealed_prefix}
use Rattle.pef_model.proofs.SoundParts.{each_sound_part}
use Rattle.pef_model.proofs.AlikeClashes.{alike_clash_together}
use Rattle.pef_model.proofs.SeenReports.{alike_report_the_same}

-- both leave out as many of the newest entries
pub alike_sound_parts_report_the_same : AlikeSoundPartsReportTheSame
alike_sound_parts_report_the_same one other past history alike legal legal_too =
    let part = each_sound_part (plan_of one) past in
    let other_part = each_sound_part (plan_of other) history in
    let together = alike_clash_together one other past history alike legal legal_too in
    let n : ℕ = length past - length (sound (plan_of one) past) in
    let as_long : length history - length (sound (plan_of other) history) ≡ n =
    ap (λ (m : ℕ). m - length (sound (plan_of other) history)) (sym (length_alike past history alike.open_.entries)) ∙ ap (λ (m : ℕ). length past - m) (sym together.sound_parts) in
    let one_is : drop n past ≡ sound (plan_of one) past = sym part.part in
    let other_is : drop n history ≡ sound (plan_of other) history = ap (λ (m : ℕ). drop m history) (sym as_long) ∙ sym other_part.part in
    let prefix : IsAlike one (drop n past) other (drop n history) = record {
      open_ = record { configs = alike.open_.configs; entries = alike_prefix n past history alike.open_.entries };
      sealed = sealed_prefix (plan_of one) n past history alike.sealed;
    } in
    let reported : ReportTheSame (plan_of one) (plan_of other) (drop n past) (drop n history) =
    alike_report_the_same one other (drop n past) (drop n history) prefix (subst (IsLegal (plan_of one)) (sym one_is) (part.legal legal)) (subst (IsLegal (plan_of other)) (sym other_is) (other_part.legal legal_too)) in
    subst (λ (xs : List Event). ReportTheSame (plan_of one) (plan_of other) xs (sound (plan_of other) history)) one_is
    (subst (λ (ys : List Event). ReportTheSame (plan_of one) (plan_of other) (drop n past) ys) other_is reported)
