-- Whether an entry is a digest collision follows from the entries that touch its guest.
use Rattle.std.proofs.Common.{◌≡◌, ℕ, List, refl, ap, sym, ◌∙◌, Bool, if◌then◌else◌, Bool, true, false}
use Rattle.std.specs.List.{filter}
use Rattle.pef_model.specs.declared.state.Move.{Move}
use Rattle.pef_model.specs.declared.state.Work.TheVariants.{Inward}
use Rattle.pef_model.specs.declared.state.Ctx.{Ctx}
use Rattle.pef_model.specs.declared.state.Ctx.TheVariants as ctx
use Rattle.pef_model.specs.declared.command.Cmd.{Cmd}
use Rattle.pef_model.specs.declared.command.Cmd.TheVariants.{Go}
use Rattle.pef_model.specs.Plan.{Plan}
use Rattle.pef_model.specs.Event.{Event}
use Rattle.pef_model.specs.Target.{AtGuest, AtFrame, target_in, touches_guest}
use Rattle.pef_model.specs.GuestPart.{GuestPart}
use Rattle.pef_model.specs.Guest.{Guest}
use Rattle.pef_model.specs.History.{guest_after}
use Rattle.pef_model.specs.Clash.{clashes}
use Rattle.pef_model.specs.Sound.{clashes_at}
use Rattle.pef_model.specs.FreshLaw.{OwnEntriesClash}
use Rattle.pef_model.proofs.NextValues.{own_entries_decide}

-- a step of a page-in reads no other guest than its own
own_guest_clashes : (plan : Plan) (guests others : ℕ → GuestPart) (move : Move) (l : ℕ) (e : Event) (cmd : Cmd) → guests move.lpid ≡ others move.lpid →
    clashes_at guests e (target_in plan (ctx.Uv (Inward move)) l cmd) ≡ clashes_at others e (target_in plan (ctx.Uv (Inward move)) l cmd)
own_guest_clashes plan guests others move l e Go same = by_copied move.copied where
  by_copied : (b : Bool) → clashes_at guests e (if b then AtGuest move.lpid else AtFrame move.frame) ≡ clashes_at others e (if b then AtGuest move.lpid else AtFrame move.frame)
  by_copied true = ap (λ (g : GuestPart). clashes g e) same
  by_copied false = refl
own_guest_clashes plan guests others move l e cmd same = refl

pub own_entries_clash : OwnEntriesClash
own_entries_clash plan past move e before =
    let own : List Event = filter (touches_guest plan move.lpid) past in
    let same : (guest_after plan move.lpid past).part ≡ (guest_after plan move.lpid own).part = sym (ap (λ (g : Guest). g.part) ((own_entries_decide plan past).guest move.lpid)) in
    ap (λ (c : Ctx). clashes_at (λ lpid. (guest_after plan lpid past).part) e (target_in plan c e.saw.lpid e.trace.cmd)) before
    ∙ own_guest_clashes plan (λ lpid. (guest_after plan lpid past).part) (λ lpid. (guest_after plan lpid own).part) move e.saw.lpid e e.trace.cmd same
    ∙ sym (ap (λ (c : Ctx). clashes_at (λ lpid. (guest_after plan lpid own).part) e (target_in plan c e.saw.lpid e.trace.cmd)) before)
