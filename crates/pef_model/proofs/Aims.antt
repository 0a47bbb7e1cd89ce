-- At which guest a step aims.
use Rattle.std.proofs.Common.{◌≡◌, ℕ, Bool, true, false, refl, if◌then◌else◌}
use Rattle.pef_model.specs.declared.state.Run.{Run}
use Rattle.pef_model.specs.declared.state.Ctx.TheVariants as ctx
use Rattle.pef_model.specs.declared.aim.Aim.TheVariants as aim
use Rattle.pef_model.specs.declared.command.Cmd.{Cmd}
use Rattle.pef_model.specs.declared.command.Cmd.TheVariants.{HLd, HSt, HSelect, HEnter, Go}
use Rattle.pef_model.specs.Plan.{Plan}
use Rattle.pef_model.specs.Target.{Alone, AtFrame, frame_of, has_real_place, target_of_aim, target_in, is_guest}
use Rattle.pef_model.proofs.Folds.{test_same}

-- a real address aims at no guest
pub address_is_no_guest : (plan : Plan) (ra lpid : ℕ) → is_guest lpid (target_of_aim plan (aim.Address ra)) ≡ false
address_is_no_guest plan ra lpid = by_place (has_real_place plan ra) where
  by_place : (b : Bool) → is_guest lpid (if b then AtFrame (frame_of plan ra) else Alone) ≡ false
  by_place true = refl
  by_place false = refl

-- a step of a guest's vCPU aims at no guest but its own
pub own_guest : (plan : Plan) (run : Run) (l lpid : ℕ) (cmd : Cmd) → is_guest lpid (target_in plan (ctx.Guest run) l cmd) ≡ true → run.lpid ≡ lpid
own_guest plan run l lpid (HLd ra) t = cc
own_guest plan run l lpid (HSt ra value) t = cc
own_guest plan run l lpid (HSelect named vid) t = cc
own_guest plan run l lpid (HEnter named vid value) t = cc
own_guest plan run l lpid Go t = cc
own_guest plan run l lpid cmd t = test_same run.lpid lpid t
