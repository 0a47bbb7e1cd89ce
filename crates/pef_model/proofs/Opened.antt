-- What the hypervisor sees of a command is the same without the value that a guest alone knows.
use Rattle.std.proofs.Common.{◌≡◌, ℕ, List, refl, ap, sym, ◌∙◌}
use Rattle.pef_model.specs.declared.state.Work.TheVariants.{Inward}
use Rattle.pef_model.specs.declared.state.Ctx.{Ctx}
use Rattle.pef_model.specs.declared.state.Ctx.TheVariants as ctx
use Rattle.pef_model.specs.declared.command.Cmd.{Cmd}
use Rattle.pef_model.specs.declared.command.Cmd.TheVariants.{GLi}
use Rattle.pef_model.specs.declared.entry.Answer.{Answer}
use Rattle.pef_model.specs.Plan.{Plan}
use Rattle.pef_model.specs.Target.{target_in, uses_hand, is_sealing, shows_register}
use Rattle.pef_model.specs.Deed.{answer_alone, answer_frame}
use Rattle.pef_model.specs.Report.{command_name}
use Rattle.pef_model.specs.SecretLaw.{open_cmd, open_answer}
use Rattle.pef_model.specs.History.{register_shown}

-- a command aims at the same
pub target_open : (plan : Plan) (c : Ctx) (lpid : ℕ) (cmd : Cmd) → target_in plan c lpid cmd ≡ target_in plan c lpid (open_cmd cmd)
target_open plan ctx.Hv lpid (GLi rd value) = refl
target_open plan ctx.Hv lpid cmd = refl
target_open plan (ctx.Uv (Inward move)) lpid (GLi rd value) = refl
target_open plan (ctx.Uv (Inward move)) lpid cmd = refl
target_open plan (ctx.Uv work) lpid (GLi rd value) = refl
target_open plan (ctx.Uv work) lpid cmd = refl
target_open plan (ctx.Guest run) lpid (GLi rd value) = refl
target_open plan (ctx.Guest run) lpid cmd = refl

-- it uses the hand or doesn't
pub uses_hand_open : (c : Ctx) (cmd : Cmd) → uses_hand c cmd ≡ uses_hand c (open_cmd cmd)
uses_hand_open ctx.Hv cmd = refl
uses_hand_open (ctx.Uv work) (GLi rd value) = refl
uses_hand_open (ctx.Uv work) cmd = refl
uses_hand_open (ctx.Guest run) cmd = refl

-- it shows a register or doesn't
pub shows_open : (c : Ctx) (cmd : Cmd) → shows_register c cmd ≡ shows_register c (open_cmd cmd)
shows_open ctx.Hv (GLi rd value) = refl
shows_open ctx.Hv cmd = refl
shows_open (ctx.Uv work) cmd = refl
shows_open (ctx.Guest run) cmd = refl

-- and the same one
pub shown_open : (c : Ctx) (cmd : Cmd) (own : List ℕ) → register_shown c cmd own ≡ register_shown c (open_cmd cmd) own
shown_open ctx.Hv (GLi rd value) own = refl
shown_open ctx.Hv cmd own = refl
shown_open (ctx.Uv work) cmd own = refl
shown_open (ctx.Guest run) cmd own = refl

-- one that aims at nothing is answered alike
pub alone_open : (plan : Plan) (c : Ctx) (cmd : Cmd) → answer_alone plan c cmd ≡ answer_alone plan c (open_cmd cmd)
alone_open plan ctx.Hv (GLi rd value) = refl
alone_open plan ctx.Hv cmd = refl
alone_open plan (ctx.Uv work) cmd = refl
alone_open plan (ctx.Guest run) cmd = refl

-- so is one at a normal frame
pub frame_answer_open : (plan : Plan) (bytes : List ℕ) (cmd : Cmd) → answer_frame plan bytes cmd ≡ answer_frame plan bytes (open_cmd cmd)
frame_answer_open plan bytes (GLi rd value) = refl
frame_answer_open plan bytes cmd = refl

-- it has the same name
pub name_open : (cmd : Cmd) → command_name cmd ≡ command_name (open_cmd cmd)
name_open (GLi rd value) = refl
name_open cmd = refl

-- it begins a page-out or doesn't
sealing_open : (c : Ctx) (cmd : Cmd) (a : Answer) → is_sealing c cmd a ≡ is_sealing c (open_cmd cmd) (open_answer c a)
sealing_open ctx.Hv (GLi rd value) a = refl
sealing_open ctx.Hv cmd a = refl
sealing_open (ctx.Uv work) cmd a = refl
sealing_open (ctx.Guest run) cmd a = refl

-- so do two commands that are the same without that value
pub sealing_agrees : (c : Ctx) (cmd other : Cmd) (a b : Answer) → open_cmd cmd ≡ open_cmd other → open_answer c a ≡ open_answer c b → is_sealing c cmd a ≡ is_sealing c other b
sealing_agrees c cmd other a b cmds answers =
    sealing_open c cmd a ∙ ap (λ (x : Cmd). is_sealing c x (open_answer c a)) cmds ∙ ap (is_sealing c (open_cmd other)) answers ∙ sym (sealing_open c other b)
