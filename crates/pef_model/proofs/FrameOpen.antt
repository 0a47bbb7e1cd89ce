-- What an entry writes into normal memory doesn't depend on what a guest alone knows.
use Rattle.std.proofs.Common.{◌≡◌, ℕ, List, refl, Option, Some, None}
use Rattle.pef_model.specs.declared.state.Work.TheVariants.{Inward}
use Rattle.pef_model.specs.declared.state.Ctx.{Ctx}
use Rattle.pef_model.specs.declared.state.Ctx.TheVariants as ctx
use Rattle.pef_model.specs.declared.command.Cmd.{Cmd}
use Rattle.pef_model.specs.declared.command.Cmd.TheVariants.{GLi, GSt}
use Rattle.pef_model.specs.declared.entry.Answer.{Answer}
use Rattle.pef_model.specs.declared.entry.Answer.TheVariants.{Done}
use Rattle.pef_model.specs.SecretLaw.{open_cmd, open_answer}
use Rattle.pef_model.specs.Memory.{write_in, writes_in}

write_open : (shift : ℕ) (c : Ctx) (cmd : Cmd) (a : Answer) (bytes : List ℕ) (n : ℕ) → write_in shift c cmd a bytes n ≡ write_in shift c (open_cmd cmd) (open_answer c a) bytes n
write_open shift ctx.Hv (GLi rd value) a bytes n = refl
write_open shift ctx.Hv cmd a bytes n = refl
write_open shift (ctx.Uv (Inward move)) cmd a bytes n = refl
write_open shift (ctx.Uv work) (GLi rd value) a bytes n = refl
write_open shift (ctx.Uv work) cmd a bytes n = refl
write_open shift (ctx.Guest run) (GLi rd value) a bytes n = refl
write_open shift (ctx.Guest run) (GSt rs gpa) Done bytes n = refl
write_open shift (ctx.Guest run) (GSt rs gpa) a bytes n = refl
write_open shift (ctx.Guest run) cmd a bytes n = refl

pub writes_open : (shift : ℕ) (c : Ctx) (cmd : Cmd) (a : Answer) (bytes : List ℕ) (frame : Option ℕ) → writes_in shift c cmd a bytes frame ≡ writes_in shift c (open_cmd cmd) (open_answer c a) bytes frame
writes_open shift c cmd a bytes None = refl
writes_open shift c cmd a bytes (Some n) = write_open shift c cmd a bytes n
