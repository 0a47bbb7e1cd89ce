-- The rows of an end whose guest has ended since.
use Rattle.std.proofs.Common.{◌≡◌, ◌≢◌, ℕ, ◌+◌, true, List}
use Rattle.pef_model.specs.declared.state.Tag.{Tag}
use Rattle.pef_model.specs.declared.state.Way.{Way}
use Rattle.pef_model.specs.declared.state.Way.TheVariants as way
use Rattle.pef_model.specs.declared.state.Move.{Move}
use Rattle.pef_model.specs.declared.state.Ctx.TheVariants as ctx
use Rattle.pef_model.specs.declared.command.Code.TheVariants.{UParameter}
use Rattle.pef_model.specs.declared.command.Cmd.TheVariants.{Go}
use Rattle.pef_model.specs.declared.entry.Answer.TheVariants.{Ret}
use Rattle.pef_model.specs.Target.{work_by}
use Rattle.pef_model.specs.Registers.{with_code}
use Rattle.pef_frames.specs.Pool.{PoolState}
use Rattle.pef_guest.specs.declared.cpu.Cpu.{Cpu}
use Rattle.pef_guest.specs.declared.guest.Guest.{Guest}
use Rattle.pef_guest.specs.Does.{MakesEntry}
use Rattle.pef_move.proofs.Bundle.{in_ends, out_ends}
use Rattle.pef_move.proofs.ComeRows.{row_old as row_old_in}
use Rattle.pef_move.proofs.Ended.{row_old as row_old_out}

pub late_makes : {S : Type 0} (takes : S → ℕ → ℕ → Type 0) (stands : S → Tag → List ℕ → List ℕ → Type 0) (image : S → Tag → List ℕ → List ℕ) (old : Guest S) (cpu : Cpu) (pool : PoolState) (heading : Way) (move : Move) →
    cpu.ctx ≡ ctx.Uv (work_by heading move) → move.copied ≡ true → move.generation ≢ old.generation →
    MakesEntry takes stands image Go old (record old { steps = old.steps + 1 }) cpu (record cpu { ctx = ctx.Hv; gpr = with_code cpu.gpr UParameter; last = Ret UParameter }) pool pool (Ret UParameter)
late_makes takes stands image old cpu pool way.Inward move working copied late =
    in_ends takes stands image old _ cpu _ pool pool (Ret UParameter) move working copied (λ plan g c mark shows shows_cpu clean. row_old_in stands image plan g c mark old cpu move pool shows shows_cpu late)
late_makes takes stands image old cpu pool way.Outward move working copied late =
    out_ends takes stands image old _ cpu _ pool pool (Ret UParameter) move working (λ plan g c mark shows shows_cpu. row_old_out stands image plan g c mark old cpu move pool shows shows_cpu late)
