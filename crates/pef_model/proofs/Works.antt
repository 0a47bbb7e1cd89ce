-- The move of a page that is in progress: which page, and which way.
use Rattle.std.proofs.Common.{◌≡◌, refl, ap, sym, ◌∙◌, true, Some}
use Rattle.pef_model.specs.declared.state.Kind.{Kind}
use Rattle.pef_model.specs.declared.state.Kind.TheVariants as kind
use Rattle.pef_model.specs.declared.state.Way.{Way}
use Rattle.pef_model.specs.declared.state.Way.TheVariants as way
use Rattle.pef_model.specs.declared.state.Move.{Move}
use Rattle.pef_model.specs.declared.state.Work.{Work}
use Rattle.pef_model.specs.declared.state.Run.{Run}
use Rattle.pef_model.specs.declared.state.Ctx.{Ctx}
use Rattle.pef_model.specs.declared.state.Ctx.TheVariants as ctx
use Rattle.pef_model.specs.declared.state.Pending.{Pending}
use Rattle.pef_model.specs.declared.state.Pending.TheVariants as pending
use Rattle.pef_model.specs.declared.state.VState.{VState}
use Rattle.pef_model.specs.declared.state.VState.TheVariants as vstate
use Rattle.pef_model.specs.Target.{work_by, vcpu_in}
use Rattle.pef_model.specs.GuestPart.{call_left}
use Rattle.pef_model.specs.Deed.{returned_in, taken_up_in}

-- a page's move, with its way
pub record PageMove : Type 0 where
  pub way : Way
  pub move : Move

-- a page that moves this way
abbrev pub moving_by : Way → Move → PageMove
moving_by w move = record { way = w; move = move }

-- a page that comes in, and one that goes out
abbrev pub inward : Move → PageMove
inward move = moving_by way.Inward move

abbrev pub outward : Move → PageMove
outward move = moving_by way.Outward move

-- the call in progress that makes it
abbrev pub work_of : PageMove → Work
work_of m = work_by m.way m.move

-- the move once its page is copied
abbrev pub with_copy : PageMove → PageMove
with_copy m = record m { move = record m.move { copied = true } }

-- a call moves one page one way
pub one_move : (m other : PageMove) → work_of m ≡ work_of other → m ≡ other
one_move m other same = by_ways m.way other.way same where
  by_ways : (w v : Way) → work_by w m.move ≡ work_by v other.move → moving_by w m.move ≡ moving_by v other.move
  by_ways way.Inward way.Inward same = cc
  by_ways way.Inward way.Outward same = cc
  by_ways way.Outward way.Inward same = cc
  by_ways way.Outward way.Outward same = cc

-- a context has one call in progress
pub one_call : (work other : Work) → ctx.Uv work ≡ ctx.Uv other → work ≡ other
one_call work other same = cc

-- where a vCPU runs, or its call is in progress, no page moves
pub moves_none : (c : Ctx) (run : Run) → vcpu_in c ≡ Some run → (m : PageMove) → c ≡ ctx.Uv (work_of m) → ⊥
moves_none c run runs m is = by_way m.way (sym runs ∙ ap vcpu_in is) where
  by_way : (w : Way) → Some run ≡ vcpu_in (ctx.Uv (work_by w m.move)) → ⊥
  by_way way.Inward same = cc
  by_way way.Outward same = cc

-- a vCPU that UV_RETURN takes up goes on in the context after it, whatever it waits for
pub vcpu_returned : (state : VState) (run : Run) → vcpu_in (taken_up_in state run) ≡ Some run
vcpu_returned (vstate.Parked waits) run = by_pending waits where
  by_pending : (waits : Pending) → vcpu_in (returned_in (call_left waits) run) ≡ Some run
  by_pending (pending.Share gfn) = refl
  by_pending (pending.Unshare gfn) = refl
  by_pending (pending.UnshareAll gfn) = refl
  by_pending pending.EsmStart = refl
  by_pending (pending.EsmNeed gfn) = refl
  by_pending pending.EsmDone = refl
  by_pending waits = refl
vcpu_returned state run = refl

-- and no other vCPU
pub one_vcpu : (c : Ctx) (run other : Run) → vcpu_in c ≡ Some run → vcpu_in c ≡ Some other → run ≡ other
one_vcpu c run other h k = let same : Some run ≡ Some other = sym h ∙ k in cc

-- of what kind a page is that moves this way
abbrev pub kind_on : Way → Kind
kind_on way.Inward = kind.Out
kind_on way.Outward = kind.Secure
