-- What the rows of the two moves have in common.
use Rattle.std.proofs.Common.{◌≡◌, ℕ, ◌==◌, Bool, true, false, if◌then◌else◌, List, [], length, Option, Some, None, refl, ap, sym, subst, ◌∙◌, ◌↔◌, inl}
use Rattle.pef_model.specs.declared.state.Move.{Move}
use Rattle.pef_model.specs.declared.state.Work.TheVariants.{Inward, Outward}
use Rattle.pef_model.specs.declared.state.Ctx.{Ctx}
use Rattle.pef_model.specs.declared.state.Ctx.TheVariants as ctx
use Rattle.pef_model.specs.declared.state.Tag.{Tag}
use Rattle.pef_model.specs.declared.command.Code.{Code}
use Rattle.pef_model.specs.declared.command.Code.TheVariants.{UParameter}
use Rattle.pef_model.specs.declared.command.Cmd.TheVariants.{UPagein, UPageout, Go}
use Rattle.pef_model.specs.declared.entry.Answer.{Answer}
use Rattle.pef_model.specs.declared.entry.Answer.TheVariants as answer
use Rattle.pef_model.specs.Plan.{Plan}
use Rattle.pef_model.specs.Event.{Mark}
use Rattle.pef_model.specs.Target.{Ask, uses_hand}
use Rattle.pef_model.specs.Cpu.{CpuPart}
use Rattle.pef_model.specs.GuestPart.{GuestPart}
use Rattle.pef_model.specs.Guest.{Guest as GuestWhole}
use Rattle.pef_model.specs.Memory.{pool_with}
use Rattle.pef_model.specs.PageOut.{page_out_code}
use Rattle.pef_model.specs.PageIn.{is_last_sealed}
use Rattle.pef_model.specs.Deed.{deed_guest, deed_page_out, deed_page_out_begin, deed_page_in_end, deed_page_in_test, coming_back, returning}
use Rattle.pef_model.specs.History.{register_shown, ask_of}
use Rattle.pef_model.specs.Clash.{ends_in_clash, clashes_in, clashes}
use Rattle.pef_frames.specs.Pool.{PoolState}
use Rattle.pef_guest.specs.declared.cpu.Cpu.{Cpu}
use Rattle.pef_guest.specs.declared.guest.Guest.{Guest}
use Rattle.pef_guest.specs.Rows.{ask_hypervisor, ask_inward, ask_outward}
use Rattle.pef_guest.specs.Ready.{KeepsOwn, WorksAt}
use Rattle.pef_guest.specs.Refused.{BackWith}
use Rattle.pef_guest.specs.Does.{is_any_free, entry_at_guest, MakesEntry}
use Rattle.pef_guest.specs.Aims.{frame_at_guest}
use Rattle.pef_guest.proofs.Asked.{RowAsked, tells_none, makes_hypervisor}
use Rattle.pef_move.specs.declared.page_call.PageCall.{PageCall}
use Rattle.pef_move.specs.PageOut.{KeepsCpu, BeginsPageOut, EndsPageOut}
use Rattle.pef_move.specs.PageIn.{BeginsPageIn, EndsPageIn}

-- what a step learns of a CPU with a call in progress
pub ask_in_outward : (c : CpuPart) (move : Move) → c.ctx ≡ ctx.Uv (Outward move) → ask_of c Go ≡ ask_outward move c
ask_in_outward c move is = λ i. record { before = is i; lpid = c.lpid; vid = c.vid; last = c.last; hand = if uses_hand (is i) Go then c.hand else []; register = register_shown (is i) Go c.own }

pub ask_in_inward : (c : CpuPart) (move : Move) → c.ctx ≡ ctx.Uv (Inward move) → move.copied ≡ true → ask_of c Go ≡ ask_inward move c
ask_in_inward c move is copied =
    (λ i. record { before = is i; lpid = c.lpid; vid = c.vid; last = c.last; hand = if uses_hand (is i) Go then c.hand else []; register = register_shown (is i) Go c.own })
    ∙ (λ i. record { before = ctx.Uv (Inward move); lpid = c.lpid; vid = c.vid; last = c.last; hand = if copied i then c.hand else []; register = 0 })

-- a CPU that selects what it did
pub own_of : {S : Type 0} (guest : Guest S) (old new : Cpu) → KeepsCpu old new → KeepsOwn guest old new
own_of guest old new kept = record { number = kept.number; hand = kept.hand; selects = inl (kept.lpid, kept.vid) }

-- a CPU whose call has come back
pub own_back : {S : Type 0} (guest : Guest S) (old new : Cpu) (code : Code) → BackWith old new code → KeepsOwn guest old new
own_back guest old new code back = subst (KeepsOwn guest old) (sym back) (record { number = refl; hand = refl; selects = inl (refl, refl) })

pub works_back : {S : Type 0} (guest : Guest S) (old new : Cpu) (code : Code) → BackWith old new code → WorksAt guest new new.ctx
works_back guest old new code back = subst (WorksAt guest new) (sym (ap (λ (one : Cpu). one.ctx) back)) tt

-- what a code of the operands says of the answer
pub came_back : (code one : Code) (o : Option Code) → Some one ≡ o → (answer.Ret one ≡ answer.Ret code) ↔ (o ≡ Some code)
came_back code one o is = (λ same. sym is ∙ (let e : one ≡ code = cc in ap Some e), λ there. (let e : one ≡ code = (let two = is ∙ there in cc) in ap answer.Ret e))

pub goes_on : (code : Code) (o : Option Code) → None ≡ o → (answer.Step ≡ answer.Ret code) ↔ (o ≡ Some code)
goes_on code o is = (λ same. absurd cc, λ there. absurd (let two = is ∙ there in cc))

-- the begin of a page-out touches no pool
unpooled : (plan : Plan) (g : GuestWhole) (ask : Ask) (lpid dest gpa flags order : ℕ) → (deed_page_out plan g ask lpid dest gpa flags order).pool ≡ None
unpooled plan g ask lpid dest gpa flags order = by_code (page_out_code plan g.part dest gpa flags order) where
  by_code : (code : Option Code) → (returning ask code (deed_page_out_begin plan g ask lpid dest gpa)).pool ≡ None
  by_code None = refl
  by_code (Some code) = refl

-- the bytes of an end are the hand
end_bytes : (g : GuestPart) (ask : Ask) (move : Move) → (deed_page_in_end g ask move).bytes ≡ ask.hand
end_bytes g ask move = by_test (move.generation == g.generation) (is_last_sealed (g.pages move.gfn).sealed ask.hand) where
  by_test : (b last : Bool) → (if b then deed_page_in_test ask last else coming_back ask UParameter).bytes ≡ ask.hand
  by_test true true = refl
  by_test true false = refl
  by_test false last = refl

-- an end that is no digest collision, by what is in the hand
pub clean_end : (plan : Plan) (g : GuestWhole) (found : ℕ → ℕ → ℕ) (any : Bool) (c : CpuPart) (mark : Mark) (move : Move) → c.ctx ≡ ctx.Uv (Inward move) → move.copied ≡ true → clashes g.part (entry_at_guest plan g found any c mark Go) ≡ false →
    ends_in_clash g.part (record move { copied = true }) c.hand ≡ false
clean_end plan g found any c mark move is copied clean =
    sym (ap (λ (b : Bool). ends_in_clash g.part (record move { copied = b }) c.hand) copied)
    ∙ sym (ap (ends_in_clash g.part move) (end_bytes g.part (ask_inward move c) move))
    ∙ subst (λ (ask : Ask). clashes_in g.part ask.before Go (deed_guest plan g found any ask Go).bytes ≡ false) (ask_in_inward c move is copied) clean

module _ {S : Type 0} (takes : S → ℕ → ℕ → Type 0) (stands : S → Tag → List ℕ → List ℕ → Type 0) (image : S → Tag → List ℕ → List ℕ) (old new : Guest S) (cpu cpu_new : Cpu) (pool pool_new : PoolState) (a : Answer) where
  pub out_begins : (call : PageCall) → cpu.ctx ≡ ctx.Hv → pool_new ≡ pool → BeginsPageOut stands image call old new cpu cpu_new a →
      MakesEntry takes stands image (UPageout call.lpid call.ra call.gpa call.flags call.order) old new cpu cpu_new pool pool_new a
  out_begins call hv same does =
      makes_hypervisor takes stands image (UPageout call.lpid call.ra call.gpa call.flags call.order) old new cpu cpu_new pool pool_new a hv (λ plan g found c mark marked shows shows_cpu. record {
        row = does plan g c mark marked shows shows_cpu;
        pool = ap (λ (p : PoolState). length p.free) same ∙ ap (pool_with (length pool.free)) (sym (unpooled plan g (ask_hypervisor c) call.lpid call.ra call.gpa call.flags call.order));
      })

  pub in_begins : (call : PageCall) → cpu.ctx ≡ ctx.Hv → BeginsPageIn stands image call old new cpu cpu_new pool pool_new a →
      MakesEntry takes stands image (UPagein call.lpid call.ra call.gpa call.flags call.order) old new cpu cpu_new pool pool_new a
  in_begins call hv does = makes_hypervisor takes stands image (UPagein call.lpid call.ra call.gpa call.flags call.order) old new cpu cpu_new pool pool_new a hv (λ plan g found c mark marked shows shows_cpu. does plan g c mark marked shows shows_cpu)

  pub out_ends : (move : Move) → cpu.ctx ≡ ctx.Uv (Outward move) → EndsPageOut stands image move old new cpu cpu_new pool pool_new a → MakesEntry takes stands image Go old new cpu cpu_new pool pool_new a
  out_ends move working does plan g found c mark marked shows shows_cpu none clean =
      let is = sym shows_cpu.ctx ∙ working in (
        subst (RowAsked takes stands image Go old new cpu cpu_new pool pool_new a plan g found c mark) (sym (ask_in_outward c move is)) (does plan g c mark shows shows_cpu),
        tells_none takes stands image Go old new cpu cpu_new pool pool_new a plan g found c mark (ap (λ (before : Ctx). frame_at_guest plan g.part before Go) is),
      )

  pub in_ends : (move : Move) → cpu.ctx ≡ ctx.Uv (Inward move) → move.copied ≡ true → EndsPageIn stands image move old new cpu cpu_new pool pool_new a → MakesEntry takes stands image Go old new cpu cpu_new pool pool_new a
  in_ends move working copied does plan g found c mark marked shows shows_cpu none clean =
      let is = sym shows_cpu.ctx ∙ working in (
        subst (RowAsked takes stands image Go old new cpu cpu_new pool pool_new a plan g found c mark) (sym (ask_in_inward c move is copied))
            (does plan g c mark shows shows_cpu (clean_end plan g found (is_any_free pool) c mark move is copied clean)),
        tells_none takes stands image Go old new cpu cpu_new pool pool_new a plan g found c mark (ap (λ (before : Ctx). frame_at_guest plan g.part before Go) is),
      )
