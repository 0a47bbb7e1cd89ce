-- A load, a store and the two copies each do what the contract of a step at a normal frame says.
use Rattle.std.proofs.Common.{◌^◌, ◌≡◌, ℕ, ◌%◌, ◌==◌, Bool, true, false, if◌then◌else◌, List, [], length, slice_set, refl, ap, sym, subst, ◌∙◌}
use Rattle.pef_model.specs.declared.state.Move.{Move}
use Rattle.pef_model.specs.declared.state.Work.TheVariants.{Inward, Outward}
use Rattle.pef_model.specs.declared.state.Ctx.{Ctx}
use Rattle.pef_model.specs.declared.state.Ctx.TheVariants as ctx
use Rattle.pef_model.specs.declared.command.Cmd.{Cmd}
use Rattle.pef_model.specs.declared.command.Cmd.TheVariants.{HLd, HSt, Go}
use Rattle.pef_model.specs.declared.entry.Answer.{Answer}
use Rattle.pef_model.specs.declared.entry.Answer.TheVariants.{Val, Done, Step}
use Rattle.pef_model.specs.Doubleword.{doubleword, with_doubleword}
use Rattle.pef_model.specs.Target.{Ask, uses_hand}
use Rattle.pef_model.specs.Cpu.{CpuPart}
use Rattle.pef_model.specs.Memory.{offset_by, offset_of, write_in, after_writes}
use Rattle.pef_model.specs.Deed.{deed_frame, deed_frame_in}
use Rattle.pef_model.specs.History.{register_shown, ask_of, entry_of}
use Rattle.pef_model.proofs.Folds.{same_test}
use Rattle.pef_model.proofs.Written.{doubleword_overwrites, all_overwritten}
use Rattle.pef_guest.specs.declared.cpu.Cpu.{Cpu}
use Rattle.pef_guest.specs.Rows.{ask_hypervisor, ask_reading}
use Rattle.pef_guest.proofs.Asked.{ask_in_hypervisor}
use Rattle.pef_move.proofs.Bundle.{ask_in_outward}
use Rattle.pef_move.specs.PageIn.{CopiesPageIn}
use Rattle.pef_move.specs.PageOut.{CopiesPageOut}
use Rattle.pef_core.specs.Frames.{AimsAtFrame, ctx_copied, IsDone, RowFrame, DoesFrame}

-- what is written into the frame of a number
put_here : (n : ℕ) (written frame : List ℕ) → written ≡ (if n == n then written else frame)
put_here n written frame = sym (ap (λ (b : Bool). if b then written else frame) (same_test n))

module _ (cpu : Cpu) (frame : List ℕ) (hv : cpu.ctx ≡ ctx.Hv) (ra : ℕ) where
  -- a load
  pub load_does : DoesFrame (HLd ra) cpu (record cpu { gpr = slice_set cpu.gpr 3 (doubleword frame (ra % length frame)); last = Val (doubleword frame (ra % length frame)) }) frame frame (Val (doubleword frame (ra % length frame)))
  load_does = record {
    number = refl;
    lpid = refl;
    vid = refl;
    ctx_is = subst (λ (x : Ctx). x ≡ ctx_copied x) (sym hv) refl;
    hand = refl;
    size = refl;
    written = λ shift n size. subst (λ (x : Ctx). frame ≡ after_writes n frame (write_in shift x (HLd ra) (Val (doubleword frame (ra % length frame))) cpu.hand n)) (sym hv) refl;
    done = tt;
    answers = λ plan n ask size before.
        ap (λ (k : ℕ). Val (doubleword frame (ra % k))) size ∙ sym (ap (λ (x : Ctx). (deed_frame_in x plan n frame ask (HLd ra)).answer) (before ∙ hv));
    row = λ plan n c mark size shows.
        subst (λ (ask : Ask). RowFrame plan n c (entry_of ask mark (HLd ra) (deed_frame plan n frame ask (HLd ra))) (record cpu { gpr = slice_set cpu.gpr 3 (doubleword frame (ra % length frame)); last = Val (doubleword frame (ra % length frame)) }) frame frame (Val (doubleword frame (ra % length frame))))
        (sym (ask_in_hypervisor c (HLd ra) (sym shows.ctx ∙ hv)))
        (subst (λ (k : ℕ). RowFrame plan n c (entry_of (ask_hypervisor c) mark (HLd ra) (deed_frame plan n frame (ask_hypervisor c) (HLd ra))) (record cpu { gpr = slice_set cpu.gpr 3 (doubleword frame (ra % k)); last = Val (doubleword frame (ra % k)) }) frame frame (Val (doubleword frame (ra % k))))
        (sym size) (record {
          answered = refl;
          cpu_is = record { ctx = hv; own = ap (λ (own : List ℕ). slice_set own 3 (doubleword frame (offset_of plan ra))) shows.own; lpid = shows.lpid; vid = shows.vid; last = refl; hand = shows.hand };
          frame_is = refl;
        }));
  }

  -- a store
  pub store_does : (value : ℕ) → length (with_doubleword frame (ra % length frame) value) ≡ length frame → DoesFrame (HSt ra value) cpu (record cpu { last = Done }) frame (with_doubleword frame (ra % length frame) value) Done
  store_does value size_is = record {
    number = refl;
    lpid = refl;
    vid = refl;
    ctx_is = subst (λ (x : Ctx). x ≡ ctx_copied x) (sym hv) refl;
    hand = refl;
    size = size_is;
    written = λ shift n size. subst (λ (x : Ctx). with_doubleword frame (ra % length frame) value ≡ after_writes n frame (write_in shift x (HSt ra value) Done cpu.hand n)) (sym hv) (stored shift n cpu.hand size);
    done = tt;
    answers = λ plan n ask size before. sym (ap (λ (x : Ctx). (deed_frame_in x plan n frame ask (HSt ra value)).answer) (before ∙ hv));
    row = λ plan n c mark size shows.
        subst (λ (ask : Ask). RowFrame plan n c (entry_of ask mark (HSt ra value) (deed_frame plan n frame ask (HSt ra value))) (record cpu { last = Done }) (with_doubleword frame (ra % length frame) value) frame Done)
        (sym (ask_in_hypervisor c (HSt ra value) (sym shows.ctx ∙ hv))) (record {
          answered = refl;
          cpu_is = record { ctx = hv; own = shows.own; lpid = shows.lpid; vid = shows.vid; last = refl; hand = shows.hand };
          frame_is = stored plan.shift n [] size;
        });
  } where
    stored : (shift n : ℕ) (hand : List ℕ) → length frame ≡ 2 ^ shift → with_doubleword frame (ra % length frame) value ≡ after_writes n frame (write_in shift ctx.Hv (HSt ra value) Done hand n)
    stored shift n hand size =
        ap (λ (k : ℕ). with_doubleword frame (ra % k) value) size
        ∙ sym (doubleword_overwrites frame (offset_by shift ra) value)
        ∙ put_here n _ frame

-- what the copy of a page-in learns of its CPU
ask_in_reading : (c : CpuPart) (move : Move) → c.ctx ≡ ctx.Uv (Inward move) → move.copied ≡ false → ask_of c Go ≡ ask_reading move c
ask_in_reading c move is copied =
    (λ i. record { before = is i; lpid = c.lpid; vid = c.vid; last = c.last; hand = if uses_hand (is i) Go then c.hand else []; register = register_shown (is i) Go c.own })
    ∙ (λ i. record { before = ctx.Uv (Inward move); lpid = c.lpid; vid = c.vid; last = c.last; hand = if copied i then c.hand else []; register = 0 })

module _ (cpu cpu_new : Cpu) (frame frame_new : List ℕ) (a : Answer) (move : Move) (sized : length cpu.hand ≡ length frame) (step : a ≡ Step) where
  -- the copy of a page-in
  pub in_does : cpu.ctx ≡ ctx.Uv (Inward move) → move.copied ≡ false → cpu_new ≡ record cpu { ctx = ctx.Uv (Inward (record move { copied = true })); hand = frame } → frame_new ≡ frame → CopiesPageIn move cpu cpu_new frame a →
      DoesFrame Go cpu cpu_new frame frame_new a
  in_does working copied is same does = record {
    number = ap (λ (x : Cpu). x.number) is;
    lpid = ap (λ (x : Cpu). x.lpid) is;
    vid = ap (λ (x : Cpu). x.vid) is;
    ctx_is = ap (λ (x : Cpu). x.ctx) is ∙ sym (ap ctx_copied working);
    hand = ap (λ (x : Cpu). length x.hand) is ∙ sym sized;
    size = ap length same;
    written = λ shift n size. same ∙ sym (ap (λ (x : Ctx). after_writes n frame (write_in shift x Go a cpu.hand n)) working);
    done = subst IsDone (sym step) tt;
    answers = λ plan n ask size before. step ∙ sym (ap (λ (x : Ctx). (deed_frame_in x plan n frame ask Go).answer) (before ∙ working));
    row = λ plan n c mark size shows.
        let row = does c mark n shows in
        subst (λ (ask : Ask). RowFrame plan n c (entry_of ask mark Go (deed_frame plan n frame ask Go)) cpu_new frame_new frame a) (sym (ask_in_reading c move (sym shows.ctx ∙ working) copied))
        (record { answered = row.answered; cpu_is = row.cpu_is; frame_is = same });
  }

  -- the copy of a page-out
  pub out_does : cpu.ctx ≡ ctx.Uv (Outward move) → cpu_new ≡ record cpu { ctx = ctx.Uv (Outward (record move { copied = true })) } → frame_new ≡ cpu.hand → CopiesPageOut move cpu cpu_new frame frame_new a → DoesFrame Go cpu cpu_new frame frame_new a
  out_does working is same does = record {
    number = ap (λ (x : Cpu). x.number) is;
    lpid = ap (λ (x : Cpu). x.lpid) is;
    vid = ap (λ (x : Cpu). x.vid) is;
    ctx_is = ap (λ (x : Cpu). x.ctx) is ∙ sym (ap ctx_copied working);
    hand = ap (λ (x : Cpu). length x.hand) is;
    size = ap length same ∙ sized;
    written = λ shift n size.
        same ∙ sym (all_overwritten frame cpu.hand (sym sized)) ∙ put_here n _ frame
        ∙ sym (λ i. after_writes n frame (write_in shift (working i) Go (step i) cpu.hand n));
    done = subst IsDone (sym step) tt;
    answers = λ plan n ask size before. step ∙ sym (ap (λ (x : Ctx). (deed_frame_in x plan n frame ask Go).answer) (before ∙ working));
    row = λ plan n c mark size shows.
        let row = does plan c mark n shows in
        subst (λ (ask : Ask). RowFrame plan n c (entry_of ask mark Go (deed_frame plan n frame ask Go)) cpu_new frame_new frame a) (sym (ask_in_outward c move (sym shows.ctx ∙ working)))
        (record { answered = row.answered; cpu_is = row.cpu_is; frame_is = row.frame_is });
  }

-- the copy, as a command that aims at a frame
module _ (cpu cpu_new : Cpu) (frame frame_new : List ℕ) (a : Answer) (move : Move) where
  pub copies_in : (cmd : Cmd) → cpu.ctx ≡ ctx.Uv (Inward move) → AimsAtFrame cpu.ctx cpu.lpid cmd → length cpu.hand ≡ length frame → a ≡ Step → cpu_new ≡ record cpu { ctx = ctx.Uv (Inward (record move { copied = true })); hand = frame } → frame_new ≡ frame → CopiesPageIn move cpu cpu_new frame a →
      DoesFrame cmd cpu cpu_new frame frame_new a
  copies_in cmd working aims sized step is same does = by_command cmd (subst (λ (x : Ctx). AimsAtFrame x cpu.lpid cmd) working aims) where
    by_command : (cmd : Cmd) → AimsAtFrame (ctx.Uv (Inward move)) cpu.lpid cmd → DoesFrame cmd cpu cpu_new frame frame_new a
    by_command Go copied = in_does cpu cpu_new frame frame_new a move sized step working copied is same does
    by_command cmd copied = absurd copied

  pub copies_out : (cmd : Cmd) → cpu.ctx ≡ ctx.Uv (Outward move) → AimsAtFrame cpu.ctx cpu.lpid cmd → length cpu.hand ≡ length frame → a ≡ Step → cpu_new ≡ record cpu { ctx = ctx.Uv (Outward (record move { copied = true })) } → frame_new ≡ cpu.hand → CopiesPageOut move cpu cpu_new frame frame_new a →
      DoesFrame cmd cpu cpu_new frame frame_new a
  copies_out cmd working aims sized step is same does = by_command cmd (subst (λ (x : Ctx). AimsAtFrame x cpu.lpid cmd) working aims) where
    by_command : (cmd : Cmd) → AimsAtFrame (ctx.Uv (Outward move)) cpu.lpid cmd → DoesFrame cmd cpu cpu_new frame frame_new a
    by_command Go copied = out_does cpu cpu_new frame frame_new a move sized step working is same does
    by_command cmd copied = absurd copied
