-- What a guest loads in a normal frame is what was last written there, and what it stores is that from then on.
use Rattle.std.proofs.Common.{◌≡◌, ℕ, ◌+◌, ◌%◌, ◌^◌, ◌≤◌, List, [], ◌∷◌, length, Bool, ap, sym, ◌∙◌, if◌then◌else◌, arith}
use Rattle.std.proofs.lemmas.Nat.{pow_pos, mod_below}
use Rattle.pef_model.specs.declared.config.Config.{Config}
use Rattle.pef_model.specs.declared.state.Ctx.TheVariants as ctx
use Rattle.pef_model.specs.declared.command.Cmd.TheVariants.{GSt}
use Rattle.pef_model.specs.declared.entry.Answer.TheVariants.{Done}
use Rattle.pef_model.specs.Plan.{Plan, plan_of, IsInRange}
use Rattle.pef_model.specs.Event.{Event}
use Rattle.pef_model.specs.Doubleword.{doubleword, with_doubleword}
use Rattle.pef_model.specs.Seal.{doublewords}
use Rattle.pef_model.specs.Target.{frame_of}
use Rattle.pef_model.specs.Memory.{offset_of, writes_of, writes_in, write_in, after_writes, overwritten}
use Rattle.pef_model.specs.History.{frame_after, part_after, last_norm, reg, IsLegal}
use Rattle.pef_model.specs.AddressLaw.{IsParted}
use Rattle.pef_model.specs.Target.{value_in}
use Rattle.pef_model.specs.NormalLaw.{address_through, LoadThroughGivesLastNorm, StoreThroughIsLastNorm}
use Rattle.pef_model.proofs.Folds.{same_test}
use Rattle.pef_model.proofs.Written.{doubleword_overwrites, frame_written}
use Rattle.pef_model.proofs.Doublewords.{doubleword-put}
use Rattle.pef_model.proofs.Places.{offset_eighth, room_at}
use Rattle.pef_model.proofs.PartedAddresses.{each_address_is_parted}
use Rattle.pef_model.proofs.Hands.{all_fill}
use Rattle.pef_model.proofs.Normal.{frame_holds}
use Rattle.pef_model.proofs.Through.{meets_aligned, store_is_through, load_is_through}

module _ (config : Config) (range : IsInRange config) (gpa n : ℕ) (eight : gpa % 8 ≡ 0) where
  abbrev plan : Plan
  plan = plan_of config

  abbrev ra : ℕ
  ra = address_through plan n gpa

  -- the address lies in the frame, at the offset of the guest's
  parted : IsParted plan n (offset_of plan gpa)
  parted = each_address_is_parted plan n (offset_of plan gpa) (let least = range.shift.0 in omega arith) (mod_below gpa (2 ^ plan.shift) (pow_pos plan.shift))

  aligned : ra % 8 ≡ 0
  aligned = sym (offset_eighth plan.shift ra range.shift.0) ∙ ap (λ (k : ℕ). k % 8) parted.rest ∙ offset_eighth plan.shift gpa range.shift.0 ∙ eight

  -- the frame holds there what was last written
  holds : (past : List Event) → IsLegal plan past → doubleword (frame_after plan n past) (offset_of plan gpa) ≡ last_norm plan past ra
  holds past legal =
      let there = frame_holds config past ra range legal aligned in
      ap (λ (k : ℕ). doubleword (frame_after plan k past) (offset_of plan gpa)) (sym parted.frame)
      ∙ ap (doubleword (frame_after plan (frame_of plan ra) past)) (sym parted.rest) ∙ there.value_is

pub load_through_gives_last_norm : LoadThroughGivesLastNorm
load_through_gives_last_norm config past e run rd gpa n value range legal before cmd_is answer_is frame_is =
    let plan : Plan = plan_of config in
    let through = load_is_through plan past e run rd gpa n legal.0 before cmd_is frame_is in
    ap value_in (sym answer_is ∙ through.answer)
    ∙ holds config range gpa n (meets_aligned plan (part_after plan past run.lpid) gpa n through.meets_is) past legal.1

pub store_through_is_last_norm : StoreThroughIsLastNorm
store_through_is_last_norm config past e run rs gpa n range legal before cmd_is frame_is small =
    let plan : Plan = plan_of config in
    let value : ℕ = reg plan past run.lpid run.vid rs in
    let off : ℕ = offset_of plan gpa in
    let old : List ℕ = frame_after plan n past in
    let through = store_is_through plan past e run rs gpa n legal.0 before cmd_is frame_is in
    let eight : gpa % 8 ≡ 0 = meets_aligned plan (part_after plan past run.lpid) gpa n through.meets_is in
    let fill = all_fill config past range legal.1 in
    let fits : off + 8 ≤ length old = let room = room_at plan.shift gpa range.shift.0 eight in let size = fill.frames n in omega arith in
    let writes : writes_of plan e ≡ write_in plan.shift (ctx.Guest run) (GSt rs gpa) Done (doublewords (value ∷ [])) n =
    (λ i. writes_in plan.shift (before i) (cmd_is i) (through.answer i) (through.bytes i) (frame_is i)) in
    let written : frame_after plan n (e ∷ past) ≡ with_doubleword old off value =
    frame_written plan e past n ∙ ap (after_writes n old) writes ∙ ap (λ (b : Bool). if b then overwritten old off (doublewords (value ∷ [])) else old) (same_test n) ∙ doubleword_overwrites old off value in
    sym (holds config range gpa n eight (e ∷ past) legal) ∙ ap (λ (bytes : List ℕ). doubleword bytes off) written ∙ doubleword-put old off value fits small
