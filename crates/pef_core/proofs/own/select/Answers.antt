use Rattle.std.proofs.Common.{◌<◌, ◌≤◌, ◌⊎◌, inl, inr, refl, subst}
use Rattle.pef_model.specs.declared.command.Code.TheVariants.{UParameter, UP2}
use Rattle.pef_model.specs.declared.command.Cmd.TheVariants.{HSelect}
use Rattle.pef_core.proofs.Selecting.{comes_back, no_guest, no_vcpu}
use Rattle.pef_core.proofs.own.select.Goals.{then-lpid-lt1-via-then-lpid-lt1, then-lpid-lt1-via-else-lpid-lt1+then-from-lpid}
use Rattle.pef_core.proofs.own.select.Goals as goal

-- there is no such guest
pub returns-then-lpid-lt1 : goal.returns-then-lpid-lt1
returns-then-lpid-lt1 c =
    let none : (c.args.lpid < 1) ⊎ (c.args.guests < c.args.lpid) = elim c.then-lpid-lt1.branch [ then-lpid-lt1-via-then-lpid-lt1 w ↦ inl w.if-lpid-lt1.true | then-lpid-lt1-via-else-lpid-lt1+then-from-lpid w ↦ inr (subst (λ n. n < c.args.lpid) w.from.ensures w.if-from-lpid.true) ] in
    rw c.refuse.ensures.answer
    (comes_back c.args.guests c.args.vcpus c.args.cpu.now c.refuse.new.self c.requires (HSelect c.args.lpid c.args.vid) UParameter (λ plan counts sizes part. no_guest c.args.guests c.args.vcpus c.args.lpid c.args.vid plan counts none) (λ part mark. refl) c.refuse.ensures.cpu c.refuse.ensures.refused)

-- it has no such vCPU
pub returns-then-from-vid : goal.returns-then-from-vid
returns-then-from-vid c =
    let most : c.args.lpid ≤ c.args.guests = subst (λ n. c.args.lpid ≤ n) c.from.ensures c.if-from-lpid.false in
    let past : c.args.vcpus ≤ c.args.vid = subst (λ n. n ≤ c.args.vid) c.from-2.ensures c.if-from-vid.true in
    rw c.refuse-then-from-vid.ensures.answer
    (comes_back c.args.guests c.args.vcpus c.args.cpu.now c.refuse-then-from-vid.new.self c.requires (HSelect c.args.lpid c.args.vid) UP2 (λ plan counts sizes part. no_vcpu c.args.guests c.args.vcpus c.args.lpid c.args.vid plan counts sizes c.if-lpid-lt1.false most past) (λ part mark. refl) c.refuse-then-from-vid.ensures.cpu c.refuse-then-from-vid.ensures.refused)
