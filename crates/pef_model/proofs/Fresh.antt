-- What comes in is accepted exactly where it is what was last paged out.
use Rattle.std.proofs.Common.{◌≡◌, ◌≢◌, ℕ, List, [], ◌∷◌, Bool, true, false, refl, ap, sym, ◌∙◌, ◌↔◌, ◌==◌, if◌then◌else◌, Option, Some, None}
use Rattle.std.proofs.lemmas.Slice.Eq.{bytes_eq-Decides}
use Rattle.pef_model.specs.declared.state.Move.{Move}
use Rattle.pef_model.specs.declared.state.Work.TheVariants.{Inward}
use Rattle.pef_model.specs.declared.state.Ctx.{Ctx}
use Rattle.pef_model.specs.declared.state.Ctx.TheVariants as ctx
use Rattle.pef_model.specs.declared.command.Code.TheVariants.{USuccess, UParameter, UP2}
use Rattle.pef_model.specs.declared.command.Cmd.{Cmd}
use Rattle.pef_model.specs.declared.command.Cmd.TheVariants.{Go}
use Rattle.pef_model.specs.declared.entry.Answer.{Answer}
use Rattle.pef_model.specs.declared.entry.Answer.TheVariants.{Ret}
use Rattle.pef_model.specs.Plan.{Plan}
use Rattle.pef_model.specs.Event.{Event}
use Rattle.pef_model.specs.Target.{Ask, AtGuest, AtFrame, uses_hand, target_in, is_guest, touches_guest}
use Rattle.pef_model.specs.Cpu.{CpuPart}
use Rattle.pef_model.specs.GuestPart.{Page, GuestPart, secured, refused_in, part_in, part_of_work}
use Rattle.pef_model.specs.Guest.{Guest, start_guest, next_guest}
use Rattle.pef_model.specs.PageIn.{is_last_sealed}
use Rattle.pef_model.specs.Deed.{Deed, coming_back, deed_page_in_test}
use Rattle.pef_model.specs.History.{cpu_after, guest_after, deed_after, ask_of, Extends, last_begun, register_shown}
use Rattle.pef_model.specs.FreshLaw.{EndsPageIn, Freshness}
use Rattle.pef_model.proofs.Folds.{same_test, counts}
use Rattle.pef_model.proofs.Puts.{put-here}
use Rattle.pef_model.proofs.Paging.{pages}
use Rattle.pef_model.proofs.Begun.{last_sealed_is_begun}
use Rattle.pef_model.proofs.KeptStores.{stores_stay}

-- the same bytes are accepted
last_sealed_same : (sealed : Option (List ℕ)) (bytes : List ℕ) → is_last_sealed sealed bytes ≡ true → sealed ≡ Some bytes
last_sealed_same None bytes h = cc
last_sealed_same (Some sealed) bytes h = let same = bytes_eq-Decides bytes sealed in ap Some (sym (same.0 h))

-- and no other
same_last_sealed : (sealed : Option (List ℕ)) (bytes : List ℕ) → sealed ≡ Some bytes → is_last_sealed sealed bytes ≡ true
same_last_sealed sealed bytes h = let same = bytes_eq-Decides bytes bytes in ap (λ (o : Option (List ℕ)). is_last_sealed o bytes) h ∙ same.1 refl

-- the end of a page-in answers by the test
test_answers : (ask : Ask) (b : Bool) → ((deed_page_in_test ask b).answer ≡ Ret USuccess) ↔ (b ≡ true)
test_answers ask true = ((λ k. refl), (λ k. refl))
test_answers ask false = ((λ k. cc), (λ k. cc))

-- and with U_P2 where it doesn't hold
test_refuses : (ask : Ask) (b : Bool) → b ≢ true → (deed_page_in_test ask b).answer ≡ Ret UP2
test_refuses ask true none = absurd (none refl)
test_refuses ask false none = refl

-- its bytes are the hand
test_bytes : (ask : Ask) (b : Bool) → (deed_page_in_test ask b).bytes ≡ ask.hand
test_bytes ask true = refl
test_bytes ask false = refl

module _ (plan : Plan) (past : List Event) (move : Move) (e : Event) (extends : Extends plan past e) (ends : EndsPageIn plan past move e) where
  abbrev cpu : CpuPart
  cpu = cpu_after plan e.trace.cpu past

  abbrev ask : Ctx → Ask
  ask c = record { before = c; lpid = cpu.lpid; vid = cpu.vid; last = cpu.last; hand = if uses_hand c Go then cpu.hand else []; register = register_shown c Go cpu.own }

  abbrev here : Ask
  here = ask (ctx.Uv (Inward move))

  abbrev g : Guest
  g = guest_after plan move.lpid past

  abbrev fresh : Bool
  fresh = is_last_sealed (g.part.pages move.gfn).sealed here.hand

  -- the end under the guest's generation is the test of the hand
  end_is : deed_after plan past (ask_of cpu e.trace.cmd) e.trace.cmd (target_in plan cpu.ctx cpu.lpid e.trace.cmd) ≡ deed_page_in_test here fresh
  end_is =
      ap (λ (cmd : Cmd). deed_after plan past (ask_of cpu cmd) cmd (target_in plan cpu.ctx cpu.lpid cmd)) ends.cmd_is
      ∙ ap (λ (c : Ctx). deed_after plan past (ask c) Go (target_in plan c cpu.lpid Go)) (ap (λ (x : Event). x.saw.before) (sym extends.is) ∙ ends.before)
      ∙ ap (λ (b : Bool). deed_after plan past here Go (if b then AtGuest move.lpid else AtFrame move.frame)) ends.copied
      ∙ ap (λ (b : Bool). if b then deed_page_in_test here fresh else coming_back here UParameter)
      (ap (λ (x : ℕ). move.generation == x) (sym ends.generation) ∙ same_test move.generation)

  -- so its bytes are the hand
  bytes_are : e.bytes ≡ here.hand
  bytes_are = ap (λ (x : Event). x.bytes) extends.is ∙ ap (λ (d : Deed). d.bytes) end_is ∙ test_bytes here fresh

  -- its answer is by the test
  answer_is : e.trace.answer ≡ (deed_page_in_test here fresh).answer
  answer_is = ap (λ (x : Event). x.trace.answer) extends.is ∙ ap (λ (d : Deed). d.answer) end_is

  -- it is accepted where that is what was last sealed
  pub accepted_is : (e.trace.answer ≡ Ret USuccess) ↔ ((g.part.pages move.gfn).sealed ≡ Some e.bytes)
  accepted_is =
      let test = test_answers here fresh in (
        (λ k. last_sealed_same _ here.hand (test.0 (sym answer_is ∙ k)) ∙ ap Some (sym bytes_are)),
        (λ k. answer_is ∙ test.1 (same_last_sealed _ here.hand (k ∙ ap Some bytes_are))),
      )

  -- and refused where other bytes are
  pub refused_is : (g.part.pages move.gfn).sealed ≢ Some e.bytes → e.trace.answer ≡ Ret UP2
  refused_is other = answer_is ∙ test_refuses here fresh (λ same. other (last_sealed_same _ here.hand same ∙ ap Some (sym bytes_are)))

  -- it aims at its guest
  aims : touches_guest plan move.lpid e ≡ true
  aims =
      ap (λ (c : Ctx). is_guest move.lpid (target_in plan c e.saw.lpid e.trace.cmd)) ends.before
      ∙ ap (λ (cmd : Cmd). is_guest move.lpid (target_in plan (ctx.Uv (Inward move)) e.saw.lpid cmd)) ends.cmd_is
      ∙ ap (λ (b : Bool). is_guest move.lpid (if b then AtGuest move.lpid else AtFrame move.frame)) ends.copied ∙ same_test move.lpid

  -- which is then what the answer makes of it
  pub part_is : (a : Answer) → e.trace.answer ≡ a → (guest_after plan move.lpid (e ∷ past)).part ≡ part_of_work g.part e.bytes a (Inward move)
  part_is a is =
      ap (λ (x : Guest). x.part) (counts (touches_guest plan move.lpid) (next_guest plan) (start_guest plan move.lpid) e past aims)
      ∙ ap (λ (c : Ctx). part_in plan g.part c e.trace.answer e.trace.cmd e.saw.pool e.saw.vid e.trace.cpu e.bytes) ends.before
      ∙ ap (λ (x : Answer). part_of_work g.part e.bytes x (Inward move)) is

-- what comes in is accepted exactly where it is what was last paged out
pub freshness : Freshness
freshness plan past move e legal ends =
    let extends = legal.0 in
    let old : Page = pages plan past move.lpid move.gfn in
    let begun : old.sealed ≡ last_begun plan move.lpid move.gfn past = last_sealed_is_begun plan past move.lpid move.gfn legal.1 ends.out in
    let accepted = accepted_is plan past move e legal.0 ends in
    record {
      accepted = ((λ k. sym begun ∙ accepted.0 k), (λ k. accepted.1 (begun ∙ k)));
      page = λ same.
          ap (λ (g : GuestPart). g.pages move.gfn) (part_is plan past move e legal.0 ends (Ret USuccess) (accepted.1 (begun ∙ same)))
          ∙ put-here (pages plan past move.lpid) move.gfn (secured old);
      refused = λ other.
          let refused : e.trace.answer ≡ Ret UP2 = refused_is plan past move e legal.0 ends (λ same. other (sym begun ∙ same)) in
          record {
            answer = refused;
            page = ap (λ (g : GuestPart). g.pages move.gfn) (part_is plan past move e legal.0 ends (Ret UP2) refused) ∙ put-here (pages plan past move.lpid) move.gfn (refused_in old);
          };
      stores = λ gpa. stores_stay plan past e move.lpid gpa (λ run is. let call = ends.before in cc);
    }
