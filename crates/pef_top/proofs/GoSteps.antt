-- One more `go` of go* on the machine.
use Rattle.std.proofs.Common.{◌≡◌, ℕ, suc, ◌+◌, ◌<◌, Bool, true, false, not, ◌||◌, List, [], ◌∷◌, length, get_or, Option, Some, refl, ap, subst, ◌∙◌, arith, add-one}
use Rattle.std.specs.Prelude.{IfSome, slice_get}
use Rattle.std.proofs.lemmas.Option.{slice_get-get_or}
use Rattle.pef_model.specs.declared.state.Tag.{Tag}
use Rattle.pef_model.specs.declared.state.Ctx.{Ctx}
use Rattle.pef_model.specs.declared.command.Cmd.TheVariants.{Go}
use Rattle.pef_model.specs.declared.entry.Answer.{Answer}
use Rattle.pef_model.specs.Event.{Event}
use Rattle.pef_model.specs.Plan.{Plan}
use Rattle.pef_model.specs.History.{cpu_after}
use Rattle.pef_model.specs.Run.{is_in_progress, is_again, ends_go, entry_after, with_gos}
use Rattle.pef_model.specs.Script.{Line}
use Rattle.pef_model.proofs.GoAll.{gos}
use Rattle.pef_model.proofs.GoAll.{go_leaves}
use Rattle.pef_core.specs.State.{State}
use Rattle.pef_core.specs.Steps.{Makes}

found : {A : Type 0} (xs : List A) (n : ℕ) → n < length xs → (x : A) × (slice_get xs n ≡ Some x)
found [] n within = absurd (omega arith)
found (x ∷ xs) n within = (get_or (x ∷ xs) n x, slice_get-get_or (x ∷ xs) n x within)

at_some : {A : Type 0} (P : A → Type 0) (o : Option A) (x : A) → o ≡ Some x → IfSome o P → P x
at_some P o x is holds = subst (λ o. IfSome o P) is holds

-- whether go* ends is told by the CPU's context after the step, and by the answer
pub ends_is : {S : Type 0} (stands : S → Tag → List ℕ → List ℕ → Type 0) (image : S → Tag → List ℕ → List ℕ) (plan : Plan) (machine : State S) (past : List Event) (line : Line)
    (answer : Answer) (ends : Bool) (n : ℕ) → n ≡ line.cpu → n < length machine.cpus →
    IfSome (slice_get machine.cpus n) (λ own. ends ≡ (not (is_in_progress own.ctx) || is_again answer)) → Makes stands image plan machine past (entry_after plan past line Go) answer →
    ends ≡ ends_go (entry_after plan past line Go)
ends_is stands image plan machine past line answer ends n at within told made =
    let own = found machine.cpus n within in
    let is : ends ≡ (not (is_in_progress own.0.ctx) || is_again answer) =
    at_some (λ cpu. ends ≡ (not (is_in_progress cpu.ctx) || is_again answer)) (slice_get machine.cpus n) own.0 own.1 told in
    let leaves : own.0.ctx ≡ (entry_after plan past line Go).saw.after =
    (made.fits.cpus n own.0 own.1).ctx ∙ ap (λ (m : ℕ). (cpu_after plan m (entry_after plan past line Go ∷ past)).ctx) at ∙ go_leaves plan past line in
    is ∙ ap (λ (c : Ctx). not (is_in_progress c) || is_again answer) leaves ∙ ap (λ (a : Answer). not (is_in_progress (entry_after plan past line Go).saw.after) || is_again a) made.answered

-- what is left of go* after a `go` with which it ends
pub ends_here : (plan : Plan) (past : List Event) (line : Line) (k : ℕ) → ends_go (entry_after plan past line Go) ≡ true → with_gos plan (suc k) past line ≡ entry_after plan past line Go ∷ past
ends_here plan past line k ends = rw ends refl

-- and after one with which it goes on
pub goes_on_here : (plan : Plan) (past : List Event) (line : Line) (k : ℕ) → ends_go (entry_after plan past line Go) ≡ false →
    with_gos plan (suc k) past line ≡ with_gos plan k (entry_after plan past line Go ∷ past) line
goes_on_here plan past line k ends = rw ends refl

-- one more `go`
pub gos-more : (plan : Plan) (n : ℕ) (past : List Event) (line : Line) → gos plan (n + 1) past line ≡ entry_after plan (gos plan n past line) line Go ∷ gos plan n past line
gos-more plan n past line = ap (λ (m : ℕ). gos plan m past line) (add-one n)
