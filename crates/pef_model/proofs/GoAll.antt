-- What go* gives: `go` again and again ends soon.
use Rattle.std.proofs.Common.{◌≡◌, ℕ, zero, suc, ◌+◌, ◌<◌, List, [], ◌∷◌, ◌++◌, length, Bool, true, false, not, ◌||◌, ◌==◌, cond, ◌⊎◌, inl, inr, refl, ap, sym, ◌∙◌, arith, append_assoc}
use Rattle.std.specs.List.{AllByRecursion}
use Rattle.pef_model.specs.declared.state.Move.{Move}
use Rattle.pef_model.specs.declared.state.Work.{Work}
use Rattle.pef_model.specs.declared.state.Work.TheVariants.{Inward, Outward}
use Rattle.pef_model.specs.declared.state.Ctx.{Ctx}
use Rattle.pef_model.specs.declared.state.Ctx.TheVariants as ctx
use Rattle.pef_model.specs.declared.command.Cmd.TheVariants.{Go}
use Rattle.pef_model.specs.declared.command.Code.TheVariants.{USuccess, UParameter}
use Rattle.pef_model.specs.declared.entry.Answer.{Answer}
use Rattle.pef_model.specs.declared.entry.Answer.TheVariants as answer
use Rattle.pef_model.specs.Plan.{Plan}
use Rattle.pef_model.specs.Event.{Event}
use Rattle.pef_model.specs.Target.{Ask, AtGuest, AtFrame, target_in}
use Rattle.pef_model.specs.GuestPart.{GuestPart}
use Rattle.pef_model.specs.PageIn.{is_last_sealed}
use Rattle.pef_model.specs.Deed.{Deed, giving, coming_back, deed_page_in_test, deed_page_in_end, deed_page_out_end}
use Rattle.pef_model.specs.History.{cpu_after, guest_after, deed_after, ask_of}
use Rattle.pef_model.specs.Script.{Line}
use Rattle.pef_model.specs.Run.{is_in_progress, is_again, ends_go, GoesOn, entry_after, with_gos, most_gos}
use Rattle.pef_model.specs.RunLaw.{EachGoAllEnds}
use Rattle.pef_model.proofs.Steps.{ctx_after}

-- whether a call in progress has copied its page; a guest's call copies none
abbrev is_copied : Work → Bool
is_copied (Inward move) = move.copied
is_copied (Outward move) = move.copied
is_copied work = true

-- with how many `go` in a context go* doesn't end
abbrev pub gos_left : Ctx → ℕ
gos_left ctx.Hv = 0
gos_left (ctx.Uv work) = cond (is_copied work) 0 1
gos_left (ctx.Guest run) = 0

-- whether go* ends with a step that does this
abbrev pub ends_with : Deed → Bool
ends_with deed = not (is_in_progress deed.after) || is_again deed.answer

-- a step of `go` with which go* doesn't end: it is one of a call in progress, and fewer are left
pub record GoesFurther (c : Ctx) (deed : Deed) : Type 0 where
  pub work : Work
  pub is : c ≡ ctx.Uv work
  pub step : deed.answer ≡ answer.Step
  pub goes_on : ends_with deed ≡ false
  pub fewer : gos_left c ≡ suc (gos_left deed.after)

-- a step of `go` with which go* ends: none is left
pub record GoesNoFurther (c : Ctx) (deed : Deed) : Type 0 where
  pub ends : ends_with deed ≡ true
  pub none : gos_left c ≡ 0

-- the end of a page-in comes back to the hypervisor, with each code
end_in_ends : (g : GuestPart) (ask : Ask) (move : Move) → ends_with (deed_page_in_end g ask move) ≡ true
end_in_ends g ask move = by_test (move.generation == g.generation) (is_last_sealed (g.pages move.gfn).sealed ask.hand) where
  by_test : (b last : Bool) → ends_with (cond b (deed_page_in_test ask last) (coming_back ask UParameter)) ≡ true
  by_test true true = refl
  by_test true false = refl
  by_test false last = refl

-- so does the end of a page-out
end_out_ends : (g : GuestPart) (ask : Ask) (move : Move) → ends_with (deed_page_out_end g ask move) ≡ true
end_out_ends g ask move = by_test (move.generation == g.generation) where
  by_test : (b : Bool) → ends_with (cond b (giving (coming_back ask USuccess) 1) (coming_back ask UParameter)) ≡ true
  by_test true = refl
  by_test false = refl

-- a step of a call in progress copies its page and goes further, or its page is copied and it ends the call
work_goes : (work : Work) (deed : Bool → Deed) → ends_with (deed true) ≡ true → (deed false).answer ≡ answer.Step → ends_with (deed false) ≡ false → gos_left (deed false).after ≡ 0 →
    (b : Bool) → is_copied work ≡ b → GoesFurther (ctx.Uv work) (deed b) ⊎ GoesNoFurther (ctx.Uv work) (deed b)
work_goes work deed ends step goes_on none true h = inr (record { ends = ends; none = rw h refl })
work_goes work deed ends step goes_on none false h = inl (record { work = work; is = refl; step = step; goes_on = goes_on; fewer = rw (h, none) refl })

-- `go` ends go* but where the page of the call in progress isn't copied yet
deed_goes : (plan : Plan) (past : List Event) (c : Ctx) (lpid vid : ℕ) (last : Answer) (hand : List ℕ) (register : ℕ) →
    let ask : Ask = record { before = c; lpid = lpid; vid = vid; last = last; hand = hand; register = register } in
    let deed : Deed = deed_after plan past ask Go (target_in plan c lpid Go) in
    GoesFurther c deed ⊎ GoesNoFurther c deed
deed_goes plan past ctx.Hv lpid vid last hand register = inr (record { ends = refl; none = refl })
deed_goes plan past (ctx.Guest run) lpid vid last hand register = inr (record { ends = refl; none = refl })
deed_goes plan past (ctx.Uv (Inward move)) lpid vid last hand register =
    let ask : Ask = record { before = ctx.Uv (Inward move); lpid = lpid; vid = vid; last = last; hand = hand; register = register } in
    work_goes (Inward move) (λ b. deed_after plan past ask Go (cond b (AtGuest move.lpid) (AtFrame move.frame)))
    (end_in_ends (guest_after plan move.lpid past).part ask move) refl refl refl move.copied refl
deed_goes plan past (ctx.Uv (Outward move)) lpid vid last hand register =
    let ask : Ask = record { before = ctx.Uv (Outward move); lpid = lpid; vid = vid; last = last; hand = hand; register = register } in
    work_goes (Outward move) (λ b. deed_after plan past ask Go (cond b (AtGuest move.lpid) (AtFrame move.frame)))
    (end_out_ends (guest_after plan move.lpid past).part ask move) refl refl refl move.copied refl
deed_goes plan past (ctx.Uv work) lpid vid last hand register = inr (record { ends = refl; none = refl })

-- the context of a line's CPU after a history
abbrev pub ctx_at : Plan → List Event → Line → Ctx
ctx_at plan past line = (cpu_after plan line.cpu past).ctx

-- the deed of a line's next `go`
abbrev pub go_deed : Plan → List Event → Line → Deed
go_deed plan past line =
    let ask : Ask = ask_of (cpu_after plan line.cpu past) Go in
    deed_after plan past ask Go (target_in plan ask.before ask.lpid Go)

pub line_goes : (plan : Plan) (past : List Event) (line : Line) → GoesFurther (ctx_at plan past line) (go_deed plan past line) ⊎ GoesNoFurther (ctx_at plan past line) (go_deed plan past line)
line_goes plan past line =
    let ask : Ask = ask_of (cpu_after plan line.cpu past) Go in
    deed_goes plan past ask.before ask.lpid ask.vid ask.last ask.hand ask.register

-- `go` leaves its CPU in the context that it says
pub go_leaves : (plan : Plan) (past : List Event) (line : Line) → ctx_at plan (entry_after plan past line Go ∷ past) line ≡ (entry_after plan past line Go).saw.after
go_leaves plan past line = ctx_after plan past (entry_after plan past line Go)

-- a history with so many entries of `go` of a line
abbrev pub gos : Plan → ℕ → List Event → Line → List Event
gos plan zero past line = past
gos plan (suc n) past line = entry_after plan (gos plan n past line) line Go ∷ gos plan n past line

gos_forward : (plan : Plan) (n : ℕ) (past : List Event) (line : Line) → gos plan n (entry_after plan past line Go ∷ past) line ≡ gos plan (suc n) past line
gos_forward plan zero past line = refl
gos_forward plan (suc n) past line = ap (λ (xs : List Event). entry_after plan xs line Go ∷ xs) (gos_forward plan n past line)

-- go* gives one entry more than those that are left, where it may give so many
pub with_gos_is : (plan : Plan) (k n : ℕ) (past : List Event) (line : Line) → gos_left (ctx_at plan past line) ≡ n → n < k → with_gos plan k past line ≡ gos plan (suc n) past line
with_gos_is plan zero n past line left few = absurd (omega arith)
with_gos_is plan (suc k) n past line left few = by_deed (λ m h. with_gos_is plan k m (entry_after plan past line Go ∷ past) line h) (line_goes plan past line) where
  e : Event
  e = entry_after plan past line Go

  by_deed : ((m : ℕ) → gos_left (ctx_at plan (e ∷ past) line) ≡ m → m < k → with_gos plan k (e ∷ past) line ≡ gos plan (suc m) (e ∷ past) line) →
      GoesFurther (ctx_at plan past line) (go_deed plan past line) ⊎ GoesNoFurther (ctx_at plan past line) (go_deed plan past line) →
      with_gos plan (suc k) past line ≡ gos plan (suc n) past line
  by_deed next (inl goes) =
      let m : ℕ = gos_left (ctx_at plan (e ∷ past) line) in
      let after : m ≡ gos_left (go_deed plan past line).after = ap gos_left (go_leaves plan past line) in
      let fewer : n ≡ suc m = sym left ∙ goes.fewer ∙ ap suc (sym after) in
      ap (λ (b : Bool). cond b (e ∷ past) (with_gos plan k (e ∷ past) line)) goes.goes_on
      ∙ next m refl (omega (arith, few, fewer))
      ∙ gos_forward plan (suc m) past line
      ∙ ap (λ (x : ℕ). gos plan (suc x) past line) (sym fewer)
  by_deed next (inr goes) =
      ap (λ (b : Bool). cond b (e ∷ past) (with_gos plan k (e ∷ past) line)) goes.ends
      ∙ ap (λ (x : ℕ). gos plan (suc x) past line) (sym goes.none ∙ left)

-- the entries of so many `go`
abbrev pub gos_block : Plan → ℕ → List Event → Line → List Event
gos_block plan zero past line = []
gos_block plan (suc n) past line = entry_after plan (gos plan n past line) line Go ∷ gos_block plan n past line

-- they are so many
length-gos_block : (plan : Plan) (n : ℕ) (past : List Event) (line : Line) → length (gos_block plan n past line) ≡ n
length-gos_block plan zero past line = refl
length-gos_block plan (suc n) past line = ap suc (length-gos_block plan n past line)

pub gos_is : (plan : Plan) (n : ℕ) (past : List Event) (line : Line) → gos plan n past line ≡ gos_block plan n past line ++ past
gos_is plan zero past line = refl
gos_is plan (suc n) past line = ap (λ (xs : List Event). entry_after plan (gos plan n past line) line Go ∷ xs) (gos_is plan n past line)

-- go* adds entries to the first of them
pub first_goes : (plan : Plan) (k : ℕ) (past : List Event) (line : Line) → (block : List Event) × (with_gos plan (suc k) past line ≡ block ++ (entry_after plan past line Go ∷ past))
first_goes plan zero past line = ([], by_test (ends_go (entry_after plan past line Go))) where
  by_test : (b : Bool) → cond b (entry_after plan past line Go ∷ past) (entry_after plan past line Go ∷ past) ≡ entry_after plan past line Go ∷ past
  by_test true = refl
  by_test false = refl
first_goes plan (suc k) past line = by_test (ends_go (entry_after plan past line Go)) (first_goes plan k (entry_after plan past line Go ∷ past) line) where
  more : List Event
  more = entry_after plan past line Go ∷ past

  next : Event
  next = entry_after plan more line Go

  by_test : (b : Bool) → (block : List Event) × (with_gos plan (suc k) more line ≡ block ++ (next ∷ more)) → (block : List Event) × (cond b more (with_gos plan (suc k) more line) ≡ block ++ more)
  by_test true later = ([], refl)
  by_test false later = (later.0 ++ (next ∷ []), later.1 ∙ sym (append_assoc later.0 (next ∷ []) more))

-- a `go` while some are left: go* goes on with it, and one fewer is left
pub further : (plan : Plan) (past : List Event) (line : Line) (n : ℕ) → gos_left (ctx_at plan past line) ≡ suc n →
    GoesOn (entry_after plan past line Go) × (gos_left (ctx_at plan (entry_after plan past line Go ∷ past) line) ≡ n)
further plan past line n left = by_deed (line_goes plan past line) where
  by_deed : GoesFurther (ctx_at plan past line) (go_deed plan past line) ⊎ GoesNoFurther (ctx_at plan past line) (go_deed plan past line) →
      GoesOn (entry_after plan past line Go) × (gos_left (ctx_at plan (entry_after plan past line Go ∷ past) line) ≡ n)
  by_deed (inl goes) =
      let after = ap gos_left (go_leaves plan past line) in
      (record { cmd = refl; goes_on = goes.goes_on }, omega (arith, after, goes.fewer, left))
  by_deed (inr goes) = absurd (omega (arith, goes.none, left))

-- a `go` while none is left: go* ends with it
pub last : (plan : Plan) (past : List Event) (line : Line) → gos_left (ctx_at plan past line) ≡ 0 → ends_go (entry_after plan past line Go) ≡ true
last plan past line left = by_deed (line_goes plan past line) where
  by_deed : GoesFurther (ctx_at plan past line) (go_deed plan past line) ⊎ GoesNoFurther (ctx_at plan past line) (go_deed plan past line) → ends_go (entry_after plan past line Go) ≡ true
  by_deed (inl goes) = absurd (omega (arith, goes.fewer, left))
  by_deed (inr goes) = goes.ends

-- go* goes on with those that are left
pub gos_go_on : (plan : Plan) (n m : ℕ) (past : List Event) (line : Line) → gos_left (ctx_at plan past line) ≡ n + m →
    AllByRecursion GoesOn (gos_block plan n past line) × (gos_left (ctx_at plan (gos plan n past line) line) ≡ m)
gos_go_on plan zero m past line left = (tt, omega (arith, left))
gos_go_on plan (suc n) m past line left =
    let before = gos_go_on plan n (suc m) past line (omega (arith, left)) in
    let next = further plan (gos plan n past line) line m before.1 in
    ((next.0, before.0), next.1)

-- at most one is left
few_left : (c : Ctx) → gos_left c < 2
few_left ctx.Hv = omega arith
few_left (ctx.Uv work) = by_test (is_copied work) where
  by_test : (b : Bool) → cond b 0 1 < 2
  by_test true = omega arith
  by_test false = omega arith
few_left (ctx.Guest run) = omega arith

pub most_gos_is : (plan : Plan) (past : List Event) (line : Line) → with_gos plan (most_gos plan) past line ≡ gos plan (suc (gos_left (ctx_at plan past line))) past line
most_gos_is plan past line = with_gos_is plan (most_gos plan) (gos_left (ctx_at plan past line)) past line refl (let few = few_left (ctx_at plan past line) in omega (arith, few))

pub each_go_all_ends : EachGoAllEnds
each_go_all_ends plan past line legal =
    let n : ℕ = gos_left (ctx_at plan past line) in
    let on = gos_go_on plan n 0 past line (omega arith) in
    let few = few_left (ctx_at plan past line) in (
      gos_block plan n past line,
      entry_after plan (gos plan n past line) line Go,
      most_gos_is plan past line ∙ gos_is plan (suc n) past line,
      last plan (gos plan n past line) line on.1,
      on.0,
      rw (length-gos_block plan n past line) (omega (arith, few)),
    )
