-- Each secure frame is free or a page's.
use Rattle.std.proofs.Common.{◌≡◌, ◌≢◌, ℕ, zero, suc, ◌+◌, ◌<◌, List, [], ◌∷◌, Bool, true, false, refl, ap, sym, subst, ◌∙◌, ◌||◌, Option, Some, None, is_some, if◌then◌else◌, inl, inr, arith, ◌-◌}
use Rattle.std.proofs.lemmas.Bool.{cases_eq}
use Rattle.std.proofs.lemmas.Bool.{or_right}
use Rattle.pef_model.specs.declared.state.Kind.{Kind}
use Rattle.pef_model.specs.declared.state.Kind.TheVariants as kind
use Rattle.pef_model.specs.declared.state.Mover.{Mover}
use Rattle.pef_model.specs.Plan.{Plan}
use Rattle.pef_model.specs.Event.{Event}
use Rattle.pef_model.specs.GuestPart.{Page, GuestPart, is_secure, put, secured, begun_out, begun_in, ended_out, refused_in, unmapped, has_secure_frame, sum_below}
use Rattle.pef_model.specs.History.{cpu_after, pool_after, IsLegal}
use Rattle.pef_model.specs.CountLaw.{frames_held, FramesAreCounted}
use Rattle.pef_model.proofs.Puts.{put-here, put-other, put_in, here_or_elsewhere, put_in-elsewhere}
use Rattle.pef_model.proofs.Orders.{invalid_not_secure, out_not_secure, unmapped_secure}
use Rattle.pef_model.proofs.Changes.{Change, Quiet, Begins, Copies, Ends, Drops, Comes, Reads, Accepts, Refuses, Takes, Parked, Gone, Backs, Writes, Slots, Unmaps, Selected}
use Rattle.pef_model.proofs.ChangeOf.{change}
use Rattle.pef_model.proofs.Fields.{field_after, same_field, kept_field, entry_field}
use Rattle.pef_model.specs.Target.{vcpu_in}
use Rattle.pef_model.proofs.Works.{inward, outward}
use Rattle.pef_model.proofs.Paging.{pages, AllMoved, all_moved}
use Rattle.pef_model.proofs.Ranges.{IsNumbered, IsRanged, all_ranged}

-- the frames that a page has: one or none
abbrev held : Page → ℕ
held page = if has_secure_frame page then 1 else 0

-- a Secure page has a frame
secure_has : (page : Page) → page.kind ≡ kind.Secure → has_secure_frame page ≡ true
secure_has page h = ap (λ (k : Kind). is_secure (record page { kind = k }) || is_some page.mover) h

-- and so has one that moves
moving_has : (page : Page) (mover : Mover) → page.mover ≡ Some mover → has_secure_frame page ≡ true
moving_has page mover h = ap (λ (m : Option Mover). is_secure page || is_some m) h ∙ or_right (is_secure page) true refl

-- a page at rest that isn't Secure has none
rest_has : (page : Page) → is_secure page ≡ false → page.mover ≡ None → has_secure_frame page ≡ false
rest_has page h rests = ap (λ (b : Bool). b || is_some page.mover) h ∙ ap (λ (m : Option Mover). is_some m) rests

-- so many
held_by : (page : Page) (b : Bool) → has_secure_frame page ≡ b → held page ≡ (if b then 1 else 0)
held_by page b h = ap (λ (x : Bool). if x then 1 else 0) h

-- where two functions agree below a bound, their sums do
sum_same : (n : ℕ) (f g : ℕ → ℕ) → ((k : ℕ) → k < n → g k ≡ f k) → sum_below n g ≡ sum_below n f
sum_same zero f g same = refl
sum_same (suc n) f g same = let ih = sum_same n f g (λ k below. same k (omega arith)) in let last = same n (omega arith) in omega arith

-- where they agree but at one place, the sums differ by what they differ there
sum_change : (n : ℕ) (f g : ℕ → ℕ) (at : ℕ) → at < n → ((k : ℕ) → k ≢ at → g k ≡ f k) → sum_below n g + f at ≡ sum_below n f + g at
sum_change zero f g at below same = absurd (omega arith)
sum_change (suc n) f g at below same = elim (cases_eq n at) [
  | inl here ↦
      let rest : sum_below n g ≡ sum_below n f = sum_same n f g (λ k less. same k (λ is. omega arith)) in
      let one : f n ≡ f at = ap f here in
      let other : g n ≡ g at = ap g here in
      omega arith
  | inr elsewhere ↦
      let ih = sum_change n f g at (omega arith) same in
      let last = same n elsewhere in
      omega arith
]

-- where all are zero the sum is
sum_zeros : (n : ℕ) (f : ℕ → ℕ) → ((k : ℕ) → f k ≡ 0) → sum_below n f ≡ 0
sum_zeros zero f zeros = refl
sum_zeros (suc n) f zeros = let ih = sum_zeros n f zeros in let last = zeros n in omega arith

-- a page that has a frame is one of the plan's, of a guest of the machine
abbrev ArePlaced : Plan → List Event → Type 0
ArePlaced plan past = (lpid gfn : ℕ) → has_secure_frame (pages plan past lpid gfn) ≡ true → (gfn < plan.pages) × IsNumbered plan lpid

-- what an entry does with the frames: nothing, or it makes one page of a guest another, and takes and gives what the page has more or less
data FrameStep (plan : Plan) (past : List Event) (e : Event) : Type 0 where
  Stays : pages plan past ≡ pages plan (e ∷ past) → pool_after plan (e ∷ past) ≡ pool_after plan past → FrameStep plan past e
  Puts : (l g : ℕ) (new : Page) → IsNumbered plan l → g < plan.pages → put_in (pages plan past) l g new ≡ pages plan (e ∷ past) →
      pool_after plan (e ∷ past) + held new ≡ pool_after plan past + held (pages plan past l g) → FrameStep plan past e

-- the frames that the pages of all guests have
abbrev frames_of_all : Plan → List Event → ℕ
frames_of_all plan past = sum_below plan.guests (λ i. frames_held plan past (i + 1))

module _ (plan : Plan) (past : List Event) (e : Event) where
  -- the frames balance
  balances : FrameStep plan past e → pool_after plan (e ∷ past) + frames_of_all plan (e ∷ past) ≡ pool_after plan past + frames_of_all plan past
  balances (Stays same pool) =
      let kept : frames_of_all plan (e ∷ past) ≡ frames_of_all plan past = ap (λ (f : ℕ → ℕ → Page). sum_below plan.guests (λ i. sum_below plan.pages (λ k. held (f (i + 1) k)))) (sym same) in
      omega arith
  balances (Puts l g new numbered below is pool) =
      let held_now : (k : ℕ) → frames_held plan (e ∷ past) k ≡ sum_below plan.pages (λ n. held (put_in (pages plan past) l g new k n)) =
      (λ k. ap (λ (f : ℕ → ℕ → Page). sum_below plan.pages (λ n. held (f k n))) (sym is)) in
      let here : frames_held plan (e ∷ past) l ≡ sum_below plan.pages (λ n. held (put (pages plan past l) g new n)) =
      held_now l ∙ ap (λ (f : ℕ → Page). sum_below plan.pages (λ n. held (f n))) (put-here (pages plan past) l (put (pages plan past l) g new)) in
      let own : sum_below plan.pages (λ n. held (put (pages plan past l) g new n)) + held (pages plan past l g) ≡ frames_held plan past l + held (put (pages plan past l) g new g) =
      sum_change plan.pages (λ n. held (pages plan past l n)) (λ n. held (put (pages plan past l) g new n)) g below (λ n other. ap held (put-other (pages plan past l) g new n other)) in
      let at_g : held (put (pages plan past l) g new g) ≡ held new = ap held (put-here (pages plan past l) g new) in
      let index : l - 1 + 1 ≡ l = let low = numbered.0 in omega arith in
      let others : (i : ℕ) → i ≢ l - 1 → frames_held plan (e ∷ past) (i + 1) ≡ frames_held plan past (i + 1) =
      (λ i other. held_now (i + 1) ∙ ap (λ (f : ℕ → Page). sum_below plan.pages (λ n. held (f n))) (put-other (pages plan past) l (put (pages plan past l) g new) (i + 1) (λ same. other (omega arith)))) in
      let total : frames_of_all plan (e ∷ past) + frames_held plan past (l - 1 + 1) ≡ frames_of_all plan past + frames_held plan (e ∷ past) (l - 1 + 1) =
      sum_change plan.guests (λ i. frames_held plan past (i + 1)) (λ i. frames_held plan (e ∷ past) (i + 1)) (l - 1) (let high = numbered.1 in let low = numbered.0 in omega arith) others in
      let old_is : frames_held plan past (l - 1 + 1) ≡ frames_held plan past l = ap (frames_held plan past) index in
      let new_is : frames_held plan (e ∷ past) (l - 1 + 1) ≡ frames_held plan (e ∷ past) l = ap (frames_held plan (e ∷ past)) index in
      omega arith

  -- and each page that has one is one of the plan's
  placed_after : FrameStep plan past e → ArePlaced plan past → ArePlaced plan (e ∷ past)
  placed_after (Stays same pool) placed lpid gfn has = placed lpid gfn (ap (λ (f : ℕ → ℕ → Page). has_secure_frame (f lpid gfn)) same ∙ has)
  placed_after (Puts l g new numbered below is pool) placed lpid gfn has = elim (here_or_elsewhere l g lpid gfn) [
    | inl (p, q) ↦ (subst (λ (x : ℕ). x < plan.pages) (sym q) below, subst (IsNumbered plan) (sym p) numbered)
    | inr elsewhere ↦ placed lpid gfn (ap has_secure_frame (sym (put_in-elsewhere (pages plan past) l g new lpid gfn elsewhere)) ∙ ap (λ (f : ℕ → ℕ → Page). has_secure_frame (f lpid gfn)) is ∙ has)
  ]

  -- each change is such a step
  frame_step : AllMoved plan past → ((n : ℕ) → IsRanged plan (cpu_after plan n past)) → ArePlaced plan past → Change plan past (cpu_after plan e.trace.cpu past) e → FrameStep plan past e
  frame_step all ranged placed (Quiet x) = Stays (kept_field plan past e (λ (g : GuestPart). g.pages) x.parts) x.pool
  frame_step all ranged placed (Begins x) =
      let old : Page = pages plan past x.move.lpid x.move.gfn in
      let new : Page = begun_out old e.trace.cpu e.bytes in
      let before : held old ≡ 1 = held_by old true (secure_has old x.kind_is) in
      let after : held new ≡ 1 = held_by new true (secure_has new x.kind_is) in
      let pool = x.pool in
      let there = placed x.move.lpid x.move.gfn (secure_has old x.kind_is) in
      Puts x.move.lpid x.move.gfn new there.1 there.0
      (field_after plan past e (λ (g : GuestPart). g.pages) _ _ x.parts) (omega arith)
  frame_step all ranged placed (Copies x) = Stays (kept_field plan past e (λ (g : GuestPart). g.pages) x.parts) x.pool
  frame_step all ranged placed (Ends x) =
      let old : Page = pages plan past x.move.lpid x.move.gfn in
      let moving = all.moves e.trace.cpu (outward x.move) x.before x.generation in
      let before : held old ≡ 1 = held_by old true (secure_has old moving.kind_is) in
      let after : held (ended_out old) ≡ 0 = refl in
      let pool = x.pool in
      let there = placed x.move.lpid x.move.gfn (secure_has old moving.kind_is) in
      Puts x.move.lpid x.move.gfn (ended_out old) there.1 there.0
      (field_after plan past e (λ (g : GuestPart). g.pages) _ _ x.parts) (omega arith)
  frame_step all ranged placed (Drops x) = Stays (kept_field plan past e (λ (g : GuestPart). g.pages) x.parts) x.pool
  frame_step all ranged placed (Comes x) =
      let old : Page = pages plan past x.move.lpid x.move.gfn in
      let new : Page = begun_in old e.trace.cpu in
      let before : held old ≡ 0 = held_by old false (rest_has old (out_not_secure old x.kind_is) x.at_rest) in
      let after : held new ≡ 1 = held_by new true (moving_has new _ refl) in
      let pool = x.pool in
      Puts x.move.lpid x.move.gfn new x.number x.placed
      (field_after plan past e (λ (g : GuestPart). g.pages) _ _ x.parts) (omega arith)
  frame_step all ranged placed (Reads x) = Stays (kept_field plan past e (λ (g : GuestPart). g.pages) x.parts) x.pool
  frame_step all ranged placed (Accepts x) =
      let old : Page = pages plan past x.move.lpid x.move.gfn in
      let moving = all.moves e.trace.cpu (inward x.move) x.before x.generation in
      let before : held old ≡ 1 = held_by old true (moving_has old _ moving.mover) in
      let after : held (secured old) ≡ 1 = refl in
      let pool = x.pool in
      let there = placed x.move.lpid x.move.gfn (moving_has old _ moving.mover) in
      Puts x.move.lpid x.move.gfn (secured old) there.1 there.0
      (field_after plan past e (λ (g : GuestPart). g.pages) _ _ x.parts) (omega arith)
  frame_step all ranged placed (Refuses x) =
      let old : Page = pages plan past x.move.lpid x.move.gfn in
      let new : Page = refused_in old in
      let moving = all.moves e.trace.cpu (inward x.move) x.before x.generation in
      let before : held old ≡ 1 = held_by old true (moving_has old _ moving.mover) in
      let after : held new ≡ 0 = held_by new false (rest_has new (out_not_secure new moving.kind_is) refl) in
      let pool = x.pool in
      let there = placed x.move.lpid x.move.gfn (moving_has old _ moving.mover) in
      Puts x.move.lpid x.move.gfn new there.1 there.0
      (field_after plan past e (λ (g : GuestPart). g.pages) _ _ x.parts) (omega arith)
  frame_step all ranged placed (Takes x) = Stays (same_field plan past e (λ (g : GuestPart). g.pages) _ _ x.parts refl) x.pool
  frame_step all ranged placed (Parked x) = Stays (same_field plan past e (λ (g : GuestPart). g.pages) _ _ x.parts refl) x.pool
  frame_step all ranged placed (Gone x) = Stays (kept_field plan past e (λ (g : GuestPart). g.pages) x.parts) x.pool
  frame_step all ranged placed (Backs x) =
      let old : Page = pages plan past x.run.lpid x.gfn in
      let before : held old ≡ 0 = held_by old false (rest_has old (invalid_not_secure old x.invalid) x.at_rest) in
      let after : held (secured old) ≡ 1 = refl in
      let pool = x.pool in
      let cpu = ranged e.trace.cpu in
      Puts x.run.lpid x.gfn (secured old) (cpu.runs x.run (ap vcpu_in x.before)) x.placed (field_after plan past e (λ (g : GuestPart). g.pages) _ _ x.parts) (omega arith)
  frame_step all ranged placed (Writes x) = Stays (entry_field plan past e (λ (g : GuestPart). g.pages) x.lpid x.base x.length_ x.parts refl refl) x.pool
  frame_step all ranged placed (Slots x) = Stays (same_field plan past e (λ (g : GuestPart). g.pages) _ _ x.parts refl) x.pool
  frame_step all ranged placed (Unmaps x) =
      let old : Page = pages plan past x.lpid x.gfn in
      let same : held (unmapped old) ≡ held old = ap (λ (b : Bool). if b || is_some old.mover then 1 else 0) (unmapped_secure old) in
      let pool = x.pool in
      Puts x.lpid x.gfn (unmapped old) x.number x.placed (field_after plan past e (λ (g : GuestPart). g.pages) _ _ x.parts) (omega arith)
  frame_step all ranged placed (Selected x) = Stays (kept_field plan past e (λ (g : GuestPart). g.pages) x.parts) x.pool

-- the frames are counted, and each page that has one is one of the plan's
record AreCounted (plan : Plan) (past : List Event) : Type 0 where
  all : pool_after plan past + frames_of_all plan past ≡ plan.secure
  placed : ArePlaced plan past

-- after a legal history
all_counted : (plan : Plan) (past : List Event) → 0 < plan.guests → IsLegal plan past → AreCounted plan past
all_counted plan [] some legal =
    let none : frames_of_all plan [] ≡ 0 = sum_zeros plan.guests (λ i. frames_held plan [] (i + 1)) (λ i. sum_zeros plan.pages (λ gfn. 0) (λ gfn. refl)) in
    record { all = omega arith; placed = λ lpid gfn has. cc }
all_counted plan (e ∷ past) some legal =
    let counted = all_counted plan past some legal.1 in
    let step = frame_step plan past e (all_moved plan past legal.1) (all_ranged plan past some legal.1) counted.placed (change plan past e legal.0) in
    record { all = balances plan past e step ∙ counted.all; placed = placed_after plan past e step counted.placed }

pub frames_are_counted : FramesAreCounted
frames_are_counted plan past some legal = let counted = all_counted plan past some legal in counted.all
