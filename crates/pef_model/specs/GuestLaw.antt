-- Laws of what a guest keeps over a history: zeros where a page is Invalid, its entropy words, and whether it met a collision.
use Rattle.std.specs.Prelude.{◌≡◌, ◌↔◌, ℕ, true, List, length}
use Rattle.std.specs.List.{filter}
use Rattle.pef_model.specs.declared.config.Config.{Config}
use Rattle.pef_model.specs.declared.state.Kind.TheVariants as kind
use Rattle.pef_model.specs.Plan.{Plan, plan_of}
use Rattle.pef_model.specs.Event.{Event}
use Rattle.pef_model.specs.Target.{touches_guest}
use Rattle.pef_model.specs.GuestPart.{page_of}
use Rattle.pef_model.specs.History.{guest_after, last_store, IsLegal, part_after, page_after}
use Rattle.pef_model.specs.Sound.{is_clean}

-- a page that is Invalid holds 0 at each of its addresses
abbrev pub InvalidPageIsZero : Type 0
InvalidPageIsZero =
    (plan : Plan) (past : List Event) (lpid gpa : ℕ) → IsLegal plan past → (page_after plan past lpid (page_of plan gpa)).kind ≡ kind.Invalid → last_store plan past lpid gpa ≡ 0

-- the number of a guest's entropy words is public
pub record CountsWords (lpid : ℕ) : Type 0 where
  -- a configuration's plan has it
  pub start : (config : Config) → length ((plan_of config).entropy lpid) ≡ (plan_of config).words lpid
  -- and where a plan has it, it is that of the words that are left after each history
  pub left : (plan : Plan) (past : List Event) → length (plan.entropy lpid) ≡ plan.words lpid → (part_after plan past lpid).words ≡ length (guest_after plan lpid past).words

abbrev pub WordsAreCounted : Type 0
WordsAreCounted = (lpid : ℕ) → CountsWords lpid

-- whether a history has a clash is each guest's own
pub record IsCleanByGuests (plan : Plan) (past : List Event) : Type 0 where
  -- it has none exactly where no guest has met one
  pub whole : (is_clean plan past ≡ true) ↔ ((lpid : ℕ) → (guest_after plan lpid past).clean ≡ true)
  -- a guest has met one exactly where the entries that touch it have one
  pub own : (lpid : ℕ) → (guest_after plan lpid past).clean ≡ is_clean plan (filter (touches_guest plan lpid) past)

abbrev pub CleanIsEachGuests : Type 0
CleanIsEachGuests = (plan : Plan) (past : List Event) → IsCleanByGuests plan past
