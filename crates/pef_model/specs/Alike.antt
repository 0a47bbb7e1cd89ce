-- Two runs that agree but on secrets.
use Rattle.std.specs.Prelude.{◌≡◌, ◌≢◌, ℕ, ◌==◌, Bool, true, false, List, [], ◌∷◌, length, IsTrue}
use Rattle.std.specs.List.{count_by, AllByRecursion}
use Rattle.pef_model.specs.declared.config.Config.{Config}
use Rattle.pef_model.specs.declared.config.EntropyWord.{EntropyWord}
use Rattle.pef_model.specs.declared.state.Phase.TheVariants.{Aborting}
use Rattle.pef_model.specs.Plan.{Plan, plan_of}
use Rattle.pef_model.specs.Event.{Event, first}
use Rattle.pef_model.specs.History.{guest_after, public_state, IsLegal}
use Rattle.pef_model.specs.SecretLaw.{open_cmd}
use Rattle.pef_model.specs.Target.{is_sealing, touches_guest}
use Rattle.pef_model.specs.Sound.{is_clean, sound}
use Rattle.pef_model.specs.View.{view}

-- how many entropy words a guest has
abbrev pub words_of_guest : Config → ℕ → ℕ
words_of_guest config lpid = count_by (λ (word : EntropyWord). word.lpid == lpid) config.entropy

-- two configurations agree but for the entropy words, which agree in number
pub record AgreeButWords (one other : Config) : Type 0 where
  pub same : record one { entropy = other.entropy } ≡ other
  pub words : (lpid : ℕ) → words_of_guest one lpid ≡ words_of_guest other lpid

-- two entries agree in line, CPU, place, command but for the value of a g.li, and what the guest lets out; stamps are not compared
pub record AreAlikeOpen (e f : Event) : Type 0 where
  pub line : e.trace.line ≡ f.trace.line
  pub cpu : e.trace.cpu ≡ f.trace.cpu
  pub place : e.trace.place ≡ f.trace.place
  pub cmd : open_cmd e.trace.cmd ≡ open_cmd f.trace.cmd
  pub shown : e.saw.shown ≡ f.saw.shown

-- histories of one length whose entries are alike but for sealed bytes
abbrev pub AllAlikeOpen : List Event → List Event → Type 0
AllAlikeOpen [] [] = Unit {0}
AllAlikeOpen (e ∷ past) (f ∷ history) = AreAlikeOpen e f × AllAlikeOpen past history
AllAlikeOpen [] (f ∷ history) = ⊥
AllAlikeOpen (e ∷ past) [] = ⊥

-- two runs agree but on secrets, and perhaps on sealed bytes
pub record IsAlikeOpen (one : Config) (past : List Event) (other : Config) (history : List Event) : Type 0 where
  pub configs : AgreeButWords one other
  pub entries : AllAlikeOpen past history

-- whether an entry begins a page-out
abbrev pub begins_sealing : Event → Bool
begins_sealing e = is_sealing e.saw.before e.trace.cmd e.trace.answer

-- no guest that an entry after a history touches is Aborting: the pages of one that is are public
abbrev pub TouchesNoAborting : Plan → List Event → Event → Type 0
TouchesNoAborting plan past e = (lpid : ℕ) → touches_guest plan lpid e ≡ true → (guest_after plan lpid past).part.phase ≢ Aborting

-- the bytes of each begin of a page-out that seals what is private agree
abbrev pub SealedBytesAgree : Plan → List Event → List Event → Type 0
SealedBytesAgree plan (e ∷ past) (f ∷ history) = (begins_sealing e ≡ true → TouchesNoAborting plan past e → e.bytes ≡ f.bytes) × SealedBytesAgree plan past history
SealedBytesAgree plan past history = Unit {0}

-- two runs agree but on secrets
pub record IsAlike (one : Config) (past : List Event) (other : Config) (history : List Event) : Type 0 where
  pub open_ : IsAlikeOpen one past other history
  pub sealed : SealedBytesAgree (plan_of one) past history

-- both runs show the hypervisor the same so far
pub record ShowTheSame (plan other_plan : Plan) (past history : List Event) : Type 0 where
  pub state : public_state plan past ≡ public_state other_plan history
  pub seen : view plan past ≡ view other_plan history

-- the view law: two legal histories that are alike show the same at every prefix
abbrev pub AlikeShowTheSame : Type 0
AlikeShowTheSame =
    (one other : Config) (past history : List Event) (k : ℕ) → IsAlike one past other history → IsLegal (plan_of one) past → IsLegal (plan_of other) history →
    ShowTheSame (plan_of one) (plan_of other) (first k past) (first k history)

-- a vault's sealed pages tell nothing of what they hold: there legal histories that are alike but for sealed bytes are alike
abbrev pub OpenIsAlike : Type 0
OpenIsAlike =
    (one other : Config) (past history : List Event) → IsTrue one.vault → IsLegal (plan_of one) past → IsLegal (plan_of other) history →
    IsAlikeOpen one past other history → IsAlike one past other history

-- and so are histories in which no page-out begins, whatever the seal
abbrev pub UnsealedIsAlike : Type 0
UnsealedIsAlike =
    (one other : Config) (past history : List Event) → AllByRecursion (λ (e : Event). begins_sealing e ≡ false) past →
    IsAlikeOpen one past other history → IsAlike one past other history

-- two histories have clashes at the same entries, and sound parts of one length
pub record ClashTogether (plan other_plan : Plan) (past history : List Event) : Type 0 where
  pub clean : is_clean plan past ≡ is_clean other_plan history
  pub sound_parts : length (sound plan past) ≡ length (sound other_plan history)

-- legal histories that are alike do
abbrev pub AlikeClashTogether : Type 0
AlikeClashTogether =
    (one other : Config) (past history : List Event) → IsAlike one past other history → IsLegal (plan_of one) past → IsLegal (plan_of other) history →
    ClashTogether (plan_of one) (plan_of other) past history
