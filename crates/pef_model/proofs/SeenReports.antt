-- The lines of a report that the hypervisor sees are told by the view and the public state.
use Rattle.std.proofs.Common.{◌≡◌, ℕ, ◌-◌, List, [], ◌∷◌, map, length, drop, Bool, true, false, cond, ◌++◌, refl, ap, sym, ◌∙◌, Option, Some, None, is_some, ◌||◌}
use Rattle.std.specs.List.{filter}
use Rattle.std.proofs.Math.Nat.{sub_self}
use Rattle.pef_model.specs.declared.state.Ctx.{Ctx}
use Rattle.pef_model.specs.declared.state.Ctx.TheVariants as ctx
use Rattle.pef_model.specs.Plan.{Plan, plan_of}
use Rattle.pef_model.specs.Event.{Event, first}
use Rattle.pef_model.specs.History.{PublicState, public_state}
use Rattle.pef_model.specs.Report.{answer_text, entry_line, frames_below, free_text}
use Rattle.pef_model.specs.View.{SeenStep, Sight, if_hypervisor, is_seen, sight, view}
use Rattle.pef_model.specs.Memory.{either_of}
use Rattle.pef_model.specs.Target.{is_hypervisor}
use Rattle.pef_model.specs.Alike.{ShowTheSame}
use Rattle.pef_model.specs.SeenReport.{AlikeReportTheSame}
use Rattle.pef_model.proofs.Views.{alike_show_the_same, length_alike, one_plan}
use Rattle.std.specs.Prelude.{codes, decimal}

-- the line of a step
abbrev step_line : SeenStep → List ℕ
step_line s = decimal s.line ++ (codes " " ++ (decimal s.cpu ++ (codes " " ++ (s.command ++ (codes " " ++ (answer_text s.answer ++ codes "\n"))))))

-- the line of what an entry shows before others
abbrev before_seen : Option SeenStep → List (List ℕ) → List (List ℕ)
before_seen None lines = lines
before_seen (Some s) lines = step_line s ∷ lines

-- the lines of the steps of a view
abbrev lines_of_view : List Sight → List (List ℕ)
lines_of_view [] = []
lines_of_view (s ∷ more) = before_seen s.step (lines_of_view more)

-- whether a step is shown
abbrev shown_places : List Sight → List Bool
shown_places sights = map (λ (s : Sight). is_some s.step) sights

seen_is_shown : (before after : Ctx) (s : SeenStep) → is_hypervisor before || is_hypervisor after ≡ is_some (either_of (if_hypervisor before s) (if_hypervisor after s))
seen_is_shown ctx.Hv after s = refl
seen_is_shown (ctx.Uv work) ctx.Hv s = refl
seen_is_shown (ctx.Uv work) (ctx.Uv other) s = refl
seen_is_shown (ctx.Uv work) (ctx.Guest run) s = refl
seen_is_shown (ctx.Guest run) ctx.Hv s = refl
seen_is_shown (ctx.Guest run) (ctx.Uv work) s = refl
seen_is_shown (ctx.Guest run) (ctx.Guest other) s = refl

places_shown : (plan : Plan) (past : List Event) → map is_seen past ≡ shown_places (view plan past)
places_shown plan [] = refl
places_shown plan (e ∷ past) =
    ap (λ (b : Bool). b ∷ map is_seen past) (seen_is_shown e.saw.before e.saw.after _)
    ∙ ap (λ (bs : List Bool). is_some (sight plan past e).step ∷ bs) (places_shown plan past)

line_shown : (before after : Ctx) (s : SeenStep) (lines : List (List ℕ)) →
    cond (is_hypervisor before || is_hypervisor after) (step_line s ∷ lines) lines ≡ before_seen (either_of (if_hypervisor before s) (if_hypervisor after s)) lines
line_shown ctx.Hv after s lines = refl
line_shown (ctx.Uv work) ctx.Hv s lines = refl
line_shown (ctx.Uv work) (ctx.Uv other) s lines = refl
line_shown (ctx.Uv work) (ctx.Guest run) s lines = refl
line_shown (ctx.Guest run) ctx.Hv s lines = refl
line_shown (ctx.Guest run) (ctx.Uv work) s lines = refl
line_shown (ctx.Guest run) (ctx.Guest other) s lines = refl

map_cond : (b : Bool) (e : Event) (past : List Event) → map entry_line (cond b (e ∷ past) past) ≡ cond b (entry_line e ∷ map entry_line past) (map entry_line past)
map_cond true e past = refl
map_cond false e past = refl

lines_shown : (plan : Plan) (past : List Event) → map entry_line (filter is_seen past) ≡ lines_of_view (view plan past)
lines_shown plan [] = refl
lines_shown plan (e ∷ past) =
    map_cond (is_seen e) e (filter is_seen past)
    ∙ ap (λ (lines : List (List ℕ)). cond (is_seen e) (entry_line e ∷ lines) lines) (lines_shown plan past)
    ∙ line_shown e.saw.before e.saw.after _ (lines_of_view (view plan past))

pub alike_report_the_same : AlikeReportTheSame
alike_report_the_same one other past history alike legal legal_too =
    let whole : first (length past) past ≡ past = ap (λ (n : ℕ). drop n past) (sub_self (length past)) in
    let lengths : length past ≡ length history = length_alike past history alike.open_.entries in
    let whole_too : first (length past) history ≡ history = ap (λ (n : ℕ). drop (length history - n) history) lengths ∙ ap (λ (n : ℕ). drop n history) (sub_self (length history)) in
    let same : ShowTheSame (plan_of one) (plan_of other) (first (length past) past) (first (length past) history) =
    alike_show_the_same one other past history (length past) alike legal legal_too in
    let seen : view (plan_of one) past ≡ view (plan_of other) history =
    ap (view (plan_of one)) (sym whole) ∙ same.seen ∙ ap (view (plan_of other)) whole_too in
    let state : public_state (plan_of one) past ≡ public_state (plan_of other) history =
    ap (public_state (plan_of one)) (sym whole) ∙ same.state ∙ ap (public_state (plan_of other)) whole_too in
    record {
      places = places_shown (plan_of one) past ∙ ap shown_places seen ∙ sym (places_shown (plan_of other) history);
      lines = lines_shown (plan_of one) past ∙ ap lines_of_view seen ∙ sym (lines_shown (plan_of other) history);
      rest = ap (λ (s : PublicState). frames_below one.normal s.frames ++ free_text s.pool) state
          ∙ ap (λ (p : Plan). frames_below p.normal (public_state (plan_of other) history).frames ++ free_text (public_state (plan_of other) history).pool)
          (one_plan one other alike.open_.configs);
    }
