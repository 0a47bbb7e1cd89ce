use Rattle.std.proofs.Common.{◌≡◌, ℕ, ◌<◌, List, [], length, Some, ap, sym, subst, ◌∙◌}
use Rattle.std.specs.Prelude.{slice_set}
use Rattle.std.proofs.lemmas.List.{get_or_default, get_or-set_same}
use Rattle.pef_guest.specs.Does.{DoesLent}
use Rattle.pef_core.specs.Normal.{NormalState, frame_at}
use Rattle.pef_core.specs.Lent.{LeavesIn}
use Rattle.pef_core.proofs.LentFrames.{frames_put}
use Rattle.pef_core.proofs.normal.Normal.lend.Goals as goal

pub invariant_of-self : goal.invariant_of-self
invariant_of-self g c =
    let below = subst (λ (x : NormalState). c.args.number < length x.frames) (sym c.self.view_is) c.requires.number in
    let was : c.index_mut.result.now ≡ frame_at c.self.inside.frames.items c.args.number = c.index_mut.ensures.value ∙ get_or_default c.self.inside.frames.items c.args.number c.index_mut.result.now [] below in
    frames_put (record { shift = c.self.inside.shift; frames = c.self.inside.frames.items }) c.args.number c.with_frame.new.frame c.self.invariant below (c.with_frame.ensures.left.size ∙ ap length was)

-- the frame that is lent is the one of the number
pub returns-clause-does : goal.returns-clause-does
returns-clause-does g c pool =
    let below = subst (λ (x : NormalState). c.args.number < length x.frames) (sym c.self.view_is) c.requires.number in
    let was : c.index_mut.result.now ≡ frame_at c.args.self.now.frames c.args.number =
    c.index_mut.ensures.value ∙ get_or_default c.self.inside.frames.items c.args.number c.index_mut.result.now [] below ∙ ap (λ (x : NormalState). frame_at x.frames c.args.number) c.self.view_is in
    subst (λ (bytes : List ℕ). DoesLent g.S.Seal.takes g.S.Seal.stands g.S.Seal.image c.args.cmd.now c.args.guest.now c.with_frame.new.guest c.args.cpu.now c.args.cpu.now pool pool (Some (record { number = c.args.number; bytes = bytes }))
    (frame_at (slice_set c.self.inside.frames.items c.args.number c.with_frame.new.frame) c.args.number) c.with_frame.result) was
    (subst (λ (left : List ℕ). DoesLent g.S.Seal.takes g.S.Seal.stands g.S.Seal.image c.args.cmd.now c.args.guest.now c.with_frame.new.guest c.args.cpu.now c.args.cpu.now pool pool (Some (record { number = c.args.number; bytes = c.index_mut.result.now })) left c.with_frame.result)
    (sym (get_or-set_same c.self.inside.frames.items c.args.number c.with_frame.new.frame [] below)) (c.with_frame.ensures.does pool))

pub returns-clause-left : goal.returns-clause-left
returns-clause-left g c =
    let below = subst (λ (x : NormalState). c.args.number < length x.frames) (sym c.self.view_is) c.requires.number in
    let was : c.index_mut.result.now ≡ frame_at c.args.self.now.frames c.args.number =
    c.index_mut.ensures.value ∙ get_or_default c.self.inside.frames.items c.args.number c.index_mut.result.now [] below ∙ ap (λ (x : NormalState). frame_at x.frames c.args.number) c.self.view_is in
    subst (λ (bytes : List ℕ). LeavesIn c.args.guest.now c.args.cpu.now c.args.cmd.now c.with_frame.result (record { number = c.args.number; bytes = bytes })
    (frame_at (slice_set c.self.inside.frames.items c.args.number c.with_frame.new.frame) c.args.number)) was
    (subst (LeavesIn c.args.guest.now c.args.cpu.now c.args.cmd.now c.with_frame.result (record { number = c.args.number; bytes = c.index_mut.result.now }))
    (sym (get_or-set_same c.self.inside.frames.items c.args.number c.with_frame.new.frame [] below)) c.with_frame.ensures.left)
