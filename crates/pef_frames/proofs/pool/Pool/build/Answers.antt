use Rattle.std.proofs.Common.{rules, arith, ◌≡◌, ℕ, suc, ◌+◌, ◌-◌, ◌<◌, ◌≤◌, List, [], ◌∷◌, ◌++◌, ap, sym, ◌∙◌, reverse}
use Rattle.std.specs.List.{range_with_len}
use Rattle.std.proofs.lemmas.Grind.{common_steps}
use Rattle.std.proofs.lemmas.List.{reverse-append}
use Rattle.pef_frames.specs.Frame.{FrameState, numbers_of}
use Rattle.pef_frames.proofs.pool.Pool.build.Goals as goal

-- one number more in front
range-down : (number count : ℕ) → 0 < number → number ≤ count → (number - 1) ∷ range_with_len number (count - number) ≡ range_with_len (number - 1) (count - (number - 1))
range-down number count positive below =
    let next : number - 1 + 1 ≡ number = omega arith in
    let more : count - (number - 1) ≡ suc (count - number) = omega arith in
    sym (ap (λ (n : ℕ). range_with_len (number - 1) n) more ∙ ap (λ (n : ℕ). (number - 1) ∷ range_with_len n (count - number)) next)

-- the frame that is put last is the first that is free
numbers_of-push : (frames : List FrameState) (frame : FrameState) → numbers_of (reverse (frames ++ frame ∷ [])) ≡ frame.number ∷ numbers_of (reverse frames)
numbers_of-push frames frame = ap numbers_of (reverse-append frames (frame ∷ []))

-- the frame that goes in is all zero, and its number is the one before those that are in
pub loop-number-preserved : goal.loop-number-preserved
loop-number-preserved c = record {
  below = search rules;
  each = grind (arith, common_steps);
  numbers =
      rw (c.in_ok-push.ensures.items, c.in_ok-build.ensures) (
      numbers_of-push c.loop-number.frames.items _
      ∙ ap (λ (xs : List ℕ). (c.loop-number.number - 1) ∷ xs) c.loop-number.invariant.numbers
      ∙ range-down c.loop-number.number c.args.count c.loop-number-test.true c.loop-number.invariant.below
      );
  few = search rules;
  room = search rules;
}
