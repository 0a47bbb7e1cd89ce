use Rattle.std.proofs.Common.{◌==◌, not, rules, tests, ℕ}
use Rattle.std.proofs.lemmas.Fn.{filter_same}
use Rattle.pef_pages.proofs.order.leave.Goals as goal

-- each call of the closure tests the number, and leaves the closure as it was
pub returns-clause-order : goal.returns-clause-order
returns-clause-order c = filter_same _ (λ (n : ℕ). not (n == c.args.gfn)) _ (λ x b f k. search (rules, tests)) _ _ c.retain.ensures.filtered
