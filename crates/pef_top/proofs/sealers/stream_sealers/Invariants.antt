use Rattle.std.proofs.Common.{◌≡◌, ℕ, List, length}
use Rattle.pef_model.specs.Seal.{stream_image}
use Rattle.pef_seal.specs.PageSize.{IsPageSize}
use Rattle.pef_seal.specs.Serves.{Serves}
use Rattle.pef_core.specs.State.{Each}
use Rattle.pef_top.proofs.sealers.stream_sealers.Given as goal

-- there is a sealer for each guest so far, and each serves the configuration
abbrev pub invariant-loop-guest : goal.invariant-loop-guest
invariant-loop-guest l = (length l.sealers.items ≡ l._guest) × Each (λ i (key : List ℕ). Serves l.config (stream_image key) (λ gfn size. IsPageSize size)) l.sealers.items
