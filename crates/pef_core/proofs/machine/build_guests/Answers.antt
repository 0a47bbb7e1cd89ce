use Rattle.std.proofs.Common.{rules, arith, ◌≡◌, ◌+◌, ◌<◌, length, List, [], ◌∷◌, ◌++◌, sym, subst, ◌∙◌, ap}
use Rattle.pef_seal.specs.Serves.{Serves}
use Rattle.pef_guest.specs.declared.guest.Guest.{Guest}
use Rattle.pef_guest.specs.Start.{IsStartGuest}
use Rattle.pef_core.specs.State.{Each}
use Rattle.pef_core.specs.Start.{Begins}
use Rattle.pef_core.proofs.Lists.{each_push, each_first, each_rest}
use Rattle.pef_core.proofs.machine.build_guests.Goals as goal

-- the next sealer serves the configuration
pub build-requires-clause-serves : goal.build-requires-clause-serves
build-requires-clause-serves g c gfn below =
    let serves : Serves c.args.config.now (g.S.Seal.image c.in-Some.sealer) (g.S.Seal.takes c.in-Some.sealer) =
    each_first (λ s. Serves c.args.config.now (g.S.Seal.image s) (g.S.Seal.takes s)) c.loop-sealer.sealer-iterator.rest.items c.next.new.self.rest.items c.in-Some.sealer
    c.loop-sealer.invariant.1 c.in-Some.ensures.steps.0 in
    serves.pages gfn below

-- the guest that is added has the next number
pub loop-sealer-preserved : goal.loop-sealer-preserved
loop-sealer-preserved g c =
    let inv = c.loop-sealer.invariant in
    let step = c.in-Some.ensures.steps.0 in
    let guest = c.in_ok-build.field-0 in
    let items : c.push.new.self.items ≡ c.loop-sealer.guests.items ++ guest ∷ [] = search rules in
    let longer : length c.push.new.self.items ≡ length c.loop-sealer.guests.items + 1 = search rules in
    let shorter : length c.loop-sealer.sealer-iterator.rest.items ≡ length c.next.new.self.rest.items + 1 = ap length step ∙ omega arith in
    let count : length c.push.new.self.items + length c.next.new.self.rest.items ≡ c.args.config.now.guests = (let h = inv.0 in omega arith) in
    let few : c.args.config.now.guests < 17 = (let h = c.requires.range.guests.1 in omega arith) in
    let start : IsStartGuest c.args.config.now (length c.loop-sealer.guests.items + 1) c.in-Some.sealer guest = search rules in
    let serves : Serves c.args.config.now (g.S.Seal.image c.in-Some.sealer) (g.S.Seal.takes c.in-Some.sealer) =
    each_first (λ s. Serves c.args.config.now (g.S.Seal.image s) (g.S.Seal.takes s)) c.loop-sealer.sealer-iterator.rest.items c.next.new.self.rest.items c.in-Some.sealer inv.1 step in
    let begun : Begins g.S.Seal.image g.S.Seal.takes c.args.config.now (length c.loop-sealer.guests.items + 1) guest = record {
      start = subst (λ s. IsStartGuest c.args.config.now (length c.loop-sealer.guests.items + 1) s guest) (sym start.sealer_is) start;
      whole = search rules;
      images = ap g.S.Seal.image start.sealer_is ∙ serves.images;
    } in (
      count,
      each_rest (λ s. Serves c.args.config.now (g.S.Seal.image s) (g.S.Seal.takes s)) c.loop-sealer.sealer-iterator.rest.items c.next.new.self.rest.items c.in-Some.sealer inv.1 step,
      subst (λ (xs : List (Guest _)). Each (λ i x. Begins g.S.Seal.image g.S.Seal.takes c.args.config.now (i + 1) x) xs) (sym items)
          (each_push (λ i x. Begins g.S.Seal.image g.S.Seal.takes c.args.config.now (i + 1) x) c.loop-sealer.guests.items guest inv.2 begun),
    )
