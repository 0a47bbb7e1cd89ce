use Rattle.std.proofs.Common.{rules, ◌≡◌, ◌^◌}
use Rattle.pef_frames.specs.Pool.{full_pool}
use Rattle.pef_core.specs.Normal.{zero_frames}
use Rattle.pef_core.specs.Start.{AreStartCpus, AreStartGuests}
use Rattle.pef_core.proofs.Begun.{whole_begun, fits_begun, once_at_start}
use Rattle.pef_core.proofs.machine.Machine.build.Goals as goal

-- each part is as it begins
pub invariant_of-result : goal.invariant_of-result
invariant_of-result g c =
    let cpus : AreStartCpus c.args.config.now c.in_ok-cpus.cpus.items = search rules in
    let guests : AreStartGuests g.S.Seal.image g.S.Seal.takes c.args.config.now c.in_ok-guests.guests.items = search rules in
    let pool : c.in_ok-pool.pool ≡ full_pool c.args.config.now.secure (2 ^ c.args.config.now.shift) = search rules in
    let normal : c.in_ok-normal.normal ≡ zero_frames c.args.config.now.shift c.args.config.now.normal = search rules in
    whole_begun g.S.Seal.stands g.S.Seal.image g.S.Seal.takes c.args.config.now c.requires.range c.in_ok-cpus.cpus.items c.in_ok-guests.guests.items c.in_ok-pool.pool c.in_ok-normal.normal cpus guests pool normal

pub returns-clause-fits : goal.returns-clause-fits
returns-clause-fits g c =
    let cpus : AreStartCpus c.args.config.now c.in_ok-cpus.cpus.items = search rules in
    let guests : AreStartGuests g.S.Seal.image g.S.Seal.takes c.args.config.now c.in_ok-guests.guests.items = search rules in
    let pool : c.in_ok-pool.pool ≡ full_pool c.args.config.now.secure (2 ^ c.args.config.now.shift) = search rules in
    let normal : c.in_ok-normal.normal ≡ zero_frames c.args.config.now.shift c.args.config.now.normal = search rules in
    fits_begun g.S.Seal.stands g.S.Seal.image g.S.Seal.takes c.args.config.now c.requires.range c.in_ok-cpus.cpus.items c.in_ok-guests.guests.items c.in_ok-pool.pool c.in_ok-normal.normal cpus guests pool normal

pub returns-clause-frames_once : goal.returns-clause-frames_once
returns-clause-frames_once g c =
    let cpus : AreStartCpus c.args.config.now c.in_ok-cpus.cpus.items = search rules in
    let guests : AreStartGuests g.S.Seal.image g.S.Seal.takes c.args.config.now c.in_ok-guests.guests.items = search rules in
    let pool : c.in_ok-pool.pool ≡ full_pool c.args.config.now.secure (2 ^ c.args.config.now.shift) = search rules in
    let normal : c.in_ok-normal.normal ≡ zero_frames c.args.config.now.shift c.args.config.now.normal = search rules in
    once_at_start g.S.Seal.stands g.S.Seal.image g.S.Seal.takes c.args.config.now c.requires.range c.in_ok-cpus.cpus.items c.in_ok-guests.guests.items c.in_ok-pool.pool c.in_ok-normal.normal cpus guests pool normal
