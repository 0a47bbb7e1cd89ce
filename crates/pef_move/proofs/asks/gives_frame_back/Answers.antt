use Rattle.std.proofs.Common.{refl}
use Rattle.pef_move.proofs.Asking.{given}
use Rattle.pef_move.proofs.asks.gives_frame_back.Goals as goal

pub returns-clause-model : goal.returns-clause-model
returns-clause-model g c plan guest ask shows = given g.S.Seal.stands g.S.Seal.image plan c.args.guest.now guest shows ask c.args.outward _ refl
