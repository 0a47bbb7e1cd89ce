use Rattle.std.proofs.Common.{Some, None, sym}
use Rattle.pef_move.proofs.Asking.{asked}
use Rattle.pef_move.proofs.asks.asks_for_frame.Goals as goal

pub returns-in-Ok-clause-model : goal.returns-in-Ok-clause-model
returns-in-Ok-clause-model g c plan guest any ask shows = asked g.S.Seal.stands g.S.Seal.image plan c.args.guest.now guest c.args.call.now shows any ask None (sym (rw c.in-Ok.is at c.route_in.ensures.code plan guest.part))

pub returns-in-Err-clause-model : goal.returns-in-Err-clause-model
returns-in-Err-clause-model g c plan guest any ask shows =
    asked g.S.Seal.stands g.S.Seal.image plan c.args.guest.now guest c.args.call.now shows any ask (Some c.in-Err._code) (sym (rw c.in-Err.is at c.route_in.ensures.code plan guest.part))
