use Rattle.pef_core.proofs.at_guest.without_pool.Goals as goal

pub returns-in-Guest : goal.returns-in-Guest
returns-in-Guest g c pool = c.gone.ensures pool c.args.cmd.now
