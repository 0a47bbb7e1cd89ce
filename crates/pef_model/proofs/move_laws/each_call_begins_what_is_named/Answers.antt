use Rattle.pef_model.proofs.BegunCalls.{each_call_begins_what_is_named}
use Rattle.pef_model.proofs.move_laws.each_call_begins_what_is_named.Goals as goal

pub returns : goal.returns
returns c = each_call_begins_what_is_named
