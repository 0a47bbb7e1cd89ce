use Rattle.pef_top.proofs.FaultLines.{text_one, text_two, text_three, text_four, text_five, text_six}
use Rattle.pef_top.proofs.fault_line.put_fault.Goals as goal

pub returns-in-1-clause-all : goal.returns-in-1-clause-all
returns-in-1-clause-all g c = rw (text_one c.args.outcome c.in-1.is) c.put_script_fault.ensures.all

pub returns-in-1-clause-prefix : goal.returns-in-1-clause-prefix
returns-in-1-clause-prefix g c = rw (text_one c.args.outcome c.in-1.is) c.put_script_fault.ensures.prefix

pub returns-in-2-clause-all : goal.returns-in-2-clause-all
returns-in-2-clause-all g c = rw (text_two c.args.outcome c.in-2.is) c.put.ensures.all

pub returns-in-2-clause-prefix : goal.returns-in-2-clause-prefix
returns-in-2-clause-prefix g c = rw (text_two c.args.outcome c.in-2.is) c.put.ensures.prefix

pub returns-in-3-clause-all : goal.returns-in-3-clause-all
returns-in-3-clause-all g c = rw (text_three c.args.outcome c.in-3.is) c.put-in-3.ensures.all

pub returns-in-3-clause-prefix : goal.returns-in-3-clause-prefix
returns-in-3-clause-prefix g c = rw (text_three c.args.outcome c.in-3.is) c.put-in-3.ensures.prefix

pub returns-in-4-clause-all : goal.returns-in-4-clause-all
returns-in-4-clause-all g c = rw (text_four c.args.outcome c.in-4.is) c.put-in-4.ensures.all

pub returns-in-4-clause-prefix : goal.returns-in-4-clause-prefix
returns-in-4-clause-prefix g c = rw (text_four c.args.outcome c.in-4.is) c.put-in-4.ensures.prefix

pub returns-in-5-clause-all : goal.returns-in-5-clause-all
returns-in-5-clause-all g c = rw (text_five c.args.outcome c.in-5.is) c.put-in-5.ensures.all

pub returns-in-5-clause-prefix : goal.returns-in-5-clause-prefix
returns-in-5-clause-prefix g c = rw (text_five c.args.outcome c.in-5.is) c.put-in-5.ensures.prefix

pub returns-in-6-clause-all : goal.returns-in-6-clause-all
returns-in-6-clause-all g c = rw (text_six c.args.outcome c.in-6.is) c.put_limit.ensures.all

pub returns-in-6-clause-prefix : goal.returns-in-6-clause-prefix
returns-in-6-clause-prefix g c = rw (text_six c.args.outcome c.in-6.is) c.put_limit.ensures.prefix
