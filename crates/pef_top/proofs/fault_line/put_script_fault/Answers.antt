use Rattle.std.proofs.Common.{◌≡◌, decimal, ◌∙◌}
use Rattle.pef_top.proofs.fault_line.put_script_fault.Goals as goal

-- the digits that were put are those of the line
pub returns-clause-all : goal.returns-clause-all
returns-clause-all g c =
    let line : c.as_bytes.result.now ≡ decimal c.args.line = c.as_bytes.ensures.value ∙ c.format.ensures.text in
    rw (← line) c.put_all.ensures.all

pub returns-clause-prefix : goal.returns-clause-prefix
returns-clause-prefix g c =
    let line : c.as_bytes.result.now ≡ decimal c.args.line = c.as_bytes.ensures.value ∙ c.format.ensures.text in
    rw (← line) c.put_all.ensures.prefix
