use Rattle.std.proofs.Common.{◌∙◌, ap}
use Rattle.pef_script.specs.declared.line.ReadLine.TheInside.{Inside}
use Rattle.pef_script.specs.Line.{ReadLine, right_directive}
use Rattle.pef_script.proofs.line.ReadLine.right_directive.Goals as goal

-- what the fields hold is what is seen of them
pub returns : goal.returns
returns c =
    c.right_directive.ensures
    ∙ ap (λ (l : Inside). right_directive l.right l.line.directive) c.self-inside.view_is
    ∙ ap (λ (l : ReadLine). right_directive l.right l.line.directive) c.self.view_is
